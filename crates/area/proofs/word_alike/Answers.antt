use Rattle.area.proofs.Laws.{alike_ones, alike_zeros}
use Rattle.area.proofs.word_alike.Goals as goal

pub returns-then-on : goal.returns-then-on
returns-then-on c = alike_ones _ _ _ _ _ _ (rw c.saturating_sub.ensures at c.if-saturating_sub-eq0.true) c.map_place.ensures.0 c.word-w.ensures c.if-on.true

pub returns-else-on : goal.returns-else-on
returns-else-on c = alike_zeros _ _ _ _ _ _ (rw c.saturating_sub.ensures at c.if-saturating_sub-eq0.true) c.map_place.ensures.0 c.word-w.ensures c.if-on.false
