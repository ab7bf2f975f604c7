use Rattle.std.proofs.Common.{rules, refl}
use Rattle.journal.proofs.Laws.{stored}
use Rattle.journal.proofs.Journal.store_at.Goals as goal

pub returns-clause-back : goal.returns-clause-back
returns-clause-back c = stored _ _ _ _ _ c.note.ensures _ _ c.word-old.ensures c.area.ensures (search rules) c.put_word.ensures refl refl refl refl
