use Rattle.std.proofs.Common.{refl}
use Rattle.journal.proofs.Laws.{noted_in}
use Rattle.journal.proofs.Journal.note.Goals as goal

pub returns-then-self : goal.returns-then-self
returns-then-self c = noted_in _ _ _ _ c.if-self.true refl refl refl refl refl
