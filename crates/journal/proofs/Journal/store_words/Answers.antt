use Rattle.std.proofs.Common.{refl}
use Rattle.journal.proofs.Laws.{stored_run}
use Rattle.journal.proofs.Journal.store_words.Goals as goal

pub returns-clause-back : goal.returns-clause-back
returns-clause-back c = stored_run _ _ _ _ _ c.keep.ensures refl refl refl refl c.lay.ensures
