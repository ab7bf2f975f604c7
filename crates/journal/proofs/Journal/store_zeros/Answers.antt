use Rattle.std.proofs.Common.{replicate, refl, arith}
use Rattle.std.proofs.lemmas.List.{length-replicate}
use Rattle.journal.proofs.Laws.{stored_part}
use Rattle.journal.proofs.Journal.store_zeros.Goals as goal

pub returns-clause-back : goal.returns-clause-back
returns-clause-back c =
    stored_part _ _ _ _ _ (replicate c.args.len 0) c.keep.ensures refl refl refl refl c.lay_zeros.ensures (grind (arith, length-replicate))
