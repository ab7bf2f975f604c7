use Rattle.std.proofs.Common.{arith}
use Rattle.rules.proofs.sets.Set.items_good.Goals as goal

pub blank-requires-clause-n_in_bounds : goal.blank-requires-clause-n_in_bounds
blank-requires-clause-n_in_bounds c = omega (arith, c.description.ensures.places 20 (omega arith))
