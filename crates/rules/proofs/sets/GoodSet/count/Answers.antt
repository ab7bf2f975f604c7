use Rattle.std.proofs.Common.{arith}
use Rattle.rules.proofs.Paths.{counted_turn}
use Rattle.rules.proofs.sets.GoodSet.count.Goals as goal

pub returns-clause-counted_2 : goal.returns-clause-counted_2
returns-clause-counted_2 c =
    counted_turn _ _ _ _ c.path_master.ensures c.requires.p_value _ _ c.requires.counted (omega arith) (omega arith) (omega arith) (omega arith) (omega arith)
