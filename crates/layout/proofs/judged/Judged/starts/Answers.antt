use Rattle.std.proofs.Common.{arith}
use Rattle.std.proofs.lemmas.Grind.{common_steps}
use Rattle.layout.proofs.Good.{sets_few}
use Rattle.layout.proofs.Starts.{start_more}
use Rattle.layout.proofs.judged.Judged.starts.Goals as goal

pub loop-k-preserved : goal.loop-k-preserved
loop-k-preserved c = record { at = grind (arith, start_more); long = grind (arith, common_steps); before = λ s a b. grind (arith, common_steps, sets_few, c.loop-k.invariant.before s) }
