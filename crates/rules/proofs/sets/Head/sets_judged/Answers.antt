use Rattle.root.specs.Plan.{filled_start}
use Rattle.rules.proofs.Steps.{steps}
use Rattle.rules.proofs.Counting.{counted_start}
use Rattle.rules.proofs.sets.Head.sets_judged.Goals as goal

pub loop-s-init : goal.loop-s-init
loop-s-init c = search (steps, counted_start, filled_start)
