use Rattle.std.proofs.Common.{◌≡◌}
use Rattle.spec.specs.Master.{unused_from}
use Rattle.find.proofs.unused_from.Given as goal

abbrev pub invariant-loop-left : goal.invariant-loop-left
invariant-loop-left l = unused_from l.s l.area l.n l.r ≡ unused_from l.s l.area l.left l.at

abbrev pub decreases-loop-left : goal.decreases-loop-left
decreases-loop-left l = l.left
