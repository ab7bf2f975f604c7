use Rattle.std.proofs.Common.{◌≡◌}
use Rattle.spec.specs.Cursor.{live_down}
use Rattle.reads.proofs.live_down.Given as goal

abbrev pub invariant-loop-r : goal.invariant-loop-r
invariant-loop-r l = live_down l.s l.area l.from ≡ live_down l.s l.area l.r

abbrev pub decreases-loop-r : goal.decreases-loop-r
decreases-loop-r l = l.r
