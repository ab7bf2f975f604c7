use Rattle.std.proofs.Common.{◌≡◌, ◌-◌}
use Rattle.spec.specs.Cursor.{live_above}
use Rattle.reads.proofs.live_above.Given as goal

abbrev pub invariant-loop-r : goal.invariant-loop-r
invariant-loop-r l = live_above l.s l.area (l.s.cap - l.from) l.from ≡ live_above l.s l.area (l.s.cap - l.r) l.r

abbrev pub decreases-loop-r : goal.decreases-loop-r
decreases-loop-r l = l.s.cap - l.r
