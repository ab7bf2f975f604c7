use Rattle.std.proofs.Common.{◌≡◌, ◌<◌, ◌^◌, drop}
use Rattle.spec.specs.Master.{key_number}
use Rattle.find.proofs.number_by.Given as goal

abbrev pub invariant-loop-w : goal.invariant-loop-w
invariant-loop-w l = (l.v < 2 ^ 31) × (key_number l.by 0 l.key ≡ key_number l.by l.v (drop l.w-index l.key))
