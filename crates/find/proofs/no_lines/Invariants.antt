use Rattle.std.proofs.Common.{◌≡◌, drop}
use Rattle.spec.specs.Master.{no_lines}
use Rattle.find.proofs.no_lines.Given as goal

abbrev pub invariant-loop-j : goal.invariant-loop-j
invariant-loop-j l = no_lines l.s l.area l.r l.heads 0 ≡ no_lines l.s l.area l.r (drop l.j l.heads) l.j
