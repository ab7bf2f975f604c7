use Rattle.std.proofs.Common.{◌≡◌, ◌-◌}
use Rattle.spec.specs.Master.{find_along}
use Rattle.find.proofs.find_along.Given as goal

abbrev pub invariant-loop : goal.invariant-loop
invariant-loop l = find_along l.m l.area l.key l.n l.r ≡ find_along l.m l.area l.key (l.n - l.counter) l.at
