use Rattle.std.proofs.Common.{◌≡◌, ◌≤◌, ◌-◌}
use Rattle.spec.specs.Detail.{pass, last_spot}
use Rattle.placing.proofs.pass.Given as goal

abbrev pub invariant-loop : goal.invariant-loop
invariant-loop l = record {
  passed : l.t.passed ≤ l.counter;
  rest : pass l.d l.p l.area l.v l.d.cap (last_spot l.last) ≡ pass l.d l.p l.area l.v (l.d.cap - l.counter) l.t;
}
