use Rattle.std.proofs.Common.{◌≡◌, ◌+◌, ◌-◌, ◌++◌, length}
use Rattle.spec.specs.Root.{leading, leading_from}
use Rattle.spec.specs.Layout.{heads_in, heads_from}
use Rattle.layout.proofs.sets.Root.heads_of.Given as goal

abbrev pub invariant-loop-k : goal.invariant-loop-k
invariant-loop-k l = record { heads : l.caps.items ≡ heads_in l.self.words.now l.m l.k; count : length l.caps.items ≡ leading l.self.words.now l.m l.k }

abbrev pub invariant-loop-p : goal.invariant-loop-p
invariant-loop-p l = record {
  heads : l.caps.items ≡ heads_in l.self.words.now l.m (l.s - 1) ++ heads_from l.self.words.now l.m l.s l.p;
  count : length l.caps.items ≡ leading l.self.words.now l.m (l.s - 1) + leading_from l.self.words.now l.m l.s l.p;
}
