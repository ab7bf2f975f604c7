use Rattle.std.proofs.Common.{ℕ, ◌≡◌, ◌+◌, ◌-◌, ◌≤◌, length, get_or}
use Rattle.spec.specs.Layout.{start_of}
use Rattle.layout.proofs.judged.Judged.starts.Given as goal

abbrev pub invariant-loop-k : goal.invariant-loop-k
invariant-loop-k l = record {
  at : l.at ≡ start_of l.self.root.words.now (l.k + 1);
  long : length l.starts ≡ 16;
  before : (s : ℕ) → 1 ≤ s → s ≤ l.k → get_or l.starts (s - 1) 0 ≡ start_of l.self.root.words.now s;
}
