use Rattle.std.proofs.Common.{◌≡◌, ◌-◌, ◌+◌, ◌≤◌}
use Rattle.spec.specs.Root.{item_good}
use Rattle.spec.specs.Words.{all}
use Rattle.rules.proofs.all_items_good.Given as goal

abbrev pub invariant-loop-i : goal.invariant-loop-i
invariant-loop-i l = (l.i ≤ l.i-end + 1) × (l.good ≡ all (l.i - 1) (item_good l.root.words.now))
