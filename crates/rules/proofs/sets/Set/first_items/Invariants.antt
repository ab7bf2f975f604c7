use Rattle.std.proofs.Common.{◌≡◌, ◌-◌, ◌+◌, ◌*◌, ◌≤◌, true}
use Rattle.spec.specs.Root.{item_listed}
use Rattle.spec.specs.Layout.{items_length}
use Rattle.spec.specs.Words.{all}
use Rattle.rules.specs.Rules.{Holds}
use Rattle.rules.proofs.sets.Set.first_items.Given as goal

abbrev pub invariant-loop-j : goal.invariant-loop-j
invariant-loop-j l =
    (l.j ≤ l.n + 1)
    × (all (l.j - 1) (item_listed l.self.root.words.now l.self.number) ≡ true)
    × Holds l.self.root.words.now l.self.number (l.j - 1) l.items.bits
    × (l.length ≤ 32 * (l.j - 1))
    × (l.length ≡ items_length l.self.root.words.now l.self.number (l.j - 1))
