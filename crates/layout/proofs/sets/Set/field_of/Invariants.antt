use Rattle.std.proofs.Common.{◌≡◌, ◌≤◌, ◌-◌}
use Rattle.spec.specs.Layout.{items_length, item_number}
use Rattle.layout.proofs.sets.Set.field_of.Given as goal

abbrev pub invariant-loop-j : goal.invariant-loop-j
invariant-loop-j l = record { before : l.j ≤ item_number l.self.root.now.words.now l.self.number l.item; at : l.at ≡ items_length l.self.root.now.words.now l.self.number (l.j - 1) }
