-- Each word that a root's counts speak of is inside a root that is as long as they say.
-- Assumes nothing.
use Rattle.std.specs.Prelude.{ℕ, ◌+◌, ◌*◌, ◌≤◌, ◌<◌, ◌≡◌, List, length}
use Rattle.std.proofs.Common.{arith}
use Rattle.spec.specs.Root.{items, sets, description, root_length}

module _ (root : List ℕ) (whole : length root ≡ root_length root) where
  pub counts_inside : (0 < length root) × (1 < length root)
  unfolding root_length
  counts_inside = (omega arith, omega arith)

  pub item_inside : (i : ℕ) → i ≤ items root → (2 * i < length root) × (2 * i + 1 < length root)
  unfolding root_length
  item_inside i h = (omega arith, omega arith)

  pub set_inside : (s k : ℕ) → (1 ≤ s) × (s ≤ sets root) → k < 33 → description root s + k < length root
  unfolding root_length description
  set_inside s k h l = omega arith
