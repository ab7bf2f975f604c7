-- What is known of the number of sets of a good root. Assumes nothing.
use Rattle.std.specs.Prelude.{ℕ, ◌≤◌, ◌≡◌, true, List}
use Rattle.spec.specs.Root.{sets, root_good}
use Rattle.root.specs.Good.{root_facts}

pub few_sets : (root : List ℕ) → root_good root ≡ true → sets root ≤ 16
few_sets root good = (root_facts root good).sets_high
