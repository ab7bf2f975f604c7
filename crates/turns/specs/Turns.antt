-- A line's paths in turn, in a put as in a delete: a set has at most four, a turn puts down at most 173 words, and the turns together
-- lead back. Assumes nothing.
use Rattle.std.specs.Prelude.{ℕ, ◌+◌, ◌*◌, ◌≤◌, ◌<◌, ◌≡◌, List}
use Rattle.std.proofs.Common.{arith}
use Rattle.spec.specs.Root.{sets, path_count}
use Rattle.journal.specs.declared.Journal.{Journal}
use Rattle.journal.specs.Journal.{Back}
use Rattle.journal.specs.BackLaws.{back_then, back_more}
use Rattle.root.specs.declared.Plan.{Plan}
use Rattle.root.specs.Plan.{Planned}
use Rattle.root.specs.Good.{few_paths}

pub few : (root : List ℕ) (plan : Plan) (s count : ℕ) → Planned root plan → 1 ≤ s → s ≤ sets root → count ≡ path_count root s → count ≤ 4
few root plan s count p l h e = let z : path_count root s ≤ 4 = few_paths root p.good s l h in omega arith

-- the room of a journal for as many paths
pub two_paths : (root : List ℕ) (s count : ℕ) → count ≡ path_count root s → count ≤ 2 → 173 * path_count root s ≤ 346
two_paths root s count e h = omega arith

pub four_paths : (root : List ℕ) (plan : Plan) (s : ℕ) → Planned root plan → 1 ≤ s → s ≤ sets root → 173 * path_count root s ≤ 692
four_paths root plan s p l h = let z : path_count root s ≤ 4 = few_paths root p.good s l h in omega arith

-- the path's number is one of the set's
pub path_within : (root : List ℕ) (s count i : ℕ) → count ≡ path_count root s → i < count → i + 1 ≤ path_count root s
path_within root s count i e h = omega arith

-- after i turns, after one more, and after as many as there are paths
module _ (j₀ j : Journal) (i n : ℕ) (k : Back j₀ (173 * i) j) where
  pub paths_all : i ≤ n → Back j₀ (173 * n) j
  paths_all h = back_more _ (omega arith) k

  module _ (j₁ : Journal) (b : Back j 173 j₁) where
    pub back_next : Back j₀ (173 * (i + 1)) j₁
    back_next = back_more _ (omega arith) (back_then k b)

    pub back_all : i < n → Back j₀ (173 * n) j₁
    back_all h = back_more _ (omega arith) back_next
