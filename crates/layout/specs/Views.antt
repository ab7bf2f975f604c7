-- What the views of a good root's sets give: each is its definition, with the facts that go on from it.
-- Assumes nothing.
use Rattle.std.specs.Prelude.{ℕ, ◌+◌, ◌*◌, ◌≤◌, ◌-◌, ◌≡◌, true, List, get_or, Option, Some, None}
use Rattle.spec.specs.declared.Field.{Field}
use Rattle.spec.specs.declared.Shape.{Shape}
use Rattle.spec.specs.declared.Master.{Master}
use Rattle.spec.specs.declared.Path.{Path}
use Rattle.spec.specs.Root.{sets, kind, path_count, path_master, path_sort, leading, root_good}
use Rattle.root.specs.declared.Plan.{Plan}
use Rattle.root.specs.Plan.{place_of, head_number}
use Rattle.spec.specs.Layout.{entry_length, field_of, shape_of, master_of, path_of}

-- what the judging of a good root counts: all of the plan but the starts
pub record Counted (root : List ℕ) (c : Plan) : Type 0 where
  pub good : root_good root ≡ true
  pub leads : (m : ℕ) → 1 ≤ m → m ≤ sets root → get_or c.leads (m - 1) 0 ≡ leading root m (sets root)
  pub slots :
      (s p : ℕ) → 1 ≤ s → s ≤ sets root → 1 ≤ p → p ≤ path_count root s →
      get_or c.slots (place_of s p) 0 ≡ head_number root s p
  pub entries : (s : ℕ) → 1 ≤ s → s ≤ sets root → get_or c.entries (s - 1) 0 ≡ entry_length root s

-- where a set stands
pub record Shaped (root : List ℕ) (s : ℕ) (r : Shape) : Type 0 where
  pub is : r ≡ shape_of root s
  pub cap_low : 1 ≤ r.cap
  pub cap_high : r.cap ≤ 4095
  pub width_high : r.width ≤ 557
  pub parts : r.front + r.entry ≡ r.width
  pub front_low : (kind root s ≡ 3 → ⊥) → 5 ≤ r.front

-- a master: its records are short if it is automatic, its key stands in the entry, its heads behind the synonym words
pub record Mastered (root : List ℕ) (m : ℕ) (r : Master) : Type 0 where
  pub is : r ≡ master_of root m
  pub shaped : Shaped root m r.shape
  pub narrow : r.auto ≡ true → r.shape.width ≤ 77
  pub key_in : r.key.at + r.key.size ≤ r.shape.entry
  pub leads_high : r.leads ≤ 8
  pub front_is : r.shape.front ≡ 5 + 5 * r.leads

-- the sort item of path p of set s, if the path is sorted: it stands in the entry
abbrev pub Sorted : List ℕ → ℕ → ℕ → Option Field → Type 0
Sorted root s p (Some f) =
    (f ≡ field_of root s (path_sort root s p)) × (1 ≤ path_sort root s p) × (f.at + f.size ≤ entry_length root s)
Sorted root s p None = path_sort root s p ≡ 0

-- a path: its head is one of its master's, its items stand in the entry, its search item is as long as the key
pub record Pathed (root : List ℕ) (s p : ℕ) (r : Path) : Type 0 where
  pub is : r ≡ path_of root s p
  pub to : Mastered root (path_master root s p) r.to
  pub head_high : r.head ≤ 40
  pub head_in : r.head + 5 ≤ r.to.shape.front
  pub links_high : r.links ≤ 12
  pub search_in : r.search.at + r.search.size ≤ entry_length root s
  pub sort_in : r.sort.at + r.sort.size ≤ entry_length root s
  pub same_size : r.to.key.size ≡ r.search.size
