-- The parts of `root_good` that the code judges one by one, and a set's items in bits: item i in bit i - 1 of a word of 64.
-- Assumes nothing.
use Rattle.std.specs.Prelude.{ℕ, ◌+◌, ◌*◌, ◌/◌, ◌%◌, ◌^◌, ◌≤◌, ◌-◌, ◌≡◌, Bool, true, false, ◌&&◌, not, List, length, get_or, eqb}
use Rattle.spec.specs.Words.{word, within, all, any}
use Rattle.spec.specs.Root.{items, sets, item_count, path_count, path_search, leading, leading_from, among, has_item, is_text, max_items, max_sets, max_set_items, max_paths, max_number_length, max_text_length, item_good, set_item_good, set_good, set_path_good, root_length}
use Rattle.std.proofs.Props.{props}
use Rattle.root.specs.Plan.{place_of, head_number}

-- "Word 1: items, 1..64. Word 2: sets, 1..16."; "nothing follows"
unfoldable pub framed : List ℕ → Bool
framed root = within 1 max_items (items root) && within 1 max_sets (sets root) && eqb (length root) (root_length root)

-- what the rules of the sets go by: counts within their limits, and items that keep their rules
pub record HeadGood (root : List ℕ) : Type 0 where
  pub few_items : items root ≤ max_items
  pub few_sets : sets root ≤ max_sets
  pub items_good : all (items root) (item_good root) ≡ true

unfoldable pub head_good : List ℕ → Bool
head_good root = framed root && all (items root) (item_good root)

-- "I and K: 1 or 2; X: 1..32": the most words of an item by its type; 0 where there is no such type
unfoldable pub longest : ℕ → ℕ
longest type =
    elim (is_text type) [
      | true ↦ max_text_length
      | false ↦ elim (within 1 2 type) [ true ↦ max_number_length | false ↦ 0 ]
    ]

-- "Unused places are 0": the n words after a place
unfoldable pub unused : List ℕ → ℕ → ℕ → Bool
unused root at k = eqb (word root (at + k)) 0

-- "item count 1..16", and the 16 item numbers
unfoldable pub items_good : List ℕ → ℕ → Bool
items_good root s = within 1 max_set_items (item_count root s) && all max_set_items (set_item_good root s)

-- a set by itself and its paths; what is left are the counts of paths that lead to a set
unfoldable pub set_judged : List ℕ → ℕ → Bool
set_judged root s = set_good root s && all max_paths (set_path_good root s)

unfoldable pub held : ℕ → ℕ → Bool
held w i = within 1 64 i && eqb (w / 2 ^ (i - 1) % 2) 1

-- the bits are the first n items of set s
unfoldable pub Holds : List ℕ → ℕ → ℕ → ℕ → Type 0
Holds root s n w = (i : ℕ) → held w i ≡ among root s n i

pub Holds-prop : (root : List ℕ) (s n w : ℕ) → IsProp (Holds root s n w)
unfolding Holds
Holds-prop root s n w = hlevel props

-- the bits are the items of set s that none of its first n paths searches by
unfoldable pub Spare : List ℕ → ℕ → ℕ → ℕ → Type 0
Spare root s n w = (i : ℕ) → held w i ≡ has_item root s i && not (any n (λ q. eqb (path_search root s q) i))

-- the paths of the sets before s, and the first p of set s, are counted
pub record Counted (root : List ℕ) (s p : ℕ) (leads slots : List ℕ) : Type 0 where
  pub leads_long : length leads ≡ 16
  pub slots_long : length slots ≡ 64
  pub led : (m : ℕ) → 1 ≤ m → m ≤ 16 → get_or leads (m - 1) 0 ≡ leading root m (s - 1) + leading_from root m s p
  pub slotted :
      (t q : ℕ) → 1 ≤ t → 1 ≤ q → q ≤ 4 → q ≤ path_count root t → 4 * (t - 1) + q ≤ 4 * (s - 1) + p → get_or slots (place_of t q) 0 ≡ head_number root t q
  pub small : (k : ℕ) → get_or leads k 0 ≤ 4 * (s - 1) + p
