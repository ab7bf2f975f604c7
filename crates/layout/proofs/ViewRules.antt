-- Where the items of a good root's sets stand, and that a path is one of its set's. Assumes nothing.
use Prim.Native.Nat.{ℕ, ◌+◌, ◌≤◌, ◌-◌}
use mathlib.Core.Path.{◌≡◌, refl, ◌∙◌, ap}
use mathlib.Core.Bool.{true, false}
use mathlib.Core.List.{List}
use native.Mathlib.Omega.{arith}
use lib.Dec.{eqb}
use borrow.Author.Tests.{eqb-true}
use Rattle.spec.specs.Words.{total}
use Rattle.spec.specs.Root.{items, sets, item_length, item_count, set_item, set_item_good, item_listed, among, path_count, has_item, search_path, root_good}
use Rattle.spec.specs.Layout.{items_length, item_number}
use Rattle.root.specs.Ranges.{Latest, latest_le, all_at, any_of, total_more}
use Rattle.root.specs.Good.{root_facts, length_fits, set_of, place_listed, item_of, item_found}

module _ (root : List ℕ) (s : ℕ) (good : root_good root ≡ true) (low : 1 ≤ s) (high : s ≤ sets root) where
  module _ (i : ℕ) (h : has_item root s i ≡ true) where
    found : (1 ≤ item_number root s i) × (item_number root s i ≤ item_count root s) × (set_item root s (item_number root s i) ≡ i)
    unfolding item_number
    found = let l : Latest (λ k. eqb (set_item root s k) i) (item_count root s) = item_found root s i h in (l.low, l.high, eqb-true _ i l.holds)

    pub number_low : 1 ≤ item_number root s i
    number_low = found.0

    pub number_high : item_number root s i ≤ item_count root s
    number_high = found.1

    pub number_at : set_item root s (item_number root s i) ≡ i
    number_at = found.2

    pub number_past : (j : ℕ) → (set_item root s j ≡ i → ⊥) → j ≤ item_number root s i → j + 1 ≤ item_number root s i
    number_past j n b = let z : j ≡ item_number root s i → ⊥ = λ y. n (ap (set_item root s) y ∙ number_at) in omega arith

    pub number_few : item_number root s i ≤ 16
    number_few = let a : item_count root s ≤ 16 = (set_of root good s low high).items_high in omega (arith, number_high)

    -- "a set's items exist and differ"
    differs : among root s (item_number root s i - 1) (set_item root s (item_number root s i)) ≡ false
    unfolding item_listed
    differs =
        grind (arith, place_listed root s (item_number root s i) number_high, all_at (set_item_good root s) 16 (item_number root s i) (set_of root good s low high).listed number_low number_few)

  pub number_only :
      (j : ℕ) → has_item root s (set_item root s j) ≡ true → 1 ≤ j → j ≤ item_number root s (set_item root s j) →
      item_number root s (set_item root s j) ≡ j
  unfolding among
  number_only j h a b =
      grind (arith, differs _ h, number_at _ h, any_of (λ k. eqb (set_item root s k) (set_item root s (item_number root s (set_item root s j)))) (item_number root s (set_item root s j) - 1) j a)

  pub item_short : (j : ℕ) → 1 ≤ j → j ≤ item_count root s → item_length root (set_item root s j) ≤ 32
  item_short j a b =
      let e : (1 ≤ set_item root s j) × (set_item root s j ≤ items root) = item_of root good s low high j a b in
      (length_fits root _ ((root_facts root good).item _ e.0 e.1)).1

pub items_none : (root : List ℕ) (s : ℕ) → items_length root s 0 ≡ 0
unfolding items_length total
items_none root s = refl

pub items_more :
    (root : List ℕ) (s j : ℕ) → 1 ≤ j → items_length root s j ≡ items_length root s (j - 1) + item_length root (set_item root s j)
unfolding items_length
items_more root s j h = total_more (λ k. item_length root (set_item root s k)) j (j - 1) (omega arith)

pub search_high : (root : List ℕ) (s i : ℕ) → search_path root s i ≤ path_count root s
unfolding search_path
search_high root s i = latest_le _ _
