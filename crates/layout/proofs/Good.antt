-- What is known of a good root's numbers. Assumes nothing.
use Rattle.std.specs.Prelude.{ℕ, ◌≡◌, ◌≤◌, ◌<◌, ◌+◌, ◌*◌, ◌-◌, ◌/◌, true, List, length, eqb, refl}
use Rattle.std.proofs.Common.{arith, eqb-true}
use Rattle.std.proofs.lemmas.Bool.Decides.{nat_tests}
use Rattle.spec.specs.Root.{items, sets, item_type, item_length, item_good, kind, capacity, item_count, key_item, path_count, set_item, path_master, path_search, path_sort, leading, leading_from, has_item, root_length, root_good}
use Rattle.spec.specs.Words.{latest}
use Rattle.spec.specs.Layout.{entry_length, item_number, front_words, record_words, start_of, size_of, area_length}
use Rattle.root.specs.Good.{root_facts, set_of, kind_of, few_paths, leads_few, key_listed, item_found, item_of, PathFacts, path_of_set, sort_listed, head_number_fits}
use Rattle.root.specs.Ranges.{Latest}
use Rattle.root.specs.Sizes.{entry_fits, front_fits, size_fits, start_fits, area_fits, front_detail, front_master}

module _ (root : List ℕ) (good : root_good root ≡ true) where
  pub sets_few : sets root ≤ 16
  sets_few = (root_facts root good).sets_high

  pub sets_some : 1 ≤ sets root
  sets_some = (root_facts root good).sets_low

  pub area_small : area_length root ≤ 36498768
  area_small = let a : sets root ≤ 16 = sets_few in let b : area_length root ≤ 2281173 * sets root = area_fits root good in omega arith

  pub long : length root ≡ root_length root
  long = (root_facts root good).long

  pub leads_small : (s : ℕ) → leading root s (sets root) ≤ 8
  leads_small s = leads_few root good s

  module _ (i : ℕ) (low : 1 ≤ i) (high : i ≤ items root) where
    types : (1 ≤ item_type root i) × (item_type root i ≤ 3)
    unfolding item_good
    types = grind (arith, nat_tests, (root_facts root good).item i low high)

    pub type_low : 1 ≤ item_type root i
    type_low = types.0

    pub type_high : item_type root i ≤ 3
    type_high = types.1

  module _ (s : ℕ) (low : 1 ≤ s) (high : s ≤ sets root) where
    pub paths_few : path_count root s ≤ 4
    paths_few = few_paths root good s low high

    pub entry_small : entry_length root s ≤ 512
    entry_small = entry_fits root good s low high

    pub front_small : front_words root s ≤ 45
    front_small = front_fits root good s low high

    pub size_small : size_of root s ≤ 2281173
    size_small = size_fits root good s low high

    pub cap_low : 1 ≤ capacity root s
    cap_low = (set_of root good s low high).capacity_low

    pub cap_high : capacity root s ≤ 4095
    cap_high = (set_of root good s low high).capacity_high

    pub kind_low : 1 ≤ kind root s
    kind_low = grind (arith, kind_of root good s low high)

    pub kind_high : kind root s ≤ 3
    kind_high = grind (arith, kind_of root good s low high)

    pub front_links : kind root s ≡ 3 → front_words root s ≡ 4 * path_count root s
    front_links = front_detail root good s low high

    pub front_heads : (kind root s ≡ 3 → ⊥) → front_words root s ≡ 5 + 5 * leading root s (sets root)
    front_heads = front_master root good s low high

    pub size_is : size_of root s ≡ 2 + (capacity root s + 15) / 16 + capacity root s * (front_words root s + entry_length root s)
    unfolding size_of record_words
    size_is = refl

    pub key_there : (kind root s ≡ 3 → ⊥) → has_item root s (key_item root s) ≡ true
    key_there = key_listed root good s low high

    item_there : (i : ℕ) → has_item root s i ≡ true → (1 ≤ i) × (i ≤ items root)
    unfolding item_number
    item_there i h =
        let l : Latest (λ k. eqb (set_item root s k) i) (item_count root s) = item_found root s i h in
        let n : ℕ = latest (item_count root s) (λ k. eqb (set_item root s k) i) in
        let a : (1 ≤ set_item root s n) × (set_item root s n ≤ items root) = item_of root good s low high n l.low l.high in
        rw (eqb-true (set_item root s n) i l.holds) at a

    pub key_few : (kind root s ≡ 3 → ⊥) → key_item root s ≤ items root
    key_few n = (item_there (key_item root s) (key_there n)).1

    pub key_low : (kind root s ≡ 3 → ⊥) → 1 ≤ key_item root s
    key_low n = (item_there (key_item root s) (key_there n)).0

    module _ (p : ℕ) (first : 1 ≤ p) (last : p ≤ path_count root s) where
      facts : PathFacts root s p
      facts = path_of_set root good s low high p first last

      pub head_small :
          leading root (path_master root s p) (s - 1) + leading_from root (path_master root s p) s (p - 1) < leading root (path_master root s p) (sets root)
      head_small = head_number_fits root good s low high p first last

      pub search_there : has_item root s (path_search root s p) ≡ true
      search_there = facts.search

      pub search_size : item_length root (path_search root s p) ≡ item_length root (key_item root (path_master root s p))
      search_size = facts.size

      pub sort_there : (path_sort root s p ≡ 0 → ⊥) → has_item root s (path_sort root s p) ≡ true
      sort_there = sort_listed root s p facts.sort

      pub master_low : 1 ≤ path_master root s p
      master_low = facts.to.low

      pub master_high : path_master root s p ≤ sets root
      master_high = facts.to.high

      pub master_kind : kind root (path_master root s p) ≤ 2
      master_kind = facts.to.kind_high

    pub start_small : start_of root s ≤ 34217595
    start_small =
        let a : sets root ≤ 16 = sets_few in
        let b : start_of root s ≤ 2281173 * (s - 1) = start_fits root good s low high in
        omega arith

pub ruleset good_root = (sets_few, sets_some, area_small, long, leads_small, paths_few, entry_small, front_small, size_small, start_small, kind_low, kind_high, front_links, front_heads, size_is, key_there, key_few, key_low, type_low, type_high, head_small, search_there, sort_there, master_low, master_high, master_kind)
