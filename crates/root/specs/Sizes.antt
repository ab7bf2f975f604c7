-- What the layout of a good root comes to: every length and place is small, sets stand one behind the other, and items stand
-- inside their entry.
-- Assumes nothing.
use Prim.Native.Nat.{ℕ, ◌+◌, ◌*◌, ◌≤◌, ◌<◌, ◌-◌}
use Rattle.std.specs.Prelude.{◌≡◌, Bool, List}
use Rattle.std.proofs.Math.Path.{ap}
use Rattle.std.proofs.Math.Bool.{true, false}
use Rattle.std.proofs.Math.Nat.{mul-le-mul}
use native.Mathlib.Omega.{arith}
use Rattle.std.proofs.Math.Dec.{eqb}
use borrow.Author.Tests.{eqb-true, eq-eqb, ne_eqb}
use Rattle.spec.specs.Words.{total, latest}
use Rattle.spec.specs.Root.{items, sets, item_length, kind, capacity, item_count, path_count, set_item, leading, has_item, root_good, max_capacity, max_set_items, max_paths, max_leading, max_text_length}
use Rattle.spec.specs.Layout.{items_length, entry_length, item_number, front_words, record_words, size_of, start_of, area_length, shape_of}
use Rattle.root.specs.Ranges.{Latest, total_more, total_le, total_bound}
use Rattle.root.specs.Good.{root_facts, set_of, few_paths, item_of, length_fits, item_found, alone, leads_few}

-- "2 + 256 + 4095 * 557": the words of the largest set
abbrev pub max_size : ℕ
max_size = 2281173

module _ (root : List ℕ) (good : root_good root ≡ true) where
  module _ (s : ℕ) (low : 1 ≤ s) (high : s ≤ sets root) where
    place_fits : (j : ℕ) → 1 ≤ j → j ≤ item_count root s → item_length root (set_item root s j) ≤ max_text_length
    place_fits j l h =
        let i : (1 ≤ set_item root s j) × (set_item root s j ≤ items root) = item_of root good s low high j l h in
        (length_fits root (set_item root s j) ((root_facts root good).item (set_item root s j) i.0 i.1)).1

    pub items_fit : (n : ℕ) → n ≤ item_count root s → items_length root s n ≤ 32 * n
    unfolding items_length
    items_fit n h = total_bound (λ j. item_length root (set_item root s j)) 32 n (λ j a b. place_fits j a (omega arith))

    pub entry_fits : entry_length root s ≤ 512
    unfolding entry_length
    entry_fits =
        let a : items_length root s (item_count root s) ≤ 32 * item_count root s = items_fit (item_count root s) (omega arith) in
        let b : item_count root s ≤ max_set_items = (set_of root good s low high).items_high in
        omega arith

    pub entry_alone : kind root s ≡ 2 → entry_length root s ≤ 32
    unfolding entry_length
    entry_alone k =
        let a : items_length root s (item_count root s) ≤ 32 * item_count root s = items_fit (item_count root s) (omega arith) in
        let b : item_count root s ≡ 1 = alone root good s low high k in
        omega arith

    pub front_detail : kind root s ≡ 3 → front_words root s ≡ 4 * path_count root s
    unfolding front_words
    front_detail k = rw (front_words, eq-eqb (kind root s) 3 k)

    pub front_master : (kind root s ≡ 3 → ⊥) → front_words root s ≡ 5 + 5 * leading root s (sets root)
    unfolding front_words
    front_master k = rw (front_words, ne_eqb (kind root s) 3 k)

    pub front_fits : front_words root s ≤ 45
    unfolding front_words
    front_fits = go (eqb (kind root s) 3)
      where
        go : (b : Bool) → elim b [ true ↦ 4 * path_count root s | false ↦ 5 + 5 * leading root s (sets root) ] ≤ 45
        go true = let a : path_count root s ≤ max_paths = few_paths root good s low high in omega arith
        go false = let a : leading root s (sets root) ≤ max_leading = leads_few root good s in omega arith

    pub record_fits : record_words root s ≤ 557
    unfolding record_words
    record_fits =
        let a : front_words root s ≤ 45 = front_fits in
        let b : entry_length root s ≤ 512 = entry_fits in
        omega arith

    pub size_fits : size_of root s ≤ max_size
    unfolding size_of
    size_fits =
        let a : capacity root s ≤ max_capacity = (set_of root good s low high).capacity_high in
        let p : capacity root s * record_words root s ≤ 4095 * 557 = mul-le-mul a record_fits in
        omega arith

    -- an item stands inside the entry
    pub field_inside : (i : ℕ) → has_item root s i ≡ true → items_length root s (item_number root s i - 1) + item_length root i ≤ entry_length root s
    unfolding items_length entry_length item_number
    field_inside i e =
        let f : ℕ → ℕ = λ j. item_length root (set_item root s j) in
        let at : ℕ = latest (item_count root s) (λ j. eqb (set_item root s j) i) in
        let found : Latest (λ j. eqb (set_item root s j) i) (item_count root s) = item_found root s i e in
        let there : set_item root s at ≡ i = eqb-true (set_item root s at) i found.holds in
        let a : 1 ≤ at = found.low in
        let b : total at f ≤ total (item_count root s) f = total_le f at (item_count root s) found.high in
        let c : total at f ≡ total (at - 1) f + f at = total_more f at (at - 1) (omega arith) in
        let d : f at ≡ item_length root i = ap (item_length root) there in
        omega arith

  -- "Sets follow one another."
  pub start_fits : (s : ℕ) → 1 ≤ s → s ≤ sets root → start_of root s ≤ 2281173 * (s - 1)
  unfolding start_of
  start_fits s low high = total_bound (size_of root) max_size (s - 1) (λ t a b. size_fits t a (omega arith))

  pub area_fits : area_length root ≤ 2281173 * sets root
  unfolding area_length
  area_fits = total_bound (size_of root) max_size (sets root) (λ t a b. size_fits t a b)

-- where a set ends the next begins, and the last ends with the area
pub start_next : (root : List ℕ) (s : ℕ) → 1 ≤ s → start_of root (s + 1) ≡ start_of root s + size_of root s
unfolding start_of
start_next root s l =
    let e : s + 1 - 1 ≡ s = omega arith in
    rw e (total_more (size_of root) s (s - 1) (omega arith))

pub sets_apart : (root : List ℕ) (s t : ℕ) → 1 ≤ s → s < t → start_of root s + size_of root s ≤ start_of root t
unfolding start_of
sets_apart root s t l h =
    let a : total s (size_of root) ≡ total (s - 1) (size_of root) + size_of root s = total_more (size_of root) s (s - 1) (omega arith) in
    let b : total s (size_of root) ≤ total (t - 1) (size_of root) = total_le (size_of root) s (t - 1) (omega arith) in
    omega arith

pub set_inside : (root : List ℕ) (s : ℕ) → 1 ≤ s → s ≤ sets root → start_of root s + size_of root s ≤ area_length root
unfolding start_of area_length
set_inside root s l h =
    let a : total s (size_of root) ≡ total (s - 1) (size_of root) + size_of root s = total_more (size_of root) s (s - 1) (omega arith) in
    let b : total s (size_of root) ≤ total (sets root) (size_of root) = total_le (size_of root) s (sets root) h in
    omega arith

-- the records end where the set does
pub shape_end : (root : List ℕ) (s : ℕ) → (shape_of root s).records + (shape_of root s).cap * (shape_of root s).width ≡ start_of root s + size_of root s
unfolding shape_of size_of record_words
shape_end root s = omega arith

pub shape_inside :
    (root : List ℕ) (s : ℕ) → 1 ≤ s → s ≤ sets root → (shape_of root s).records + (shape_of root s).cap * (shape_of root s).width ≤ area_length root
shape_inside root s l h = rw (shape_end root s) (set_inside root s l h)
