-- The paths of a set: the items that they may search by, and the heads that they take. Assumes nothing.
use Prim.Native.Nat.{ℕ, ◌+◌, ◌≤◌, ◌<◌, ◌-◌}
use mathlib.Core.Path.{◌≡◌}
use mathlib.Core.Bool.{true, ◌&&◌, not}
use mathlib.Core.List.{List}
use native.Mathlib.Omega.{arith}
use lib.ListN.{length, get_or, set}
use lib.Dec.{eqb}
use Rattle.std.proofs.lemmas.Bool.Decides.{nat_tests}
use Rattle.std.proofs.lemmas.Grind.{common_steps}
use Rattle.spec.specs.Words.{any, latest}
use Rattle.spec.specs.Root.{items, sets, set_item, set_item_good, item_listed, set_good, item_count, path_master, path_search, has_item, search_good, path_good}
use Rattle.root.specs.Ranges.{all_at, Latest}
use Rattle.root.specs.Plan.{place_of}
use Rattle.root.specs.Good.{leading_from_step, path_facts, place_listed, SetFacts, set_facts, item_found}
use Rattle.rules.specs.Rules.{held, Holds, Spare, Counted}
use Rattle.rules.proofs.Steps.{any_step}

-- ---- an item that a set has
module _ (root : List ℕ) (s i : ℕ) (good : set_good root s ≡ true) where
  pub exists : has_item root s i ≡ true → i ≤ items root
  unfolding item_listed
  exists h =
      let f : SetFacts root s = set_facts root s good in
      let l : Latest (λ j. eqb (set_item root s j) i) (item_count root s) = item_found root s i h in
      let j : ℕ = latest (item_count root s) (λ j. eqb (set_item root s j) i) in
      let few : j ≤ 16 = omega (arith, l.high, f.items_high) in
      grind (arith, nat_tests, place_listed root s j l.high, all_at (set_item_good root s) 16 j f.listed l.low few, l.holds)

-- ---- the items that no path searches by yet
module _ (root : List ℕ) (s p x spare : ℕ) (e : x ≡ path_search root s p) (g : path_good root s p ≡ true) (r : Spare root s (p - 1) spare) where
  pub spare_held : held spare x ≡ true
  unfolding Spare search_good
  spare_held = grind (arith, r x, (path_facts root s p g).found)

  pub spare_turn : (v : ℕ) → ((i : ℕ) → held v i ≡ held spare i && not (eqb x i)) → 1 ≤ p → Spare root s p v
  unfolding Spare
  spare_turn v q l i = grind (arith, q i, r i, any_step (λ q. eqb (path_search root s q) i) p l)

pub spare_start : (root : List ℕ) (s bits : ℕ) → Holds root s (item_count root s) bits → Spare root s 0 bits
unfolding Spare Holds any
spare_start root s bits g i = grind (arith, g i)

-- ---- the count
module _ (root : List ℕ) (s p x : ℕ) (e : x ≡ path_master root s p) (g : path_good root s p ≡ true) where
  pub to_low : 1 ≤ x
  to_low = rw e (path_facts root s p g).to.low

  pub to_place : sets root ≤ 16 → x - 1 < 16
  to_place u = let l : path_master root s p ≤ sets root = (path_facts root s p g).to.high in omega arith

  pub counted_turn :
      (leads slots : List ℕ) → Counted root s (p - 1) leads slots → 1 ≤ s → s ≤ 16 → 1 ≤ p → p ≤ 4 → sets root ≤ 16 →
      Counted root s p (set leads (x - 1) (get_or leads (x - 1) 0 + 1)) (set slots (place_of s p) (get_or leads (x - 1) 0))
  counted_turn leads slots h a b c d u =
      let low : 1 ≤ x = to_low in
      let lead_room : x - 1 < length leads = rw h.leads_long (to_place u) in
      let slot_room : place_of s p < length slots = rw h.slots_long (omega arith) in
      record {
        leads_long = grind (arith, common_steps, h.leads_long);
        slots_long = grind (arith, common_steps, h.slots_long);
        led = λ m l k. grind (arith, nat_tests, common_steps, leading_from_step root m s p c, h.led m l k);
        slotted = λ t q k l m n o. grind (arith, common_steps, h.slotted t q k l m n, h.led x low);
        small = λ k. grind (arith, common_steps, h.small k);
      }
