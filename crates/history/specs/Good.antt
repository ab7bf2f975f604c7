-- What a good root says, as facts: sets, items, fields and paths.
use Rattle.std.specs.Prelude.{◌≡◌, refl, ◌≢◌, ◌⊎◌, List, Bool, ◌&&◌, ◌||◌, ℕ, ◌+◌, ◌-◌, ◌≤◌, ◌<◌, length}
use Rattle.std.proofs.Math.Path.{sym, ap}
use Rattle.std.proofs.Common.{◌∙◌, subst, true≢false, zero-add}
use Rattle.std.proofs.Math.Logic.{inl, inr, dite}
use Rattle.std.proofs.Math.Bool.{true, false, not}
use native.Mathlib.Omega.{arith}
use Rattle.std.proofs.Math.Decide.{dec_lt}
use Rattle.std.proofs.Math.Dec.{leb, eqb}
use borrow.Author.Tests.{leb-true, le-leb, eqb-true, eqb-false, ne_eqb, not-true}
use Rattle.spec.specs.declared.Field.{Field}
use Rattle.spec.specs.Words.{all, any, latest, total, within}
use Rattle.spec.specs.Root.{items, sets, item_type, item_length, kind, capacity, item_count, key_item, path_count, set_item, path_master, path_search, path_sort, manual, automatic, detail, master, leading, item_good, among, has_item, item_listed, set_item_good, kind_good, set_good, names_master, fits_key, search_good, sort_good, path_good, set_path_good, leading_good, set_linked, root_length, root_good, is_text, is_unsigned}
use Rattle.spec.specs.Layout.{items_length, entry_length, item_number, field_of}
use Rattle.history.specs.Layout.{Clear}
use Rattle.history.specs.Ranges.{and_left, and_right, both, three, four, or_cases, within_low, within_high, Among, all_at, any_none, latest_at, total_mono, total_at, total_up_to}

-- a set that the root has, a path that the set has
abbrev pub Set : List ℕ → ℕ → Type 0
Set root s = Among (sets root) s

abbrev pub Way : List ℕ → ℕ → ℕ → Type 0
Way root s p = Among (path_count root s) p

-- a field that lies inside its entry
pub record Inside (entry : ℕ) (f : Field) : Type 0 where
  pub some : 1 ≤ f.size
  pub fits : f.at + f.size ≤ entry

abbrev pub Off : Field → Field → Type 0
Off f h = Clear f.at f.size h.at h.size

-- a detail, and a master
pub record DetailSet (root : List ℕ) (s : ℕ) : Type 0 where
  pub is_detail : detail (kind root s) ≡ true
  pub paths : path_count root s ≤ 4

pub record MasterSet (root : List ℕ) (s : ℕ) : Type 0 where
  pub is_master : master (kind root s) ≡ true
  pub not_detail : detail (kind root s) ≡ false
  pub paths : path_count root s ≡ 0
  pub keyed : has_item root s (key_item root s) ≡ true

-- a set by itself
pub record SetFacts (root : List ℕ) (s : ℕ) : Type 0 where
  pub cap_low : 1 ≤ capacity root s
  pub cap_high : capacity root s ≤ 4095
  pub some_items : 1 ≤ item_count root s
  pub few_items : item_count root s ≤ 16
  pub some_words : 1 ≤ entry_length root s
  pub kinds : DetailSet root s ⊎ MasterSet root s

-- an item of a set
pub record Item (root : List ℕ) (s i : ℕ) : Type 0 where
  pub place : Among (item_count root s) (item_number root s i)
  pub named : set_item root s (item_number root s i) ≡ i
  pub inside : Inside (entry_length root s) (field_of root s i)

-- a sort item
pub record Sorted (root : List ℕ) (s p : ℕ) : Type 0 where
  pub item : Item root s (path_sort root s p)
  pub other : path_sort root s p ≢ path_search root s p

-- a path
pub record WayFacts (root : List ℕ) (s p : ℕ) : Type 0 where
  pub to : Set root (path_master root s p)
  pub to_master : MasterSet root (path_master root s p)
  pub search : Item root s (path_search root s p)
  pub key : Item root (path_master root s p) (key_item root (path_master root s p))
  pub as_long : item_length root (path_search root s p) ≡ item_length root (key_item root (path_master root s p))
  pub sorts : (path_sort root s p ≡ 0) ⊎ Sorted root s p

master_not_detail : (k : ℕ) → master k ≡ true → detail k ≡ false
master_not_detail k e = ne_eqb k 3 (λ q. omega (arith, within_high 1 2 k e))

pub detail_not_master : (root : List ℕ) (s : ℕ) → DetailSet root s → MasterSet root s → ⊥
detail_not_master root s d m = true≢false (sym d.is_detail ∙ m.not_detail)

-- an item that is among a set's: its number, and its field
pub has_field : (root : List ℕ) (s i : ℕ) → has_item root s i ≡ true → 1 ≤ item_length root i → Item root s i
unfolding among item_number field_of entry_length items_length
has_field root s i e l =
    let h = latest_at (item_count root s) (λ j. eqb (set_item root s j) i) e in
    let n : set_item root s (latest (item_count root s) (λ j. eqb (set_item root s j) i)) ≡ i = eqb-true _ _ h.holds in
    record {
      place = h.place;
      named = n;
      inside = record { some = l; fits = rw n at (total_up_to (λ j. item_length root (set_item root s j)) (item_count root s) _ h.place) };
    }

-- fields of different items share no word
pub fields_off : (root : List ℕ) (s i j : ℕ) → Item root s i → Item root s j → i ≢ j → Off (field_of root s i) (field_of root s j)
unfolding field_of items_length
fields_off root s i j a b d = dite (dec_lt (item_number root s i) (item_number root s j)) (λ l. inl (ends (item_number root s i) (item_number root s j) i a.named a.place.low l))
    (λ l. inr (ends (item_number root s j) (item_number root s i) j b.named b.place.low (strict l)))
  where
    strict : (item_number root s i < item_number root s j → ⊥) → item_number root s j < item_number root s i
    strict l = let n : item_number root s i ≢ item_number root s j = (λ e. d (sym a.named ∙ ap (set_item root s) e ∙ b.named)) in omega arith

    ends : (x y k : ℕ) → set_item root s x ≡ k → 1 ≤ x → x < y
        → total (x - 1) (λ q. item_length root (set_item root s q)) + item_length root k ≤ total (y - 1) (λ q. item_length root (set_item root s q))
    ends x y k e h l = rw (← e) (omega (arith, total_at (λ q. item_length root (set_item root s q)) x h, total_mono x (y - 1) (λ q. item_length root (set_item root s q)) (omega arith)))

module _ (root : List ℕ) (g : root_good root ≡ true) where
  -- the six tests that the root passes
  six : (within 1 64 (items root) ≡ true) × (within 1 16 (sets root) ≡ true) × (all (items root) (item_good root) ≡ true) × (all (sets root) (set_good root) ≡ true) × (all (sets root) (set_linked root) ≡ true)
  unfolding root_good
  six =
      let n = within 1 64 (items root) in
      let m = within 1 16 (sets root) in
      let l = eqb (length root) (root_length root) in
      let i = all (items root) (item_good root) in
      let s = all (sets root) (set_good root) in
      let h = both (n && m && l && i && s) (all (sets root) (set_linked root)) g in
      let k = both (n && m && l && i) s h.0 in
      let j = four n m l i k.0 in
      (j.0, j.1, j.3, k.1, h.1)

  pub sets_low : 1 ≤ sets root
  sets_low = within_low 1 16 (sets root) six.1

  pub sets_high : sets root ≤ 16
  sets_high = within_high 1 16 (sets root) six.1

  pub item_some : (i : ℕ) → Among (items root) i → 1 ≤ item_length root i
  unfolding item_good
  item_some i h = go (or_cases
      (within 1 2 (item_type root i) && within 1 2 (item_length root i))
      (is_text (item_type root i) && within 1 32 (item_length root i))
      (all_at (items root) (item_good root) six.2 i h))
    where
      go : ((within 1 2 (item_type root i) && within 1 2 (item_length root i)) ≡ true) ⊎ ((is_text (item_type root i) && within 1 32 (item_length root i)) ≡ true) → 1 ≤ item_length root i
      go (inl e) = within_low 1 2 _ (and_right (within 1 2 (item_type root i)) _ e)
      go (inr e) = within_low 1 32 _ (and_right (is_text (item_type root i)) _ e)

  module _ (s : ℕ) (S : Set root s) where
    set_tests : (within 1 4095 (capacity root s) ≡ true) × (within 1 16 (item_count root s) ≡ true) × (all 16 (set_item_good root s) ≡ true) × (kind_good root s ≡ true)
    unfolding set_good
    set_tests = four (within 1 4095 (capacity root s)) (within 1 16 (item_count root s)) (all 16 (set_item_good root s)) (kind_good root s) (all_at (sets root) (set_good root) six.3 s S)

    -- an item that the set lists has some words
    listed : (j : ℕ) → Among (item_count root s) j → 1 ≤ item_length root (set_item root s j)
    unfolding set_item_good item_listed
    listed j h =
        let l : leb j (item_count root s) ≡ true = le-leb _ _ h.high in
        let t : set_item_good root s j ≡ true = all_at 16 (set_item_good root s) set_tests.2 j record { low = h.low; high = omega (arith, within_high 1 16 (item_count root s) set_tests.1) } in
        let w = both (within 1 (items root) (set_item root s j)) (not (among root s (j - 1) (set_item root s j))) (rw (l, set_item_good) at t) in
        item_some (set_item root s j) record { low = within_low 1 (items root) _ w.0; high = within_high 1 (items root) _ w.0 }

    pub set_facts : SetFacts root s
    unfolding kind_good entry_length items_length
    set_facts =
        let n = item_count root s in
        let t = set_tests in
        record {
          cap_low = within_low 1 4095 _ t.0;
          cap_high = within_high 1 4095 _ t.0;
          some_items = within_low 1 16 n t.1;
          few_items = within_high 1 16 n t.1;
          some_words = omega (arith, total_up_to (λ j. item_length root (set_item root s j)) n 1 record { low = omega arith; high = within_low 1 16 n t.1 }, listed 1 record { low = omega arith; high = within_low 1 16 n t.1 });
          kinds = go (or_cases
              (detail (kind root s) && eqb (key_item root s) 0 && leb (path_count root s) 4)
              (master (kind root s) && eqb (path_count root s) 0 && has_item root s (key_item root s)) t.3);
        }
      where
        go : ((detail (kind root s) && eqb (key_item root s) 0 && leb (path_count root s) 4) ≡ true) ⊎ ((master (kind root s) && eqb (path_count root s) 0 && has_item root s (key_item root s)) ≡ true)
            → DetailSet root s ⊎ MasterSet root s
        go (inl e) = let h = three (detail (kind root s)) (eqb (key_item root s) 0) (leb (path_count root s) 4) e in inl record { is_detail = h.0; paths = leb-true (path_count root s) 4 h.2 }
        go (inr e) =
            let h = three (master (kind root s)) (eqb (path_count root s) 0) (has_item root s (key_item root s)) e in
            inr record { is_master = h.0; not_detail = master_not_detail (kind root s) h.0; paths = eqb-true (path_count root s) 0 h.1; keyed = h.2 }

    -- an item that is among the set's has a field
    pub item : (i : ℕ) → has_item root s i ≡ true → Item root s i
    unfolding among
    item i e =
        let h = latest_at (item_count root s) (λ j. eqb (set_item root s j) i) e in
        has_field root s i e (subst (λ k. 1 ≤ item_length root k) (eqb-true _ i h.holds) (listed _ h.place))

  -- a set is a detail or a master as its kind says
  pub detail_set : (s : ℕ) → Set root s → detail (kind root s) ≡ true → DetailSet root s
  detail_set s S e = go (set_facts s S).kinds
    where
      go : DetailSet root s ⊎ MasterSet root s → DetailSet root s
      go (inl d) = d
      go (inr m) = absurd (true≢false (sym e ∙ m.not_detail))

  pub master_set : (s : ℕ) → Set root s → detail (kind root s) ≡ false → MasterSet root s
  master_set s S e = go (set_facts s S).kinds
    where
      go : DetailSet root s ⊎ MasterSet root s → MasterSet root s
      go (inl d) = absurd (true≢false (sym d.is_detail ∙ e))
      go (inr m) = m

  link_tests : (s : ℕ) → Set root s → (all 4 (set_path_good root s) ≡ true) × (leading_good root s ≡ true)
  unfolding set_linked
  link_tests s S = both (all 4 (set_path_good root s)) (leading_good root s) (all_at (sets root) (set_linked root) six.4 s S)

  -- a path
  pub way_facts : (s p : ℕ) → Set root s → DetailSet root s → Way root s p → WayFacts root s p
  unfolding set_path_good path_good names_master search_good fits_key sort_good
  way_facts s p S D h =
      let m = path_master root s p in
      let l : leb p (path_count root s) ≡ true = le-leb _ _ h.high in
      let t : set_path_good root s p ≡ true = all_at 4 (set_path_good root s) (link_tests s S).0 p record { low = h.low; high = omega (arith, h.high, D.paths) } in
      let f = four (names_master root m) (search_good root s p) (fits_key root (path_search root s p) (key_item root m)) (sort_good root s p) (rw (l, set_path_good) at t) in
      let n = both (within 1 (sets root) m) (master (kind root m)) f.0 in
      let M : Set root m = record { low = within_low 1 (sets root) m n.0; high = within_high 1 (sets root) m n.0 } in
      let N = master_set m M (master_not_detail (kind root m) n.1) in
      record {
        to = M;
        to_master = N;
        search = item s S (path_search root s p) (and_left _ _ f.1);
        key = item m M (key_item root m) N.keyed;
        as_long = eqb-true _ _ (and_right (eqb (item_type root (path_search root s p)) (item_type root (key_item root m))) _ f.2);
        sorts = go (or_cases (eqb (path_sort root s p) 0)
            (has_item root s (path_sort root s p) && (is_unsigned (item_type root (path_sort root s p)) || is_text (item_type root (path_sort root s p))) && not (eqb (path_sort root s p) (path_search root s p))) f.3);
      }
    where
      go : (eqb (path_sort root s p) 0 ≡ true)
          ⊎ ((has_item root s (path_sort root s p) && (is_unsigned (item_type root (path_sort root s p)) || is_text (item_type root (path_sort root s p))) && not (eqb (path_sort root s p) (path_search root s p))) ≡ true)
          → (path_sort root s p ≡ 0) ⊎ Sorted root s p
      go (inl e) = inl (eqb-true (path_sort root s p) 0 e)
      go (inr e) =
          let k = three (has_item root s (path_sort root s p)) (is_unsigned (item_type root (path_sort root s p)) || is_text (item_type root (path_sort root s p))) (not (eqb (path_sort root s p) (path_search root s p))) e in
          inr record { item = item s S (path_sort root s p) k.0; other = eqb-false (path_sort root s p) (path_search root s p) (not-true (eqb (path_sort root s p) (path_search root s p)) k.2) }

  -- search items of one set differ
  pub searches_differ : (s p q : ℕ) → Set root s → DetailSet root s → Way root s p → Way root s q → p ≢ q → path_search root s p ≢ path_search root s q
  unfolding set_path_good path_good search_good
  searches_differ s p q S D h k d e = dite (dec_lt p q) (λ l. later q p k h.low l (sym e)) (λ l. later p q h k.low (omega arith) e)
    where
      later : (y x : ℕ) → Way root s y → 1 ≤ x → x < y → path_search root s y ≡ path_search root s x → ⊥
      later y x h b l e =
          let w : leb y (path_count root s) ≡ true = le-leb y (path_count root s) h.high in
          let t : set_path_good root s y ≡ true = all_at 4 (set_path_good root s) (link_tests s S).0 y record { low = h.low; high = omega (arith, h.high, D.paths) } in
          let f = four (names_master root (path_master root s y)) (search_good root s y) (fits_key root (path_search root s y) (key_item root (path_master root s y))) (sort_good root s y) (rw (w, set_path_good) at t) in
          let n = not-true (any (y - 1) (λ z. eqb (path_search root s z) (path_search root s y))) (and_right (has_item root s (path_search root s y)) _ f.1) in
          eqb-false _ _ (any_none (y - 1) (λ z. eqb (path_search root s z) (path_search root s y)) n x record { low = b; high = omega arith }) (sym e)

  -- how many paths lead to a master; an automatic one has its key alone
  module _ (s : ℕ) (S : Set root s) (M : MasterSet root s) where
    lead_tests : (leb (leading root s (sets root)) 8 ≡ true) × ((manual (kind root s) ≡ true) ⊎ ((eqb (item_count root s) 1 && leb 1 (leading root s (sets root))) ≡ true))
    unfolding leading_good
    lead_tests =
        let few = leb (leading root s (sets root)) 8 in
        let alone = eqb (item_count root s) 1 && leb 1 (leading root s (sets root)) in
        let e = not_left (detail (kind root s)) (few && (manual (kind root s) || alone)) (link_tests s S).1 M.not_detail in
        (and_left few _ e, or_cases (manual (kind root s)) alone (and_right few _ e))
      where
        not_left : (a b : Bool) → (a || b) ≡ true → a ≡ false → b ≡ true
        not_left true b e h = absurd (true≢false h)
        not_left false b e h = e

    pub leads_high : leading root s (sets root) ≤ 8
    leads_high = leb-true (leading root s (sets root)) 8 lead_tests.0

    pub auto_one : automatic (kind root s) ≡ true → (item_count root s ≡ 1) × (1 ≤ leading root s (sets root))
    auto_one u = go lead_tests.1
      where
        go : (manual (kind root s) ≡ true) ⊎ ((eqb (item_count root s) 1 && leb 1 (leading root s (sets root))) ≡ true) → (item_count root s ≡ 1) × (1 ≤ leading root s (sets root))
        go (inl e) = absurd (omega (arith, eqb-true (kind root s) 1 e, eqb-true (kind root s) 2 u))
        go (inr e) = (eqb-true (item_count root s) 1 (and_left _ _ e), leb-true 1 (leading root s (sets root)) (and_right (eqb (item_count root s) 1) _ e))

    pub auto_key : automatic (kind root s) ≡ true → let f = field_of root s (key_item root s) in (f.at ≡ 0) × (f.size ≡ entry_length root s)
    unfolding field_of entry_length items_length total
    auto_key u =
        let I = item s S (key_item root s) M.keyed in
        let c = (auto_one u).0 in
        let n : item_number root s (key_item root s) ≡ 1 = omega (arith, I.place.low, I.place.high) in
        rw (n, c) (refl, sym (zero-add _ ∙ ap (item_length root) (ap (set_item root s) (sym n) ∙ I.named)))
