-- The heads in a master's record: path p of set s has the slot that counts the paths before it, each slot is some path's, and two paths of one slot are one.
use Rattle.std.specs.Prelude.{◌≡◌, ◌⊎◌, List, [], ◌∷◌, get_or, eqb}
use Rattle.std.proofs.Math.Path.{refl, ap}
use Rattle.std.proofs.Common.{sym, ◌∙◌, inl, inr}
use Rattle.std.proofs.Math.Logic.{dite}
use Prim.Native.Nat.{ℕ, zero, suc, ◌+◌, ◌-◌, ◌*◌, ◌≤◌, ◌<◌}
use native.Mathlib.Omega.{arith}
use Rattle.std.proofs.Math.Decide.{ℕ_discrete, dec_lt}
use Rattle.std.proofs.Math.ListN.{length, length-append, get_or-append}
use Rattle.std.proofs.Math.Seq.{get_or-append-add}
use borrow.Author.Tests.{eqb-true, eq-eqb}
use Rattle.spec.specs.Words.{total}
use Rattle.spec.specs.Root.{sets, capacity, path_count, path_master, bit, leading_from, leading}
use Rattle.spec.specs.Layout.{head_of, heads_from, heads_in, heads_of}
use Rattle.history.specs.Walk.{by_bool}
use Rattle.history.specs.Ranges.{Among, total_mono, total_at, Falls, falls}
use Rattle.history.specs.Good.{Set, Way}

-- the slot of path p of set s in the records of its master
unfoldable pub slot : List ℕ → ℕ → ℕ → ℕ
slot root s p = leading root (path_master root s p) (s - 1) + leading_from root (path_master root s p) s (p - 1)

pub head_slot : (root : List ℕ) (s p : ℕ) → head_of root s p ≡ 5 + 5 * slot root s p
unfolding head_of slot
head_slot root s p = refl

module _ (root : List ℕ) (m : ℕ) where
  one_more : (s p : ℕ) → 1 ≤ p → path_master root s p ≡ m → leading_from root m s p ≡ leading_from root m s (p - 1) + 1
  unfolding leading_from
  one_more s p h e = total_at (λ q. bit (eqb (path_master root s q) m)) p h ∙ ap (λ b. total (p - 1) (λ q. bit (eqb (path_master root s q) m)) + bit b) (eq-eqb (path_master root s p) m e)

  from_mono : (s p q : ℕ) → p ≤ q → leading_from root m s p ≤ leading_from root m s q
  unfolding leading_from
  from_mono s p q h = total_mono p q (λ q. bit (eqb (path_master root s q) m)) h

  lead_mono : (s t : ℕ) → s ≤ t → leading root m s ≤ leading root m t
  unfolding leading
  lead_mono s t h = total_mono s t (λ s. leading_from root m s (path_count root s)) h

  lead_at : (s : ℕ) → 1 ≤ s → leading root m s ≡ leading root m (s - 1) + leading_from root m s (path_count root s)
  unfolding leading
  lead_at s h = total_at (λ s. leading_from root m s (path_count root s)) s h

  -- the slots of a set are those below its sum
  slot_below : (s p : ℕ) → 1 ≤ s → Way root s p → path_master root s p ≡ m → slot root s p < leading root m s
  unfolding slot
  slot_below s p h w e = rw e (omega (arith, one_more s p w.low e, from_mono s p (path_count root s) w.high, lead_at s h))

  pub slot_in : (s p : ℕ) → Set root s → Way root s p → path_master root s p ≡ m → slot root s p < leading root m (sets root)
  slot_in s p S w e = omega (arith, slot_below s p S.low w e, lead_mono s (sets root) S.high)

  in_order : (s p t q : ℕ) → 1 ≤ s → Way root s p → Way root t q → path_master root s p ≡ m → path_master root t q ≡ m → (s < t) ⊎ ((s ≡ t) × (p < q)) → slot root s p < slot root t q
  unfolding slot
  in_order s p t q h w v e f (inl l) = omega (arith, slot_below s p h w e, lead_mono s (t - 1) (omega arith), ap (λ n. leading root n (t - 1)) f)
  in_order s p t q h w v e f (inr (z, l)) = rw (← z, e, rw (← z) at f) (omega (arith, one_more s p w.low e, from_mono s p (q - 1) (omega arith)))

  -- two paths of one slot are one
  pub slot_inj : (s p t q : ℕ) → Set root s → Set root t → Way root s p → Way root t q → path_master root s p ≡ m → path_master root t q ≡ m → slot root s p ≡ slot root t q → (s ≡ t) × (p ≡ q)
  slot_inj s p t q S T w v e f z =
      dite (dec_lt s t) (λ l. absurd (low (inl l)))
      (λ n. dite (dec_lt t s) (λ l. absurd (high (inl l)))
      (λ n'. let st : s ≡ t = omega arith in
      dite (dec_lt p q) (λ l. absurd (low (inr (st, l))))
      (λ k. dite (dec_lt q p) (λ l. absurd (high (inr (sym st, l)))) (λ k'. (st, omega arith)))))
    where
      low : (s < t) ⊎ ((s ≡ t) × (p < q)) → ⊥
      low o = omega (arith, in_order s p t q S.low w v e f o)

      high : (t < s) ⊎ ((t ≡ s) × (q < p)) → ⊥
      high o = omega (arith, in_order t q s p T.low v w f e o)

  -- the path whose slot it is
  pub record Owner (j : ℕ) : Type 0 where
    pub set : ℕ
    pub path : ℕ
    pub set_in : Set root set
    pub path_in : Way root set path
    pub leads : path_master root set path ≡ m
    pub has : slot root set path ≡ j

  pub owner : (j : ℕ) → j < leading root m (sets root) → Owner j
  unfolding leading leading_from slot
  owner j h = go (falls (sets root) (λ s. leading_from root m s (path_count root s)) j h)
    where
      way : (s : ℕ) → Set root s → leading root m (s - 1) ≤ j → Falls (path_count root s) (λ q. bit (eqb (path_master root s q) m)) (j - leading root m (s - 1)) → Owner j
      way s S l w = by_bool (eqb (path_master root s w.at) m)
          (λ t.
          let e = eqb-true (path_master root s w.at) m t in
          let u : bit (eqb (path_master root s w.at) m) ≡ 1 = ap bit t in
          record { set = s; path = w.at; set_in = S; path_in = w.place; leads = e; has = rw e (omega (arith, w.from, w.upto)) })
          (λ t. let u : bit (eqb (path_master root s w.at) m) ≡ 0 = ap bit t in absurd (omega (arith, w.from, w.upto)))

      go : Falls (sets root) (λ s. leading_from root m s (path_count root s)) j → Owner j
      go f = way f.at f.place f.from (falls (path_count root f.at) (λ q. bit (eqb (path_master root f.at q) m)) (j - leading root m (f.at - 1)) (omega (arith, f.from, f.upto)))

  -- the capacities that the heads are held against
  length_from : (s n : ℕ) → length (heads_from root m s n) ≡ leading_from root m s n
  unfolding heads_from leading_from total
  length_from s zero = refl
  length_from s (suc n) = length-append (heads_from root m s n) _ ∙ by_bool (eqb (path_master root s (suc n)) m)
      (λ e. rw (e, length_from s n))
      (λ e. rw (e, length_from s n))

  length_in : (n : ℕ) → length (heads_in root m n) ≡ leading root m n
  unfolding heads_in leading total
  length_in zero = refl
  length_in (suc n) = length-append (heads_in root m n) _ ∙ rw (length_in n, length_from (suc n) (path_count root (suc n)))

  pub heads_length : length (heads_of root m) ≡ leading root m (sets root)
  unfolding heads_of
  heads_length = length_in (sets root)

  cap_from : (s n i : ℕ) → i < leading_from root m s n → get_or (heads_from root m s n) i 0 ≡ capacity root s
  unfolding heads_from leading_from total
  cap_from s zero i h = absurd (omega arith)
  cap_from s (suc n) i h = dite (dec_lt i (leading_from root m s n))
      (λ l. get_or-append (heads_from root m s n) _ 0 i (rw (length_from s n) l) ∙ cap_from s n i l)
      (λ l. by_bool (eqb (path_master root s (suc n)) m)
      (λ e.
      let u : bit (eqb (path_master root s (suc n)) m) ≡ 1 = ap bit e in
      let z : i ≡ length (heads_from root m s n) + 0 = omega (arith, length_from s n) in
      rw (e, z, get_or-append-add (heads_from root m s n) (capacity root s ∷ []) 0 0))
      (λ e. let u : bit (eqb (path_master root s (suc n)) m) ≡ 0 = ap bit e in absurd (omega arith)))

  cap_in : (n s i : ℕ) → Among n s → i < leading_from root m s (path_count root s) → get_or (heads_in root m n) (leading root m (s - 1) + i) 0 ≡ capacity root s
  unfolding heads_in
  cap_in zero s i h l = absurd (omega arith)
  cap_in (suc n) s i h l = dite (ℕ_discrete s (suc n))
      (λ e.
      let z : leading root m (s - 1) + i ≡ length (heads_in root m n) + i = ap (λ k. leading root m k + i) (pred e) ∙ ap (λ k. k + i) (sym (length_in n)) in
      rw (z, get_or-append-add (heads_in root m n) (heads_from root m (suc n) (path_count root (suc n))) i 0) (rw (← e) (cap_from s (path_count root s) i l)))
      (λ d.
      get_or-append (heads_in root m n) _ 0 _ (rw (length_in n) (omega (arith, lead_at s h.low, lead_mono s n (omega arith))))
      ∙ cap_in n s i record { low = h.low; high = omega arith } l)
    where
      pred : s ≡ suc n → s - 1 ≡ n
      pred e = omega arith

  pub heads_cap : (s p : ℕ) → Set root s → Way root s p → path_master root s p ≡ m → get_or (heads_of root m) (slot root s p) 0 ≡ capacity root s
  unfolding heads_of slot
  heads_cap s p S w e = rw e (cap_in (sets root) s (leading_from root m s (p - 1)) S (omega (arith, one_more s p w.low e, from_mono s p (path_count root s) w.high)))
