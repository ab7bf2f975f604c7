-- Laws of the reading calls: the searches up and down. Assumes nothing.
use Rattle.std.specs.Prelude.{ℕ, zero, suc, ◌+◌, ◌-◌, ◌≤◌, ◌<◌, ◌≡◌, refl, Bool, true, false, List}
use Rattle.std.proofs.Common.{◌∙◌, ap, arith}
use Rattle.spec.specs.declared.Shape.{Shape}
use Rattle.spec.specs.Area.{live}
use Rattle.spec.specs.Cursor.{live_above, live_down}
use Rattle.reads.specs.Answers.{EmptyAbove, EmptyDown}

module _ (s : Shape) (a : List ℕ) where
  pub above_end : (n r : ℕ) → n ≡ 0 → live_above s a n r ≡ 0
  unfolding live_above
  above_end n r h = rw h

  pub above_next : (n r : ℕ) → (n ≡ 0 → ⊥) → live_above s a n r ≡ elim (live s a (r + 1)) [ true ↦ r + 1 | false ↦ live_above s a (n - 1) (r + 1) ]
  unfolding live_above
  above_next zero r h = absurd (h refl)
  above_next (suc n) r h = ap (λ m. elim (live s a (r + 1)) as (λ _. ℕ) [ true ↦ r + 1 | false ↦ live_above s a m (r + 1) ]) (omega arith)

  pub down_next : (r : ℕ) → (r ≡ 0 → ⊥) → live_down s a r ≡ elim (live s a r) [ true ↦ r | false ↦ live_down s a (r - 1) ]
  unfolding live_down
  down_next zero h = absurd (h refl)
  down_next (suc r) h = ap (λ m. elim (live s a (suc r)) as (λ _. ℕ) [ true ↦ suc r | false ↦ live_down s a m ]) (omega arith)

  -- k unused records above r
  above_run :
      (k r : ℕ) → r + k ≤ s.cap → ((j : ℕ) → j < k → live s a (r + 1 + j) ≡ false) →
      live_above s a (s.cap - r) r ≡ live_above s a (s.cap - (r + k)) (r + k)
  above_run zero r h l = grind arith
  above_run (suc k) r h l = grind (arith, above_next, l k, above_run k r (omega arith) (λ j q. l j (omega arith)))

  down_run : (k r : ℕ) → ((j : ℕ) → j < k → live s a (r + 1 + j) ≡ false) → live_down s a (r + k) ≡ live_down s a r
  down_run zero r l = grind arith
  down_run (suc k) r l = grind (arith, down_next, l k, down_run k r (λ j q. l j (omega arith)))

  module _ (from r : ℕ) (b : Bool) where
    pub above_word :
        live_above s a (s.cap - from) from ≡ live_above s a (s.cap - r) r → (b ≡ true → EmptyAbove s a r) → b ≡ true →
        live_above s a (s.cap - from) from ≡ live_above s a (s.cap - (r + 16)) (r + 16)
    above_word e f u = e ∙ above_run 16 r (f u).within (f u).alike.all

    pub down_word : live_down s a from ≡ live_down s a r → (b ≡ true → EmptyDown s a r) → b ≡ true → live_down s a from ≡ live_down s a (r - 16)
    down_word e f u =
        let h : 16 ≤ r = (f u).many in
        let d : r - 15 ≡ r - 16 + 1 = omega arith in
        let l : r ≡ r - 16 + 16 = omega arith in
        e ∙ ap (live_down s a) l ∙ down_run 16 (r - 16) (rw d at (f u).alike.all)
