-- What is known of the answers of a detail put, and of the record that it takes. Assumes nothing.
use Rattle.std.specs.Prelude.{ℕ, ◌+◌, ◌≤◌, ◌<◌, ◌≡◌, refl, Bool, true, false, not, List, ltb, eqb}
use native.Mathlib.Omega.{arith}
use borrow.Author.Tests.{ltb-true, eqb-false}
use Rattle.spec.specs.declared.Refusal.{Refusal}
use Rattle.spec.specs.declared.Refusal.TheVariants.{SetFull}
use Rattle.spec.specs.declared.Shape.{Shape}
use Rattle.spec.specs.declared.Taken.{Taken}
use Rattle.spec.specs.Outcome.{Outcome, accept, refuse, require, ◌>>=◌}
use Rattle.spec.specs.Layout.{Detail}
use Rattle.spec.specs.Area.{live, mark, freed, next_freed, read, check}
use Rattle.spec.specs.Detail.{take_freed, take_above, take_record, put_paths, Line, none_passed, put_taken, put_line}
use Rattle.area.specs.AreaLaws.{Then, then_bind, then_told, read_then}

-- ---- the record that a put takes is one of the set's
abbrev Inside : Shape → Taken → Type 0
Inside s t = (1 ≤ t.at) × (t.at ≤ s.cap)

then_require : (b : Bool) (why : Refusal) → Then (λ _. b ≡ true) (require b why)
then_require true why = refl
then_require false why = tt

then_after : {A B : Type 0} (P : B → Type 0) (x : Outcome A) (f : A → Outcome B) → ((y : A) → Then P (f y)) → Then P (x >>= f)
then_after P (accept y) f h = h y
then_after P (refuse why) f h = tt

then_case :
    {A : Type 0} (P : A → Type 0) (b : Bool) (x y : Outcome A) → (b ≡ true → Then P x) → (b ≡ false → Then P y) → Then P (elim b [ true ↦ x | false ↦ y ])
then_case P true x y p q = p refl
then_case P false x y p q = q refl

module _ (s : Shape) (a : List ℕ) where
  above_then : (high : ℕ) → Then (Inside s) (take_above s a high)
  unfolding take_above
  above_then high =
      then_bind _ _ (require (ltb high s.cap) SetFull) _ (then_require (ltb high s.cap) SetFull) (λ _ t.
      then_after _ (check (not (live s a (high + 1)))) _ (λ _.
      let h : high < s.cap = ltb-true high s.cap t in
      (omega arith, omega arith)))

  freed_then : (high r : ℕ) → (r ≡ 0 → ⊥) → r ≤ s.cap → Then (Inside s) (take_freed s a high r)
  unfolding take_freed
  freed_then high r z h =
      then_after _ (check (not (live s a r))) _ (λ _.
      then_after _ (read s.cap (next_freed s a r)) _ (λ _. (omega arith, h)))

  pub taken_then : Then (Inside s) (take_record s a)
  unfolding take_record
  taken_then =
      then_after _ (read s.cap (mark s a)) _ (λ high.
      then_bind _ _ (read s.cap (freed s a)) _ (read_then s.cap (freed s a)) (λ r t.
      then_case _ (eqb r 0) _ _ (λ _. above_then high) (λ e. freed_then high r (eqb-false r 0 e) t.1)))

  pub taken_low : (t : Taken) → take_record s a ≡ accept t → 1 ≤ t.at
  taken_low t e = (then_told (Inside s) (take_record s a) t taken_then e).0

-- of an accepted put
module _ (d : Detail) (a entry : List ℕ) (l : Line) (e : put_line d a entry ≡ accept l) where
  line_then : Then (λ (l : Line). (1 ≤ l.at) × (l.at ≤ d.shape.cap)) (put_line d a entry)
  unfolding put_line put_taken
  line_then =
      then_bind _ _ (take_record d.shape a) _ (taken_then d.shape a) (λ t h.
      then_after _ (put_paths d entry t.at d.paths 1 (record { area = a; passed = none_passed })) _ (λ _. h))

  pub line_low : 1 ≤ l.at
  line_low = (then_told _ (put_line d a entry) l line_then e).0

  pub line_high : l.at ≤ d.shape.cap
  line_high = (then_told _ (put_line d a entry) l line_then e).1
