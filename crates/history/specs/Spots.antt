-- Spots: every number that the engine keeps in the area, by set, record and place, and what is held there. A spot that a set does not have holds no words: so the
-- laws hold for every record number, and record 0 is nobody.
use Rattle.std.specs.Prelude.{◌≡◌, refl, List, [], ◌∷◌, Bool, true, false, ◌&&◌, ℕ, zero, suc, ◌+◌, ◌-◌, ◌*◌, ◌/◌, ◌%◌, ◌^◌, ◌≤◌, length, get_or, replicate, leb, ltb, eqb}
use Rattle.std.proofs.Common.{sym, ap₂, ◌∙◌, le-leb}
use Rattle.std.proofs.Math.Path.{ap}
use Rattle.std.proofs.Math.Nat.{zero-div}
use native.Mathlib.Omega.{arith}
use Rattle.spec.specs.declared.Shape.{Shape}
use Rattle.spec.specs.Words.{part}
use Rattle.spec.specs.Area.{Area, map_place, map_bit, bit_of}
use Rattle.history.specs.Walk.{by_bool}
use Rattle.history.specs.Layout.{words, num, at, within}
use Rattle.history.specs.Runs.{length_words, words_sub, part_none, num_zeros, num_one}
use Rattle.history.specs.Ranges.{and_both}
use Rattle.history.specs.Shapes.{Sane, In, has, has_in, in_has, Fit}

-- a leading word (0 the high-water mark, 1 the first freed record); the bit of a record; n words of a record from a place on
pub data Spot : Type 0 where
  lead : Shape → ℕ → Spot
  flag : Shape → ℕ → Spot
  cell : Shape → ℕ → ℕ → ℕ → Spot

abbrev pub set_of : Spot → Shape
set_of (lead s i) = s
set_of (flag s r) = s
set_of (cell s r i n) = s

abbrev pub kind_of : Spot → ℕ
kind_of (lead s i) = 0
kind_of (flag s r) = 1
kind_of (cell s r i n) = 2

unfoldable pub real : Spot → Bool
real (lead s i) = ltb i 2
real (flag s r) = has s r
real (cell s r i n) = has s r && leb (i + n) s.width

unfoldable pub addr : Spot → ℕ
addr (lead s i) = s.start + i
addr (flag s r) = map_place s r
addr (cell s r i n) = at s.records s.width r i

abbrev pub len : Spot → ℕ
len (lead s i) = 1
len (flag s r) = 1
len (cell s r i n) = n

unfoldable pub raw : Area → Spot → List ℕ
raw a (lead s i) = words a (s.start + i) 1
raw a (flag s r) = bit_of (get_or a (map_place s r) 0) (map_bit r) ∷ []
raw a (cell s r i n) = words a (at s.records s.width r i) n

-- what a spot holds: its words, its number, and whether a record is live
unfoldable pub held : Area → Spot → List ℕ
held a x = elim (real x) [ true ↦ raw a x | false ↦ [] ]

abbrev pub val : Area → Spot → ℕ
val a x = num (held a x)

abbrev pub alive : Area → Shape → ℕ → Bool
alive a s r = eqb (val a (flag s r)) 1

pub held_real : (a : Area) (x : Spot) → real x ≡ true → held a x ≡ raw a x
unfolding held
held_real a x e = rw (e, held)

pub held_none : (a : Area) (x : Spot) → real x ≡ false → held a x ≡ []
unfolding held
held_none a x e = rw (e, held)

pub fit_real : {s : Shape} {r i n : ℕ} → Fit s r i n → real (cell s r i n) ≡ true
unfolding real
fit_real {s} {r} {i} {n} f = and_both _ _ (in_has s r f.row) (le-leb (i + n) s.width f.wide)

pub cell_inside : {size : ℕ} {s : Shape} (S : Sane size s) {r i n : ℕ} → Fit s r i n → at s.records s.width r i + n ≤ size
cell_inside {s = s} S {r} {i} {n} f = omega (arith, within s.records s.width s.cap r i n f.row.low f.row.high f.wide)

-- ---- parts of what is held

pub held_length : (a : Area) {s : Shape} {r i n : ℕ} → Fit s r i n → length (held a (cell s r i n)) ≡ n
unfolding raw
held_length a {s} {r} {i} {n} f = ap length (held_real a (cell s r i n) (fit_real f)) ∙ length_words a _ n

pub held_part : (a : Area) (s : Shape) (r i m k n j : ℕ) → i + m ≤ s.width → k ≡ i + j → j + n ≤ m → held a (cell s r k n) ≡ part (held a (cell s r i m)) j n
held_part a s r i m k n j f e h = by_bool (has s r) (λ g. there_are (has_in s r g)) (λ g. none g)
  where
    there_are : In s r → held a (cell s r k n) ≡ part (held a (cell s r i m)) j n
    there_are b = held_real a (cell s r k n) (fit_real record { row = b; wide = omega arith })
        ∙ raw_sub ∙ ap (λ ws. part ws j n) (sym (held_real a (cell s r i m) (fit_real record { row = b; wide = f })))
      where
        raw_sub : raw a (cell s r k n) ≡ part (raw a (cell s r i m)) j n
        raw_sub = unfold raw at in
            let q : s.records + (r - 1) * s.width + k ≡ s.records + (r - 1) * s.width + i + j = omega arith in
            rw q (words_sub a (s.records + (r - 1) * s.width + i) m j n h)

    none : has s r ≡ false → held a (cell s r k n) ≡ part (held a (cell s r i m)) j n
    none g = held_none a (cell s r k n) (off k n) ∙ sym (ap (λ ws. part ws j n) (held_none a (cell s r i m) (off i m)) ∙ part_none j n)
      where
        off : (k n : ℕ) → real (cell s r k n) ≡ false
        off k n = unfold real in rw g

-- ---- record 0, and a new base

pub nobody_val : (a : Area) (s : Shape) (i n : ℕ) → val a (cell s 0 i n) ≡ 0
unfolding real has num
nobody_val a s i n = ap num (held_none a (cell s 0 i n) refl)

pub nobody_dead : (a : Area) (s : Shape) → alive a s 0 ≡ false
unfolding real has num
nobody_dead a s = ap (λ ws. eqb (num ws) 1) (held_none a (flag s 0) refl)

zero_word : (n i : ℕ) → ◌≡◌ {A = ℕ} (get_or (replicate n 0) i 0) 0
zero_word zero i = refl
zero_word (suc n) zero = refl
zero_word (suc n) (suc i) = zero_word n i

pub new_words : (n i m : ℕ) → words (replicate n 0) i m ≡ replicate m 0
unfolding words
new_words n i zero = refl
new_words n i (suc m) = ap₂ ◌∷◌ (zero_word n i) (new_words n (suc i) m)

pub new_held : (n : ℕ) {s : Shape} {r i m : ℕ} → Fit s r i m → held (replicate n 0) (cell s r i m) ≡ replicate m 0
unfolding raw
new_held n {s} {r} {i} {m} f = held_real (replicate n 0) (cell s r i m) (fit_real f) ∙ new_words n _ m

pub new_val : (n : ℕ) (x : Spot) → val (replicate n 0) x ≡ 0
unfolding num
new_val n x = by_bool (real x) (λ e. ap num (held_real (replicate n 0) x e) ∙ all_zero x) (λ e. ap num (held_none (replicate n 0) x e))
  where
    all_zero : (x : Spot) → num (raw (replicate n 0) x) ≡ 0
    all_zero (lead s i) = unfold raw in (ap num (new_words n (s.start + i) 1) ∙ num_zeros 1)
    all_zero (flag s r) = unfold raw bit_of in (num_one _ ∙ ap (λ w. w / 2 ^ map_bit r % 2) (zero_word n (map_place s r)) ∙ ap (λ w. w % 2) (zero-div (2 ^ map_bit r)))
    all_zero (cell s r i m) = unfold raw in (ap num (new_words n _ m) ∙ num_zeros m)

pub new_dead : (n : ℕ) (s : Shape) (r : ℕ) → alive (replicate n 0) s r ≡ false
new_dead n s r = ap (λ v. eqb v 1) (new_val n (flag s r))
