-- What a spot shows after a write to it, or after a run of writes: the value last written, or the part of it that the spot is.
use Rattle.std.specs.Prelude.{◌≡◌, List, [], ◌∷◌, Bool, true, replicate}
use Rattle.std.proofs.Common.{sym, ◌∙◌, get_or-set_same, lt-ltb}
use Rattle.std.proofs.Math.Path.{ap, subst}
use Prim.Native.Nat.{ℕ, ◌+◌, ◌-◌, ◌*◌, ◌/◌, ◌≤◌, ◌<◌}
use native.Mathlib.Omega.{arith}
use Rattle.std.proofs.Math.ListN.{length}
use Rattle.std.proofs.lemmas.List.{length-replicate}
use Rattle.std.proofs.lemmas.List.Edits.{sets}
use Rattle.std.proofs.Math.Seq.{take-length}
use Rattle.spec.specs.declared.Shape.{Shape}
use Rattle.spec.specs.Words.{part, long_words}
use Rattle.spec.specs.Area.{Area, map_place, map_bit, bit_of}
use Rattle.history.specs.Layout.{num, words_same, at}
use Rattle.history.specs.MapBits.{digit, turned_same}
use Rattle.history.specs.Runs.{num_long, words_sub, part_zeros}
use Rattle.history.specs.Shapes.{Sane, In, in_has, Fit}
use Rattle.history.specs.Spots.{Spot, real, raw, held, held_real, fit_real, cell_inside, held_length, held_part, lead, flag, cell}
use Rattle.history.specs.Writes.{two, Value, say, Write, target, force, apply, apply_real, run, run_length, many, put, note, turn}
use Rattle.history.specs.Apart.{Misses}

pub record Gives (size : ℕ) (w : Write) (x : Spot) (vs : List ℕ) : Type 0 where
  pub shows : (a : Area) → length a ≡ size → held (apply a w) x ≡ vs

given : {size : ℕ} {w : Write} {x : Spot} {vs : List ℕ} → real (target w) ≡ true → real x ≡ true → ((a : Area) → length a ≡ size → raw (force a w) x ≡ vs) → Gives size w x vs
given {w = w} {x = x} e g f = record { shows = λ a l. ap (λ b. held b x) (apply_real a w e) ∙ held_real (force a w) x g ∙ f a l }

module _ {size : ℕ} {s : Shape} (S : Sane size s) where
  -- a part of it, or all of it; a leading word; a bit
  pub gives_part : {r i k n : ℕ} {u : Value} (j : ℕ) → Fit s r i (length (say u)) → k ≡ i + j → j + n ≤ length (say u) → Gives size (put s r i u) (cell s r k n) (part (say u) j n)
  unfolding raw force at
  gives_part {r} {i} {k} {n} {u} j f e h = subst (λ q. Gives size (put s r i u) (cell s r q n) (part (say u) j n)) (sym e)
      (given {w = put s r i u} {x = cell s r (i + j) n} (fit_real f) (fit_real record { row = f.row; wide = omega (arith, f.wide) })
      (λ a l.
      let p : ℕ = s.records + (r - 1) * s.width + i in
      let b : p + length (say u) ≤ length a = omega (arith, cell_inside S f) in
      let q : s.records + (r - 1) * s.width + (i + j) ≡ p + j = omega arith in
      rw q (words_sub (sets a p (say u)) p (length (say u)) j n h ∙ ap (λ ws. part ws j n) (words_same (say u) a p b))))

  pub gives_put : {r i n : ℕ} {u : Value} → Fit s r i n → length (say u) ≡ n → Gives size (put s r i u) (cell s r i n) (say u)
  gives_put {r} {i} {n} {u} f e = subst (λ m. Gives size (put s r i u) (cell s r i m) (say u)) e
      (subst (Gives size (put s r i u) (cell s r i (length (say u)))) (take-length (say u)) (gives_part 0 (subst (Fit s r i) (sym e) f) (omega arith) (omega arith)))

  pub gives_note : {i v : ℕ} → i < 2 → Gives size (note s i v) (lead s i) (v ∷ [])
  unfolding raw force real
  gives_note {i} {v} h = given {w = note s i v} {x = lead s i} (lt-ltb i 2 h) (lt-ltb i 2 h) (λ a l. words_same (v ∷ []) a (s.start + i) (omega arith))

  pub gives_turn : {r : ℕ} {b : Bool} → In s r → Gives size (turn s r b) (flag s r) (digit b ∷ [])
  unfolding raw force real map_place
  gives_turn {r} {b} h = given {w = turn s r b} {x = flag s r} (in_has s r h) (in_has s r h)
      (λ a l. ap (λ v. v ∷ []) (ap (λ v. bit_of v (map_bit r)) (get_or-set_same a (s.map + (r - 1) / 16) _ 0 (omega (arith, h.low, h.high))) ∙ turned_same b _ (map_bit r)))

-- a copy of a record's run shows each part of it, and a run of zeros shows zeros
module _ {size : ℕ} {s : Shape} (S : Sane size s) where
  pub gives_copy : (a : Area) {r y i k n m : ℕ} (j : ℕ) → Fit s r i m → In s y → k ≡ i + j → j + n ≤ m → Gives size (put s r i (many (held a (cell s y i m)))) (cell s r k n) (held a (cell s y k n))
  gives_copy a {r} {y} {i} {k} {n} {m} j f b e h =
      let l : length (held a (cell s y i m)) ≡ m = held_length a record { row = b; wide = f.wide } in
      subst (Gives size (put s r i (many (held a (cell s y i m)))) (cell s r k n)) (sym (held_part a s y i m k n j f.wide e h)) (gives_part S j (subst (Fit s r i) (sym l) f) e (omega arith))

  pub gives_zeros : {r i k n : ℕ} (m j : ℕ) → Fit s r i m → k ≡ i + j → j + n ≤ m → Gives size (put s r i (many (replicate m 0))) (cell s r k n) (replicate n 0)
  gives_zeros {r} {i} {k} {n} m j f e h =
      subst (Gives size (put s r i (many (replicate m 0))) (cell s r k n)) (part_zeros m j n h) (gives_part S j (subst (Fit s r i) (sym (length-replicate m 0)) f) e (rw length-replicate h))

-- what the two words of a number below 2^32 make
pub two_val : (v : ℕ) → v < 4294967296 → num (say (two v)) ≡ v
unfolding long_words
two_val v h = num_long v h

-- ---- a run of writes

-- a spot is left with vs: a write shows it so, and those that came after left it (`m₁ ▸ m₂ ▸ here g`)
infixr 25 ◌▸◌
pub data Left (size : ℕ) (x : Spot) (vs : List ℕ) : List Write → Type 0 where
  here : {w : Write} {ws : List Write} → Gives size w x vs → Left size x vs (w ∷ ws)
  ◌▸◌ : {w : Write} {ws : List Write} → Misses w x → Left size x vs ws → Left size x vs (w ∷ ws)

pub run_left : {size : ℕ} (x : Spot) {vs : List ℕ} (ws : List Write) (a : Area) → length a ≡ size → Left size x vs ws → held (run a ws) x ≡ vs
unfolding run
run_left x ws a l (here {w = w} {ws = us} g) = g.shows (run a us) (run_length us a ∙ l)
run_left x ws a l (◌▸◌ {w = w} {ws = us} m h) = m.leaves (run a us) ∙ run_left x us a l h
