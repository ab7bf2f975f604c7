-- Why a write leaves a spot: another set, another kind of spot, another record, another place, or nobody. And so for a run of writes, and for a whole set.
use Rattle.std.specs.Prelude.{◌≡◌, refl, ◌≢◌, ◌⊎◌, List, [], ◌∷◌, Bool, true, false, not, cond, ℕ, zero, suc, ◌+◌, ◌-◌, ◌*◌, ◌/◌, ◌%◌, ◌≤◌, ◌<◌, get_or, T, eqb}
use Rattle.std.proofs.Common.{sym, ◌∙◌, subst, inl, inr, arith, get_or-set_other, T_not, leb-true, ltb-true, eq-eqb}
use Rattle.std.proofs.Math.Path.{ap}
use Rattle.std.proofs.Math.Logic.{Ne-symm}
use Rattle.std.proofs.Math.Decide.{ℕ_discrete, dec_lt}
use Rattle.std.proofs.Math.ListN.{length}
use Rattle.std.proofs.Math.Seq.{get_or-set_same, set_out}
use Rattle.spec.specs.declared.Shape.{Shape}
use Rattle.spec.specs.Area.{Area, map_place, map_bit, bit_of}
use Rattle.history.specs.Chain.{All}
use Rattle.history.specs.Walk.{by_bool}
use Rattle.history.specs.Layout.{words, Clear, words_other, word_other, at, clear_records, clear_fields, within}
use Rattle.history.specs.MapBits.{turned, turned_other}
use Rattle.history.specs.Ranges.{and_left, and_right}
use Rattle.history.specs.Shapes.{Sane, Beside, In, has, has_in}
use Rattle.history.specs.Spots.{Spot, set_of, kind_of, real, addr, len, raw, held, held_real, held_none, lead, flag, cell}
use Rattle.history.specs.Writes.{Value, say, Write, target, force, apply, apply_real, apply_none, run, put, note, turn}

pub record Misses (w : Write) (x : Spot) : Type 0 where
  pub leaves : (a : Area) → held (apply a w) x ≡ held a x

-- it is enough to look at what is there
forced : {w : Write} {x : Spot} → (real (target w) ≡ true → real x ≡ true → (a : Area) → raw (force a w) x ≡ raw a x) → Misses w x
forced {w} {x} f = record {
  leaves = λ a. by_bool (real (target w))
      (λ e. ap (λ b. held b x) (apply_real a w e) ∙ by_bool (real x) (λ g. held_real (force a w) x g ∙ f e g a ∙ sym (held_real a x g)) (λ g. held_none (force a w) x g ∙ sym (held_none a x g)))
      (λ e. ap (λ b. held b x) (apply_none a w e));
}

word_off : (w : Write) (a : Area) (j : ℕ) → Clear (addr (target w)) (len (target w)) j 1 → get_or (force a w) j 0 ≡ get_or a j 0
unfolding force addr
word_off (put s r i u) a j c = word_other (say u) a _ j c
word_off (note s i v) a j c = word_other (v ∷ []) a _ j c
word_off (turn s r b) a j c = word_other (_ ∷ []) a _ j c

words_off : (n : ℕ) (w : Write) (a : Area) (j : ℕ) → Clear (addr (target w)) (len (target w)) j n → words (force a w) j n ≡ words a j n
unfolding force addr
words_off n (put s r i u) a j c = words_other n (say u) a _ j c
words_off n (note s i v) a j c = words_other n (v ∷ []) a _ j c
words_off n (turn s r b) a j c = words_other n (_ ∷ []) a _ j c

raw_off : (w : Write) (x : Spot) (a : Area) → Clear (addr (target w)) (len (target w)) (addr x) (len x) → raw (force a w) x ≡ raw a x
unfolding raw addr
raw_off w (lead s i) a c = words_off 1 w a _ c
raw_off w (flag s r) a c = ap (λ v. bit_of v (map_bit r) ∷ []) (word_off w a _ c)
raw_off w (cell s r i n) a c = words_off n w a _ c

-- where the spots of a kind stand
abbrev lower : Shape → ℕ → ℕ
lower s zero = s.start
lower s (suc zero) = s.map
lower s (suc (suc k)) = s.records

abbrev upper : Shape → ℕ → ℕ
upper s zero = s.map
upper s (suc zero) = s.records
upper s (suc (suc k)) = s.records + s.cap * s.width

record Stands (s : Shape) (k i n : ℕ) : Type 0 where
  from : lower s k ≤ i
  upto : i + n ≤ upper s k
  three : k ≤ 2

stands : {size : ℕ} (x : Spot) → Sane size (set_of x) → real x ≡ true → Stands (set_of x) (kind_of x) (addr x) (len x)
unfolding addr real map_place at
stands (lead s i) S e = let h = ltb-true i 2 e in record { from = omega arith; upto = omega arith; three = omega arith }
stands (flag s r) S e = let h = has_in s r e in record { from = omega arith; upto = omega arith; three = omega arith }
stands (cell s r i n) S e =
    let h = has_in s r (and_left _ _ e) in
    let f = leb-true (i + n) s.width (and_right (has s r) _ e) in
    record { from = omega arith; upto = within s.records s.width s.cap r i n h.low h.high f; three = omega arith }

module _ {size : ℕ} {s : Shape} (S : Sane size s) where
  in_order : (k l : ℕ) → k < l → l ≤ 2 → upper s k ≤ lower s l
  in_order zero zero h b = absurd (omega arith)
  in_order zero (suc zero) h b = omega arith
  in_order zero (suc (suc l)) h b = omega arith
  in_order (suc zero) zero h b = absurd (omega arith)
  in_order (suc zero) (suc zero) h b = absurd (omega arith)
  in_order (suc zero) (suc (suc l)) h b = omega arith
  in_order (suc (suc k)) l h b = absurd (omega arith)

  zones_clear : (k i n l j m : ℕ) → k ≢ l → Stands s k i n → Stands s l j m → Clear i n j m
  zones_clear k i n l j m d p q = go (dec_lt k l)
    where
      go : Dec (k < l) → Clear i n j m
      go (yes h) = inl (omega (arith, in_order k l h q.three, p.upto, q.from))
      go (no h) = inr (omega (arith, in_order l k (omega arith) p.three, q.upto, p.from))

  whole : (k i n : ℕ) → Stands s k i n → (s.start ≤ i) × (i + n ≤ s.records + s.cap * s.width)
  whole zero i n t = (t.from, omega (arith, t.upto))
  whole (suc zero) i n t = (omega (arith, t.from), omega (arith, t.upto))
  whole (suc (suc k)) i n t = (omega (arith, t.from), t.upto)

-- THE ways to be apart. Of different sets:
pub by_set : {w : Write} {x : Spot} → Beside (set_of (target w)) (set_of x) → Misses w x
by_set {w} {x} b = forced (λ e g a. raw_off w x a
    (go b.clear (whole b.this _ _ _ (stands (target w) b.this e)) (whole b.that _ _ _ (stands x b.that g))))
  where
    Whole : Spot → Type 0
    Whole y = ((set_of y).start ≤ addr y) × (addr y + len y ≤ (set_of y).records + (set_of y).cap * (set_of y).width)

    go : ((set_of (target w)).records + (set_of (target w)).cap * (set_of (target w)).width ≤ (set_of x).start) ⊎ ((set_of x).records + (set_of x).cap * (set_of x).width ≤ (set_of (target w)).start)
        → Whole (target w) → Whole x → Clear (addr (target w)) (len (target w)) (addr x) (len x)
    go (inl h) p q = inl (omega (arith, p.1, q.0))
    go (inr h) p q = inr (omega (arith, p.0, q.1))

-- of different kinds in one set (`by_kind S refl tt`):
pub by_kind : {size : ℕ} {w : Write} {x : Spot} → Sane size (set_of x) → set_of (target w) ≡ set_of x → T (not (eqb (kind_of (target w)) (kind_of x))) → Misses w x
by_kind {size} {w} {x} S u d = forced (λ e g a. raw_off w x a
    (zones_clear S _ _ _ _ _ _ (other _ _ d) (rw u at (stands (target w) (subst (Sane size) (sym u) S) e)) (stands x S g)))
  where
    other : (k l : ℕ) → T (not (eqb k l)) → k ≢ l
    other k l d e = T_not (eqb k l) d (subst T (sym (eq-eqb k l e)) tt)

-- of different records:
module _ {s : Shape} {r k : ℕ} (d : k ≢ r) where
  pub by_record : {i j n : ℕ} {u : Value} → Misses (put s r i u) (cell s k j n)
  unfolding addr real
  by_record {i} {j} {n} {u} = forced (λ e g a. raw_off (put s r i u) (cell s k j n) a
      (clear_records s.records s.width r k i j (length (say u)) n (has_in s r (and_left _ _ e)).low (has_in s k (and_left _ _ g)).low (Ne-symm d)
      (leb-true _ _ (and_right (has s r) _ e)) (leb-true _ _ (and_right (has s k) _ g))))

  pub by_flag : {b : Bool} → Misses (turn s r b) (flag s k)
  unfolding real raw force map_place map_bit
  by_flag {b} = forced (λ e g a. go a (has_in s r e) (has_in s k g) (ℕ_discrete ((k - 1) / 16) ((r - 1) / 16)) (dec_lt (s.map + (r - 1) / 16) (length a)))
    where
      go : (a : Area) → In s r → In s k → Dec ((k - 1) / 16 ≡ (r - 1) / 16) → Dec (s.map + (r - 1) / 16 < length a) → raw (force a (turn s r b)) (flag s k) ≡ raw a (flag s k)
      go a p q (yes e) (yes l) = ap (λ v. v ∷ [])
          (rw (e, get_or-set_same a (s.map + (r - 1) / 16) (turned b (get_or a (s.map + (r - 1) / 16) 0) (15 - (r - 1) % 16)) 0 l)
          (turned_other b (get_or a (s.map + (r - 1) / 16) 0) (15 - (r - 1) % 16) (15 - (k - 1) % 16) (omega arith)))
      go a p q (yes e) (no l) = ap (λ c. bit_of (get_or c (s.map + (k - 1) / 16) 0) (15 - (k - 1) % 16) ∷ []) (set_out a (s.map + (r - 1) / 16) _ (omega arith))
      go a p q (no e) l = ap (λ v. bit_of v (15 - (k - 1) % 16) ∷ []) (get_or-set_other a (s.map + (r - 1) / 16) (s.map + (k - 1) / 16) _ 0 (omega arith))

-- to a spot that the set does not have; to record 0; made only if a test holds (see Writers.by_if):
pub by_nobody : {w : Write} {x : Spot} → real (target w) ≡ false → Misses w x
by_nobody {w} {x} e = record { leaves = λ a. ap (λ b. held b x) (apply_none a w e) }

pub by_zero : {s : Shape} {r i : ℕ} {u : Value} {x : Spot} → r ≡ 0 → Misses (put s r i u) x
unfolding real has
by_zero {s} {r} {i} {u} {x} e = subst (λ k. Misses (put s k i u) x) (sym e) (by_nobody {w = put s 0 i u} refl)

pub by_test : {s : Shape} {r i : ℕ} {u : Value} {x : Spot} (t : Bool) → (t ≡ true → Misses (put s r i u) x) → Misses (put s (cond t r 0) i u) x
unfolding real has
by_test true f = f refl
by_test false f = by_nobody refl

-- of different places in a record, be it the same or another; of the two leading words:
pub by_place : {s : Shape} {r k i j n : ℕ} {u : Value} → Clear i (length (say u)) j n → Misses (put s r i u) (cell s k j n)
unfolding addr
by_place {s} {r} {k} {i} {j} {n} {u} c = go (ℕ_discrete k r)
  where
    go : Dec (k ≡ r) → Misses (put s r i u) (cell s k j n)
    go (yes e) = subst (λ q. Misses (put s r i u) (cell s q j n)) (sym e) (forced (λ _ _ a. raw_off (put s r i u) (cell s r j n) a (clear_fields s.records s.width r i j (length (say u)) n c)))
    go (no d) = by_record d

pub by_lead : {s : Shape} {i j v : ℕ} → i ≢ j → Misses (note s i v) (lead s j)
unfolding addr
by_lead {s} {i} {j} {v} d = forced (λ _ _ a. raw_off (note s i v) (lead s j) a (go (dec_lt i j)))
  where
    go : Dec (i < j) → Clear (addr (lead s i)) 1 (addr (lead s j)) 1
    go (yes h) = inl (omega arith)
    go (no h) = inr (omega arith)

-- ---- a run of writes

-- a spot that none of them touches
pub run_frame : (ws : List Write) (a : Area) (x : Spot) → All (λ w. Misses w x) ws → held (run a ws) x ≡ held a x
unfolding run
run_frame [] a x p = refl
run_frame (w ∷ ws) a x p = p.0.leaves (run a ws) ∙ run_frame ws a x p.1

-- writes to other sets leave all of a set
pub record Kept (t : Shape) (a b : Area) : Type 0 where
  pub keeps : (x : Spot) → set_of x ≡ t → held b x ≡ held a x

pub kept_self : {t : Shape} (a : Area) → Kept t a a
kept_self a = record { keeps = λ x e. refl }

pub kept_then : {t : Shape} {a b c : Area} → Kept t a b → Kept t b c → Kept t a c
kept_then p q = record { keeps = λ x e. q.keeps x e ∙ p.keeps x e }

pub run_kept : (ws : List Write) (a : Area) (t : Shape) → All (λ w. Beside (set_of (target w)) t) ws → Kept t a (run a ws)
unfolding run
run_kept [] a t p = kept_self a
run_kept (w ∷ ws) a t p = kept_then (run_kept ws a t p.1) record { keeps = λ x e. (by_set {w = w} {x = x} (subst (Beside (set_of (target w))) (sym e) p.0)).leaves (run a ws) }
