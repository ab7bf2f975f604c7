-- Writes to spots. A step is a literal list of them; a write to a spot that the set does not have does nothing.
use Rattle.std.specs.Prelude.{◌≡◌, refl, List, [], ◌∷◌, Bool, true, false, ℕ, ◌+◌, ◌/◌, ◌%◌, length, get_or, set}
use Rattle.std.proofs.Common.{ap, ◌∙◌, length-set}
use Rattle.std.proofs.lemmas.List.Edits.{sets}
use Rattle.std.proofs.Math.Seq.{length-sets}
use Rattle.spec.specs.declared.Shape.{Shape}
use Rattle.spec.specs.Area.{Area, map_place, map_bit}
use Rattle.history.specs.Walk.{by_bool}
use Rattle.history.specs.Layout.{at}
use Rattle.history.specs.MapBits.{turned}
use Rattle.history.specs.Spots.{Spot, real, lead, flag, cell}

-- what is written into a record: a number of one word, a number of two, or a run of words
pub data Value : Type 0 where
  one : ℕ → Value
  two : ℕ → Value
  many : List ℕ → Value

abbrev pub say : Value → List ℕ
say (one v) = v ∷ []
say (two v) = v / 65536 % 65536 ∷ v % 65536 ∷ []
say (many vs) = vs

-- a value laid into a record from a place on; a leading word; a record's bit
pub data Write : Type 0 where
  put : Shape → ℕ → ℕ → Value → Write
  note : Shape → ℕ → ℕ → Write
  turn : Shape → ℕ → Bool → Write

abbrev pub target : Write → Spot
target (put s r i u) = cell s r i (length (say u))
target (note s i v) = lead s i
target (turn s r b) = flag s r

unfoldable pub force : Area → Write → Area
force a (put s r i u) = sets a (at s.records s.width r i) (say u)
force a (note s i v) = set a (s.start + i) v
force a (turn s r b) = set a (map_place s r) (turned b (get_or a (map_place s r) 0) (map_bit r))

unfoldable pub apply : Area → Write → Area
apply a w = elim (real (target w)) [ true ↦ force a w | false ↦ a ]

pub apply_real : (a : Area) (w : Write) → real (target w) ≡ true → apply a w ≡ force a w
unfolding apply
apply_real a w e = rw (e, apply)

pub apply_none : (a : Area) (w : Write) → real (target w) ≡ false → apply a w ≡ a
unfolding apply
apply_none a w e = rw (e, apply)

force_length : (a : Area) (w : Write) → length (force a w) ≡ length a
unfolding force
force_length a (put s r i u) = length-sets a _ (say u)
force_length a (note s i v) = length-set a _ v
force_length a (turn s r b) = length-set a _ _

pub apply_length : (a : Area) (w : Write) → length (apply a w) ≡ length a
apply_length a w = by_bool (real (target w)) (λ e. ap length (apply_real a w e) ∙ force_length a w) (λ e. ap length (apply_none a w e))

-- ---- a run of writes

-- the list has the last write first, as the definitions nest them
unfoldable pub run : Area → List Write → Area
run a [] = a
run a (w ∷ ws) = apply (run a ws) w

pub run_length : (ws : List Write) (a : Area) → length (run a ws) ≡ length a
unfolding run
run_length [] a = refl
run_length (w ∷ ws) a = apply_length (run a ws) w ∙ run_length ws a
