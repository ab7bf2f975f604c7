-- The shapes of sets in the area, which two of them share no word, and the records and words that a set has.
use Rattle.std.specs.Prelude.{◌≡◌, ◌⊎◌, Bool, true, ◌&&◌, ℕ, ◌+◌, ◌*◌, ◌/◌, ◌≤◌, leb}
use Rattle.std.proofs.Common.{inl, inr, leb-true, le-leb}
use Rattle.spec.specs.declared.Shape.{Shape}
use Rattle.history.specs.Ranges.{and_left, and_right, and_both}

-- what is known of a shape in an area of this size
pub record Sane (size : ℕ) (s : Shape) : Type 0 where
  pub map_at : s.map ≡ s.start + 2
  pub records_at : s.records ≡ s.map + (s.cap + 15) / 16
  pub inside : s.records + s.cap * s.width ≤ size
  pub filled : s.width ≡ s.front + s.entry
  pub some : 1 ≤ s.entry
  pub cap_low : 1 ≤ s.cap
  pub cap_high : s.cap ≤ 4095

-- two sets that share no word
pub record Beside (s t : Shape) : Type 0 where
  pub size : ℕ
  pub this : Sane size s
  pub that : Sane size t
  pub clear : (s.records + s.cap * s.width ≤ t.start) ⊎ (t.records + t.cap * t.width ≤ s.start)

pub beside_sym : {s t : Shape} → Beside s t → Beside t s
beside_sym {s} {t} b = record { size = b.size; this = b.that; that = b.this; clear = go b.clear }
  where
    go : (s.records + s.cap * s.width ≤ t.start) ⊎ (t.records + t.cap * t.width ≤ s.start) → (t.records + t.cap * t.width ≤ s.start) ⊎ (s.records + s.cap * s.width ≤ t.start)
    go (inl h) = inr h
    go (inr h) = inl h

-- a record that the set has; a run of words that its records have
pub record In (s : Shape) (r : ℕ) : Type 0 where
  pub low : 1 ≤ r
  pub high : r ≤ s.cap

unfoldable pub has : Shape → ℕ → Bool
has s r = leb 1 r && leb r s.cap

pub has_in : (s : Shape) (r : ℕ) → has s r ≡ true → In s r
unfolding has
has_in s r e = record { low = leb-true 1 r (and_left _ _ e); high = leb-true r s.cap (and_right (leb 1 r) _ e) }

pub in_has : (s : Shape) (r : ℕ) → In s r → has s r ≡ true
unfolding has
in_has s r h = and_both _ _ (le-leb 1 r h.low) (le-leb r s.cap h.high)

-- a run of words that the records of a set have
pub record Fit (s : Shape) (r i n : ℕ) : Type 0 where
  pub row : In s r
  pub wide : i + n ≤ s.width

-- the same of a neighbour, which may be 0 for none
pub record Near (s : Shape) (r i n : ℕ) : Type 0 where
  pub high : r ≤ s.cap
  pub wide : i + n ≤ s.width
