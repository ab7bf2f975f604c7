-- A word with one bit cleared by a mask is the definition's. Assumes nothing.
use Rattle.std.proofs.Common.{◌≡◌, ℕ, ◌-◌, ◌^◌, ◌<◌, ◌%◌, ◌+◌, min, max, bit_and, arith, w16}
use Rattle.std.proofs.Math.Pow.{pow-lt}
use Rattle.std.proofs.lemmas.Nat.Bits.{same_from_bits_below, bit_at_and, bit_at_or, bit_at_xor, bit_at_not, bit_at-lt}
use Rattle.std.proofs.lemmas.Nat.{or_lt, xor_lt}
use Rattle.std.specs.Int.{bit_at}
use Rattle.std.specs.Int.Bits.{and_lt}
use Rattle.std.specs.Int.RustNames.{bit_or, bit_xor}

cleared_bit : (b c : ℕ) → b < 2 → c < 2 → min b (1 - c) ≡ (max b c + c) % 2
cleared_bit b c h k = omega arith

pub cleared : (w t p : ℕ) → t ≡ 2 ^ p → w < 2 ^ 16 → p < 16 → bit_and w (2 ^ 16 - 1 - t) ≡ bit_xor (bit_or w (2 ^ p)) (2 ^ p)
cleared w t p e h k =
    let m : 2 ^ p < 2 ^ 16 = pow-lt k in
    rw e
    (same_from_bits_below 16 _ _
    (and_lt 16 w (2 ^ 16 - 1 - 2 ^ p) h (omega arith))
    (xor_lt 16 (bit_or w (2 ^ p)) (2 ^ p) (or_lt 16 w (2 ^ p) h m) m)
    (λ i j.
    rw (bit_at_and, bit_at_not w16 (2 ^ p) i m j, bit_at_xor, bit_at_or)
    (cleared_bit (bit_at w i) (bit_at (2 ^ p) i) (bit_at-lt w i) (bit_at-lt (2 ^ p) i))))
