-- An item's bit that is set or cleared reads so, and every other bit reads as before. Assumes nothing.
use Prim.Native.Nat.{ℕ, zero, suc, ◌+◌, ◌*◌, ◌/◌, ◌%◌, ◌^◌, ◌≤◌, ◌<◌, ◌-◌}
use mathlib.Core.Path.{◌≡◌, refl, sym, ◌∙◌, ap}
use mathlib.Core.Bool.{true, false, ◌&&◌, ◌||◌, not}
use mathlib.Core.Logic.{dite}
use native.Mathlib.Decide.{dec_lt}
use native.Mathlib.Nat.{div-eq_of_lt, one-mul, zero-div}
use native.Mathlib.Omega.{arith}
use lib.Bits.{bit_or, bit_xor, or_shr, or_mod, xor_shr, xor_mod, or_zero_r, xor_zero_r, shifted_even}
use lib.Pow.{shl_exact, shl-shr, pow-add, pow-lt}
use lib.Dec.{eqb}
use Rattle.std.proofs.lemmas.Bool.Decides.{nat_tests}
use Rattle.rules.specs.Rules.{held}

bit : ℕ → ℕ → ℕ
bit w p = w / 2 ^ p % 2

or_bit : (a b p : ℕ) → bit (bit_or a b) p ≡ bit_or (bit a p) (bit b p)
unfolding bit
or_bit a b p = ap (λ (x : ℕ). x % 2) (or_shr a b p) ∙ or_mod (a / 2 ^ p) (b / 2 ^ p) 1

xor_bit : (a b p : ℕ) → bit (bit_xor a b) p ≡ bit_xor (bit a p) (bit b p)
unfolding bit
xor_bit a b p = ap (λ (x : ℕ). x % 2) (xor_shr a b p) ∙ xor_mod (a / 2 ^ p) (b / 2 ^ p) 1

bit_lt : (w p : ℕ) → bit w p < 2
unfolding bit
bit_lt w p = omega arith

-- the one bit of a power
power_same : (p : ℕ) → bit (2 ^ p) p ≡ 1
unfolding bit
power_same p = ap (λ (x : ℕ). x / 2 ^ p % 2) (sym (one-mul (2 ^ p))) ∙ ap (λ (x : ℕ). x % 2) (shl-shr 1 p)

power_low : (q d : ℕ) → bit (2 ^ (suc d + q)) q ≡ 0
unfolding bit
power_low q d =
    ap (λ (x : ℕ). x / 2 ^ q % 2) (pow-add 2 (suc d) q) ∙ ap (λ (x : ℕ). x % 2) (shl-shr (2 ^ suc d) q)
    ∙ ap (λ (x : ℕ). x % 2) (sym (one-mul (2 ^ suc d))) ∙ shifted_even 1 d

power_high : (p q : ℕ) → p < q → bit (2 ^ p) q ≡ 0
unfolding bit
power_high p q h = ap (λ (x : ℕ). x % 2) (div-eq_of_lt (pow-lt h))

power_other : (p q : ℕ) → (p ≡ q → ⊥) → bit (2 ^ p) q ≡ 0
power_other p q h =
    dite (dec_lt p q) (λ l. power_high p q l)
    (λ l.
    let e : p ≡ suc (p - q - 1) + q = omega arith in
    ap (λ (x : ℕ). bit (2 ^ x) q) e ∙ power_low q (p - q - 1))

or_one : (b : ℕ) → b < 2 → bit_or b 1 ≡ 1
or_one zero h = refl
or_one (suc zero) h = refl
or_one (suc (suc b)) h = absurd (omega arith)

with_same : (w p : ℕ) → bit (bit_or w (2 ^ p)) p ≡ 1
with_same w p = or_bit w (2 ^ p) p ∙ ap (bit_or (bit w p)) (power_same p) ∙ or_one (bit w p) (bit_lt w p)

with_other : (w p q : ℕ) → (p ≡ q → ⊥) → bit (bit_or w (2 ^ p)) q ≡ bit w q
with_other w p q h = or_bit w (2 ^ p) q ∙ ap (bit_or (bit w q)) (power_other p q h) ∙ or_zero_r (bit w q)

without_same : (w p : ℕ) → bit w p ≡ 1 → bit (bit_xor w (2 ^ p)) p ≡ 0
without_same w p e = xor_bit w (2 ^ p) p ∙ ap (bit_xor (bit w p)) (power_same p) ∙ ap (λ (x : ℕ). bit_xor x 1) e

without_other : (w p q : ℕ) → (p ≡ q → ⊥) → bit (bit_xor w (2 ^ p)) q ≡ bit w q
without_other w p q h = xor_bit w (2 ^ p) q ∙ ap (bit_xor (bit w q)) (power_other p q h) ∙ xor_zero_r (bit w q)

-- ---- the laws of a held item
pub held_none : (i : ℕ) → held 0 i ≡ false
unfolding held
held_none i = grind (arith, nat_tests, zero-div (2 ^ (i - 1)))

pub held_with : (w x i : ℕ) → 1 ≤ x → x ≤ 64 → held (bit_or w (2 ^ (x - 1))) i ≡ held w i || eqb x i
unfolding held bit
held_with w x i h k = grind (arith, nat_tests, with_same w (x - 1), with_other w (x - 1) (i - 1))

pub held_without : (w x i : ℕ) → held w x ≡ true → held (bit_xor w (2 ^ (x - 1))) i ≡ held w i && not (eqb x i)
unfolding held bit
held_without w x i e = grind (arith, nat_tests, without_same w (x - 1), without_other w (x - 1) (i - 1))

-- one, shifted by less than a word of 64
pub one_bit : (i : ℕ) → 1 ≤ i → i ≤ 64 → 1 * 2 ^ (i - 1) % 18446744073709551616 ≡ 2 ^ (i - 1)
one_bit i l h = shl_exact 1 (i - 1) 64 (omega arith) (omega arith) ∙ one-mul (2 ^ (i - 1))
