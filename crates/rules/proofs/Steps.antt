-- A loop over 1, .., n: what holds before the first step, and what each step adds. Assumes nothing.
use Rattle.std.specs.Prelude.{ℕ, ◌+◌, ◌-◌, ◌≤◌, ◌≡◌, refl, Bool, true, false, ◌&&◌, ◌||◌}
use Rattle.std.proofs.Common.{zero, suc, arith}
use Rattle.spec.specs.Words.{all, any, total}
use Rattle.root.specs.Ranges.{all_fails}

pub all_none : (f : ℕ → Bool) → all 0 f ≡ true
unfolding all
all_none f = refl

pub all_step : (f : ℕ → Bool) (k : ℕ) → 1 ≤ k → all k f ≡ all (k - 1) f && f k
unfolding all
all_step f zero l = absurd (omega arith)
all_step f (suc k) l = let e : suc k - 1 ≡ k = omega arith in rw e

-- a test that held before step k and fails there fails of all
pub all_ends : (f : ℕ → Bool) (n k : ℕ) → all (k - 1) f ≡ true → f k ≡ false → 1 ≤ k → k ≤ n → all n f ≡ false
all_ends f n k before e l h = all_fails f n k l h e

pub any_none : (f : ℕ → Bool) → any 0 f ≡ false
unfolding any
any_none f = refl

pub any_step : (f : ℕ → Bool) (k : ℕ) → 1 ≤ k → any k f ≡ any (k - 1) f || f k
unfolding any
any_step f zero l = absurd (omega arith)
any_step f (suc k) l = let e : suc k - 1 ≡ k = omega arith in rw e

pub total_none : (f : ℕ → ℕ) → total 0 f ≡ 0
unfolding total
total_none f = refl

pub total_step : (f : ℕ → ℕ) (k : ℕ) → 1 ≤ k → total k f ≡ total (k - 1) f + f k
unfolding total
total_step f zero l = absurd (omega arith)
total_step f (suc k) l = let e : suc k - 1 ≡ k = omega arith in rw e

pub ruleset steps = (all_none, all_step, any_none, any_step, total_none, total_step)
