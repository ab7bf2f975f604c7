-- What is known of a root whose items are good, and what the parts of the judgement come to. Assumes nothing.
use Rattle.std.specs.Prelude.{ℕ, zero, suc, ◌≤◌, ◌≡◌, refl, Bool, true, ◌&&◌, List}
use Rattle.std.proofs.Common.{arith}
use Rattle.spec.specs.Words.{all}
use Rattle.spec.specs.Root.{items, sets, max_paths, item_length, item_good, set_good, set_path_good, leading_good, set_linked}
use Rattle.root.specs.Ranges.{all_at}
use Rattle.root.specs.Good.{length_fits}
use Rattle.rules.specs.Rules.{set_judged}

-- "X: 1..32": no item is longer
pub short : (root : List ℕ) (x : ℕ) → all (items root) (item_good root) ≡ true → 1 ≤ x → x ≤ items root → item_length root x ≤ 32
short root x good l h = (length_fits root x (all_at (item_good root) (items root) x good l h)).1

-- each set by itself with its paths, and then by the paths that lead to it
one_more : (w x y z a b c : Bool) → w && x ≡ y && z → (w && a) && (x && (b && c)) ≡ (y && (a && b)) && (z && c)
one_more w x y z a b c e = grind arith

parted : (good paths led : ℕ → Bool) (n : ℕ) → all n good && all n (λ s. paths s && led s) ≡ all n (λ s. good s && paths s) && all n led
unfolding all
parted good paths led zero = refl
parted good paths led (suc n) =
    one_more (all n good) (all n (λ s. paths s && led s)) (all n (λ s. good s && paths s)) (all n led) (good (suc n)) (paths (suc n)) (led (suc n))
    (parted good paths led n)

pub root_rules :
    (root : List ℕ) → all (sets root) (set_good root) && all (sets root) (set_linked root) ≡ all (sets root) (set_judged root) && all (sets root) (leading_good root)
unfolding set_judged set_linked
root_rules root = parted (set_good root) (λ s. all max_paths (set_path_good root s)) (leading_good root) (sets root)
