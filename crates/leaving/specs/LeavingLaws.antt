-- What is known of a line that was read on its chain. Assumes nothing.
use Rattle.std.specs.Prelude.{ℕ, ◌≤◌, ◌≡◌, refl, Bool, true, false, List, ltb}
use Rattle.std.proofs.Common.{ltb-true}
use Rattle.spec.specs.declared.Shape.{Shape}
use Rattle.spec.specs.declared.Path.{Path}
use Rattle.spec.specs.declared.Hung.{Hung}
use Rattle.spec.specs.Outcome.{accept}
use Rattle.spec.specs.Area.{check, follow, read_links}
use Rattle.spec.specs.Detail.{head_at, hung}
use Rattle.area.specs.AreaLaws.{Then, then_bind, then_told}
use Rattle.find.specs.FindLaws.{then_after}

-- ---- there is a line to lower the head's count by
then_check : (b : Bool) → Then (λ _. b ≡ true) (check b)
then_check true = refl
then_check false = tt

hung_then : (d : Shape) (p : Path) (a : List ℕ) (k r : ℕ) → Then (λ (g : Hung). 1 ≤ g.head.count) (hung d p a k r)
unfolding hung
hung_then d p a k r =
    then_after _ (head_at d p a k) _ (λ h.
    then_after _ (read_links d a r p.links) _ (λ l.
    then_after _ (follow d a l.back) _ (λ _.
    then_after _ (follow d a l.fore) _ (λ _.
    then_bind _ _ (check (ltb 0 h.count)) _ (then_check (ltb 0 h.count)) (λ _ t. ltb-true 0 h.count t)))))

pub hung_counted : (d : Shape) (p : Path) (a : List ℕ) (k r : ℕ) (g : Hung) → hung d p a k r ≡ accept g → 1 ≤ g.head.count
hung_counted d p a k r g e = then_told _ (hung d p a k r) g (hung_then d p a k r) e
