-- Laws of an update of a detail: the items that it keeps. Assumes nothing.
use Rattle.std.specs.Prelude.{Option, Some, None, ℕ, zero, suc, ◌+◌, ◌-◌, ◌<◌, ◌≡◌, refl, Bool, true, false, ◌&&◌, List}
use Rattle.std.proofs.Common.{sym, ◌∙◌, ap, arith, add-one, eq-eqb, ne_eqb}
use native.Mathlib.Numerals.{unary_clauses}
use Rattle.spec.specs.declared.Shape.{Shape}
use Rattle.spec.specs.declared.Field.{Field}
use Rattle.spec.specs.Root.{path_sort}
use Rattle.spec.specs.Layout.{detail_of, shape_of, path_of, sort_of}
use Rattle.spec.specs.Words.{same}
use Rattle.spec.specs.Area.{value_at, peek_part}
use Rattle.spec.specs.Calls.{keeps, keeps_paths}
use Rattle.spec.specs.Follow.{taken, other}
use Rattle.layout.specs.Views.{Sorted}

-- ---- the items that an update keeps
module _ (root : List ℕ) (s p : ℕ) (o : Option Field) (g : Sorted root s p o) where
  pub no_sort : (d : Shape) (a : List ℕ) (r : ℕ) (entry : List ℕ) → o ≡ None → keeps d a r entry (sort_of root s p) ≡ true
  unfolding sort_of keeps value_at peek_part same
  no_sort d a r entry z = let h : path_sort root s p ≡ 0 = rw z at g in ap (λ (f : Field). keeps d a r entry f) (taken _ _ (eq-eqb (path_sort root s p) 0 h) refl)

  pub sort_is : (f : Field) → o ≡ Some f → sort_of root s p ≡ f
  unfolding sort_of
  sort_is f z = let h = rw z at g in other _ _ (ne_eqb (path_sort root s p) 0 (λ y. omega arith)) (sym h.0)

-- ---- the loop over the paths
module _ (root : List ℕ) (s : ℕ) (a : List ℕ) (r : ℕ) (entry : List ℕ) where
  abbrev kept_to : ℕ → Bool
  kept_to n = keeps_paths (detail_of root s) a r entry n

  abbrev kept_at : ℕ → Bool
  kept_at p = keeps (shape_of root s) a r entry (path_of root s p).search && keeps (shape_of root s) a r entry (path_of root s p).sort

  regroup : (x y z : Bool) → ((x && y) && z) ≡ (x && (y && z))
  regroup true y z = refl
  regroup false y z = refl

  at_path : (p : ℕ) → kept_to (p + 1) ≡ (kept_to p && kept_at (p + 1))
  unfolding keeps_paths detail_of
  at_path p = rw add-one (regroup (kept_to p) _ _)

  pub kept_next : (p : ℕ) → kept_to p ≡ true → true ≡ kept_at (p + 1) → kept_to (p + 1) ≡ true
  kept_next p k t = rw (at_path p, k) (sym t)

  -- where it fails at one path, it fails
  fails_on : (n k : ℕ) → kept_to k ≡ false → kept_to (k + n) ≡ false
  unfolding keeps_paths
  fails_on zero k t = simp unary_clauses t
  fails_on (suc n) k t = simp unary_clauses (rw (fails_on n k t) refl)

  not_last : (x y : Bool) → false ≡ y → (x && y) ≡ false
  not_last true y t = sym t
  not_last false y t = refl

  pub kept_not : (n p : ℕ) → false ≡ kept_at (p + 1) → p < n → false ≡ kept_to n
  kept_not n p t h =
      let z : p + 1 + (n - (p + 1)) ≡ n = omega arith in
      rw z at (sym (fails_on (n - (p + 1)) (p + 1) (at_path p ∙ not_last (kept_to p) _ t)))
