-- The starts of a good root's sets, one behind the other, and where the last set ends. Assumes nothing.
use Rattle.std.specs.Prelude.{ℕ, ◌≡◌, ◌+◌, ◌*◌, ◌-◌, ◌≤◌, true, refl, List}
use Rattle.std.proofs.Common.{sym, ◌∙◌, ap, arith}
use mir.Syntax.{w32}
use mir.Val.{Fits}
use Rattle.spec.specs.declared.Shape.{Shape}
use Rattle.spec.specs.Words.{total}
use Rattle.spec.specs.Root.{sets, root_good}
use Rattle.spec.specs.Layout.{size_of, start_of, area_length}
use Rattle.root.specs.Sizes.{start_next, shape_end}
use Rattle.layout.specs.Views.{Shaped}
use Rattle.layout.proofs.Good.{sets_some, area_small}

pub start_first : (root : List ℕ) → start_of root 1 ≡ 0
unfolding start_of total
start_first root = refl

pub start_more : (root : List ℕ) (s : ℕ) → 2 ≤ s → start_of root s ≡ start_of root (s - 1) + size_of root (s - 1)
start_more root s h = let z : s - 1 + 1 ≡ s = omega arith in rw z at (start_next root (s - 1) (omega arith))

-- where the last set ends
module _ (root : List ℕ) (n : ℕ) (d : Shape) (good : root_good root ≡ true) (e : n ≡ sets root) (g : Shaped root n d) where
  pub area_ends : d.records + d.cap * d.width ≡ area_length root
  unfolding start_of area_length
  area_ends =
      let a : 1 ≤ sets root = sets_some root good in
      rw g.is (shape_end root n ∙ sym (start_next root n (omega arith)) ∙ ap (λ k. total k (size_of root)) (omega arith))

  pub area_word : Fits w32 (d.records + d.cap * d.width)
  area_word = grind (arith, area_ends, area_small)
