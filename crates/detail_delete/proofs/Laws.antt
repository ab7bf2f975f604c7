-- Laws of a line's delete: what one path's turn overwrites, and the paths in turn. Assumes nothing.
use Rattle.std.specs.Prelude.{ℕ, suc, ◌+◌, ◌-◌, ◌≤◌, ◌<◌, ◌≡◌, refl, Bool, true, false, List}
use Rattle.std.proofs.Common.{sym, ◌∙◌, ap, arith}
use Rattle.spec.specs.declared.Refusal.{Refusal}
use Rattle.spec.specs.declared.Path.{Path}
use Rattle.spec.specs.Outcome.{Outcome, accept, refuse, ◌>>=◌}
use Rattle.spec.specs.Layout.{detail_of}
use Rattle.spec.specs.Area.{Area}
use Rattle.spec.specs.Detail.{delete_paths}
use Rattle.spec.specs.Follow.{goes, stops}
use Rattle.journal.specs.declared.Journal.{Journal}
use Rattle.journal.specs.Journal.{Back}
use Rattle.journal.specs.BackLaws.{back_more}
use Rattle.layout.specs.Views.{Pathed}
use Rattle.detail_delete.specs.Answers.{drop_room, path_room, path_at}

-- ---- a path's turn overwrites at most 173 words
module _ (root : List ℕ) (s i : ℕ) (p : Path) (q : Pathed root s i p) where
  narrow : (b : Bool) → p.to.auto ≡ b → path_room p ≤ 173
  unfolding path_room drop_room
  narrow true t = let l = q.to.narrow t in rw (path_room, drop_room, t) (omega arith)
  narrow false t = rw (path_room, drop_room, t) (omega arith)

  pub at_room : (j j₁ : Journal) → Back j (path_room p) j₁ → Back j 173 j₁
  at_room j j₁ b = back_more 173 (narrow p.to.auto refl) b

-- ---- the paths in turn: what is left of them from path i + 1 on
unfoldable pub Left : List ℕ → ℕ → ℕ → ℕ → ℕ → List ℕ → Outcome Area
Left root s r count i a = delete_paths (detail_of root s) r (count - i) (i + 1) a

module _ (root : List ℕ) (s r count i : ℕ) (a : List ℕ) where
  pub paths_start : delete_paths (detail_of root s) r count 1 a ≡ Left root s r count 0 a
  unfolding Left
  paths_start = ap (λ (n : ℕ). delete_paths (detail_of root s) r n 1 a) (omega arith)

  pub paths_end : count ≤ i → Left root s r count i a ≡ accept a
  unfolding delete_paths Left
  paths_end h = let z : count - i ≡ 0 = omega arith in rw z refl

  module _ (h : i < count) where
    step : Left root s r count i a ≡ (path_at root s (i + 1) a r >>= λ b. Left root s r count (i + 1) b)
    unfolding delete_paths detail_of path_at Left
    step = let z : count - i ≡ suc (count - (i + 1)) = omega arith in rw z refl

    pub paths_next : (a₁ : List ℕ) → accept a₁ ≡ path_at root s (i + 1) a r → Left root s r count i a ≡ Left root s r count (i + 1) a₁
    paths_next a₁ o = step ∙ goes _ (sym o) refl

    pub paths_refused : (why : Refusal) → refuse why ≡ path_at root s (i + 1) a r → Left root s r count i a ≡ refuse why
    paths_refused why o = step ∙ stops _ (sym o)
