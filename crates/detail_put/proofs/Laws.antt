-- Laws of a line's put: what one path's turn overwrites, and the paths in turn. Assumes nothing.
use Rattle.std.specs.Prelude.{ℕ, suc, ◌+◌, ◌-◌, ◌≤◌, ◌<◌, ◌≡◌, refl, Bool, true, false, List, set}
use Rattle.std.proofs.Common.{sym, ◌∙◌, ap, arith}
use Rattle.spec.specs.declared.Refusal.{Refusal}
use Rattle.spec.specs.declared.Path.{Path}
use Rattle.spec.specs.Outcome.{Outcome, accept, refuse, ◌>>=◌}
use Rattle.spec.specs.Layout.{detail_of}
use Rattle.spec.specs.Detail.{Lined, put_paths}
use Rattle.spec.specs.Follow.{goes, stops}
use Rattle.journal.specs.declared.Journal.{Journal}
use Rattle.journal.specs.Journal.{Back}
use Rattle.journal.specs.BackLaws.{back_more}
use Rattle.layout.specs.Views.{Pathed}
use Rattle.placing.specs.Answers.{entry_room, path_room}
use Rattle.detail_put.specs.Answers.{path_at}

-- ---- a path's turn overwrites at most 173 words
module _ (root : List ℕ) (s i : ℕ) (p : Path) (q : Pathed root s i p) where
  narrow : (b : Bool) → p.to.auto ≡ b → path_room p ≤ 173
  unfolding path_room entry_room
  narrow true t =
      let l = q.to.narrow t in
      let k = q.to.key_in in
      let w = q.to.shaped.parts in
      let z = q.same_size in
      rw (path_room, entry_room, t) (omega arith)
  narrow false t = rw (path_room, entry_room, t) (omega arith)

  pub at_room : (j j₁ : Journal) → Back j (path_room p) j₁ → Back j 173 j₁
  at_room j j₁ b = back_more 173 (narrow p.to.auto refl) b

-- ---- the paths in turn: what is left of them from path i + 1 on
unfoldable pub Left : List ℕ → ℕ → List ℕ → ℕ → ℕ → ℕ → List ℕ → List ℕ → Outcome Lined
Left root s entry r count i a ks = put_paths (detail_of root s) entry r (count - i) (i + 1) (record { area = a; passed = ks })

module _ (root : List ℕ) (s : ℕ) (entry : List ℕ) (r count i : ℕ) (a ks : List ℕ) where
  pub paths_start : put_paths (detail_of root s) entry r count 1 (record { area = a; passed = ks }) ≡ Left root s entry r count 0 a ks
  unfolding Left
  paths_start = ap (λ (n : ℕ). put_paths (detail_of root s) entry r n 1 (record { area = a; passed = ks })) (omega arith)

  pub paths_end : count ≤ i → Left root s entry r count i a ks ≡ accept (record { area = a; passed = ks })
  unfolding put_paths Left
  paths_end h = let z : count - i ≡ 0 = omega arith in rw z refl

  module _ (h : i < count) where
    step : Left root s entry r count i a ks ≡ (path_at root s (i + 1) a r entry >>= λ t. Left root s entry r count (i + 1) t.area (set ks i t.passed))
    unfolding put_paths detail_of path_at Left
    step = let z : count - i ≡ suc (count - (i + 1)) = omega arith in let y : i + 1 - 1 ≡ i = omega arith in rw (z, y) refl

    pub paths_next :
        (a₁ : List ℕ) (k : ℕ) → accept (record { area = a₁; passed = k }) ≡ path_at root s (i + 1) a r entry →
        Left root s entry r count i a ks ≡ Left root s entry r count (i + 1) a₁ (set ks i k)
    paths_next a₁ k o = step ∙ goes _ (sym o) refl

    pub paths_refused : (why : Refusal) → refuse why ≡ path_at root s (i + 1) a r entry → Left root s entry r count i a ks ≡ refuse why
    paths_refused why o = step ∙ stops _ (sym o)
