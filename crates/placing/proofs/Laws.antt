-- Laws of the walk back along a sorted chain: each way out of it, and each turn; and the journal's room for a path's turn.
-- Assumes nothing.
use Rattle.std.specs.Prelude.{ℕ, suc, zero, ◌+◌, ◌-◌, ◌≤◌, ◌<◌, ◌≡◌, refl, Bool, true, false, List, Option, Some, None, length, take, drop}
use Rattle.std.proofs.Common.{sym, ◌∙◌, arith, eq-eqb, ne_eqb, length-take}
use Rattle.spec.specs.declared.Refusal.{Refusal}
use Rattle.spec.specs.declared.Refusal.TheVariants.{Broken}
use Rattle.spec.specs.declared.Shape.{Shape}
use Rattle.spec.specs.declared.Links.{Links}
use Rattle.spec.specs.declared.Path.{Path}
use Rattle.spec.specs.declared.Spot.{Spot}
use Rattle.spec.specs.Outcome.{Outcome, accept, refuse, ◌>>=◌}
use Rattle.spec.specs.Words.{greater}
use Rattle.spec.specs.Area.{value_at, follow, read_links}
use Rattle.spec.specs.Detail.{pass}
use Rattle.spec.specs.Follow.{goes, stops, taken, other}
use Rattle.journal.specs.declared.Journal.{Journal}
use Rattle.journal.specs.Journal.{Back}
use Rattle.journal.specs.BackLaws.{back_none, back_then, back_more}
use Rattle.placing.specs.Answers.{looked, entry_room, path_room}

-- the walk goes on where a line is passed, and stands where it is not
goes_on : (ℕ → Outcome Spot) → Spot → Option ℕ → Outcome Spot
goes_on f t (Some b) = f b
goes_on f t None = accept t

same_look :
    (o : Outcome (Unit {0})) (g : Bool) (l : Outcome Links) (f : ℕ → Outcome Spot) (t : Spot) →
    (o >>= λ _. elim g as (λ _. Outcome Spot) [ true ↦ (l >>= λ x. f x.back) | false ↦ accept t ])
    ≡ ((o >>= λ _. elim g as (λ _. Outcome (Option ℕ)) [ true ↦ (l >>= λ x. accept (Some x.back)) | false ↦ accept None ]) >>= goes_on f t)
unfolding goes_on
same_look (refuse why) g l f t = refl
same_look (accept u) false l f t = refl
same_look (accept u) true (refuse why) f t = refl
same_look (accept u) true (accept x) f t = refl

module _ (d : Shape) (p : Path) (a v : List ℕ) where
  pass_end : (n : ℕ) (t : Spot) → t.behind ≡ 0 → pass d p a v n t ≡ accept t
  unfolding pass
  pass_end zero t e = taken _ _ (eq-eqb t.behind 0 e) refl
  pass_end (suc n) t e = taken _ _ (eq-eqb t.behind 0 e) refl

-- the rest of the walk: c of n lines were passed, and it stands at the spot t
module _ (d : Shape) (p : Path) (a v : List ℕ) (n c : ℕ) (t : Spot) where
  pub walk_end : t.behind ≡ 0 → pass d p a v (n - c) t ≡ accept t
  walk_end e = pass_end d p a v (n - c) t e

  module _ (e : t.behind ≡ 0 → ⊥) where
    pub walk_long : n ≤ c → pass d p a v (n - c) t ≡ refuse Broken
    unfolding pass
    walk_long h = let z : n - c ≡ 0 = omega arith in rw z (other _ _ (ne_eqb t.behind 0 e) refl)

    module _ (h : c < n) where
      step : pass d p a v (n - c) t ≡ (looked d p a v t.behind >>= goes_on (λ b. pass d p a v (n - (c + 1)) (record { behind = b; ahead = t.behind; passed = t.passed + 1 })) t)
      unfolding pass looked
      step =
          let z : n - c ≡ suc (n - (c + 1)) = omega arith in
          rw z (other _ _ (ne_eqb t.behind 0 e) (same_look (follow d a t.behind) (greater (value_at d p.sort a t.behind) v) (read_links d a t.behind p.links) _ t))

      pub walk_lost : (why : Refusal) → refuse why ≡ looked d p a v t.behind → pass d p a v (n - c) t ≡ refuse why
      walk_lost why o = step ∙ stops _ (sym o)

      module _ (o : Option ℕ) (g : accept o ≡ looked d p a v t.behind) where
        pub walk_stands : o ≡ None → pass d p a v (n - c) t ≡ accept t
        unfolding goes_on
        walk_stands z = step ∙ goes _ (sym g) (rw z refl)

        pub walk_passes :
            (b : ℕ) → o ≡ Some b → pass d p a v (n - c) t ≡ pass d p a v (n - (c + 1)) (record { behind = b; ahead = t.behind; passed = t.passed + 1 })
        unfolding goes_on
        walk_passes b z = step ∙ goes _ (sym g) (rw z refl)

-- ---- the journal's room for a path's turn
room_grows : (p : Path) (k : ℕ) → k ≤ p.search.size → (b : Bool) → p.to.auto ≡ b → entry_room p k ≤ entry_room p p.search.size
unfolding entry_room
room_grows p k h true t = rw (t, entry_room) (omega arith)
room_grows p k h false t = rw (t, entry_room) (omega arith)

module _ (p : Path) (entry key : List ℕ) (j j₁ : Journal) (e : key ≡ take p.search.size (drop p.search.at entry))
    (q : Back j (entry_room p (length key)) j₁) where
  pub room_turn : (j₂ : Journal) → Back j₁ 13 j₂ → Back j (path_room p) j₂
  unfolding path_room
  room_turn j₂ t =
      let l : length key ≤ p.search.size = rw e (simp length-take (omega arith)) in
      let z : entry_room p (length key) ≤ entry_room p p.search.size = room_grows p (length key) l p.to.auto refl in
      back_more _ (omega arith) (back_then q t)

  pub room_refused : Back j (path_room p) j₁
  room_refused = room_turn j₁ (back_none j₁ 13)
