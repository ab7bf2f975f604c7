-- What is known of the answers of a master's writing steps, and of the record that a put takes. Assumes nothing.
use Prim.Native.Nat.{ℕ, ◌≤◌}
use Rattle.std.specs.Prelude.{◌≡◌, refl, Bool, true, false, IfOk, List, ltb, eqb}
use Rattle.std.proofs.Common.{sym, ltb-true}
use Rattle.spec.specs.declared.Refusal.{Refusal}
use Rattle.spec.specs.declared.Head.{Head}
use Rattle.spec.specs.declared.Master.{Master}
use Rattle.spec.specs.Outcome.{Outcome, accept, refuse, require}
use Rattle.spec.specs.Area.{Area, live, follow, synonyms, value}
use Rattle.spec.specs.Master.{address, Put, unused_from, join, move_away, displace, put_held, put_entry}
use Rattle.master_put.specs.Answers.{put_out}
use Rattle.area.specs.AreaLaws.{Then, then_bind, then_told}
use Rattle.find.specs.FindLaws.{then_if, then_after, address_low, address_high, unused_fits}

-- ---- the record that a put takes is the primary address or the first unused one
then_require : (b : Bool) (why : Refusal) → Then (λ _. b ≡ true) (require b why)
then_require true why = refl
then_require false why = tt

module _ (P : ℕ → Type 0) (m : Master) (full : Refusal) (a entry : List ℕ) where
  held_then : (h : ℕ) (y : Head) (f : ℕ) → P h → (1 ≤ f → P f) → Then (λ (p : Put). P p.at) (put_held m full a h y f entry)
  unfolding put_held displace join
  held_then h y f p q =
      then_bind _ _ (require (ltb 0 f) full) _ (then_require (ltb 0 f) full) (λ _ t.
      then_if _ (eqb y.count 0) _ _ (then_after _ (move_away m a h y f) _ (λ _. p)) (then_after _ (follow m.shape a _) _ (λ _. q (ltb-true 0 f t))))

  put_then :
      let h : ℕ = address m (value m.key entry) in
      let f : ℕ = unused_from m.shape a m.shape.cap h in
      P h → (1 ≤ f → P f) → Then (λ (p : Put). P p.at) (put_entry m full a entry)
  unfolding put_entry
  put_then p q =
      let h : ℕ = address m (value m.key entry) in
      then_if _ (live m.shape a h) _ _ (then_after _ (synonyms m.shape a h) _ (λ y. held_then h y _ p q)) p

module _ (m : Master) (full : Refusal) (a entry : List ℕ) (t : Put) (e : put_entry m full a entry ≡ accept t) where
  pub put_low : 1 ≤ t.at
  put_low =
      then_told _ (put_entry m full a entry) t (put_then (λ x. 1 ≤ x) m full a entry (address_low m (value m.key entry)) (λ h. h)) e

  pub put_high : 1 ≤ m.shape.cap → t.at ≤ m.shape.cap
  put_high h =
      let l : address m (value m.key entry) ≤ m.shape.cap = address_high m (value m.key entry) h in
      then_told _ (put_entry m full a entry) t
      (put_then (λ x. x ≤ m.shape.cap) m full a entry l (λ _. unused_fits m.shape a h m.shape.cap _ l)) e
