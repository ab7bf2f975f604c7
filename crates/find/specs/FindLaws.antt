-- What is known of a master's readings and of their answers. Assumes nothing.
use Prim.Native.Nat.{ℕ, zero, suc, ◌+◌, ◌-◌, ◌%◌, ◌≤◌, ◌<◌}
use Rattle.std.specs.Prelude.{◌≡◌, refl, Bool, true, false, cond, not, ◌||◌, List, ltb, eqb}
use Rattle.std.proofs.Common.{sym, ◌∙◌, mod-lt, ltb-true, ne_eqb}
use native.Mathlib.Omega.{arith}
use Rattle.spec.specs.declared.Refusal.TheVariants.{Broken as BrokenLink}
use Rattle.spec.specs.declared.Shape.{Shape}
use Rattle.spec.specs.declared.Lowered.{Lowered}
use Rattle.spec.specs.declared.Master.{Master}
use Rattle.spec.specs.Outcome.{Outcome, accept, refuse, ◌>>=◌}
use Rattle.spec.specs.Words.{same}
use Rattle.spec.specs.Area.{live, check, follow, synonyms}
use Rattle.spec.specs.Master.{address_in, address, key_at, primary_of, find_along, find_primary, find_key, next_up, unused_from, lowered}
use Rattle.area.specs.AreaLaws.{Then, then_bind, then_told, synonyms_then}

-- ---- a link followed, with the answer of its test, and of `live` for one that is not 0
module _ (s : Shape) (a : List ℕ) (r : ℕ) (b : Bool) where
  module _ (e : b ≡ (eqb r 0 || live s a r)) where
    pub followed : b ≡ true → follow s a r ≡ accept tt
    unfolding follow
    followed t = rw (sym e ∙ t)

    pub unfollowed : b ≡ false → follow s a r ≡ refuse BrokenLink
    unfolding follow
    unfollowed t = rw (sym e ∙ t)

  module _ (n : r ≡ 0 → ⊥) (e : b ≡ live s a r) where
    led : b ≡ (eqb r 0 || live s a r)
    led = rw (ne_eqb r 0 n) e

    pub follow_live : b ≡ true → follow s a r ≡ accept tt
    follow_live = followed led

    pub follow_unused : b ≡ false → follow s a r ≡ refuse BrokenLink
    follow_unused = unfollowed led

-- ---- the primary address is a record of the master
module _ (cap x : ℕ) where
  pub wrapped_low : 1 ≤ x % cap + 1
  wrapped_low = omega arith

  pub wrapped_high : 1 ≤ cap → x % cap + 1 ≤ cap
  wrapped_high h = let l : x % cap < cap = mod-lt x h in omega arith

module _ (m : Master) (key : List ℕ) where
  pub address_low : 1 ≤ address m key
  unfolding address address_in
  address_low = wrapped_low m.shape.cap _

  pub address_high : 1 ≤ m.shape.cap → address m key ≤ m.shape.cap
  unfolding address address_in
  address_high = wrapped_high m.shape.cap _

-- ---- what holds of an outcome's value, by cases of a test
pub then_if : {A : Type 0} (P : A → Type 0) (b : Bool) (x y : Outcome A) → Then P x → Then P y → Then P (elim b [ true ↦ x | false ↦ y ])
then_if P true x y p q = p
then_if P false x y p q = q

-- after a line whose value is not used
pub then_after :
    {A B : Type 0} (P : B → Type 0) (x : Outcome A) (f : A → Outcome B) → ((y : A) → Then P (f y)) → Then P (x >>= f)
then_after P (accept y) f h = h y
then_after P (refuse why) f h = tt

-- ---- a secondary's primary
pub primary_then : (m : Master) (a : List ℕ) (r : ℕ) → Then (λ p. 1 ≤ p) (primary_of m a r)
unfolding primary_of
primary_then m a r =
    then_after _ (check (not (eqb (address m (key_at m a r)) r))) _ (λ _.
    then_after _ (follow m.shape a (address m (key_at m a r))) _ (λ _. address_low m (key_at m a r)))

pub lowered_then : (m : Master) (a : List ℕ) (r : ℕ) → Then (λ q. 1 ≤ q.at) (lowered m a r)
unfolding lowered
lowered_then m a r =
    then_bind _ _ (primary_of m a r) _ (primary_then m a r) (λ p h.
    then_after _ (synonyms m.shape a p) _ (λ z. then_after _ (check (ltb 0 z.count)) _ (λ _. h)))

pub lowered_low : (m : Master) (a : List ℕ) (r : ℕ) (q : Lowered) → lowered m a r ≡ accept q → 1 ≤ q.at
lowered_low m a r q e = then_told _ (lowered m a r) q (lowered_then m a r) e

-- ---- the record that find gives is one of the master's, or 0
module _ (m : Master) (a key : List ℕ) where
  pub along_then : (n r : ℕ) → r ≤ m.shape.cap → Then (λ x. x ≤ m.shape.cap) (find_along m a key n r)
  unfolding find_along
  along_then zero r h = then_if _ (eqb r 0) _ _ (omega arith) tt
  along_then (suc n) r h =
      then_if _ (eqb r 0) _ _ (omega arith)
      (then_after _ (follow m.shape a r) _ (λ _.
      then_if _ (same (key_at m a r) key) _ _ h
      (then_bind _ _ (synonyms m.shape a r) _ (synonyms_then m.shape a r) (λ y f. along_then n y.fore f.fore))))

  pub find_then : 1 ≤ m.shape.cap → Then (λ x. x ≤ m.shape.cap) (find_key m a key)
  unfolding find_key find_primary
  find_then h =
      let r : ℕ = address m key in
      then_if _ (live m.shape a r) _ _
      (then_bind _ _ (synonyms m.shape a r) _ (synonyms_then m.shape a r) (λ y f.
      then_if _ (eqb y.count 0) _ _ (omega arith)
      (then_if _ (same (key_at m a r) key) _ _ (address_high m key h) (along_then (m.shape.cap - 1) y.fore f.fore))))
      (omega arith)

  pub find_fits : (r : ℕ) → 1 ≤ m.shape.cap → find_key m a key ≡ accept r → r ≤ m.shape.cap
  find_fits r h e = then_told _ (find_key m a key) r (find_then h) e

-- ---- the first unused record is one of the master's, or 0
up_fits : (b : Bool) (cap r : ℕ) → 1 ≤ cap → ltb r cap ≡ b → cond b (r + 1) 1 ≤ cap
up_fits true cap r h e = let l : r < cap = ltb-true r cap e in omega arith
up_fits false cap r h e = h

module _ (s : Shape) (a : List ℕ) (h : 1 ≤ s.cap) where
  unused_case : (b : Bool) (x y : ℕ) → x ≤ s.cap → y ≤ s.cap → elim b as (λ _. ℕ) [ true ↦ x | false ↦ y ] ≤ s.cap
  unused_case true x y p q = p
  unused_case false x y p q = q

  pub unused_fits : (n r : ℕ) → r ≤ s.cap → unused_from s a n r ≤ s.cap
  unfolding unused_from
  unused_fits zero r k = omega arith
  unused_fits (suc n) r k = unused_case (live s a r) _ _ (unused_fits n (next_up s.cap r) (up_fits (ltb r s.cap) s.cap r h refl)) k
