-- What is known of a head, a pair of links or five synonym words that were read whole. Assumes nothing.
use Rattle.std.specs.Prelude.{ℕ, ◌+◌, ◌≤◌, ◌<◌, ◌≡◌, refl, Bool, true, false, ◌&&◌, not, List, leb, eqb}
use Rattle.std.proofs.Common.{sym, ◌∙◌, subst, leb-true, le-leb}
use Rattle.std.proofs.lemmas.Bool.{eqb-false, lt-leb}
use Rattle.spec.specs.declared.Refusal.TheVariants.{Broken as BrokenLink}
use Rattle.spec.specs.declared.Shape.{Shape}
use Rattle.spec.specs.declared.Head.{Head}
use Rattle.spec.specs.declared.Links.{Links}
use Rattle.spec.specs.Outcome.{Outcome, accept, refuse, ◌>>=◌}
use Rattle.spec.specs.Area.{peek, peek_link, read, read_synonym, read_head, read_links, synonyms, synonym_count}

-- ---- what holds of an outcome's value, if there is one
abbrev pub Then : {A : Type 0} → (A → Type 0) → Outcome A → Type 0
Then P (accept x) = P x
Then P (refuse why) = Unit {0}

pub then_bind :
    {A B : Type 0} (Q : A → Type 0) (P : B → Type 0) (x : Outcome A) (f : A → Outcome B) → Then Q x → ((y : A) → Q y → Then P (f y)) → Then P (x >>= f)
then_bind Q P (accept y) f q h = h y q
then_bind Q P (refuse why) f q h = tt

pub then_told : {A : Type 0} (P : A → Type 0) (o : Outcome A) (y : A) → Then P o → o ≡ accept y → P y
then_told P o y t e = subst (Then P) e t

-- ---- one number
read_case : (b : Bool) (limit n : ℕ) → leb n limit ≡ b → Then (λ m. (m ≡ n) × (m ≤ limit)) (elim b [ true ↦ accept n | false ↦ refuse BrokenLink ])
read_case true limit n e = (refl, leb-true n limit e)
read_case false limit n e = tt

pub read_then : (limit n : ℕ) → Then (λ m. (m ≡ n) × (m ≤ limit)) (read limit n)
unfolding read
read_then limit n = read_case (leb n limit) limit n refl

pub read_good : (limit n : ℕ) → n ≤ limit → read limit n ≡ accept n
unfolding read
read_good limit n h = rw (le-leb n limit h, read)

pub read_bad : (limit n : ℕ) → limit < n → read limit n ≡ refuse BrokenLink
unfolding read
read_bad limit n h = rw (lt-leb n limit h, read)

-- of a link that was tested, with the test's answer
pub synonym_good : (limit r n : ℕ) (b : Bool) → b ≡ (leb n limit && not (eqb n r)) → b ≡ true → read_synonym limit r n ≡ accept n
unfolding read_synonym
synonym_good limit r n b e t = rw (sym e ∙ t, read_synonym)

pub synonym_bad : (limit r n : ℕ) (b : Bool) → b ≡ (leb n limit && not (eqb n r)) → b ≡ false → read_synonym limit r n ≡ refuse BrokenLink
unfolding read_synonym
synonym_bad limit r n b e t = rw (sym e ∙ t, read_synonym)

abbrev pub SynonymLink : ℕ → ℕ → ℕ → ℕ → Type 0
SynonymLink limit r n m = (m ≡ n) × (m ≤ limit) × (m ≡ r → ⊥)

synonym_case :
    (b d : Bool) (limit r n : ℕ) → leb n limit ≡ b → eqb n r ≡ d → Then (SynonymLink limit r n) (elim (b && not d) [ true ↦ accept n | false ↦ refuse BrokenLink ])
synonym_case true false limit r n e k = (refl, leb-true n limit e, eqb-false n r k)
synonym_case true true limit r n e k = tt
synonym_case false d limit r n e k = tt

pub read_synonym_then : (limit r n : ℕ) → Then (SynonymLink limit r n) (read_synonym limit r n)
unfolding read_synonym
read_synonym_then limit r n = synonym_case (leb n limit) (eqb n r) limit r n refl refl

-- ---- a head
module _ (limit : ℕ) (s : Shape) (a : List ℕ) (r at : ℕ) where
  -- its three numbers, and that each is within the detail's capacity
  pub record HeadFits (y : Head) : Type 0 where
    pub count : y.count ≤ limit
    pub back : y.back ≤ limit
    pub fore : y.fore ≤ limit
    pub count_is : y.count ≡ peek s a r at
    pub back_is : y.back ≡ peek_link s a r (at + 1)
    pub fore_is : y.fore ≡ peek_link s a r (at + 3)

  pub read_head_then : Then HeadFits (read_head limit s a r at)
  unfolding read_head
  read_head_then =
      then_bind _ HeadFits (read limit (peek s a r at)) _ (read_then limit (peek s a r at)) (λ c p.
      then_bind _ HeadFits (read limit (peek_link s a r (at + 1))) _ (read_then limit (peek_link s a r (at + 1))) (λ b q.
      then_bind _ HeadFits (read limit (peek_link s a r (at + 3))) _ (read_then limit (peek_link s a r (at + 3))) (λ f t.
      record { count = p.1; back = q.1; fore = t.1; count_is = p.0; back_is = q.0; fore_is = t.0 })))

  pub head_fits : (y : Head) → read_head limit s a r at ≡ accept y → HeadFits y
  head_fits y e = then_told HeadFits (read_head limit s a r at) y read_head_then e

-- ---- a pair of links
module _ (s : Shape) (a : List ℕ) (r at : ℕ) where
  pub record LinksFit (y : Links) : Type 0 where
    pub back : y.back ≤ s.cap
    pub fore : y.fore ≤ s.cap
    pub back_is : y.back ≡ peek_link s a r (at + 0)
    pub fore_is : y.fore ≡ peek_link s a r (at + 2)

  pub read_links_then : Then LinksFit (read_links s a r at)
  unfolding read_links
  read_links_then =
      then_bind _ LinksFit (read s.cap (peek_link s a r (at + 0))) _ (read_then s.cap (peek_link s a r (at + 0))) (λ b q.
      then_bind _ LinksFit (read s.cap (peek_link s a r (at + 2))) _ (read_then s.cap (peek_link s a r (at + 2))) (λ f t.
      record { back = q.1; fore = t.1; back_is = q.0; fore_is = t.0 }))

  pub links_fit : (y : Links) → read_links s a r at ≡ accept y → LinksFit y
  links_fit y e = then_told LinksFit (read_links s a r at) y read_links_then e

-- ---- the five synonym words: within the master's capacity, and no link to its own record
module _ (s : Shape) (a : List ℕ) (r : ℕ) where
  pub record SynonymsFit (y : Head) : Type 0 where
    pub count : y.count ≤ s.cap
    pub back : y.back ≤ s.cap
    pub fore : y.fore ≤ s.cap
    pub back_other : y.back ≡ r → ⊥
    pub fore_other : y.fore ≡ r → ⊥
    pub count_is : y.count ≡ peek s a r 0
    pub back_is : y.back ≡ peek_link s a r 1
    pub fore_is : y.fore ≡ peek_link s a r 3

  pub synonyms_then : Then SynonymsFit (synonyms s a r)
  unfolding synonyms synonym_count
  synonyms_then =
      then_bind _ SynonymsFit (read s.cap (peek s a r 0)) _ (read_then s.cap (peek s a r 0)) (λ c p.
      then_bind _ SynonymsFit (read_synonym s.cap r (peek_link s a r 1)) _ (read_synonym_then s.cap r (peek_link s a r 1)) (λ b q.
      then_bind _ SynonymsFit (read_synonym s.cap r (peek_link s a r 3)) _ (read_synonym_then s.cap r (peek_link s a r 3)) (λ f t.
      record { count = p.1; back = q.1; fore = t.1; back_other = q.2; fore_other = t.2; count_is = p.0; back_is = q.0; fore_is = t.0 })))

  pub synonyms_fit : (y : Head) → synonyms s a r ≡ accept y → SynonymsFit y
  synonyms_fit y e = then_told SynonymsFit (synonyms s a r) y synonyms_then e
