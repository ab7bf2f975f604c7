-- The middle of a put: the record is taken and not live yet, the new line is on the chains of some paths of its set and not on the others', and all else of the base is
-- right.
use Rattle.std.specs.Prelude.{◌≡◌, ◌≢◌, ◌⊎◌, List, ◌∷◌, Bool, true, false, ◌&&◌, ℕ, ◌+◌, ◌*◌, ◌≤◌, ◌<◌, length}
use Rattle.std.proofs.Math.Path.{refl}
use Rattle.std.proofs.Common.{sym, ap, ◌∙◌, inl, inr, arith, eqb-true, eq-eqb, ne_eqb, lt-ltb, le-ltb}
use Rattle.std.proofs.Math.Logic.{dite}
use Rattle.std.proofs.Math.Decide.{ℕ_discrete, dec_lt}
use Rattle.std.proofs.Math.Dec.{eqb, ltb}
use Rattle.spec.specs.Root.{kind, automatic, detail, root_good}
use Rattle.spec.specs.Layout.{area_length, shape_of, master_of, path_of}
use Rattle.spec.specs.Area.{Area}
use Rattle.spec.specs.Follow.{taken, other}
use Rattle.history.specs.Ranges.{and_both}
use Rattle.history.specs.Spots.{val, alive, cell}
use Rattle.history.specs.Good.{Set, Way, DetailSet, MasterSet, detail_set, master_set}
use Rattle.history.specs.MasterInv.{MasterInv}
use Rattle.history.specs.PathLines.{PLine, line_of, On, Tie}
use Rattle.history.specs.PathFrame.{Still}
use Rattle.history.specs.FreeInv.{FreeInv}
use Rattle.history.specs.Base.{Lines, IsSet, IsPath, Used, lines_put}

-- ---- a set and a path, as the facts about a good root ask for them

pub as_set : {root : List ℕ} {s : ℕ} → IsSet root s → Set root s
as_set S = record { low = S.low; high = S.high }

pub as_way : {root : List ℕ} {s p : ℕ} → IsPath root s p → Way root s p
as_way P = record { low = P.low; high = P.high }

module _ (root : List ℕ) (g : root_good root ≡ true) where
  pub as_detail : (s : ℕ) → IsSet root s → detail (kind root s) ≡ true → DetailSet root s
  as_detail s S e = detail_set root g s (as_set S) e

  pub as_master : (s : ℕ) → IsSet root s → detail (kind root s) ≡ false → MasterSet root s
  as_master s S e = master_set root g s (as_set S) e

-- an automatic set is no detail
pub auto_detail : (root : List ℕ) (m s : ℕ) → automatic (kind root m) ≡ true → detail (kind root s) ≡ true → m ≢ s
auto_detail root m s e f z = omega (arith, eqb-true (kind root m) 2 e, eqb-true (kind root s) 3 f, ap (kind root) z)

-- ---- the lines, with the new one on the paths of set s before path i

and_none : (t : Bool) → (t && false) ≡ false
and_none true = refl
and_none false = refl

unfoldable pub lines_to : List ℕ → Lines → ℕ → List ℕ → ℕ → ℕ → ℕ → ℕ → List PLine
lines_to root L s entry r i t q = elim (eqb t s && ltb q i) [ true ↦ line_of (path_of root t q) entry r ∷ L t q | false ↦ L t q ]

module _ (root : List ℕ) (L : Lines) (s : ℕ) (entry : List ℕ) (r : ℕ) where
  -- a path that has it, one that comes later, and one of another set
  pub lines_done : (i q : ℕ) → q < i → lines_to root L s entry r i s q ≡ line_of (path_of root s q) entry r ∷ L s q
  unfolding lines_to
  lines_done i q h = taken _ _ (and_both _ _ (eq-eqb s s refl) (lt-ltb q i h)) refl

  pub lines_todo : (i q : ℕ) → i ≤ q → lines_to root L s entry r i s q ≡ L s q
  unfolding lines_to
  lines_todo i q h = other _ _ (ap (λ x. eqb s s && x) (le-ltb q i h) ∙ and_none (eqb s s)) refl

  pub lines_other : (i t q : ℕ) → t ≢ s → lines_to root L s entry r i t q ≡ L t q
  unfolding lines_to
  lines_other i t q n = other _ _ (ap (λ x. x && ltb q i) (ne_eqb t s n)) refl

  -- a turn of path i changes no other path's
  pub lines_step : (i t q : ℕ) → (t ≢ s) ⊎ (q ≢ i) → lines_to root L s entry r (i + 1) t q ≡ lines_to root L s entry r i t q
  lines_step i t q (inl d) = lines_other (i + 1) t q d ∙ sym (lines_other i t q d)
  lines_step i t q (inr d) = go (ℕ_discrete t s)
    where
      go : Dec (t ≡ s) → lines_to root L s entry r (i + 1) t q ≡ lines_to root L s entry r i t q
      go (no n) = lines_other (i + 1) t q n ∙ sym (lines_other i t q n)
      go (yes e) = rw e (dite (dec_lt q i) (λ h. lines_done (i + 1) q (omega arith) ∙ sym (lines_done i q h)) (λ h. lines_todo (i + 1) q (omega arith) ∙ sym (lines_todo i q (omega arith))))

  -- before path 1 no path has it
  pub lines_none : (t q : ℕ) → 1 ≤ q → lines_to root L s entry r 1 t q ≡ L t q
  lines_none t q h = go (ℕ_discrete t s)
    where
      go : Dec (t ≡ s) → lines_to root L s entry r 1 t q ≡ L t q
      go (no n) = lines_other 1 t q n
      go (yes e) = rw e (lines_todo 1 q h)

  -- the lines of the put done: a path of the set, and one of another
  pub put_here : (q : ℕ) → lines_put root L s entry r s q ≡ line_of (path_of root s q) entry r ∷ L s q
  unfolding lines_put
  put_here q = taken _ _ (eq-eqb s s refl) refl

  pub put_other : (t q : ℕ) → t ≢ s → lines_put root L s entry r t q ≡ L t q
  unfolding lines_put
  put_other t q n = other _ _ (ne_eqb t s n) refl

-- ---- the state

-- a is the area at the taking, `freed` the freed records of each set there; the chains are of the lines `now`, the live records are those of L
pub record Middle (root : List ℕ) (L : Lines) (s r : ℕ) (freed : ℕ → List ℕ) (a : Area) (now : Lines) (b : Area) : Type 0 where
  pub size : length b ≡ area_length root
  pub masters : (n : ℕ) → IsSet root n → detail (kind root n) ≡ false → MasterInv (area_length root) (master_of root n) b
  pub frees : (t : ℕ) → IsSet root t → detail (kind root t) ≡ true → t ≢ s → FreeInv (shape_of root t) b (freed t)
  pub still : Still (shape_of root s) r a b
  pub lives : (t j : ℕ) → IsSet root t → detail (kind root t) ≡ true → alive b (shape_of root t) j ≡ alive a (shape_of root t) j
  pub ons : (t q : ℕ) → IsPath root t q → On (shape_of root t) (path_of root t q) b (now t q)
  pub ties : (t q : ℕ) → IsPath root t q → Tie (shape_of root t) (path_of root t q) b (L t q)

-- "each automatic entry has a nonzero count": all of them, and all but entry j of master n
abbrev pub Uses : List ℕ → Area → Type 0
Uses root b = (m : ℕ) → IsSet root m → automatic (kind root m) ≡ true → (k : ℕ) → alive b (shape_of root m) k ≡ true → Used root m b k

abbrev pub UsesBut : List ℕ → ℕ → ℕ → Area → Type 0
UsesBut root n j b = (m : ℕ) → IsSet root m → automatic (kind root m) ≡ true → (k : ℕ) → alive b (shape_of root m) k ≡ true → ((m ≡ n) × (k ≡ j)) ⊎ Used root m b k

-- an entry's counts stand where its record's words do
pub used_moved : {root : List ℕ} {m : ℕ} {a b : Area} {x y : ℕ}
    → ((j : ℕ) → j < (master_of root m).leads → val b (cell (shape_of root m) y (5 + 5 * j) 1) ≡ val a (cell (shape_of root m) x (5 + 5 * j) 1)) → Used root m a x → Used root m b y
used_moved h u = record { slot = u.slot; in_record = u.in_record; counts = rw (h u.slot u.in_record) u.counts }
