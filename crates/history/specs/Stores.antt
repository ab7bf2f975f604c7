-- The area as the theory sees it: a master's store, the heads and the links of a path, and the free list of a detail, each as functions of the record number;
-- what a set holds as long as no write touches it; and the definitions' comparing of keys and sort values.
use Rattle.std.specs.Prelude.{◌≡◌, refl, List, [], ◌∷◌, false, ◌&&◌, ℕ, ◌+◌, length, ltb, eqb}
use Rattle.std.proofs.Common.{sym, ap, ◌∙◌, subst, arith, ltb-true, ltb-false, eq-eqb, ne_eqb}
use Rattle.spec.specs.declared.Shape.{Shape}
use Rattle.spec.specs.declared.Master.{Master}
use Rattle.spec.specs.Words.{same, greater}
use Rattle.spec.specs.Area.{Area, live}
use Rattle.spec.specs.Master.{key_at}
use Rattle.history.specs.Walk.{by_bool}
use Rattle.history.specs.Layout.{num}
use Rattle.history.specs.Sorted.{Order}
use Rattle.history.specs.PathInv.{Keys}
use Rattle.history.specs.Lex.{gtw, eqw, eqw_right, eqw_self, by_value}
use Rattle.history.specs.Synonym.{Store}
use Rattle.history.specs.MasterKeys.{Heads}
use Rattle.history.specs.Shapes.{In}
use Rattle.history.specs.Spots.{held, val, alive, lead, flag, cell}
use Rattle.history.specs.Apart.{Kept}
use Rattle.history.specs.Reads.{live_alive, value_at_held}
use Rattle.history.specs.Sets.{MasterOk}

-- a master's records: live, key, and the synonym words
unfoldable pub entries : Master → Area → Store (List ℕ)
entries m a = record {
  live = alive a m.shape;
  key = λ r. held a (cell m.shape r (m.shape.front + m.key.at) m.key.size);
  cnt = λ r. val a (cell m.shape r 0 1);
  bk = λ r. val a (cell m.shape r 1 2);
  nx = λ r. val a (cell m.shape r 3 2);
}

pub entries_live : (m : Master) (a : Area) (r : ℕ) → In m.shape r → live m.shape a r ≡ (entries m a).live r
unfolding entries
entries_live m a r h = live_alive a h

pub entries_key : {size : ℕ} (m : Master) (a : Area) (r : ℕ) → MasterOk size m → length a ≡ size → In m.shape r → key_at m a r ≡ (entries m a).key r
unfolding entries key_at
entries_key m a r M l h = value_at_held a m.key M.sane l h M.key.fits

-- the heads at a place in the records of a master
unfoldable pub heads : Shape → ℕ → Area → Heads
heads s i a = record { cnt = λ r. val a (cell s r i 1); first = λ r. val a (cell s r (i + 3) 2); last = λ r. val a (cell s r (i + 1) 2) }

-- the links at a place in the lines of a detail
abbrev pub fores : Shape → ℕ → Area → ℕ → ℕ
fores d i a r = val a (cell d r (i + 2) 2)

abbrev pub backs : Shape → ℕ → Area → ℕ → ℕ
backs d i a r = val a (cell d r i 2)

-- a detail's high-water mark, first freed record, and the freed records' own links
abbrev pub high : Shape → Area → ℕ
high d a = val a (lead d 0)

abbrev pub first_freed : Shape → Area → ℕ
first_freed d a = val a (lead d 1)

abbrev pub freed_links : Shape → Area → ℕ → ℕ
freed_links d a r = val a (cell d r 0 1)

-- a set that is kept is the same to the theory
module _ {s : Shape} {a b : Area} (K : Kept s a b) where
  pub kept_val : (r i n : ℕ) → val b (cell s r i n) ≡ val a (cell s r i n)
  kept_val r i n = ap num (K.keeps (cell s r i n) refl)

  pub kept_held : (r i n : ℕ) → held b (cell s r i n) ≡ held a (cell s r i n)
  kept_held r i n = K.keeps (cell s r i n) refl

  pub kept_lead : (i : ℕ) → val b (lead s i) ≡ val a (lead s i)
  kept_lead i = ap num (K.keeps (lead s i) refl)

  pub kept_alive : (r : ℕ) → alive b s r ≡ alive a s r
  kept_alive r = ap (λ ws. eqb (num ws) 1) (K.keeps (flag s r) refl)

  pub heads_kept : (i : ℕ) → heads s i b ≡ heads s i a
  unfolding heads
  heads_kept i = λ j. record { cnt = λ r. kept_val r i 1 j; first = λ r. kept_val r (i + 3) 2 j; last = λ r. kept_val r (i + 1) 2 j }

  pub fores_kept : (i : ℕ) → fores s i b ≡ fores s i a
  fores_kept i = λ j r. kept_val r (i + 2) 2 j

  pub backs_kept : (i : ℕ) → backs s i b ≡ backs s i a
  backs_kept i = λ j r. kept_val r i 2 j

pub entries_kept : (m : Master) {a b : Area} → Kept m.shape a b → entries m b ≡ entries m a
unfolding entries
entries_kept m K = λ j. record {
  live = λ r. kept_alive K r j;
  key = λ r. kept_held K r (m.shape.front + m.key.at) m.key.size j;
  cnt = λ r. kept_val K r 0 1 j;
  bk = λ r. kept_val K r 1 2 j;
  nx = λ r. kept_val K r 3 2 j;
}

-- ---- keys and sort values

pub same_eqw : (xs ys : List ℕ) → same xs ys ≡ eqw xs ys
unfolding same eqw
same_eqw [] [] = refl
same_eqw [] (y ∷ ys) = refl
same_eqw (x ∷ xs) [] = refl
same_eqw (x ∷ xs) (y ∷ ys) = ap (λ t. eqb x y && t) (same_eqw xs ys)

pub same_keys : Keys same
same_keys = record { right = λ a b e. eqw_right a b (sym (same_eqw a b) ∙ e); self = λ a. same_eqw a a ∙ eqw_self a }

pub greater_gtw : (xs ys : List ℕ) → greater xs ys ≡ gtw xs ys
unfolding greater gtw
greater_gtw [] ys = refl
greater_gtw (x ∷ xs) [] = refl
greater_gtw (x ∷ xs) (y ∷ ys) = by_bool (ltb y x)
    (λ e. rw (e, gtw))
    (λ e. by_bool (ltb x y)
    (λ f. rw (e, f, gtw, ne_eqb x y (λ z. omega (arith, ltb-true x y f))))
    (λ f. rw (e, f, gtw, eq-eqb x y (equal e f), greater_gtw xs ys)))
  where
    equal : ltb y x ≡ false → ltb x y ≡ false → x ≡ y
    equal e f = omega (arith, ltb-false y x e, ltb-false x y f)

pub by_greater : {A : Type 0} (value : A → List ℕ) → Order (λ y x. greater (value y) (value x))
by_greater value = subst Order (λ j y x. sym (greater_gtw (value y) (value x)) j) (by_value value)
