-- The heads of a master, set by set and path by path. Assumes nothing.
use Rattle.std.specs.Prelude.{ℕ, suc, ◌+◌, ◌-◌, ◌≤◌, ◌≡◌, refl, true, false, List, [], ◌∷◌, ◌++◌, eqb}
use Rattle.std.proofs.Common.{◌∙◌, ap, append_assoc, append-nil, eq-eqb, ne_eqb, arith}
use Rattle.spec.specs.Words.{total}
use Rattle.spec.specs.Root.{capacity, path_count, path_master, leading, leading_from}
use Rattle.spec.specs.Layout.{heads_from, heads_in}
use Rattle.root.specs.Good.{leading_step, leading_from_step, leading_from_none}

module _ (root : List ℕ) (m : ℕ) where
  from_next :
      (s n k : ℕ) → n ≡ suc k →
      heads_from root m s n ≡ heads_from root m s k ++ elim (eqb (path_master root s n) m) [ true ↦ capacity root s ∷ [] | false ↦ [] ]
  unfolding heads_from
  from_next s n k e = rw e

  in_next : (n k : ℕ) → n ≡ suc k → heads_in root m n ≡ heads_in root m k ++ heads_from root m n (path_count root n)
  unfolding heads_in
  in_next n k e = rw e

  module _ (s n : ℕ) (h : 1 ≤ n) where
    pub from_more : path_master root s n ≡ m → heads_from root m s n ≡ heads_from root m s (n - 1) ++ capacity root s ∷ []
    from_more e = from_next s n (n - 1) (omega arith) ∙ rw (eq-eqb (path_master root s n) m e)

    pub from_same : (path_master root s n ≡ m → ⊥) → heads_from root m s n ≡ heads_from root m s (n - 1)
    from_same e = from_next s n (n - 1) (omega arith) ∙ rw (ne_eqb (path_master root s n) m e) (append-nil _)

    pub leads_more : path_master root s n ≡ m → leading_from root m s n ≡ leading_from root m s (n - 1) + 1
    leads_more e = leading_from_step root m s n h ∙ rw (eq-eqb (path_master root s n) m e)

    pub leads_same : (path_master root s n ≡ m → ⊥) → leading_from root m s n ≡ leading_from root m s (n - 1)
    leads_same e = leading_from_step root m s n h ∙ rw (ne_eqb (path_master root s n) m e) (omega arith)

  pub in_more : (n : ℕ) → 1 ≤ n → heads_in root m n ≡ heads_in root m (n - 1) ++ heads_from root m n (path_count root n)
  in_more n h = in_next n (n - 1) (omega arith)

  pub from_none : (s : ℕ) → heads_from root m s 0 ≡ []
  unfolding heads_from
  from_none s = refl

  pub in_none : heads_in root m 0 ≡ []
  unfolding heads_in
  in_none = refl

  pub leads_none : leading root m 0 ≡ 0
  unfolding leading total
  leads_none = refl

pub ruleset headed = (append_assoc, append-nil, leading_step, leading_from_none, from_more, from_same, leads_more, leads_same, in_more, from_none, in_none, leads_none)
