-- A line's delete: never refused, and every rule about the base holds again with the line gone from each path of its set; every other line lives on.
use Rattle.std.specs.Prelude.{◌≡◌, refl, ◌≢◌, ◌⊎◌, List, ◌∷◌, true, false, ℕ, ◌+◌, ◌*◌, eqb}
use Rattle.std.proofs.Common.{sym, ◌∙◌, subst, inl, inr, arith, eq-eqb, ne_eqb}
use Rattle.std.proofs.Math.Logic.{Ne-symm}
use Rattle.std.proofs.Math.Decide.{ℕ_discrete}
use Rattle.spec.specs.Root.{kind, path_count, path_master, detail, root_good}
use Rattle.spec.specs.Layout.{shape_of, master_of, path_of, detail_of}
use Rattle.spec.specs.Area.{Area}
use Rattle.spec.specs.Detail.{delete_line, free_record}
use Rattle.spec.specs.Follow.{goes}
use Rattle.history.specs.History.{del}
use Rattle.history.specs.Spots.{alive}
use Rattle.history.specs.Reads.{alive_in}
use Rattle.history.specs.Apart.{Kept}
use Rattle.history.specs.Sets.{sane, path_ok}
use Rattle.history.specs.Stores.{first_freed, kept_val, kept_alive}
use Rattle.history.specs.MasterInv.{master_kept}
use Rattle.history.specs.PathLines.{line_record, On, PathInv}
use Rattle.history.specs.PathFrame.{kept_path}
use Rattle.history.specs.PathSettle.{path_freed}
use Rattle.history.specs.FreeInv.{FreeInv, freed_read, free_kept, RecordFreed, record_freed, free_released}
use Rattle.history.specs.Base.{Lines, IsSet, IsPath, AreaInv, lines_gone, GoneDone}
use Rattle.history.specs.LineDeleteMiddle.{as_set, as_way, auto_master, detail_other, details, leads_to, leads_master, sets_beside, half_start, half_off, half_gone, Middle, AllUsed, used_same}
use Rattle.history.specs.LineDeleteLoop.{Unhung, unhung}

-- ---- the lines that are left

gone_here : (L : Lines) (s r q : ℕ) → lines_gone L s r s q ≡ del line_record r (L s q)
unfolding lines_gone
gone_here L s r q = rw (eq-eqb s s refl, lines_gone)

gone_else : (L : Lines) (s r t q : ℕ) → t ≢ s → lines_gone L s r t q ≡ L t q
unfolding lines_gone
gone_else L s r t q n = rw (ne_eqb t s n, lines_gone)

-- the freed records of set s with r before them
unfoldable freed_after : (ℕ → List ℕ) → ℕ → ℕ → ℕ → List ℕ
freed_after freed s r t = elim (eqb t s) [ true ↦ r ∷ freed t | false ↦ freed t ]

after_here : (freed : ℕ → List ℕ) (s r : ℕ) → freed_after freed s r s ≡ r ∷ freed s
unfolding freed_after
after_here freed s r = rw (eq-eqb s s refl, freed_after)

after_else : (freed : ℕ → List ℕ) (s r t : ℕ) → t ≢ s → freed_after freed s r t ≡ freed t
unfolding freed_after
after_else freed s r t n = rw (ne_eqb t s n, freed_after)

-- ---- the record freed

module _ {root : List ℕ} (g : root_good root ≡ true) {L : Lines} {freed : ℕ → List ℕ} {s r : ℕ} {a b c : Area} (S : IsSet root s) (D : detail (kind root s) ≡ true) (live : alive a (shape_of root s) r ≡ true)
    (M : Middle root L freed s r a (1 + path_count root s) b) (U : AllUsed root b) (N : RecordFreed (shape_of root s) r (first_freed (shape_of root s) b) b c) where
  still_live : alive b (shape_of root s) r ≡ true
  still_live = M.maps s r S D ∙ live

  kept : (t : ℕ) → IsSet root t → t ≢ s → Kept (shape_of root t) b c
  kept t T n = N.sets (shape_of root t) (sets_beside root g S T (Ne-symm n))

  kept_master : (m : ℕ) → IsSet root m → detail (kind root m) ≡ false → Kept (shape_of root m) b c
  kept_master m T E = kept m T (Ne-symm (detail_other root D E))

  kept_to : (t q : ℕ) → IsPath root t q → Kept (path_of root t q).to.shape b c
  unfolding path_of master_of
  kept_to t q H = kept_master (path_master root t q) (leads_to root g H) (leads_master root g H)

  free_end : (t : ℕ) → IsSet root t → detail (kind root t) ≡ true → Dec (t ≡ s) → FreeInv (shape_of root t) c (freed_after freed s r t)
  free_end t T E (yes z) = subst (λ n. FreeInv (shape_of root n) c (freed_after freed s r n)) (sym z)
      (subst (FreeInv (shape_of root s) c) (sym (after_here freed s r)) (free_released (M.frees s S D) still_live N))
  free_end t T E (no n) = subst (FreeInv (shape_of root t) c) (sym (after_else freed s r t n)) (free_kept (kept t T n) (M.frees t T E))

  own_end : (q : ℕ) → IsPath root s q → PathInv (shape_of root s) (path_of root s q) c (lines_gone L s r s q)
  own_end q H = subst (PathInv _ _ c) (sym (gone_here L s r q))
      (path_freed (sane root g s (as_set S)) (path_ok root g s q (as_set S) (details root g H) (as_way H)) N
      (subst (On _ _ b) (half_gone L s r (1 + path_count root s) s q (omega (arith, H.high)) ∙ gone_here L s r q) (M.ons s q H)) (M.ties s q H))

  other_end : (t q : ℕ) → IsPath root t q → t ≢ s → PathInv (shape_of root t) (path_of root t q) c (lines_gone L s r t q)
  other_end t q H n = subst (PathInv _ _ c) (sym (gone_else L s r t q n))
      (kept_path (kept t H.set n) (kept_to t q H) record { on = subst (On _ _ b) (half_off L s r (1 + path_count root s) t q n) (M.ons t q H); tie = M.ties t q H })

  path_end : (t q : ℕ) → IsPath root t q → Dec (t ≡ s) → PathInv (shape_of root t) (path_of root t q) c (lines_gone L s r t q)
  path_end t q H (yes z) = subst (λ n. IsPath root n q → PathInv (shape_of root n) (path_of root n q) c (lines_gone L s r n q)) (sym z) (own_end q) H
  path_end t q H (no n) = other_end t q H n

  area_end : AreaInv root c (lines_gone L s r)
  unfolding master_of
  area_end = record {
    size = N.size ∙ M.size;
    masters = λ m T E. master_kept (M.masters m T E) (N.size ∙ M.size) (kept_master m T E);
    used = λ m T A k h. let K = kept_master m T (auto_master (kind root m) A) in used_same (λ q _. kept_val K k (5 + 5 * q) 1) (U.uses m T A k (sym (kept_alive K k) ∙ h));
    freed = freed_after freed s r;
    frees = λ t T E. free_end t T E (ℕ_discrete t s);
    paths = λ t q H. path_end t q H (ℕ_discrete t s);
  }

  -- every line but this one lives on
  lives_end : (t k : ℕ) → IsSet root t → detail (kind root t) ≡ true → (t ≢ s) ⊎ (k ≢ r) → Dec (t ≡ s) → alive b (shape_of root t) k ≡ true → alive c (shape_of root t) k ≡ true
  lives_end t k T E _ (no n) h = kept_alive (kept t T n) k ∙ h
  lives_end t k T E (inl n) (yes z) h = absurd (n z)
  lives_end t k T E (inr n) (yes z) h = subst (λ u. alive c (shape_of root u) k ≡ alive b (shape_of root u) k) (sym z) (N.map k n) ∙ h

-- ---- the whole delete

-- a base between calls is at path 1
at_start : {root : List ℕ} {a : Area} {L : Lines} (I : AreaInv root a L) (s r : ℕ) → Middle root L I.freed s r a 1 a
at_start {root} {a} {L} I s r = record {
  size = I.size;
  masters = I.masters;
  frees = I.frees;
  maps = λ t k T E. refl;
  ons = λ t q H. subst (On (shape_of root t) (path_of root t q) a) (sym (half_start L s r t q H.low)) (I.paths t q H).on;
  ties = λ t q H. (I.paths t q H).tie;
}

pub line_gone_right : (root : List ℕ) → root_good root ≡ true → (a : Area) (L : Lines) → AreaInv root a L → (s : ℕ) → IsSet root s → detail (kind root s) ≡ true
    → (r : ℕ) → alive a (shape_of root s) r ≡ true → GoneDone root a L s r
unfolding delete_line detail_of
line_gone_right root g a L I s S D r e =
    let d = shape_of root s in
    let w : Unhung root L I.freed s r a (path_count root s) 1 a = unhung g e S D (path_count root s) 1 (omega arith) (omega arith) (at_start I s r) record { uses = I.used } in
    let b = w.area in
    let M = w.middle in
    let l : alive b d r ≡ true = M.maps s r S D ∙ e in
    let N : RecordFreed d r (first_freed d b) b (free_record d b r (first_freed d b)) = record_freed (sane root g s (as_set S)) b r (first_freed d b) M.size (alive_in b r l) in
    record {
      area = free_record d b r (first_freed d b);
      says = goes _ w.says (goes _ (freed_read (M.frees s S D)) refl);
      kept = area_end g S D e M w.used N;
      lives = λ t k T E n h. lives_end g S D e M w.used N t k T E n (ℕ_discrete t s) (M.maps t k T E ∙ h);
      dead = N.dead;
    }
