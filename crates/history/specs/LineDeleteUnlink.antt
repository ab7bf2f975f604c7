-- A line taken off one path, seen from the whole base: the state in the middle of the delete goes on to the next path, and only the entry that lost the line may be one
-- that counts none.
use Rattle.std.specs.Prelude.{◌≡◌, ◌≢◌, ◌⊎◌, List, true, false, ℕ, ◌+◌, ◌*◌}
use Rattle.std.proofs.Common.{sym, ◌∙◌, inl, inr}
use Rattle.std.proofs.Math.Path.{ap, subst}
use Rattle.std.proofs.Math.Logic.{Ne-symm}
use Rattle.std.proofs.Math.Decide.{ℕ_discrete}
use Rattle.spec.specs.Root.{kind, path_master, automatic, detail, root_good}
use Rattle.spec.specs.Layout.{area_length, shape_of, master_of, path_of}
use Rattle.spec.specs.Area.{Area}
use Rattle.history.specs.Layout.{num}
use Rattle.history.specs.Shapes.{Sane}
use Rattle.history.specs.Spots.{alive}
use Rattle.history.specs.Reads.{head_in, links_in}
use Rattle.history.specs.Apart.{Kept}
use Rattle.history.specs.Sets.{PathOk, sane, path_ok}
use Rattle.history.specs.Stores.{kept_val, kept_alive}
use Rattle.history.specs.MasterInv.{MasterInv, master_kept}
use Rattle.history.specs.MasterUnseen.{link_out_steady}
use Rattle.history.specs.PathLines.{On, Tie, link_high}
use Rattle.history.specs.PathFrame.{PathsApart, paths_apart, frame_tie, apart_on, apart_tie}
use Rattle.history.specs.PathReads.{links_of_line}
use Rattle.history.specs.PathDelete.{unlinked, OffPath}
use Rattle.history.specs.FreeInv.{FreeInv, free_still, free_kept}
use Rattle.history.specs.Base.{Lines, IsSet, IsPath, Used}
use Rattle.history.specs.LineDeleteMiddle.{as_set, as_way, auto_master, detail_other, details, leads_to, leads_master, sets_beside, half, half_here, half_next, half_else, Middle, AllUsed, UsedBut, used_same}

-- line r goes off path i of set s, where its key's entry is in record k
module _ {root : List ℕ} (g : root_good root ≡ true) {L : Lines} {freed : ℕ → List ℕ} {s r i : ℕ} {a b : Area} (M : Middle root L freed s r a i b) (H : IsPath root s i)
    (e : alive b (shape_of root s) r ≡ true) {k : ℕ} (l : alive b (path_of root s i).to.shape k ≡ true) (o : OffPath (shape_of root s) (path_of root s i) b (L s i) k r) where
  abbrev c : Area
  c = unlinked (shape_of root s) (path_of root s i) b k r

  S : Sane (area_length root) (shape_of root s)
  S = sane root g s (as_set H.set)

  P : PathOk (area_length root) (shape_of root s) (path_of root s i)
  P = path_ok root g s i (as_set H.set) (details root g H) (as_way H)

  -- the sets that are not written
  kept : (t : ℕ) → IsSet root t → t ≢ s → t ≢ path_master root s i → Kept (shape_of root t) b c
  unfolding path_of master_of
  kept t T n n' = o.frame.sets (shape_of root t) (sets_beside root g H.set T (Ne-symm n)) (sets_beside root g (leads_to root g H) T (Ne-symm n'))

  kept_detail : (t : ℕ) → IsSet root t → detail (kind root t) ≡ true → t ≢ s → Kept (shape_of root t) b c
  kept_detail t T D n = kept t T n (detail_other root D (leads_master root g H))

  kept_master : (m : ℕ) → IsSet root m → detail (kind root m) ≡ false → m ≢ path_master root s i → Kept (shape_of root m) b c
  kept_master m T D n = kept m T (Ne-symm (detail_other root H.lines D)) n

  -- the masters
  own_master : MasterInv (area_length root) (master_of root (path_master root s i)) c
  unfolding path_of
  own_master =
      let I : On (shape_of root s) (path_of root s i) b (L s i) = subst (On _ _ b) (half_here L s r i) (M.ons s i H) in
      let h = links_of_line S P b (L s i) I (M.ties s i H) r e in
      (link_out_steady S P (M.masters (path_master root s i) (leads_to root g H) (leads_master root g H)) k l
      (head_in b (path_of root s i).to.shape k (path_of root s i).head) (links_in b (shape_of root s) r (path_of root s i).links) (link_high b _ _ h.0) (link_high b _ _ h.1)).whole

  master_after : (m : ℕ) → IsSet root m → detail (kind root m) ≡ false → Dec (m ≡ path_master root s i) → MasterInv (area_length root) (master_of root m) c
  unfolding master_of
  master_after m T D (yes z) = subst (λ n. MasterInv (area_length root) (master_of root n) c) (sym z) own_master
  master_after m T D (no n) = master_kept (M.masters m T D) (o.frame.size ∙ M.size) (kept_master m T D n)

  -- the details
  free_after : (t : ℕ) → IsSet root t → detail (kind root t) ≡ true → Dec (t ≡ s) → FreeInv (shape_of root t) c (freed t)
  free_after t T D (yes z) = subst (λ n. FreeInv (shape_of root n) c (freed n)) (sym z) (free_still e o.frame.still (M.frees s H.set H.lines))
  free_after t T D (no n) = free_kept (kept_detail t T D n) (M.frees t T D)

  map_after : (t j : ℕ) → IsSet root t → detail (kind root t) ≡ true → Dec (t ≡ s) → alive c (shape_of root t) j ≡ alive b (shape_of root t) j
  map_after t j T D (yes z) = subst (λ n. alive c (shape_of root n) j ≡ alive b (shape_of root n) j) (sym z) (o.frame.still.map j)
  map_after t j T D (no n) = kept_alive (kept_detail t T D n) j

  -- the paths
  apart : (t q : ℕ) → IsPath root t q → ((s ≡ t) × (i ≢ q)) ⊎ (s ≢ t) → PathsApart (shape_of root s) (path_of root s i) (shape_of root t) (path_of root t q)
  apart t q G n = paths_apart root g s i t q (as_set H.set) (as_set G.set) (details root g H) (details root g G) (as_way H) (as_way G) n

  other_on : (t q : ℕ) → IsPath root t q → ((s ≡ t) × (i ≢ q)) ⊎ (s ≢ t) → (t ≢ s) ⊎ (q ≢ i) → On (shape_of root t) (path_of root t q) c (half L s r (i + 1) t q)
  other_on t q G n n' = subst (On _ _ c) (sym (half_else L s r i t q n')) (apart_on S P o.frame (apart t q G n) (M.ons t q G))

  on_after : (t q : ℕ) → IsPath root t q → Dec (t ≡ s) → Dec (q ≡ i) → On (shape_of root t) (path_of root t q) c (half L s r (i + 1) t q)
  on_after t q G (no n) _ = other_on t q G (inr (Ne-symm n)) (inl n)
  on_after t q G (yes z) (no n) = other_on t q G (inl (sym z, Ne-symm n)) (inr n)
  on_after t q G (yes z) (yes y) = subst (λ u. On (shape_of root u) (path_of root u q) c (half L s r (i + 1) u q)) (sym z)
      (subst (λ w. On (shape_of root s) (path_of root s w) c (half L s r (i + 1) s w)) (sym y) (subst (On _ _ c) (sym (half_next L s r i)) o.on))

  tie_after : (t q : ℕ) → IsPath root t q → Dec (t ≡ s) → Tie (shape_of root t) (path_of root t q) c (L t q)
  tie_after t q G (yes z) = subst (λ u. Tie (shape_of root u) (path_of root t q) b (L t q) → Tie (shape_of root u) (path_of root t q) c (L t q)) (sym z) (frame_tie S P o.frame) (M.ties t q G)
  tie_after t q G (no n) = apart_tie S P o.frame (apart t q G (inr (Ne-symm n))) (M.ties t q G)

  pub unlinked_middle : Middle root L freed s r a (i + 1) c
  unlinked_middle = record {
    size = o.frame.size ∙ M.size;
    masters = λ m T D. master_after m T D (ℕ_discrete m (path_master root s i));
    frees = λ t T D. free_after t T D (ℕ_discrete t s);
    maps = λ t j T D. map_after t j T D (ℕ_discrete t s) ∙ M.maps t j T D;
    ons = λ t q G. on_after t q G (ℕ_discrete t s) (ℕ_discrete q i);
    ties = λ t q G. tie_after t q G (ℕ_discrete t s);
  }

  -- ---- counts

  used_here : AllUsed root b → (T : IsSet root (path_master root s i)) → automatic (kind root (path_master root s i)) ≡ true
      → (j : ℕ) → alive c (shape_of root (path_master root s i)) j ≡ true → j ≢ k → Used root (path_master root s i) c j
  unfolding path_of master_of
  used_here U T A j h n = used_same (λ q _. ap num (o.frame.to_records j (5 + 5 * q) 1 n)) (U.uses (path_master root s i) T A j (sym (o.frame.to_map j) ∙ h))

  pub unlinked_used : AllUsed root b → UsedBut root c (path_master root s i) k
  unlinked_used U = record { uses = λ m T A j h n. go m T A j h n (ℕ_discrete m (path_master root s i)) }
    where
      go : (m : ℕ) → IsSet root m → automatic (kind root m) ≡ true → (j : ℕ) → alive c (shape_of root m) j ≡ true → (m ≢ path_master root s i) ⊎ (j ≢ k) → Dec (m ≡ path_master root s i) → Used root m c j
      go m T A j h _ (no n) = let K = kept_master m T (auto_master (kind root m) A) n in used_same (λ q _. kept_val K j (5 + 5 * q) 1) (U.uses m T A j (sym (kept_alive K j) ∙ h))
      go m T A j h (inl n) (yes z) = absurd (n z)
      go m T A j h (inr n) (yes z) = subst (λ u. IsSet root u → automatic (kind root u) ≡ true → alive c (shape_of root u) j ≡ true → Used root u c j) (sym z) (λ T A h. used_here U T A j h n) T A h
