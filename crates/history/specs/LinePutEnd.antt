-- The end of a put: the leading words, the entry and the map are written, and the base is right again, with the new line on every path of its set.
use Rattle.std.specs.Prelude.{◌≡◌, refl, ◌≢◌, List, true, false, ℕ, suc, ◌+◌, ◌*◌, eqb}
use Rattle.std.proofs.Common.{sym, ◌∙◌, arith, eq-eqb, ne_eqb}
use Rattle.std.proofs.Math.Path.{ap, subst}
use Rattle.std.proofs.Math.Logic.{Ne-symm}
use Rattle.std.proofs.Math.Bool.{true≢false}
use Rattle.std.proofs.Math.Decide.{ℕ_discrete}
use Rattle.spec.specs.declared.Taken.{Taken}
use Rattle.spec.specs.Root.{kind, path_count, path_master, detail, root_good}
use Rattle.spec.specs.Layout.{area_length, shape_of, master_of, path_of}
use Rattle.spec.specs.Area.{Area}
use Rattle.spec.specs.Follow.{taken, other}
use Rattle.history.specs.Spots.{alive}
use Rattle.history.specs.Apart.{Kept}
use Rattle.history.specs.Good.{Set, way_facts}
use Rattle.history.specs.Sets.{sane, beside, path_ok, detail_beside}
use Rattle.history.specs.Stores.{kept_val, kept_alive}
use Rattle.history.specs.MasterInv.{MasterInv, master_kept}
use Rattle.history.specs.PathLines.{On, PathInv}
use Rattle.history.specs.PathFrame.{kept_path}
use Rattle.history.specs.PathSettle.{path_settled}
use Rattle.history.specs.FreeInv.{FreeInv, Took, Settled, free_settled, free_kept}
use Rattle.history.specs.Base.{Lines, IsSet, IsPath, AreaInv, lines_put, StillLive}
use Rattle.history.specs.LinePutState.{as_set, as_way, as_detail, auto_detail, lines_to, lines_done, lines_other, put_here, put_other, Middle, Uses, used_moved}

-- the freed records of each set, with those of s replaced
unfoldable freed_then : ℕ → List ℕ → (ℕ → List ℕ) → ℕ → List ℕ
freed_then s rest freed t = elim (eqb t s) [ true ↦ rest | false ↦ freed t ]

module _ (root : List ℕ) (g : root_good root ≡ true) {L : Lines} {s : ℕ} (S : IsSet root s) (D : detail (kind root s) ≡ true) {entry : List ℕ} {freed : ℕ → List ℕ} {a b c : Area} {u : Taken}
    (I : FreeInv (shape_of root s) a (freed s)) (K : Took (shape_of root s) a (freed s) u)
    (M : Middle root L s u.at freed a (lines_to root L s entry u.at (suc (path_count root s))) b) (H : Uses root b) (N : Settled (shape_of root s) u entry b c) where
  settled_set : (t : ℕ) → Set root t → t ≢ s → Kept (shape_of root t) b c
  settled_set t T d = N.sets (shape_of root t) (beside root g s t (as_set S) T (Ne-symm d))

  settled_master : (t : ℕ) → IsSet root t → detail (kind root t) ≡ false → MasterInv (area_length root) (master_of root t) c
  settled_master t T h = master_kept (M.masters t T h) (N.size ∙ M.size)
      (unfold master_of in settled_set t (as_set T) (λ z. true≢false (sym D ∙ ap (λ x. detail (kind root x)) (sym z) ∙ h)))

  settled_used : Uses root c
  settled_used m T t k l =
      let X : Kept (shape_of root m) b c = settled_set m (as_set T) (auto_detail root m s t D) in
      used_moved (λ j h. kept_val X k (5 + 5 * j) 1) (H m T t k (sym (kept_alive X k) ∙ l))

  settled_free : (t : ℕ) → IsSet root t → detail (kind root t) ≡ true → Dec (t ≡ s) → FreeInv (shape_of root t) c (freed_then s K.rest freed t)
  unfolding freed_then
  settled_free t T h (yes z) = subst (λ x. FreeInv (shape_of root x) c (freed_then s K.rest freed x)) (sym z)
      (subst (FreeInv (shape_of root s) c) (sym (taken _ _ (eq-eqb s s refl) refl)) (free_settled I K M.still N))
  settled_free t T h (no d) = subst (FreeInv (shape_of root t) c) (sym (other _ _ (ne_eqb t s d) refl)) (free_kept (settled_set t (as_set T) d) (M.frees t T h d))

  settled_own : (q : ℕ) → IsPath root s q → PathInv (shape_of root s) (path_of root s q) c (lines_put root L s entry u.at s q)
  settled_own q P = rw (put_here root L s entry u.at q)
      (path_settled (sane root g s (as_set S)) (path_ok root g s q (as_set S) (as_detail root g s S D) (as_way P)) N (M.still.map u.at ∙ K.dead)
      (subst (On (shape_of root s) (path_of root s q) b) (lines_done root L s entry u.at (suc (path_count root s)) q (omega (arith, P.high))) (M.ons s q P)) (M.ties s q P))

  settled_path : (t q : ℕ) → IsPath root t q → Dec (t ≡ s) → PathInv (shape_of root t) (path_of root t q) c (lines_put root L s entry u.at t q)
  settled_path t q P (yes z) = subst (λ x. IsPath root x q → PathInv (shape_of root x) (path_of root x q) c (lines_put root L s entry u.at x q)) (sym z) (settled_own q) P
  settled_path t q P (no d) =
      let W = way_facts root g t q (as_set P.set) (as_detail root g t P.set P.lines) (as_way P) in
      rw (put_other root L s entry u.at t q d)
      (kept_path (settled_set t (as_set P.set) d)
      (unfold path_of master_of in N.sets (shape_of root (path_master root t q)) (detail_beside root g s (path_master root t q) (as_set S) W.to (as_detail root g s S D) W.to_master))
      (record { on = subst (On (shape_of root t) (path_of root t q) b) (lines_other root L s entry u.at (suc (path_count root s)) t q d) (M.ons t q P); tie = M.ties t q P }))

  pub settled_inv : AreaInv root c (lines_put root L s entry u.at)
  settled_inv = record {
    size = N.size ∙ M.size;
    masters = settled_master;
    used = settled_used;
    freed = freed_then s K.rest freed;
    frees = λ t T h. settled_free t T h (ℕ_discrete t s);
    paths = λ t q P. settled_path t q P (ℕ_discrete t s);
  }

  pub settled_lives : StillLive root a c
  settled_lives t j T h l = go (ℕ_discrete t s)
    where
      own : alive a (shape_of root s) j ≡ true → Dec (j ≡ u.at) → alive c (shape_of root s) j ≡ true
      own l (yes z) = absurd (true≢false (sym l ∙ ap (alive a (shape_of root s)) z ∙ K.dead))
      own l (no d) = N.map j d ∙ M.still.map j ∙ l

      go : Dec (t ≡ s) → alive c (shape_of root t) j ≡ true
      go (yes z) = subst (λ x. alive a (shape_of root x) j ≡ true → alive c (shape_of root x) j ≡ true) (sym z) (λ l. own l (ℕ_discrete j u.at)) l
      go (no d) = kept_alive (settled_set t (as_set T) d) j ∙ M.lives t j T h ∙ l
