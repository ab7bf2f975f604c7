-- The entry that lost a line dropped if it is automatic and counts no more, seen from the whole base: the state in the middle of a line's delete stands, and each automatic
-- entry counts lines again.
use Rattle.std.specs.Prelude.{◌≡◌, ◌≢◌, List, true, false, ℕ, ◌+◌, ◌*◌, ◌<◌, length}
use Rattle.std.proofs.Math.Path.{sym, subst}
use Rattle.std.proofs.Common.{ap, ◌∙◌, inl, inr, true≢false, arith}
use Rattle.std.proofs.Math.Logic.{Ne-symm}
use Rattle.std.proofs.Math.Decide.{ℕ_discrete}
use Rattle.spec.specs.Root.{kind, path_master, automatic, detail, root_good}
use Rattle.spec.specs.Layout.{area_length, shape_of, master_of, path_of, heads_of}
use Rattle.spec.specs.Outcome.{accept}
use Rattle.spec.specs.Area.{Area}
use Rattle.spec.specs.Detail.{drop_automatic}
use Rattle.history.specs.Spots.{alive}
use Rattle.history.specs.Apart.{Kept}
use Rattle.history.specs.Good.{master_set}
use Rattle.history.specs.Sets.{MasterOk, PathOk, master_ok, path_ok}
use Rattle.history.specs.Stores.{heads, kept_val, kept_alive}
use Rattle.history.specs.MasterInv.{MasterInv, master_kept}
use Rattle.history.specs.MasterShift.{to, load_heads, Carries}
use Rattle.history.specs.MasterDelete.{GoneResult}
use Rattle.history.specs.MasterUse.{DropEnds, manual, stays, drops, drop_right}
use Rattle.history.specs.PathLines.{On}
use Rattle.history.specs.PathFrame.{tie_kept, kept_on, on_carried}
use Rattle.history.specs.FreeInv.{free_kept}
use Rattle.history.specs.Base.{Lines, IsSet, IsPath, Used}
use Rattle.history.specs.LineDeleteMiddle.{as_set, as_way, detail_other, details, leads_to, sets_beside, half, Middle, AllUsed, UsedBut, used_same, as_many, slots_within}

-- record k of master m, all of whose heads count nothing, goes
module _ {root : List ℕ} (g : root_good root ≡ true) {L : Lines} {freed : ℕ → List ℕ} {s r i : ℕ} {a b c : Area} (M : Middle root L freed s r a i b) {m : ℕ} (T : IsSet root m) (D : detail (kind root m) ≡ false)
    {k : ℕ} (N : (j : ℕ) → j < length (heads_of root m) → (heads (master_of root m).shape (5 + 5 * j) b).cnt k ≡ 0) (R : GoneResult (area_length root) (master_of root m) b k c) where
  O : MasterOk (area_length root) (master_of root m)
  O = master_ok root g m (as_set T) (master_set root g m (as_set T) D)

  kept : (t : ℕ) → IsSet root t → t ≢ m → Kept (shape_of root t) b c
  unfolding master_of
  kept t S n = R.others (shape_of root t) (sets_beside root g T S (Ne-symm n))

  kept_detail : (t : ℕ) → IsSet root t → detail (kind root t) ≡ true → Kept (shape_of root t) b c
  kept_detail t S E = kept t S (detail_other root E D)

  master_after : (t : ℕ) → IsSet root t → detail (kind root t) ≡ false → Dec (t ≡ m) → MasterInv (area_length root) (master_of root t) c
  unfolding master_of
  master_after t S E (yes z) = subst (λ n. MasterInv (area_length root) (master_of root n) c) (sym z) R.whole
  master_after t S E (no n) = master_kept (M.masters t S E) R.whole.long (kept t S n)

  -- a path to this master: its head has the words of slot j, for some j
  carried_on : (t q : ℕ) (H : IsPath root t q) → (path_of root t q).to ≡ master_of root m → On (shape_of root t) (path_of root t q) c (half L s r i t q)
  carried_on t q H z =
      let p = path_of root t q in
      let P : PathOk (area_length root) (shape_of root t) p = path_ok root g t q (as_set H.set) (details root g H) (as_way H) in
      let in_record : P.slot < (master_of root m).leads = subst (λ n. P.slot < n.leads) z P.slot_in in
      let listed : P.slot < length (heads_of root m) = omega (arith, as_many root m) in
      let none : (heads (master_of root m).shape p.head b).cnt k ≡ 0 = ap (λ j. (heads (master_of root m).shape j b).cnt k) P.head_at ∙ N P.slot listed in
      let C : Carries (master_of root m) b c p.head = R.carries p.head (omega (arith, P.head_at)) (omega (arith, P.head_at, O.front)) none in
      on_carried (kept_detail t H.set H.lines)
      (subst (λ n. MasterInv (area_length root) n b) (sym z) (M.masters m T D)).chains (subst (λ n. MasterInv (area_length root) n c) (sym z) R.whole).chains
      (subst (λ n. Carries n b c p.head) (sym z) C) (M.ons t q H)

  on_after : (t q : ℕ) → IsPath root t q → Dec (path_master root t q ≡ m) → On (shape_of root t) (path_of root t q) c (half L s r i t q)
  unfolding path_of master_of
  on_after t q H (yes z) = carried_on t q H (ap (master_of root) z)
  on_after t q H (no n) = kept_on (kept_detail t H.set H.lines) (kept (path_master root t q) (leads_to root g H) n) (M.ons t q H)

  pub gone_middle : Middle root L freed s r a i c
  gone_middle = record {
    size = R.whole.long;
    masters = λ t S E. master_after t S E (ℕ_discrete t m);
    frees = λ t S E. free_kept (kept_detail t S E) (M.frees t S E);
    maps = λ t j S E. kept_alive (kept_detail t S E) j ∙ M.maps t j S E;
    ons = λ t q H. on_after t q H (ℕ_discrete (path_master root t q) m);
    ties = λ t q H. tie_kept (kept_detail t H.set H.lines) (M.ties t q H);
  }

  -- an entry that is left stands where it stood, or has moved with all its counts
  used_here : UsedBut root b m k → automatic (kind root m) ≡ true → (j : ℕ) → alive c (shape_of root m) j ≡ true → Used root m c j
  unfolding master_of heads
  used_here U A j h =
      let w = to R.shift j h in
      used_same (λ q l. sym (load_heads O c b j w.0 w.3 (5 + 5 * q) (omega arith) (omega (arith, O.front))).0) (U.uses m T A w.0 w.1 (inr w.2))

  pub gone_used : UsedBut root b m k → AllUsed root c
  gone_used U = record { uses = λ t S A j h. go t S A j h (ℕ_discrete t m) }
    where
      go : (t : ℕ) → IsSet root t → automatic (kind root t) ≡ true → (j : ℕ) → alive c (shape_of root t) j ≡ true → Dec (t ≡ m) → Used root t c j
      go t S A j h (yes z) = subst (λ u. automatic (kind root u) ≡ true → alive c (shape_of root u) j ≡ true → Used root u c j) (sym z) (λ A h. used_here U A j h) A h
      go t S A j h (no n) = let K = kept t S n in used_same (λ q _. kept_val K j (5 + 5 * q) 1) (U.uses t S A j (sym (kept_alive K j) ∙ h) (inl n))

-- ---- the dropping

-- what comes of entry k of master m
pub record Dropped (root : List ℕ) (L : Lines) (freed : ℕ → List ℕ) (s r : ℕ) (a : Area) (i : ℕ) (b : Area) (m k : ℕ) : Type 0 where
  pub area : Area
  pub says : drop_automatic (master_of root m) (heads_of root m) b k ≡ accept area
  pub middle : Middle root L freed s r a i area
  pub used : AllUsed root area

-- an entry that stays counts lines, or is no automatic one
whole_again : {root : List ℕ} {b : Area} {m k : ℕ} → UsedBut root b m k → (automatic (kind root m) ≡ true → Used root m b k) → AllUsed root b
whole_again {root} {b} {m} {k} U u = record { uses = λ t S A j h. go t S A j h (ℕ_discrete t m) (ℕ_discrete j k) }
  where
    go : (t : ℕ) → IsSet root t → automatic (kind root t) ≡ true → (j : ℕ) → alive b (shape_of root t) j ≡ true → Dec (t ≡ m) → Dec (j ≡ k) → Used root t b j
    go t S A j h (no n) _ = U.uses t S A j h (inl n)
    go t S A j h (yes z) (no n) = U.uses t S A j h (inr n)
    go t S A j h (yes z) (yes y) = subst (λ w. Used root t b w) (sym y) (subst (λ n. Used root n b k) (sym z) (u (subst (λ n. automatic (kind root n) ≡ true) z A)))

pub dropped : {root : List ℕ} (g : root_good root ≡ true) {L : Lines} {freed : ℕ → List ℕ} {s r i : ℕ} {a b : Area} → Middle root L freed s r a i b → {m : ℕ} → IsSet root m → detail (kind root m) ≡ false
    → {k : ℕ} → alive b (master_of root m).shape k ≡ true → UsedBut root b m k → Dropped root L freed s r a i b m k
unfolding master_of heads
dropped {root} g {L} {freed} {s} {r} {i} {a} {b} M {m} T D {k} l U =
    go (drop_right (master_ok root g m (as_set T) (master_set root g m (as_set T) D)) (M.masters m T D) (heads_of root m) (omega (arith, as_many root m)) k l (slots_within g M m T D k l))
  where
    go : DropEnds (area_length root) (master_of root m) (heads_of root m) b k → Dropped root L freed s r a i b m k
    go (manual e n) = record { area = b; says = e; middle = M; used = whole_again U (λ A. absurd (true≢false (sym A ∙ n))) }
    go (stays j h n e) = record { area = b; says = e; middle = M; used = whole_again U (λ A. record { slot = j; in_record = omega (arith, as_many root m); counts = n }) }
    go (drops c e A z R) = record { area = c; says = e; middle = gone_middle g M T D z R; used = gone_used g M T D z R U }
