-- A call on an entry of a manual master keeps the base's invariant, with the lines of every path as they were: put, delete, and update with the key kept.
use Rattle.std.specs.Prelude.{◌≡◌, refl, ◌≢◌, List, true, false, ℕ, ◌+◌, ◌*◌, ◌≤◌, ◌<◌, length, get_or}
use Rattle.std.proofs.Common.{sym, ◌∙◌, true≢false, arith, ne_eqb}
use Rattle.std.proofs.Math.Path.{ap, subst}
use Rattle.std.proofs.Math.Decide.{ℕ_discrete}
use Rattle.spec.specs.declared.Refusal.TheVariants.{KeyPresent, SetFull, HasLines}
use Rattle.spec.specs.declared.Shape.{Shape}
use Rattle.spec.specs.declared.Master.{Master}
use Rattle.spec.specs.Outcome.{Outcome, accept, refuse}
use Rattle.spec.specs.Root.{root_good, kind, detail, automatic, path_master}
use Rattle.spec.specs.Layout.{area_length, shape_of, master_of, path_of, heads_of}
use Rattle.spec.specs.Area.{Area, value, put_entry_at}
use Rattle.spec.specs.Master.{find_key, Put}
use Rattle.spec.specs.Detail.{Line, none_passed}
use Rattle.spec.specs.Calls.{put_master, delete_master}
use Rattle.spec.specs.Follow.{goes, stops, fails}
use Rattle.history.specs.Shapes.{Beside}
use Rattle.history.specs.Spots.{alive}
use Rattle.history.specs.Apart.{Kept}
use Rattle.history.specs.Reads.{alive_in, head_in}
use Rattle.history.specs.Heads.{heads_length}
use Rattle.history.specs.Sets.{MasterOk, Owned, owned}
use Rattle.history.specs.Stores.{entries, heads, kept_alive, fores_kept, backs_kept}
use Rattle.history.specs.MasterInv.{MasterInv, master_kept}
use Rattle.history.specs.MasterFind.{Finds, present, missing, finds}
use Rattle.history.specs.MasterShift.{Carries}
use Rattle.history.specs.MasterPut as MPut
use Rattle.history.specs.MasterPut.{PutResult, put_right}
use Rattle.history.specs.MasterDelete.{GoneResult, delete_right, Within, lines_right}
use Rattle.history.specs.MasterDelete as MDel
use Rattle.history.specs.MasterUnseen.{rewritten}
use Rattle.history.specs.PathLines.{On, PathInv, link_high}
use Rattle.history.specs.PathFrame.{pstore_same, on_same, on_carried, tie_kept, kept_path}
use Rattle.history.specs.PathReads.{head_last, head_first, head_count, where_live}
use Rattle.history.specs.FreeInv.{free_kept}
use Rattle.history.specs.Base.{Lines, IsSet, IsPath, AreaInv, StillLive, EntryEnds, entry_refused, entry_done}
use Rattle.history.specs.CallEnds.{not_broken}
use Rattle.history.specs.EntrySets.{is_set, shape_sane, shapes_beside, master_fine, path_fine, to_set, kinds_differ, used_kept}

-- what a step in master s does: the master is whole, other sets are left, and the paths that lead here stand
pub record MasterStep (root : List ℕ) (L : Lines) (s : ℕ) (a b : Area) : Type 0 where
  pub whole : MasterInv (area_length root) (master_of root s) b
  pub others : (t : Shape) → Beside (shape_of root s) t → Kept t a b
  pub chains : (t q : ℕ) → IsPath root t q → path_master root t q ≡ s → Kept (shape_of root t) a b
      → On (shape_of root t) (path_of root t q) a (L t q) → On (shape_of root t) (path_of root t q) b (L t q)

module _ (root : List ℕ) (g : root_good root ≡ true) {a : Area} {L : Lines} (I : AreaInv root a L) (s : ℕ) (S : IsSet root s) (D : detail (kind root s) ≡ false) where
  module _ {b : Area} (N : MasterStep root L s a b) where
    stays : (t : ℕ) → IsSet root t → s ≢ t → Kept (shape_of root t) a b
    stays t T n = N.others (shape_of root t) (shapes_beside root g s t S T n)

    pub step_lives : StillLive root a b
    step_lives t r T E e = kept_alive (stays t T (kinds_differ root s t D E)) r ∙ e

    masters_kept : (t : ℕ) → IsSet root t → detail (kind root t) ≡ false → Dec (s ≡ t) → MasterInv (area_length root) (master_of root t) b
    unfolding master_of
    masters_kept t T E (yes e) = subst (λ k. MasterInv (area_length root) (master_of root k) b) e N.whole
    masters_kept t T E (no n) = master_kept (I.masters t T E) N.whole.long (stays t T n)

    paths_kept : (t q : ℕ) → (H : IsPath root t q) → Dec (s ≡ path_master root t q) → PathInv (shape_of root t) (path_of root t q) b (L t q)
    unfolding path_of master_of
    paths_kept t q H (yes e) =
        let K = stays t H.set (kinds_differ root s t D H.lines) in
        record { on = N.chains t q H (sym e) K (I.paths t q H).on; tie = tie_kept K (I.paths t q H).tie }
    paths_kept t q H (no n) = kept_path (stays t H.set (kinds_differ root s t D H.lines)) (stays (path_master root t q) (to_set root g t q H) n) (I.paths t q H)

    pub step_kept : automatic (kind root s) ≡ false → AreaInv root b L
    step_kept A = record {
      size = N.whole.long;
      masters = λ t T E. masters_kept t T E (ℕ_discrete s t);
      used = λ t T B k e. let K = stays t T (λ z. true≢false (sym B ∙ ap (λ k. automatic (kind root k)) (sym z) ∙ A)) in used_kept K (I.used t T B k (sym (kept_alive K k) ∙ e));
      freed = I.freed;
      frees = λ t T E. free_kept (stays t T (kinds_differ root s t D E)) (I.frees t T E);
      paths = λ t q H. paths_kept t q H (ℕ_discrete s (path_master root t q));
    }

  M : MasterOk (area_length root) (master_of root s)
  M = master_fine root g s S D

  J : MasterInv (area_length root) (master_of root s) a
  J = I.masters s S D

  -- the head of a path that leads here
  module _ (t q : ℕ) (H : IsPath root t q) (e : path_master root t q ≡ s) where
    to_here : (path_of root t q).to ≡ master_of root s
    unfolding path_of
    to_here = ap (master_of root) e

    head_low : 5 ≤ (path_of root t q).head
    head_low = omega (arith, (path_fine root g t q H).head_at)

    head_high : (path_of root t q).head + 5 ≤ (master_of root s).shape.front
    head_high = let P = path_fine root g t q H in rw (← to_here) (omega (arith, P.head_at, P.slot_in, P.to.front))

    -- entries carried with their heads carry the path
    carried_on : {b : Area} → MasterInv (area_length root) (master_of root s) b → Carries (master_of root s) a b (path_of root t q).head → Kept (shape_of root t) a b
        → On (shape_of root t) (path_of root t q) a (L t q) → On (shape_of root t) (path_of root t q) b (L t q)
    carried_on {b} W C K O = on_carried K (subst (λ m. MasterInv (area_length root) m a) (sym to_here) J).chains (subst (λ m. MasterInv (area_length root) m b) (sym to_here) W).chains
        (subst (λ m. Carries m a b (path_of root t q).head) (sym to_here) C) O

  -- ---- put

  put_step : (entry : List ℕ) (t : Put) → PutResult (area_length root) (master_of root s) a entry t → MasterStep root L s a t.area
  unfolding master_of
  put_step entry t R = record {
    whole = R.whole;
    others = R.others;
    chains = λ u q H e K O. carried_on u q H e R.whole (R.carries (path_of root u q).head (head_low u q H e) (head_high u q H e)) K O;
  }

  pub put_master_right : automatic (kind root s) ≡ false → (entry : List ℕ) → length entry ≡ (shape_of root s).entry → EntryEnds root a L (λ l. l.area) (put_master (master_of root s) a entry)
  unfolding put_master master_of
  put_master_right A entry n = go (finds M J (value (master_of root s).key entry))
    where
      E : Outcome Line → Type 0
      E = EntryEnds root a L (λ l. l.area)

      make : find_key (master_of root s) a (value (master_of root s).key entry) ≡ accept 0 → MPut.PutEnds (area_length root) (master_of root s) SetFull a entry → E (put_master (master_of root s) a entry)
      make e (MPut.no_room q d) =
          let f : put_master (master_of root s) a entry ≡ refuse SetFull = goes _ e (stops _ q) in
          subst E (sym f) (entry_refused SetFull (not_broken SetFull refl))
      make e (MPut.done t q R) =
          let N = put_step entry t R in
          let l : Line = record { at = t.at; area = t.area; passed = none_passed } in
          let f : put_master (master_of root s) a entry ≡ accept l = goes _ e (goes _ q refl) in
          subst E (sym f) (entry_done l (step_kept N A) (step_lives N))

      go : Finds (master_of root s) a (value (master_of root s).key entry) → E (put_master (master_of root s) a entry)
      go (present r e _ l q) =
          let f : put_master (master_of root s) a entry ≡ refuse KeyPresent = goes _ e (stops _ (fails KeyPresent (ne_eqb r 0 (λ z. omega (arith, (alive_in a r l).low))))) in
          subst E (sym f) (entry_refused KeyPresent (not_broken KeyPresent refl))
      go (missing e _ f) = make e (put_right M J entry n f SetFull)

  -- ---- delete

  -- every head of a live entry is within its detail's capacity
  heads_within : (r : ℕ) → alive a (shape_of root s) r ≡ true → (j : ℕ) → j < length (heads_of root s) → Within (get_or (heads_of root s) j 0) (head_in a (master_of root s).shape r (5 + 5 * j))
  unfolding master_of
  heads_within r l j h = go (owned root g s j (rw (← heads_length root s) h))
    where
      go : Owned root g s j → Within (get_or (heads_of root s) j 0) (head_in a (shape_of root s) r (5 + 5 * j))
      go o =
          let H : IsPath root o.set o.path = record { set = is_set o.set_in; lines = o.is_detail.is_detail; low = o.path_in.low; high = o.path_in.high } in
          let p = path_of root o.set o.path in
          let d = shape_of root o.set in
          let P = path_fine root g o.set o.path H in
          let Q = I.paths o.set o.path H in
          let Sd = shape_sane root g o.set H.set in
          let W = where_live (subst (λ m. MasterInv (area_length root) m a) (sym o.leads) J).chains r (subst (λ m. alive a m.shape r ≡ true) (sym o.leads) l) in
          subst (λ n. Within n (head_in a (shape_of root s) r (5 + 5 * j))) (sym o.cap)
          (subst (λ (i : ℕ). Within d.cap (head_in a (shape_of root s) r i)) o.head
          (subst (λ (m : Master). Within d.cap (head_in a m.shape r p.head)) o.leads
          record {
            count = head_count Sd P a (L o.set o.path) Q.on Q.tie W;
            back = link_high a d _ (head_last Sd P a (L o.set o.path) Q.on Q.tie W);
            fore = link_high a d _ (head_first Sd P a (L o.set o.path) Q.on Q.tie W);
          }))

  delete_step : (r : ℕ) (b : Area) → ((j : ℕ) → j < length (heads_of root s) → (heads (master_of root s).shape (5 + 5 * j) a).cnt r ≡ 0) → GoneResult (area_length root) (master_of root s) a r b → MasterStep root L s a b
  unfolding master_of
  delete_step r b z R = record {
    whole = R.whole;
    others = R.others;
    chains = λ u q H e K O. carried_on u q H e R.whole (R.carries (path_of root u q).head (head_low u q H e) (head_high u q H e) (none u q H e)) K O;
  }
    where
      none : (u q : ℕ) → IsPath root u q → path_master root u q ≡ s → (heads (shape_of root s) (path_of root u q).head a).cnt r ≡ 0
      none u q H e =
          let P = path_fine root g u q H in
          let h : P.slot < (path_of root u q).to.leads = P.slot_in in
          subst (λ (i : ℕ). (heads (shape_of root s) i a).cnt r ≡ 0) (sym P.head_at) (z P.slot (rw (heads_length root s) (subst (λ (m : Master). P.slot < m.leads) (to_here u q H e) h)))

  pub delete_master_right : automatic (kind root s) ≡ false → (r : ℕ) → alive a (shape_of root s) r ≡ true → EntryEnds root a L (λ b. b) (delete_master (master_of root s) (heads_of root s) a r)
  unfolding delete_master master_of
  delete_master_right A r l = go (lines_right M (heads_of root s) (omega (arith, heads_length root s)) a r (alive_in a r l) (heads_within r l))
    where
      E : Outcome Area → Type 0
      E = EntryEnds root a L (λ b. b)

      go : MDel.Lines (master_of root s) (heads_of root s) a r → E (delete_master (master_of root s) (heads_of root s) a r)
      go (MDel.none e z) =
          let R = delete_right M J r l in
          let N = delete_step r R.area z R.does in
          let f : delete_master (master_of root s) (heads_of root s) a r ≡ accept R.area = goes _ e R.says in
          subst E (sym f) (entry_done R.area (step_kept N A) (step_lives N))
      go (MDel.some j h n e) =
          let f : delete_master (master_of root s) (heads_of root s) a r ≡ refuse HasLines = goes _ e refl in
          subst E (sym f) (entry_refused HasLines (not_broken HasLines refl))

  -- ---- update

  pub update_step : (r : ℕ) (entry : List ℕ) → alive a (shape_of root s) r ≡ true → length entry ≡ (shape_of root s).entry → value (master_of root s).key entry ≡ (entries (master_of root s) a).key r
      → MasterStep root L s a (put_entry_at (shape_of root s) a r entry)
  unfolding master_of
  update_step r entry l n e =
      let R = rewritten M J r entry l n e in
      record {
        whole = R.whole;
        others = R.own.others;
        chains = λ u q H f K O.
            on_same (pstore_same (shape_of root u) (path_of root u q) a (put_entry_at (shape_of root s) a r entry)
            (subst (λ m. entries m (put_entry_at (shape_of root s) a r entry) ≡ entries m a) (sym (to_here u q H f)) R.same)
            (subst (λ (m : Master). heads m.shape (path_of root u q).head (put_entry_at (shape_of root s) a r entry) ≡ heads m.shape (path_of root u q).head a) (sym (to_here u q H f)) (R.same_heads (path_of root u q).head (head_high u q H f)))
            (fores_kept K _) (backs_kept K _)) O;
      }
