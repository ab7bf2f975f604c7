-- Under a master's invariant, the put of an entry whose key is absent: it is refused only where every record is live, and then as it was told to be; otherwise the
-- invariant holds again, the entry stands in the record answered, with empty heads, and every other entry is carried with its heads and its words.
use Rattle.std.specs.Prelude.{◌≡◌, ◌≢◌, ◌⊎◌, cond, ℕ, ◌+◌, ◌≤◌, ◌<◌, length, eqb}
use Rattle.std.proofs.Math.Path.{refl, sym, ap, subst}
use Rattle.std.proofs.Common.{◌∙◌, arith, eqb-true, eq-eqb, ne_eqb, lt-ltb, le-ltb}
use Rattle.std.proofs.Math.Logic.{Ne-symm, inl, inr, dite}
use mathlib.Core.List.{List, [], ◌∷◌}
use Rattle.std.proofs.Math.Bool.{true, false}
use Rattle.std.proofs.Math.Decide.{ℕ_discrete}
use Rattle.std.proofs.lemmas.Bool.{eqb-false}
use Rattle.spec.specs.declared.Refusal.{Refusal}
use Rattle.spec.specs.declared.Shape.{Shape}
use Rattle.spec.specs.declared.Head.{Head}
use Rattle.spec.specs.declared.Master.{Master}
use Rattle.spec.specs.Outcome.{accept, refuse}
use Rattle.spec.specs.Area.{Area, value, go_unused}
use Rattle.spec.specs.Master.{address, Put, unused_from, enter, lone, lengthen, join, last_primary, named_by, relink, move_away, displace, put_held, put_entry}
use Rattle.spec.specs.Follow.{goes, stops, taken, other, passes, fails}
use Rattle.history.specs.Chain.{◌⨾◌}
use Rattle.history.specs.Walk.{by_bool}
use Rattle.history.specs.Layout.{num}
use Rattle.history.specs.Runs.{num_one, num_zeros}
use Rattle.history.specs.Synonym.{Inv}
use Rattle.history.specs.SynStep.{rechain, NewPrimary, new_primary, NewSecond, new_second, Moved, moved}
use Rattle.history.specs.SynWords.{Secondary, behind_end}
use Rattle.history.specs.Shapes.{Beside, In}
use Rattle.history.specs.Spots.{held, val, alive, cell}
use Rattle.history.specs.Writes.{put, turn, one, two}
use Rattle.history.specs.Apart.{Kept, by_kind, by_place, by_record, by_flag, run_frame}
use Rattle.history.specs.Shown.{gives_put, gives_turn, gives_copy, two_val, here, ◌▸◌}
use Rattle.history.specs.Reads.{head_in, live_alive, alive_in, follow_accepts}
use Rattle.history.specs.Writers.{Ran, start, by_synonym_count, by_synonym_back, by_synonym_fore, by_go_unused, ran_length, ran_held, ran_val, ran_alive, shows_held, shows_val, shows_alive}
use Rattle.history.specs.Sets.{MasterOk}
use Rattle.history.specs.Steps.{whole_fit, synonym_near, synonym_fit, address_in_set, carry_writes, carry_run}
use Rattle.history.specs.Stores.{entries, heads}
use Rattle.history.specs.MasterInv.{MasterInv, words_of, second_of, synonyms_read, primary_read}
use Rattle.history.specs.MasterFind.{unused_is, unused_full}
use Rattle.history.specs.MasterParts.{Own, own_self, own_then, own_run, Alone, Entered, entered}
use Rattle.history.specs.MasterShift.{load, Shift, live_other, unused_before, Carries, put_carries}

-- what an accepted put has done
pub record PutResult (size : ℕ) (m : Master) (a : Area) (entry : List ℕ) (t : Put) : Type 0 where
  pub whole : MasterInv size m t.area
  pub live : alive t.area m.shape t.at ≡ true
  pub key : (entries m t.area).key t.at ≡ value m.key entry
  pub stored : held t.area (cell m.shape t.at m.shape.front m.shape.entry) ≡ entry
  pub empty : (i n : ℕ) → 5 ≤ i → i + n ≤ m.shape.front → val t.area (cell m.shape t.at i n) ≡ 0
  -- the record that was unused, and now has the entry or the one moved for it
  pub filled : ℕ
  pub shift : Shift m.shape a t.area t.at filled
  pub others : (s : Shape) → Beside m.shape s → Kept s a t.area
  pub carries : (i : ℕ) → 5 ≤ i → i + 5 ≤ m.shape.front → Carries m a t.area i

pub data PutEnds (size : ℕ) (m : Master) (full : Refusal) (a : Area) (entry : List ℕ) : Type 0 where
  no_room : put_entry m full a entry ≡ refuse full → ((r : ℕ) → In m.shape r → alive a m.shape r ≡ true) → PutEnds size m full a entry
  done : (t : Put) → put_entry m full a entry ≡ accept t → PutResult size m a entry t → PutEnds size m full a entry

-- ---- an entry at the end of a chain

abbrev second : ℕ → Head
second p = record { count = 0; back = p; fore = 0 }

-- the primary h, the last of its chain p (or h), the record f taken
record Joined (m : Master) (a b : Area) (h p f : ℕ) (entry : List ℕ) : Type 0 where
  own : Own m.shape a b
  before : Area
  new : Entered m before b f (second p) entry
  step : NewSecond (address m) (entries m a) (entries m b) h f p (value m.key entry)
  flags : (j : ℕ) → j ≢ f → alive b m.shape j ≡ alive a m.shape j
  loads : (j : ℕ) → j ≢ f → load m.shape b j ≡ load m.shape a j
  wholes : (j n : ℕ) → j ≢ f → j ≢ h → j ≢ p → held b (cell m.shape j 0 n) ≡ held a (cell m.shape j 0 n)

module _ {size : ℕ} {m : Master} (M : MasterOk size m) (a : Area) (l : length a ≡ size) (h p f : ℕ) (H : In m.shape h) (P : In m.shape p) (F : In m.shape f) (hf : h ≢ f) (pf : p ≢ f)
    (entry : List ℕ) (n : length entry ≡ m.shape.entry) where
  abbrev longer : Area
  longer = lengthen m.shape a h (val a (cell m.shape h 0 1)) p f

  lengthened : Ran a (put m.shape h 1 (two f) ∷ put m.shape h 0 (one (val a (cell m.shape h 0 1) + 1)) ∷ put m.shape p 3 (two f) ∷ []) longer
  unfolding lengthen
  lengthened = by_synonym_back (by_synonym_count (by_synonym_fore start (synonym_near M P.high)) (synonym_fit M H)) (synonym_near M H.high)

  word : f < 4294967296
  word = omega (arith, F.high, M.sane.cap_high)

  joined : Joined m a (enter m longer f (second p) entry) h p f entry
  unfolding entries
  joined =
      let E = entered M longer (ran_length lengthened ∙ l) f F (second p) entry n (omega (arith, P.high, M.sane.cap_high)) (omega arith) in
      let K = E.rest.cells in
      let flags : (j : ℕ) → j ≢ f → alive (enter m longer f (second p) entry) m.shape j ≡ alive a m.shape j = λ j d. E.rest.flags j d ∙ ran_alive lengthened m.shape j (by_kind M.sane refl tt ⨾ by_kind M.sane refl tt ⨾ by_kind M.sane refl tt ⨾ tt) in
      record {
        own = own_then (own_run M.sane lengthened ((refl, tt) ⨾ (refl, tt) ⨾ (refl, tt) ⨾ tt)) E.rest.own;
        before = longer;
        new = E;
        flags = flags;
        loads = λ j d. K j _ _ d ∙ ran_held lengthened _ (by_place (inl (omega arith)) ⨾ by_place (inl (omega arith)) ⨾ by_place (inl (omega arith)) ⨾ tt);
        wholes = λ j k d u v. K j 0 k d ∙ ran_held lengthened _ (by_record u ⨾ by_record u ⨾ by_record v ⨾ tt);
        step = record {
          live = E.live;
          key = E.key;
          cnt = E.count;
          bk = E.back;
          nx = E.fore;
          nx_p = ap num (K p 3 2 pf) ∙ shows_val lengthened l (cell m.shape p 3 2) (by_place (inl (omega arith)) ▸ by_place (inl (omega arith)) ▸ here (gives_put M.sane record { row = P; wide = omega (arith, M.sane.filled, M.front) } refl)) (two_val f word);
          bk_h = ap num (K h 1 2 hf) ∙ shows_val lengthened l (cell m.shape h 1 2) (here (gives_put M.sane record { row = H; wide = omega (arith, M.sane.filled, M.front) } refl)) (two_val f word);
          cnt_h = ap num (K h 0 1 hf) ∙ shows_val lengthened l (cell m.shape h 0 1) (by_place (inr (omega arith)) ▸ here (gives_put M.sane record { row = H; wide = omega (arith, M.sane.filled, M.front) } refl)) (num_one _ ∙ omega arith);
          live_o = flags;
          key_o = λ j d. K j _ _ d ∙ ran_held lengthened _ (by_place (inl (omega (arith, M.front))) ⨾ by_place (inl (omega (arith, M.front))) ⨾ by_place (inl (omega (arith, M.front))) ⨾ tt);
          cnt_o = λ j d u. ap num (K j 0 1 d) ∙ ran_val lengthened _ (by_record u ⨾ by_record u ⨾ by_place (inr (omega arith)) ⨾ tt);
          bk_o = λ j d u. ap num (K j 1 2 d) ∙ ran_val lengthened _ (by_record u ⨾ by_record u ⨾ by_place (inr (omega arith)) ⨾ tt);
          nx_o = λ j d u. ap num (K j 3 2 d) ∙ ran_val lengthened _ (by_place (inl (omega arith)) ⨾ by_place (inl (omega arith)) ⨾ by_record u ⨾ tt);
        };
      }

-- ---- an entry in the place of a secondary

-- The secondary h goes to f: p is behind it, k names it back. The area `without` has h unused, and is on no way: from a to it the secondary moves, from it to b there
-- is a new primary.
record Displaced (m : Master) (a b : Area) (g h p k f : ℕ) (entry : List ℕ) : Type 0 where
  own : Own m.shape a b
  before : Area
  without : Area
  new : Entered m before b h lone entry
  unheld : Alone m.shape before without h
  dead : (entries m without).live h ≡ false
  step : Moved (address m) (entries m a) (entries m without) g h f
  live : alive b m.shape f ≡ true
  moved_load : load m.shape b f ≡ load m.shape a h
  flags : (j : ℕ) → j ≢ h → j ≢ f → alive b m.shape j ≡ alive a m.shape j
  loads : (j : ℕ) → j ≢ h → j ≢ f → load m.shape b j ≡ load m.shape a j
  wholes : (j n : ℕ) → j ≢ h → j ≢ f → j ≢ p → j ≢ k → held b (cell m.shape j 0 n) ≡ held a (cell m.shape j 0 n)

module _ {size : ℕ} {m : Master} (M : MasterOk size m) (a : Area) (l : length a ≡ size) (g h k f : ℕ) (H : In m.shape h) (P : In m.shape (val a (cell m.shape h 1 2))) (Q : In m.shape k)
    (F : In m.shape f) (hf : h ≢ f) (pf : val a (cell m.shape h 1 2) ≢ f) (qf : k ≢ f) (hp : h ≢ val a (cell m.shape h 1 2)) (hk : h ≢ k) (none : val a (cell m.shape h 0 1) ≡ 0)
    (k_next : val a (cell m.shape h 3 2) ≢ 0 → k ≡ val a (cell m.shape h 3 2)) (k_home : val a (cell m.shape h 3 2) ≡ 0 → k ≡ g) (entry : List ℕ) (n : length entry ≡ m.shape.entry) where
  abbrev p : ℕ
  p = val a (cell m.shape h 1 2)

  abbrev away : Area
  away = relink m a h p k f

  abbrev emptied : Area
  emptied = go_unused m.shape (relink m a h p k f) h

  relinked : Ran a (carry_writes m f (held a (cell m.shape h 0 m.shape.width)) (put m.shape k 1 (two f) ∷ put m.shape p 3 (two f) ∷ [])) away
  unfolding relink
  relinked = carry_run M (by_synonym_back (by_synonym_fore start (synonym_near M P.high)) (synonym_near M Q.high)) l H F (run_frame _ a _ (by_record hk ⨾ by_record hp ⨾ tt))

  cleared : Ran a (turn m.shape h false ∷ carry_writes m f (held a (cell m.shape h 0 m.shape.width)) (put m.shape k 1 (two f) ∷ put m.shape p 3 (two f) ∷ [])) emptied
  cleared = by_go_unused relinked H

  clearing : Ran away (turn m.shape h false ∷ []) emptied
  clearing = by_go_unused start H

  copied : (i k : ℕ) → i + k ≤ m.shape.width → held emptied (cell m.shape f i k) ≡ held a (cell m.shape h i k)
  copied i k w = shows_held cleared l _ (by_kind M.sane refl tt ▸ by_kind M.sane refl tt ▸ here (gives_copy M.sane a i (whole_fit F) H (omega arith) w))

  place_5 : (i k : ℕ) → 5 ≤ i → (j : ℕ) → j ≢ f → held emptied (cell m.shape j i k) ≡ held a (cell m.shape j i k)
  place_5 i k w j d = ran_held cleared _ (by_kind M.sane refl tt ⨾ by_kind M.sane refl tt ⨾ by_record d ⨾ by_place (inl (omega arith)) ⨾ by_place (inl (omega arith)) ⨾ tt)

  bits : (j : ℕ) → j ≢ f → j ≢ h → alive emptied m.shape j ≡ alive a m.shape j
  bits j d u = ran_alive cleared m.shape j (by_flag u ⨾ by_flag d ⨾ by_kind M.sane refl tt ⨾ by_kind M.sane refl tt ⨾ by_kind M.sane refl tt ⨾ tt)

  goes_live : alive emptied m.shape f ≡ true
  goes_live = shows_alive cleared l m.shape f true (by_flag (Ne-symm hf) ▸ here (gives_turn M.sane F))

  named : val emptied (cell m.shape k 1 2) ≡ f
  named = shows_val cleared l _ (by_kind M.sane refl tt ▸ by_kind M.sane refl tt ▸ by_record qf ▸ here (gives_put M.sane record { row = Q; wide = omega (arith, M.sane.filled, M.front) } refl)) (two_val f (omega (arith, F.high, M.sane.cap_high)))

  not_named : (j : ℕ) → j ≢ val a (cell m.shape h 3 2) → (val a (cell m.shape h 3 2) ≡ 0 → j ≢ g) → j ≢ k
  not_named j d u = dite (ℕ_discrete (val a (cell m.shape h 3 2)) 0) (λ z e. u z (e ∙ k_home z)) (λ z e. d (e ∙ k_next z))

  moves : Moved (address m) (entries m a) (entries m emptied) g h f
  unfolding entries
  moves = record {
    live = goes_live;
    key = copied _ _ (omega (arith, M.sane.filled, M.key.fits));
    cnt = ap num (copied 0 1 (omega (arith, M.sane.filled, M.front))) ∙ none;
    bk = ap num (copied 1 2 (omega (arith, M.sane.filled, M.front)));
    nx = ap num (copied 3 2 (omega (arith, M.sane.filled, M.front)));
    gone = shows_alive cleared l m.shape h false (here (gives_turn M.sane H));
    nx_p = shows_val cleared l _ (by_kind M.sane refl tt ▸ by_kind M.sane refl tt ▸ by_record pf ▸ by_place (inl (omega arith)) ▸ here (gives_put M.sane record { row = P; wide = omega (arith, M.sane.filled, M.front) } refl)) (two_val f (omega (arith, F.high, M.sane.cap_high)));
    bk_q = λ d. subst (λ j. val emptied (cell m.shape j 1 2) ≡ f) (k_next d) named;
    bk_g = λ e. subst (λ j. val emptied (cell m.shape j 1 2) ≡ f) (k_home e) named;
    live_o = bits;
    key_o = λ j d u. place_5 _ _ (omega (arith, M.front)) j d;
    cnt_o = λ j d u. ran_val cleared _ (by_kind M.sane refl tt ⨾ by_kind M.sane refl tt ⨾ by_record d ⨾ by_place (inr (omega arith)) ⨾ by_place (inr (omega arith)) ⨾ tt);
    nx_o = λ j d u v. ran_val cleared _ (by_kind M.sane refl tt ⨾ by_kind M.sane refl tt ⨾ by_record d ⨾ by_place (inl (omega arith)) ⨾ by_record v ⨾ tt);
    bk_o = λ j d u v w. ran_val cleared _ (by_kind M.sane refl tt ⨾ by_kind M.sane refl tt ⨾ by_record d ⨾ by_record (not_named j v w) ⨾ by_place (inr (omega arith)) ⨾ tt);
  }

  displaced : Displaced m a (enter m away h lone entry) g h p k f entry
  unfolding entries
  displaced =
      let E = entered M away (ran_length relinked ∙ l) h H lone entry n (omega arith) (omega arith) in
      let U : Alone m.shape away emptied h = record {
        own = own_run M.sane clearing ((refl, tt) ⨾ tt);
        cells = λ j i k d. ran_held clearing _ (by_kind M.sane refl tt ⨾ tt);
        flags = λ j d. ran_alive clearing m.shape j (by_flag d ⨾ tt);
      } in
      let flag : (j : ℕ) → j ≢ h → alive (enter m away h lone entry) m.shape j ≡ alive emptied m.shape j = λ j d. E.rest.flags j d ∙ sym (U.flags j d) in
      let word : (j i k : ℕ) → j ≢ h → held (enter m away h lone entry) (cell m.shape j i k) ≡ held emptied (cell m.shape j i k) = λ j i k d. E.rest.cells j i k d ∙ sym (U.cells j i k d) in
      record {
        own = own_then (own_run M.sane relinked ((refl, tt) ⨾ (refl, tt) ⨾ (refl, tt) ⨾ (refl, tt) ⨾ tt)) E.rest.own;
        before = away;
        without = emptied;
        new = E;
        unheld = U;
        dead = moves.gone;
        step = moves;
        live = flag f (Ne-symm hf) ∙ goes_live;
        moved_load = word f _ _ (Ne-symm hf) ∙ copied 5 _ (omega (arith, M.sane.filled, M.front));
        flags = λ j u d. flag j u ∙ bits j d u;
        loads = λ j u d. word j _ _ u ∙ place_5 _ _ (omega arith) j d;
        wholes = λ j i u d v w. word j _ _ u ∙ ran_held cleared _ (by_kind M.sane refl tt ⨾ by_kind M.sane refl tt ⨾ by_record d ⨾ by_record w ⨾ by_record v ⨾ tt);
      }

-- ---- an entry at its own address

-- Two areas that differ from a third in record h alone: b has a new primary there. So from the first to b, it is one.
module _ {m : Master} {x b c : Area} {h : ℕ} {entry : List ℕ} (E : Entered m x b h lone entry) (C : Alone m.shape x c h) where
  as_primary : NewPrimary (address m) (entries m c) (entries m b) h (value m.key entry)
  unfolding entries
  as_primary = record {
    live = E.live;
    key = E.key;
    cnt = E.count;
    bk = E.back;
    nx = E.fore;
    rest = λ j d. record {
      live = E.rest.flags j d ∙ sym (C.flags j d);
      key = E.rest.cells j _ _ d ∙ sym (C.cells j _ _ d);
      cnt = ap num (E.rest.cells j 0 1 d ∙ sym (C.cells j 0 1 d));
      bk = ap num (E.rest.cells j 1 2 d ∙ sym (C.cells j 1 2 d));
      nx = ap num (E.rest.cells j 3 2 d ∙ sym (C.cells j 3 2 d));
    };
  }

alone_self : {s : Shape} (a : Area) (h : ℕ) → Alone s a a h
alone_self a h = record { own = own_self a; cells = λ j i n d. refl; flags = λ j d. refl }

module _ {size : ℕ} {m : Master} (M : MasterOk size m) {a : Area} (I : MasterInv size m a) (entry : List ℕ) (n : length entry ≡ m.shape.entry)
    (fresh : (x : ℕ) → alive a m.shape x ≡ true → (entries m a).key x ≢ value m.key entry) where
  abbrev h : ℕ
  h = address m (value m.key entry)

  -- the end of each case: the chains are right, and the entries stand as `Shift` says
  put_done : {x b : Area} {r f : ℕ} {y : Head} (syn : ℕ → List ℕ) → Inv (address m) m.shape.cap (entries m b) syn → Own m.shape a b → Entered m x b r y entry → Shift m.shape a b r f
      → ((j : ℕ) → alive a m.shape j ≡ false → j ≢ r → j ≢ f → held b (cell m.shape j 0 m.shape.width) ≡ held a (cell m.shape j 0 m.shape.width))
      → PutResult size m a entry record { at = r; area = b }
  unfolding entries
  put_done {b = b} {r = r} {f = f} syn J O E H d = record {
    whole = record {
      long = O.long ∙ I.long;
      syn = syn;
      chains = J;
      leads = λ i. O.leads i ∙ I.leads i;
      unused = λ j k z. let w = unused_before H j z in d j w.2 w.0 w.1 ∙ I.unused j k w.2;
    };
    live = E.live;
    key = E.key;
    stored = E.stored;
    empty = zero_at;
    filled = f;
    shift = H;
    others = O.others;
    carries = λ i p q. put_carries M H (λ x l e. fresh x l (e ∙ E.key)) i p q (unfold heads in (zero_at i 1 p (omega arith), zero_at (i + 3) 2 (omega arith) (omega arith), zero_at (i + 1) 2 (omega arith) (omega arith)));
  }
    where
      zero_at : (i k : ℕ) → 5 ≤ i → i + k ≤ m.shape.front → val b (cell m.shape r i k) ≡ 0
      zero_at i k p q = ap num (E.empty i k p q) ∙ num_zeros k

  -- "unused, take it as primary"
  module _ (dead : alive a m.shape (address m (value m.key entry)) ≡ false) where
    put_free : PutResult size m a entry record { at = address m (value m.key entry); area = enter m a (address m (value m.key entry)) lone entry }
    unfolding entries
    put_free =
        let H = address_in_set M (value m.key entry) in
        let E = entered M a I.long (address m (value m.key entry)) H lone entry n (omega arith) (omega arith) in
        put_done _ (rechain (address m) m.shape.cap (entries m a) _ _ [] I.syn I.chains (new_primary (address m) m.shape.cap (entries m a) _ _ (value m.key entry) I.syn I.chains dead (H.low, H.high) refl (as_primary E (alone_self a _))))
        E.rest.own E record { was = dead; now = E.live; moved = inl refl; flags = λ j d _. E.rest.flags j d; loads = λ j d _. E.rest.cells j _ _ d } (λ j _ d _. E.rest.cells j _ _ d)

  -- at a live address, with the unused record f
  module _ (lh : alive a m.shape (address m (value m.key entry)) ≡ true) (f : ℕ) (F : In m.shape f) (df : alive a m.shape f ≡ false) where
    abbrev words : Head
    words = head_in a m.shape h 0

    -- "Held by a primary, take the first unused record and join the chain's end (behind last; behind h if that is 0)"
    abbrev behind : ℕ
    behind = cond (eqb (val a (cell m.shape h 1 2)) 0) h (val a (cell m.shape h 1 2))

    behind_live : alive a m.shape behind ≡ true
    unfolding entries
    behind_live = go (words_of I h lh).back.live (ℕ_discrete (val a (cell m.shape h 1 2)) 0)
      where
        go : (val a (cell m.shape h 1 2) ≡ 0) ⊎ (alive a m.shape (val a (cell m.shape h 1 2)) ≡ true) → Dec (val a (cell m.shape h 1 2) ≡ 0) → alive a m.shape behind ≡ true
        go _ (yes e) = rw (eq-eqb _ 0 e) lh
        go (inl e) (no d) = absurd (d e)
        go (inr e) (no d) = rw (ne_eqb _ 0 d) e

    abbrev joins : Area
    joins = enter m (lengthen m.shape a h (val a (cell m.shape h 0 1)) behind f) f (second behind) entry

    put_join : (entries m a).cnt h ≢ 0 → PutResult size m a entry record { at = f; area = joins }
    unfolding entries
    put_join ch =
        let D = joined M a I.long h behind f (alive_in a h lh) (alive_in a behind behind_live) F (live_other a m.shape h f lh df) (live_other a m.shape behind f behind_live df) entry n in
        let N = subst (λ p. NewSecond (address m) (entries m a) (entries m joins) h f p (value m.key entry)) (sym (behind_end (entries m a) h)) D.step in
        let R = new_second (address m) m.shape.cap (entries m a) (entries m joins) h f (value m.key entry) I.syn I.chains lh ch df (F.low, F.high) refl fresh N in
        put_done _ (rechain (address m) m.shape.cap (entries m a) (entries m joins) h _ I.syn I.chains R) D.own D.new
        record { was = df; now = D.new.live; moved = inl refl; flags = λ j d _. D.flags j d; loads = λ j d _. D.loads j d }
        (λ j z d _. D.wholes j _ d (Ne-symm (live_other a m.shape h j lh z)) (Ne-symm (live_other a m.shape behind j behind_live z)))

    put_joined : (entries m a).cnt h ≢ 0 → join m a h words f entry ≡ accept record { at = f; area = joins }
    unfolding join
    put_joined ch = goes _ (follow_accepts a m.shape behind (inr behind_live)) refl

    -- "Held by a secondary, move that one, heads included, to such a record, mend its links, and take h."
    module _ (none : (entries m a).cnt (address m (value m.key entry)) ≡ 0) where
      abbrev g : ℕ
      g = address m ((entries m a).key h)

      abbrev ahead : ℕ
      ahead = val a (cell m.shape h 3 2)

      -- the one that names it back: the next, or the primary by its last
      abbrev k : ℕ
      k = cond (eqb (val a (cell m.shape h 3 2)) 0) g (val a (cell m.shape h 3 2))

      Y : Secondary (address m) (entries m a) I.syn h
      Y = second_of I h lh none

      k_home : ahead ≡ 0 → k ≡ g
      k_home e = rw (eq-eqb _ 0 e)

      k_next : ahead ≢ 0 → k ≡ ahead
      k_next d = rw (ne_eqb _ 0 d)

      k_facts : (alive a m.shape k ≡ true) × (h ≢ k)
      unfolding entries
      k_facts = go Y.ahead.live (ℕ_discrete ahead 0)
        where
          go : (ahead ≡ 0) ⊎ (alive a m.shape ahead ≡ true) → Dec (ahead ≡ 0) → (alive a m.shape k ≡ true) × (h ≢ k)
          go _ (yes e) = rw (k_home e) (Y.live, Ne-symm Y.off)
          go (inl e) (no d) = absurd (d e)
          go (inr e) (no d) = rw (k_next d) (e, Ne-symm Y.ahead.off)

      abbrev displaces : Area
      displaces = enter m (relink m a h (val a (cell m.shape h 1 2)) k f) h lone entry

      put_displace : PutResult size m a entry record { at = h; area = displaces }
      unfolding entries
      put_displace =
          let H = alive_in a h lh in
          let kl = k_facts.0 in
          let D = displaced M a I.long g h k f H (alive_in a _ Y.behind) (alive_in a k kl) F (live_other a m.shape h f lh df) (live_other a m.shape _ f Y.behind df) (live_other a m.shape k f kl df)
          (Ne-symm Y.behind_off) k_facts.1 none k_next k_home entry n in
          let J = rechain (address m) m.shape.cap (entries m a) (entries m D.without) g _ I.syn I.chains
          (moved (address m) m.shape.cap (entries m a) (entries m D.without) g h f I.syn I.chains Y.live Y.count Y.place.pre Y.place.post Y.place.whole df (F.low, F.high) D.step) in
          put_done _ (rechain (address m) m.shape.cap (entries m D.without) (entries m displaces) h [] _ J
          (new_primary (address m) m.shape.cap (entries m D.without) (entries m displaces) h (value m.key entry) _ J D.dead (H.low, H.high) refl (as_primary D.new D.unheld))) D.own D.new
          record { was = df; now = D.new.live; moved = inr (lh, D.live, D.moved_load); flags = D.flags; loads = D.loads }
          (λ j z u d. D.wholes j _ u d (Ne-symm (live_other a m.shape _ j Y.behind z)) (Ne-symm (live_other a m.shape k j kl z)))

      named_right : named_by m a h words ≡ accept k
      unfolding named_by last_primary entries
      named_right = by_bool (eqb ahead 0)
          (λ e. taken _ _ e (goes _ (primary_read M I h lh none) (goes _ (synonyms_read M I g Y.live) (ap accept (sym (k_home (eqb-true _ _ e)))))))
          (λ e. other _ _ e (ap accept (sym (k_next (eqb-false _ _ e)))))

      put_displaced : displace m a h words f entry ≡ accept record { at = h; area = displaces }
      unfolding displace move_away entries
      put_displaced = goes _ (goes _ (follow_accepts a m.shape _ (inr Y.behind)) (goes _ (follow_accepts a m.shape ahead Y.ahead.live) (goes _ named_right refl))) refl

  -- "the first unused record going up from h"
  abbrev free : ℕ
  free = unused_from m.shape a m.shape.cap (address m (value m.key entry))

  -- THE put
  pub put_right : (full : Refusal) → PutEnds size m full a entry
  unfolding put_entry put_held entries
  put_right full = by_bool (alive a m.shape h)
      (λ e. go e (ℕ_discrete free 0) (ℕ_discrete ((entries m a).cnt h) 0))
      (λ e. done _ (other _ _ (live_alive a H ∙ e) refl) (put_free e))
    where
      H : In m.shape h
      H = address_in_set M (value m.key entry)

      go : alive a m.shape h ≡ true → Dec (free ≡ 0) → Dec ((entries m a).cnt h ≡ 0) → PutEnds size m full a entry
      go e (yes z) _ = no_room (taken _ _ (live_alive a H ∙ e) (goes _ (synonyms_read M I h e) (stops _ (fails full (le-ltb 0 free (omega (arith, z))))))) (λ r R. unused_full m.shape a h r H R z)
      go e (no d) (yes c) =
          let u = unused_is m.shape a m.shape.cap h H d in
          done _ (taken _ _ (live_alive a H ∙ e) (goes _ (synonyms_read M I h e) (goes _ (passes full (lt-ltb 0 free (omega arith))) (taken _ _ (eq-eqb _ 0 c) (put_displaced e _ u.0 u.1 c))))) (put_displace e _ u.0 u.1 c)
      go e (no d) (no c) =
          let u = unused_is m.shape a m.shape.cap h H d in
          done _ (taken _ _ (live_alive a H ∙ e) (goes _ (synonyms_read M I h e) (goes _ (passes full (lt-ltb 0 free (omega arith))) (other _ _ (ne_eqb _ 0 c) (put_joined e _ u.0 u.1 c))))) (put_join e _ u.0 u.1 c)
