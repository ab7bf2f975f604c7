-- Under a master's invariant, the delete of a live entry is never refused: the invariant holds again, its key is gone, and every other entry is carried with its heads
-- and its words. And the reading of its heads before it tells whether all their counts are 0.
use Rattle.std.specs.Prelude.{◌≡◌, ◌≢◌, ◌⊎◌, Bool, true, length, get_or, eqb}
use Rattle.std.proofs.Math.Path.{refl, sym, ap, subst}
use Rattle.std.proofs.Common.{◌∙◌, true≢false, zero-add, eqb-true, eq-eqb, ne_eqb, lt-ltb}
use Rattle.std.proofs.Math.Logic.{Ne-symm, inl, inr, dite}
use mathlib.Core.List.{List, [], ◌∷◌}
use Rattle.std.proofs.Math.Bool.{false, cond}
use Prim.Native.Nat.{ℕ, zero, suc, ◌+◌, ◌-◌, ◌*◌, ◌≤◌, ◌<◌}
use native.Mathlib.Omega.{arith}
use Rattle.std.proofs.Math.Decide.{ℕ_discrete}
use Rattle.std.proofs.Math.ListN.{replicate}
use Rattle.spec.specs.declared.Refusal.TheVariants.{Broken}
use Rattle.spec.specs.declared.Shape.{Shape}
use Rattle.spec.specs.declared.Head.{Head}
use Rattle.spec.specs.declared.Lowered.{Lowered}
use Rattle.spec.specs.declared.Master.{Master}
use Rattle.spec.specs.Outcome.{accept}
use Rattle.spec.specs.Area.{Area, copy_part, mend_synonym_back, set_synonym_count, set_synonyms}
use Rattle.spec.specs.Master.{address, no_lines, without_lines, erase, new_last, close_up, cut, lowered, unlink, promoted, promote, succeed, remove_primary, remove_entry}
use Rattle.spec.specs.Follow.{goes, taken, other, passes}
use Rattle.history.specs.Chain.{◌⨾◌}
use Rattle.history.specs.Layout.{num}
use Rattle.history.specs.Runs.{num_one}
use Rattle.history.specs.Synonym.{Inv}
use Rattle.history.specs.SynStep.{Same, rechain, Gone, gone, Promoted, promoted as promotes, dropped}
use Rattle.history.specs.SynWords.{Secondary, Leader, leader, lonely}
use Rattle.history.specs.Shapes.{Beside, In}
use Rattle.history.specs.Spots.{Spot, held, val, alive, cell}
use Rattle.history.specs.Writes.{Value, put, one, two, many}
use Rattle.history.specs.Apart.{Kept, by_kind, by_place, by_record, by_test}
use Rattle.history.specs.Shown.{Gives, gives_put, gives_copy, two_val, here, ◌▸◌}
use Rattle.history.specs.Reads.{head_in, alive_in, follow_accepts, read_head_accepts}
use Rattle.history.specs.Writers.{Ran, start, by_synonym_count, by_synonym_back, by_synonym_fore, by_synonyms, ran_length, ran_held, ran_val, ran_alive, shows_held, shows_val}
use Rattle.history.specs.Sets.{MasterOk}
use Rattle.history.specs.Steps.{synonym_near, synonym_fit, new_last_writes, new_last_run, copy_writes, copy_run}
use Rattle.history.specs.Stores.{entries, heads}
use Rattle.history.specs.MasterInv.{MasterInv, words_of, second_of, live_high, synonyms_read, primary_read}
use Rattle.history.specs.MasterParts.{Own, own_then, own_run, Erased, erased}
use Rattle.history.specs.MasterShift.{load, load_key, Shift, to, live_other, Carries, gone_carries}

-- what a delete has done
pub record GoneResult (size : ℕ) (m : Master) (a : Area) (r : ℕ) (b : Area) : Type 0 where
  pub whole : MasterInv size m b
  pub none : (x : ℕ) → alive b m.shape x ≡ true → (entries m b).key x ≢ (entries m a).key r
  -- the record that is unused now: r, or the one whose entry has moved to r
  pub freed : ℕ
  pub shift : Shift m.shape b a r freed
  pub others : (s : Shape) → Beside m.shape s → Kept s a b
  pub carries : (i : ℕ) → 5 ≤ i → i + 5 ≤ m.shape.front → (heads m.shape i a).cnt r ≡ 0 → Carries m a b i

pub record Removed (size : ℕ) (m : Master) (a : Area) (r : ℕ) : Type 0 where
  pub area : Area
  pub says : remove_entry m a r ≡ accept area
  pub does : GoneResult size m a r area

-- ---- what a write made only if a test holds gives, and the number that it writes

gives_if : {size : ℕ} {s : Shape} {r i : ℕ} {u : Value} {x : Spot} {vs : List ℕ} (t : Bool) → t ≡ true → Gives size (put s r i u) x vs → Gives size (put s (cond t r 0) i u) x vs
gives_if true e g = g
gives_if false e g = absurd (true≢false (sym e))

low : (t : Bool) (v c : ℕ) → v ≤ c → c < 4294967296 → cond t 0 v < 4294967296
low true v c h k = omega arith
low false v c h k = omega arith

-- ---- a secondary that goes

record Cut (m : Master) (a b : Area) (g r : ℕ) : Type 0 where
  own : Own m.shape a b
  before : Area
  out : Erased m before b r
  step : Gone (address m) (entries m a) (entries m b) g r
  flags : (j : ℕ) → j ≢ r → alive b m.shape j ≡ alive a m.shape j
  loads : (j : ℕ) → j ≢ r → load m.shape b j ≡ load m.shape a j
  wholes : (j n : ℕ) → j ≢ r → j ≢ g → j ≢ val a (cell m.shape r 1 2) → j ≢ val a (cell m.shape r 3 2) → held b (cell m.shape j 0 n) ≡ held a (cell m.shape j 0 n)

-- the secondary r, its primary g, p behind and q ahead of it
module _ {size : ℕ} {m : Master} (M : MasterOk size m) (a : Area) (l : length a ≡ size) (g r : ℕ) (G : In m.shape g) (R : In m.shape r)
    (P : In m.shape (val a (cell m.shape r 1 2))) (Q : val a (cell m.shape r 3 2) ≤ m.shape.cap) (gr : g ≢ r) (pr : val a (cell m.shape r 1 2) ≢ r)
    (qr : val a (cell m.shape r 3 2) ≢ r) (qg : val a (cell m.shape r 3 2) ≢ g) (some : val a (cell m.shape g 0 1) ≢ 0) where
  abbrev p : ℕ
  p = val a (cell m.shape r 1 2)

  abbrev q : ℕ
  q = val a (cell m.shape r 3 2)

  abbrev y : Head
  y = head_in a m.shape r 0

  abbrev less : ℕ
  less = val a (cell m.shape g 0 1) - 1

  abbrev closed : Area
  closed = new_last m (set_synonym_count m.shape (close_up m.shape a y) g less) g y

  closing : Ran a (new_last_writes m g y (put m.shape g 0 (one less) ∷ put m.shape q 1 (two p) ∷ put m.shape p 3 (two q) ∷ [])) closed
  unfolding close_up
  closing = new_last_run M (by_synonym_count (by_synonym_back (by_synonym_fore start (synonym_near M P.high)) (synonym_near M Q)) (synonym_fit M G)) y G.high

  lasts : q ≡ 0 → val closed (cell m.shape g 1 2) ≡ cond (eqb p g) 0 p
  lasts z = shows_val closing l (cell m.shape g 1 2) (here (gives_if (eqb q 0) (eq-eqb q 0 z) (gives_put M.sane record { row = G; wide = omega (arith, M.sane.filled, M.front) } refl)))
      (two_val _ (low (eqb p g) p m.shape.cap P.high (omega (arith, M.sane.cap_high))))

  cuts : Cut m a (erase m closed r) g r
  unfolding entries
  cuts =
      let E = erased M closed (ran_length closing ∙ l) r R in
      let K = E.rest.cells in
      let flags : (j : ℕ) → j ≢ r → alive (erase m closed r) m.shape j ≡ alive a m.shape j = λ j d. E.rest.flags j d ∙ ran_alive closing m.shape j (by_kind M.sane refl tt ⨾ by_kind M.sane refl tt ⨾ by_kind M.sane refl tt ⨾ by_kind M.sane refl tt ⨾ tt) in
      let rest : (j i n : ℕ) → j ≢ r → 5 ≤ i → held (erase m closed r) (cell m.shape j i n) ≡ held a (cell m.shape j i n) = λ j i n d w. K j i n d ∙ ran_held closing _ (by_place (inl (omega arith)) ⨾ by_place (inl (omega arith)) ⨾ by_place (inl (omega arith)) ⨾ by_place (inl (omega arith)) ⨾ tt) in
      record {
        own = own_then (own_run M.sane closing ((refl, tt) ⨾ (refl, tt) ⨾ (refl, tt) ⨾ (refl, tt) ⨾ tt)) E.rest.own;
        before = closed;
        out = E;
        flags = flags;
        loads = λ j d. rest j 5 _ d (omega arith);
        wholes = λ j n d u v w. K j 0 n d ∙ ran_held closing _ (by_test (eqb q 0) (λ e. by_record u) ⨾ by_record u ⨾ by_record w ⨾ by_record v ⨾ tt);
        step = record {
          gone = E.dead;
          cnt_g =
              let e : val (erase m closed r) (cell m.shape g 0 1) ≡ less = ap num (K g 0 1 gr) ∙ shows_val closing l _ (by_place (inr (omega arith)) ▸ here (gives_put M.sane record { row = G; wide = omega (arith, M.sane.filled, M.front) } refl)) (num_one less) in
              ap suc e ∙ omega arith;
          nx_p = ap num (K p 3 2 pr) ∙ shows_val closing l _ (by_place (inl (omega arith)) ▸ by_place (inl (omega arith)) ▸ by_place (inl (omega arith)) ▸ here (gives_put M.sane record { row = P; wide = omega (arith, M.sane.filled, M.front) } refl)) (two_val q (omega (arith, M.sane.cap_high)));
          bk_q = λ d. ap num (K q 1 2 qr) ∙ shows_val closing l _ (by_test (eqb q 0) (λ e. by_record qg) ▸ by_place (inl (omega arith)) ▸ here (gives_put M.sane record { row = record { low = omega arith; high = Q }; wide = omega (arith, M.sane.filled, M.front) } refl)) (two_val p (omega (arith, P.high, M.sane.cap_high)));
          bk_g = λ z d. ap num (K g 1 2 gr) ∙ lasts z ∙ ap (λ t. cond t 0 p) (ne_eqb p g d);
          bk_0 = λ z e. ap num (K g 1 2 gr) ∙ lasts z ∙ ap (λ t. cond t 0 p) (eq-eqb p g e);
          live_o = flags;
          key_o = λ j d. rest j _ _ d (omega (arith, M.front));
          cnt_o = λ j d u. ap num (K j 0 1 d) ∙ ran_val closing _ (by_place (inr (omega arith)) ⨾ by_record u ⨾ by_place (inr (omega arith)) ⨾ by_place (inr (omega arith)) ⨾ tt);
          nx_o = λ j d u. ap num (K j 3 2 d) ∙ ran_val closing _ (by_place (inl (omega arith)) ⨾ by_place (inl (omega arith)) ⨾ by_place (inl (omega arith)) ⨾ by_record u ⨾ tt);
          bk_o = λ j d u v. ap num (K j 1 2 d) ∙ ran_val closing _ (by_test (eqb q 0) (λ e. by_record (v (eqb-true q 0 e))) ⨾ by_place (inl (omega arith)) ⨾ by_record u ⨾ by_place (inr (omega arith)) ⨾ tt);
        };
      }

-- ---- a primary whose first secondary takes its place

record Succeeded (m : Master) (a b : Area) (r f : ℕ) : Type 0 where
  own : Own m.shape a b
  before : Area
  out : Erased m before b f
  step : Promoted (address m) (entries m a) (entries m b) r f
  moved_load : load m.shape b r ≡ load m.shape a f
  flags : (j : ℕ) → j ≢ f → alive b m.shape j ≡ alive a m.shape j
  loads : (j : ℕ) → j ≢ r → j ≢ f → load m.shape b j ≡ load m.shape a j
  wholes : (j n : ℕ) → j ≢ r → j ≢ f → j ≢ val a (cell m.shape f 3 2) → held b (cell m.shape j 0 n) ≡ held a (cell m.shape j 0 n)

-- the primary r, its first f, and q ahead of that
module _ {size : ℕ} {m : Master} (M : MasterOk size m) (a : Area) (l : length a ≡ size) (r : ℕ) (R : In m.shape r) (lr : alive a m.shape r ≡ true) (some : val a (cell m.shape r 0 1) ≢ 0)
    (B : val a (cell m.shape r 1 2) ≤ m.shape.cap) (F : In m.shape (val a (cell m.shape r 3 2))) (fr : val a (cell m.shape r 3 2) ≢ r)
    (Q : val a (cell m.shape (val a (cell m.shape r 3 2)) 3 2) ≤ m.shape.cap) (qr : val a (cell m.shape (val a (cell m.shape r 3 2)) 3 2) ≢ r)
    (qf : val a (cell m.shape (val a (cell m.shape r 3 2)) 3 2) ≢ val a (cell m.shape r 3 2))
    (alone : val a (cell m.shape (val a (cell m.shape r 3 2)) 3 2) ≡ 0 → val a (cell m.shape r 1 2) ≡ val a (cell m.shape r 3 2))
    (more : val a (cell m.shape (val a (cell m.shape r 3 2)) 3 2) ≢ 0 → val a (cell m.shape r 1 2) ≢ val a (cell m.shape r 3 2)) where
  abbrev f : ℕ
  f = val a (cell m.shape r 3 2)

  abbrev next : ℕ
  next = val a (cell m.shape (val a (cell m.shape r 3 2)) 3 2)

  abbrev last : ℕ
  last = val a (cell m.shape r 1 2)

  abbrev mended : Area
  mended = mend_synonym_back m.shape a next r

  abbrev taken_over : Area
  taken_over = set_synonyms m.shape (copy_part m.shape mended f r 5 (m.shape.width - 5)) r (promoted (head_in a m.shape r 0) next)

  mending : Ran a (put m.shape next 1 (two r) ∷ []) mended
  mending = by_synonym_back start (synonym_near M Q)

  taking : Ran a (put m.shape r 3 (two next) ∷ put m.shape r 1 (two (cond (eqb last f) 0 last)) ∷ put m.shape r 0 (one (val a (cell m.shape r 0 1) - 1)) ∷ copy_writes m r a f (put m.shape next 1 (two r) ∷ [])) taken_over
  unfolding promoted copy_part
  taking = by_synonyms (subst (λ vs. Ran a (put m.shape r 5 (many vs) ∷ put m.shape next 1 (two r) ∷ []) (copy_part m.shape mended f r 5 (m.shape.width - 5)))
      (ran_held mending (cell m.shape f 5 (m.shape.width - 5)) (by_place (inl (omega arith)) ⨾ tt)) (copy_run M mending mended (ran_length mending ∙ l) R F)) (synonym_fit M R)

  over : (i n : ℕ) → 5 ≤ i → i + n ≤ m.shape.width → held taken_over (cell m.shape r i n) ≡ held a (cell m.shape f i n)
  over i n w v = shows_held taking l _ (by_place (inl (omega arith)) ▸ by_place (inl (omega arith)) ▸ by_place (inl (omega arith)) ▸ here (gives_copy M.sane a (i - 5) record { row = R; wide = omega arith } F (omega arith) (omega arith)))

  lasts_at : val taken_over (cell m.shape r 1 2) ≡ cond (eqb last f) 0 last
  lasts_at = shows_val taking l _ (by_place (inr (omega arith)) ▸ here (gives_put M.sane record { row = R; wide = omega (arith, M.sane.filled, M.front) } refl)) (two_val _ (low (eqb last f) last m.shape.cap B (omega (arith, M.sane.cap_high))))

  succeeds : Succeeded m a (erase m taken_over f) r f
  unfolding entries
  succeeds =
      let E = erased M taken_over (ran_length taking ∙ l) f F in
      let K = E.rest.cells in
      let rf = Ne-symm fr in
      let flags : (j : ℕ) → j ≢ f → alive (erase m taken_over f) m.shape j ≡ alive a m.shape j = λ j d. E.rest.flags j d ∙ ran_alive taking m.shape j (by_kind M.sane refl tt ⨾ by_kind M.sane refl tt ⨾ by_kind M.sane refl tt ⨾ by_kind M.sane refl tt ⨾ by_kind M.sane refl tt ⨾ tt) in
      let rest : (j i n : ℕ) → j ≢ f → j ≢ r → 5 ≤ i → held (erase m taken_over f) (cell m.shape j i n) ≡ held a (cell m.shape j i n) = λ j i n d u w. K j i n d ∙ ran_held taking _ (by_record u ⨾ by_record u ⨾ by_record u ⨾ by_record u ⨾ by_place (inl (omega arith)) ⨾ tt) in
      record {
        own = own_then (own_run M.sane taking ((refl, tt) ⨾ (refl, tt) ⨾ (refl, tt) ⨾ (refl, tt) ⨾ (refl, tt) ⨾ tt)) E.rest.own;
        before = taken_over;
        out = E;
        moved_load = K r 5 _ rf ∙ over 5 _ (omega arith) (omega (arith, M.sane.filled, M.front));
        flags = flags;
        loads = λ j u d. rest j 5 _ d u (omega arith);
        wholes = λ j n u d w. K j 0 n d ∙ ran_held taking _ (by_record u ⨾ by_record u ⨾ by_record u ⨾ by_record u ⨾ by_record w ⨾ tt);
        step = record {
          gone = E.dead;
          key = K r _ _ rf ∙ over _ _ (omega (arith, M.front)) (omega (arith, M.sane.filled, M.key.fits));
          live = flags r rf ∙ lr;
          cnt_g =
              let e : val (erase m taken_over f) (cell m.shape r 0 1) ≡ val a (cell m.shape r 0 1) - 1 = ap num (K r 0 1 rf) ∙ shows_val taking l _ (by_place (inr (omega arith)) ▸ by_place (inr (omega arith)) ▸ here (gives_put M.sane record { row = R; wide = omega (arith, M.sane.filled, M.front) } refl)) (num_one _) in
              ap suc e ∙ omega arith;
          nx_g = ap num (K r 3 2 rf) ∙ shows_val taking l _ (here (gives_put M.sane record { row = R; wide = omega (arith, M.sane.filled, M.front) } refl)) (two_val next (omega (arith, M.sane.cap_high)));
          bk_q = λ d. ap num (K next 1 2 qf) ∙ shows_val taking l _ (by_record qr ▸ by_record qr ▸ by_record qr ▸ by_record qr ▸ here (gives_put M.sane record { row = record { low = omega arith; high = Q }; wide = omega (arith, M.sane.filled, M.front) } refl)) (two_val r (omega (arith, R.high, M.sane.cap_high)));
          bk_0 = λ z. ap num (K r 1 2 rf) ∙ lasts_at ∙ ap (λ t. cond t 0 last) (eq-eqb last f (alone z));
          rest = λ j d u. (
            flags j d,
            rest j _ _ d u (omega (arith, M.front)),
            ap num (K j 0 1 d) ∙ ran_val taking _ (by_record u ⨾ by_record u ⨾ by_record u ⨾ by_record u ⨾ by_place (inr (omega arith)) ⨾ tt),
            ap num (K j 3 2 d) ∙ ran_val taking _ (by_record u ⨾ by_record u ⨾ by_record u ⨾ by_record u ⨾ by_place (inl (omega arith)) ⨾ tt),
          );
          bk_o = λ j d u v. dite (ℕ_discrete j r)
              (λ e. subst (λ i. val (erase m taken_over f) (cell m.shape i 1 2) ≡ val a (cell m.shape i 1 2)) (sym e) (ap num (K r 1 2 rf) ∙ lasts_at ∙ ap (λ t. cond t 0 last) (ne_eqb last f (more (λ z. v z e)))))
              (λ w. ap num (K j 1 2 d) ∙ ran_val taking _ (by_record w ⨾ by_record w ⨾ by_record w ⨾ by_record w ⨾ by_record u ⨾ tt));
        };
      }

-- ---- the delete

module _ {size : ℕ} {m : Master} (M : MasterOk size m) {a : Area} (I : MasterInv size m a) (r : ℕ) (lr : alive a m.shape r ≡ true) where
  -- the end of each case: the chains are right, and the entries stand as `Shift` says
  gone_done : {x b : Area} {f : ℕ} (syn : ℕ → List ℕ) → Inv (address m) m.shape.cap (entries m b) syn → Own m.shape a b → Erased m x b f → Shift m.shape b a r f
      → ((j : ℕ) → In m.shape j → alive a m.shape j ≡ false → j ≢ r → j ≢ f → held b (cell m.shape j 0 m.shape.width) ≡ held a (cell m.shape j 0 m.shape.width))
      → GoneResult size m a r b
  unfolding entries
  gone_done {b = b} {f = f} syn J O E H d = record {
    whole = record {
      long = O.long ∙ I.long;
      syn = syn;
      chains = J;
      leads = λ i. O.leads i ∙ I.leads i;
      unused = λ j k z. unused j k z (ℕ_discrete j f) H.moved;
    };
    none = λ x l e. let w = to H x l in w.2 (I.chains.keys w.0 r w.1 lr (load_key M b a x w.0 w.3 ∙ e));
    freed = f;
    shift = H;
    others = O.others;
    carries = λ i p q z. gone_carries M H i p q z;
  }
    where
      unused : (j : ℕ) → In m.shape j → alive b m.shape j ≡ false → Dec (j ≡ f) → (f ≡ r) ⊎ ((alive b m.shape r ≡ true) × (alive a m.shape f ≡ true) × (load m.shape a f ≡ load m.shape b r))
          → held b (cell m.shape j 0 m.shape.width) ≡ replicate m.shape.width 0
      unused j k z (yes e) _ = rw e E.zeros
      unused j k z (no n) w = let o = off w in let q = H.flags j o n ∙ z in d j k q o n ∙ I.unused j k q
        where
          off : (f ≡ r) ⊎ ((alive b m.shape r ≡ true) × (alive a m.shape f ≡ true) × (load m.shape a f ≡ load m.shape b r)) → j ≢ r
          off (inl q) e = n (e ∙ sym q)
          off (inr q) e = live_other b m.shape r j q.0 z (sym e)

  -- an unused record is on no link
  link_off : (j x : ℕ) → In m.shape j → alive a m.shape j ≡ false → (x ≡ 0) ⊎ (alive a m.shape x ≡ true) → j ≢ x
  link_off j x k z (inl e) q = omega (arith, k.low)
  link_off j x k z (inr e) q = live_other a m.shape x j e z (sym q)

  abbrev words : Head
  words = head_in a m.shape r 0

  -- "a secondary is unlinked"
  module _ (none : (entries m a).cnt r ≡ 0) where
    abbrev g : ℕ
    g = address m ((entries m a).key r)

    abbrev lower : Lowered
    lower = record { at = g; count = val a (cell m.shape g 0 1) - 1 }

    Y : Secondary (address m) (entries m a) I.syn r
    Y = second_of I r lr none

    cut_result : GoneResult size m a r (cut m a r words lower)
    unfolding entries cut
    cut_result =
        let C = cuts M a I.long g r (alive_in a g Y.live) (alive_in a r lr) (alive_in a _ Y.behind) (live_high I _ Y.ahead.live) Y.off Y.behind_off Y.ahead.off Y.ahead_off Y.count in
        gone_done _ (rechain (address m) m.shape.cap (entries m a) (entries m (cut m a r words lower)) g _ I.syn I.chains
        (gone (address m) m.shape.cap (entries m a) (entries m (cut m a r words lower)) g r I.syn I.chains Y.live Y.count Y.place.pre Y.place.post Y.place.whole C.step)) C.own C.out
        record { was = C.out.dead; now = lr; moved = inl refl; flags = λ j d _. sym (C.flags j d); loads = λ j d _. sym (C.loads j d) }
        (λ j k z d _. C.wholes j _ d (Ne-symm (live_other a m.shape g j Y.live z)) (Ne-symm (live_other a m.shape _ j Y.behind z)) (link_off j _ k z Y.ahead.live))

    lowered_right : lowered m a r ≡ accept lower
    unfolding lowered entries
    lowered_right = goes _ (primary_read M I r lr none) (goes _ (synonyms_read M I g Y.live) (goes _ (passes Broken (lt-ltb 0 (val a (cell m.shape g 0 1)) (positive (val a (cell m.shape g 0 1)) Y.count))) refl))
      where
        positive : (v : ℕ) → v ≢ 0 → 0 < v
        positive v d = omega arith

    unlink_right : unlink m a r words ≡ accept (cut m a r words lower)
    unfolding unlink entries
    unlink_right = goes _ (follow_accepts a m.shape _ (inr Y.behind)) (goes _ (follow_accepts a m.shape _ Y.ahead.live) (goes _ lowered_right refl))

  module _ (some : (entries m a).cnt r ≢ 0) where
    -- "a primary whose first isn't 0 is replaced by that one, moved to its address"
    module _ (more : val a (cell m.shape r 3 2) ≢ 0) where
      abbrev first : ℕ
      first = val a (cell m.shape r 3 2)

      abbrev ahead : ℕ
      ahead = val a (cell m.shape (val a (cell m.shape r 3 2)) 3 2)

      L : Leader (address m) (entries m a) I.syn r first
      unfolding entries
      L = leader (address m) I.chains r lr some more

      promote_result : GoneResult size m a r (promote m a r words ahead)
      unfolding entries promote
      promote_result =
          let C = succeeds M a I.long r (alive_in a r lr) lr some (live_high I _ (words_of I r lr).back.live) (alive_in a first L.live) L.off (live_high I _ L.ahead.live) L.ahead_off L.ahead.off L.alone L.more in
          gone_done _ (rechain (address m) m.shape.cap (entries m a) (entries m (promote m a r words ahead)) r _ I.syn I.chains
          (promotes (address m) m.shape.cap (entries m a) (entries m (promote m a r words ahead)) r first I.syn I.chains lr some L.post L.whole C.step)) C.own C.out
          record { was = C.out.dead; now = lr; moved = inr (C.step.live, L.live, sym C.moved_load); flags = λ j _ d. sym (C.flags j d); loads = λ j u d. sym (C.loads j u d) }
          (λ j k z u d. C.wholes j _ u d (link_off j _ k z L.ahead.live))

      succeed_right : succeed m a r words ≡ accept (promote m a r words ahead)
      unfolding succeed entries
      succeed_right = goes _ (follow_accepts a m.shape first (inr L.live)) (goes _ (synonyms_read M I first L.live) (goes _ (follow_accepts a m.shape ahead L.ahead.live) refl))

    -- with no secondary
    erase_result : val a (cell m.shape r 3 2) ≡ 0 → GoneResult size m a r (erase m a r)
    unfolding entries
    erase_result z =
        let E = erased M a I.long r (alive_in a r lr) in
        let same : (j : ℕ) → j ≢ r → Same (entries m a) (entries m (erase m a r)) j = λ j d. record {
          live = E.rest.flags j d;
          key = E.rest.cells j _ _ d;
          cnt = ap num (E.rest.cells j 0 1 d);
          bk = ap num (E.rest.cells j 1 2 d);
          nx = ap num (E.rest.cells j 3 2 d);
        } in
        gone_done _ (rechain (address m) m.shape.cap (entries m a) (entries m (erase m a r)) r [] I.syn I.chains
        (dropped (address m) m.shape.cap (entries m a) (entries m (erase m a r)) r I.syn I.chains lr some (lonely (address m) I.chains r lr some z) E.dead same)) E.rest.own E
        record { was = E.dead; now = lr; moved = inl refl; flags = λ j d _. sym (E.rest.flags j d); loads = λ j d _. sym (E.rest.cells j _ _ d) }
        (λ j k z d _. E.rest.cells j _ _ d)

  -- THE delete
  pub delete_right : Removed size m a r
  unfolding remove_entry remove_primary entries
  delete_right = go (ℕ_discrete (val a (cell m.shape r 0 1)) 0) (ℕ_discrete (val a (cell m.shape r 3 2)) 0)
    where
      go : Dec (val a (cell m.shape r 0 1) ≡ 0) → Dec (val a (cell m.shape r 3 2) ≡ 0) → Removed size m a r
      go (yes c) _ = record { area = cut m a r words (lower c); says = goes _ (synonyms_read M I r lr) (taken _ _ (eq-eqb _ 0 c) (unlink_right c)); does = cut_result c }
      go (no c) (yes z) = record { area = erase m a r; says = goes _ (synonyms_read M I r lr) (other _ _ (ne_eqb _ 0 c) (taken _ _ (eq-eqb _ 0 z) refl)); does = erase_result c z }
      go (no c) (no d) = record { area = promote m a r words (ahead c d); says = goes _ (synonyms_read M I r lr) (other _ _ (ne_eqb _ 0 c) (other _ _ (ne_eqb _ 0 d) (succeed_right c d))); does = promote_result c d }

-- ---- the heads before it

-- what a reading of a head asks: "a head's count and links against the detail's [capacity]"
pub record Within (limit : ℕ) (h : Head) : Type 0 where
  pub count : h.count ≤ limit
  pub back : h.back ≤ limit
  pub fore : h.fore ≤ limit

-- what the reading of the heads from slot j on comes to
data LinesFrom (s : Shape) (a : Area) (r : ℕ) (caps : List ℕ) (j : ℕ) : Type 0 where
  none_from : no_lines s a r caps j ≡ accept true → ((k : ℕ) → k < length caps → val a (cell s r (5 + 5 * (j + k)) 1) ≡ 0) → LinesFrom s a r caps j
  some_from : (k : ℕ) → k < length caps → val a (cell s r (5 + 5 * (j + k)) 1) ≢ 0 → no_lines s a r caps j ≡ accept false → LinesFrom s a r caps j

later : (P : ℕ → Type 0) (j k : ℕ) → P (j + suc k) → P (j + 1 + k)
later P j k p = let e : j + suc k ≡ j + 1 + k = omega arith in subst P e p

sooner : (P : ℕ → Type 0) (j k : ℕ) → P (j + 1 + k) → P (j + suc k)
sooner P j k p = let e : j + 1 + k ≡ j + suc k = omega arith in subst P e p

lines_from : (s : Shape) (a : Area) (r : ℕ) → In s r → (caps : List ℕ) (j : ℕ) → 5 + 5 * (j + length caps) ≤ s.width
    → ((k : ℕ) → k < length caps → Within (get_or caps k 0) (head_in a s r (5 + 5 * (j + k)))) → LinesFrom s a r caps j
unfolding no_lines
lines_from s a r R [] j w ok = none_from refl (λ k h. absurd (omega arith))
lines_from s a r R (cap ∷ caps) j w ok = go (ℕ_discrete (val a (cell s r (5 + 5 * j) 1)) 0)
    (lines_from s a r R caps (j + 1) (omega arith) (λ k h. later (λ i. Within (get_or caps k 0) (head_in a s r (5 + 5 * i))) j k (ok (suc k) (omega arith))))
  where
    here_ok : Within cap (head_in a s r (5 + 5 * j))
    here_ok = let e : j + 0 ≡ j = omega arith in subst (λ i. Within cap (head_in a s r (5 + 5 * i))) e (ok 0 (omega arith))

    go : Dec (val a (cell s r (5 + 5 * j) 1) ≡ 0) → LinesFrom s a r caps (j + 1) → LinesFrom s a r (cap ∷ caps) j
    go (no d) _ = some_from 0 (omega arith) (let e : j ≡ j + 0 = omega arith in subst (λ i. val a (cell s r (5 + 5 * i) 1) ≢ 0) e d)
        (goes _ (read_head_accepts a cap record { row = R; wide = omega arith } here_ok.count here_ok.back here_ok.fore) (other _ _ (ne_eqb _ 0 d) refl))
    go (yes z) (none_from e f) = none_from (goes _ (read_head_accepts a cap record { row = R; wide = omega arith } here_ok.count here_ok.back here_ok.fore) (taken _ _ (eq-eqb _ 0 z) e)) all_zero
      where
        all_zero : (k : ℕ) → k < suc (length caps) → val a (cell s r (5 + 5 * (j + k)) 1) ≡ 0
        all_zero zero h = let e : j ≡ j + 0 = omega arith in subst (λ i. val a (cell s r (5 + 5 * i) 1) ≡ 0) e z
        all_zero (suc k) h = sooner (λ i. val a (cell s r (5 + 5 * i) 1) ≡ 0) j k (f k (omega arith))
    go (yes z) (some_from k h n e) = some_from (suc k) (omega arith) (sooner (λ i. val a (cell s r (5 + 5 * i) 1) ≢ 0) j k n)
        (goes _ (read_head_accepts a cap record { row = R; wide = omega arith } here_ok.count here_ok.back here_ok.fore) (taken _ _ (eq-eqb _ 0 z) e))

-- whether the entry in record r has lines; `caps` are the capacities of the details of the paths that lead here
pub data Lines (m : Master) (caps : List ℕ) (a : Area) (r : ℕ) : Type 0 where
  none : without_lines m caps a r ≡ accept true → ((j : ℕ) → j < length caps → (heads m.shape (5 + 5 * j) a).cnt r ≡ 0) → Lines m caps a r
  some : (j : ℕ) → j < length caps → (heads m.shape (5 + 5 * j) a).cnt r ≢ 0 → without_lines m caps a r ≡ accept false → Lines m caps a r

pub lines_right : {size : ℕ} {m : Master} → MasterOk size m → (caps : List ℕ) → length caps ≤ m.leads → (a : Area) (r : ℕ) → In m.shape r
    → ((j : ℕ) → j < length caps → Within (get_or caps j 0) (head_in a m.shape r (5 + 5 * j))) → Lines m caps a r
unfolding without_lines heads
lines_right {m = m} M caps h a r R ok = go (lines_from m.shape a r R caps 0 (omega (arith, M.sane.filled, M.front)) (λ j k. rw (zero-add j) (ok j k)))
  where
    go : LinesFrom m.shape a r caps 0 → Lines m caps a r
    go (none_from e f) = none e (λ j k. rw (zero-add j) at (f j k))
    go (some_from j k n e) = some j k (rw (zero-add j) at n) e
