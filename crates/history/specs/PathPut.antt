-- A line placed on a path: `place_line` is never refused, it reports the lines of the key whose sort value is greater, the chain has the line where it belongs, and
-- all else stands.
use Rattle.std.specs.Prelude.{◌≡◌, ◌≢◌, ◌⊎◌, List, [], ◌∷◌, map, Bool, true, false, ◌&&◌, leb, eqb}
use Rattle.std.proofs.Math.Path.{refl, ap}
use Rattle.std.proofs.Common.{sym, ◌∙◌, subst, true≢false, suc-ne-zero, add-one, arith, leb-true, le-leb, eq-eqb, ne_eqb, eqb-true}
use Rattle.std.proofs.Math.Logic.{inl, inr}
use Prim.Native.Nat.{ℕ, zero, suc, ◌+◌, ◌≤◌, ◌<◌}
use Rattle.std.proofs.Math.ListN.{length}
use Rattle.spec.specs.declared.Refusal.TheVariants.{Broken}
use Rattle.spec.specs.declared.Shape.{Shape}
use Rattle.spec.specs.declared.Head.{Head}
use Rattle.spec.specs.declared.Path.{Path}
use Rattle.spec.specs.declared.Spot.{Spot}
use Rattle.spec.specs.Words.{same, greater}
use Rattle.spec.specs.Outcome.{Outcome, accept, refuse}
use Rattle.spec.specs.Follow.{goes, taken, other}
use Rattle.spec.specs.Area.{Area, value, value_at, read_links}
use Rattle.spec.specs.Detail.{pass, at_end, spot_for, link_in, place_line}
use Rattle.history.specs.Chain.{All, ◌⨾◌, all_map, all_both, Free}
use Rattle.history.specs.Walk.{by_bool, Stop, stop, lost, walk, lead}
use Rattle.history.specs.Sorted.{keep, sort}
use Rattle.history.specs.History.{reported}
use Rattle.history.specs.PathStep as Step
use Rattle.history.specs.PathInv.{mine, chain_by_key, PutStep, all_chain, all_mapped, free_chain, inv_place, inv_put}
use Rattle.history.specs.PathLinks.{headed_both, headed_is}
use Rattle.history.specs.Runs.{num_one}
use Rattle.history.specs.Ranges.{and_both, three}
use Rattle.history.specs.Shapes.{Sane, In, Beside, beside_sym}
use Rattle.history.specs.Spots.{val, alive, cell}
use Rattle.history.specs.Writes.{one, two}
use Rattle.history.specs.Apart.{by_set, by_record, by_test, by_place}
use Rattle.history.specs.Shown.{gives_put, two_val, here, ◌▸◌}
use Rattle.history.specs.Writers.{Ran, start, ran_val, shows_val}
use Rattle.history.specs.Reads.{alive_in, head_in, links_in, read_links_accepts, follow_accepts}
use Rattle.history.specs.Sets.{PathOk}
use Rattle.history.specs.Steps.{links_fit, link_in_writes, link_in_run}
use Rattle.history.specs.Stores.{fores, backs, same_keys}
use Rattle.history.specs.PathLines.{PLine, line_record, line_key, line_of, above, path_order, same_key, pstore, On, Tied, Tie, Link, link_high, link_row, not_line, sort_read, Where, where_in, seen_here, seen_count, nexts, prevs, seen_f, seen_b, seen_last}
use Rattle.history.specs.PathFrame.{own_link, own_head, Frame, frame_of, frame_where, frame_present, frame_heads, head_words, link_words, gives_if, cond_or}
use Rattle.history.specs.PathReads.{all_links, head_lines, head_count, head_read}

-- ---- what linking in writes

module _ {size : ℕ} {d : Shape} {p : Path} (S : Sane size d) (P : PathOk size d p) (a : Area) (l : length a ≡ size) (k r u v n : ℕ) (h : Head)
    (K : In p.to.shape k) (R : In d r) (U : Link a d u) (W : Link a d v) where
  abbrev spot : Spot
  spot = record { behind = u; ahead = v; passed = n }

  abbrev b : Area
  b = link_in d p a k h r spot

  step : Ran a (link_in_writes d p k h r spot []) b
  step = link_in_run S P start h spot K R (link_high a d u U) (link_high a d v W)

  pub link_in_frame : Frame d p k r a b
  link_in_frame = frame_of S P k r step (
      own_link r (p.links + 2) (two v) refl (omega arith) (omega arith) (inr refl)
      ⨾ own_link r p.links (two u) refl (omega arith) (omega arith) (inr refl)
      ⨾ own_head _ (p.head + 3) (two r) refl (omega arith) (omega arith) (cond_or (eqb u 0) k)
      ⨾ own_head _ (p.head + 1) (two r) refl (omega arith) (omega arith) (cond_or (eqb v 0) k)
      ⨾ own_head k p.head (one (h.count + 1)) refl (omega arith) (omega arith) (inr refl)
      ⨾ own_link v p.links (two r) refl (omega arith) (omega arith) (inl W)
      ⨾ own_link u (p.links + 2) (two r) refl (omega arith) (omega arith) (inl U)
      ⨾ tt)

  abbrev far : Beside p.to.shape d
  far = beside_sym P.beside

  small : (j : ℕ) → j ≤ d.cap → j < 4294967296
  small j g = omega (arith, S.cap_high)

  module _ (ur : u ≢ r) (vr : v ≢ r) where
    -- the forward links, with the head as record 0
    next_else : (j : ℕ) → j ≢ u → j ≢ r → nexts d p k b j ≡ nexts d p k a j
    next_else j ju jr = headed_both _ _ (fores d p.links b) (fores d p.links a) j
        (λ e. ran_val step _ (by_set P.beside ⨾ by_set P.beside ⨾ by_test (eqb u 0) (λ t. absurd (ju (e ∙ sym (eqb-true u 0 t)))) ⨾ by_place (inl (omega arith)) ⨾ by_place (inl (omega arith)) ⨾ by_set P.beside ⨾ by_set P.beside ⨾ tt))
        (λ _. ran_val step _ (by_record jr ⨾ by_record jr ⨾ by_set far ⨾ by_set far ⨾ by_set far ⨾ by_place (inl (omega arith)) ⨾ by_record ju ⨾ tt))

    next_behind : nexts d p k b u ≡ r
    next_behind = headed_is _ (fores d p.links b) u r
        (λ e. shows_val step l _ (by_set P.beside ▸ by_set P.beside ▸ here (gives_if (eqb u 0) (eq-eqb u 0 e) (gives_put P.to.sane (head_words S P K (omega arith)) refl))) (two_val r (small r R.high)))
        (λ z. shows_val step l _ (by_record ur ▸ by_record ur ▸ by_set far ▸ by_set far ▸ by_set far ▸ by_place (inl (omega arith))
        ▸ here (gives_put S (link_words S P (link_row a d u U z) (omega arith)) refl)) (two_val r (small r R.high)))

    next_own : fores d p.links b r ≡ v
    next_own = shows_val step l _ (here (gives_put S (link_words S P R (omega arith)) refl)) (two_val v (small v (link_high a d v W)))

    -- the backward links
    prev_else : (j : ℕ) → j ≢ v → j ≢ r → prevs d p k b j ≡ prevs d p k a j
    prev_else j jv jr = headed_both _ _ (backs d p.links b) (backs d p.links a) j
        (λ e. ran_val step _ (by_set P.beside ⨾ by_set P.beside ⨾ by_place (inr (omega arith)) ⨾ by_test (eqb v 0) (λ t. absurd (jv (e ∙ sym (eqb-true v 0 t)))) ⨾ by_place (inl (omega arith)) ⨾ by_set P.beside ⨾ by_set P.beside ⨾ tt))
        (λ _. ran_val step _ (by_record jr ⨾ by_record jr ⨾ by_set far ⨾ by_set far ⨾ by_set far ⨾ by_record jv ⨾ by_place (inr (omega arith)) ⨾ tt))

    prev_ahead : prevs d p k b v ≡ r
    prev_ahead = headed_is _ (backs d p.links b) v r
        (λ e. shows_val step l _ (by_set P.beside ▸ by_set P.beside ▸ by_place (inr (omega arith)) ▸ here (gives_if (eqb v 0) (eq-eqb v 0 e) (gives_put P.to.sane (head_words S P K (omega arith)) refl))) (two_val r (small r R.high)))
        (λ z. shows_val step l _ (by_record vr ▸ by_record vr ▸ by_set far ▸ by_set far ▸ by_set far
        ▸ here (gives_put S (link_words S P (link_row a d v W z) (omega arith)) refl)) (two_val r (small r R.high)))

    prev_own : backs d p.links b r ≡ u
    prev_own = shows_val step l _ (by_place (inr (omega arith)) ▸ here (gives_put S (link_words S P R (omega arith)) refl)) (two_val u (small u (link_high a d u U)))

    pub link_in_count : val b (cell p.to.shape k p.head 1) ≡ h.count + 1
    link_in_count = shows_val step l _ (by_set P.beside ▸ by_set P.beside ▸ by_place (inr (omega arith)) ▸ by_place (inr (omega arith))
        ▸ here (gives_put P.to.sane (head_words S P K (omega arith)) refl)) (num_one _)

    -- to the theory it is the step of a put between u and v
    module _ (key srt : List ℕ) (Y : Where p a key k) (c : h.count ≡ val a (cell p.to.shape k p.head 1)) where
      pub link_in_step : PutStep line_record line_key same (above p) (pstore d p a) (pstore d p b) (record { rec = r; key = key; sort = srt }) u v
      link_in_step =
          let F = link_in_frame in
          let Y' : Where p b key k = frame_where S P F Y in
          record {
            but_f = λ j ju jr _. seen_f Y' d j ∙ next_else j ju jr ∙ sym (seen_f Y d j);
            but_b = λ j jv jr _. seen_b Y' d j ∙ prev_else j jv jr ∙ sym (seen_b Y d j);
            at_p = seen_f Y' d u ∙ next_behind;
            at_q = seen_b Y' d v ∙ prev_ahead;
            own_f = seen_f Y' d r ∙ headed_is _ (fores d p.links b) r v (λ e. absurd (omega (arith, R.low))) (λ _. next_own);
            own_b = seen_b Y' d r ∙ headed_is _ (backs d p.links b) r u (λ e. absurd (omega (arith, R.low))) (λ _. prev_own);
            count = omega (arith, seen_count Y' d, link_in_count, seen_count Y d);
            present = frame_present S P F;
            others = frame_heads S P F Y;
          }

-- ---- where the line goes

abbrev to_spot : Stop → Outcome Spot
to_spot (stop u v n) = accept (record { behind = u; ahead = v; passed = n })
to_spot lost = refuse Broken

abbrev stopped : Stop → Bool
stopped (stop u v n) = true
stopped lost = false

module _ {size : ℕ} {d : Shape} {p : Path} (S : Sane size d) (P : PathOk size d p) (a : Area) (entry : List ℕ) where
  -- what is asked of a line before its links are used, and whether it is passed
  abbrev good : ℕ → Bool
  good j = alive a d j && leb (backs d p.links a j) d.cap && leb (fores d p.links a j) d.cap

  abbrev over : ℕ → Bool
  over j = p.sorted && greater (value_at d p.sort a j) (value p.sort entry)

  links_good : (j : ℕ) → good j ≡ true → read_links d a j p.links ≡ accept (links_in a d j p.links)
  links_good j g =
      let h = three (alive a d j) _ _ g in
      read_links_accepts a (links_fit S P (alive_in a j h.0)) (leb-true _ _ h.1) (leb-true _ _ h.2)

  module _ (b : ℕ → ℕ) (hb : (j : ℕ) → j ≢ 0 → b j ≡ backs d p.links a j) where
    -- the definitions' walk is the theory's
    pass_right : p.sorted ≡ true → (m j q n u v i : ℕ) → walk good over b m j q n ≡ stop u v i
        → pass d p a (value p.sort entry) m (record { behind = j; ahead = q; passed = n }) ≡ to_spot (stop u v i)
    unfolding walk pass
    pass_right e zero zero q n u v i w = ap to_spot w
    pass_right e zero (suc j) q n u v i w = absurd (true≢false (sym (ap stopped w)))
    pass_right e (suc m) zero q n u v i w = ap to_spot w
    pass_right e (suc m) (suc j) q n u v i w =
        by_bool (good (suc j))
        (λ g. other _ _ (ne_eqb (suc j) 0 (suc-ne-zero j)) (goes _ (follow_accepts a d (suc j) (inr (three _ _ _ g).0)) (by_bool (greater (value_at d p.sort a (suc j)) (value p.sort entry))
        (λ t. taken _ _ t (goes _ (links_good (suc j) g)
        (on (hb (suc j) (suc-ne-zero j)) (add-one n) (pass_right e m (b (suc j)) (suc j) (suc n) u v i (rw (g, e, t, walk) at w)))))
        (λ t. other _ _ t (ap to_spot (rw (g, e, t, walk) at w))))))
        (λ g. absurd (true≢false (sym (ap stopped (rw (g, walk) at w)))))
      where
        on : {x y n' : ℕ} → x ≡ y → n' ≡ suc n → pass d p a (value p.sort entry) m (record { behind = x; ahead = suc j; passed = suc n }) ≡ to_spot (stop u v i)
            → pass d p a (value p.sort entry) m (record { behind = y; ahead = suc j; passed = n' }) ≡ to_spot (stop u v i)
        on f g h = rw (g, ← f) h

    end_right : p.sorted ≡ false → (m j u v i : ℕ) → walk good over b m j 0 0 ≡ stop u v i → at_end d a j ≡ to_spot (stop u v i)
    unfolding walk at_end
    end_right e zero zero u v i w = goes _ (follow_accepts a d 0 (inl refl)) (ap to_spot w)
    end_right e zero (suc j) u v i w = absurd (true≢false (sym (ap stopped w)))
    end_right e (suc m) zero u v i w = goes _ (follow_accepts a d 0 (inl refl)) (ap to_spot w)
    end_right e (suc m) (suc j) u v i w =
        by_bool (good (suc j))
        (λ g. goes _ (follow_accepts a d (suc j) (inr (three _ _ _ g).0)) (ap to_spot (rw (g, e, walk) at w)))
        (λ g. absurd (true≢false (sym (ap stopped (rw (g, walk) at w)))))

    spot_right : (last u v i : ℕ) → walk good over b d.cap last 0 0 ≡ stop u v i → spot_for d p a entry last ≡ to_spot (stop u v i)
    unfolding spot_for
    spot_right last u v i w = by_bool p.sorted
        (λ e. taken _ _ e (pass_right e d.cap last 0 0 u v i w))
        (λ e. other _ _ e (end_right e d.cap last u v i w))

-- ---- the line is placed

-- what placing a line for record r comes to, with its key in record k of the master
pub record PutOn (d : Shape) (p : Path) (a : Area) (xs : List PLine) (k r : ℕ) (entry : List ℕ) : Type 0 where
  pub area : Area
  pub answer : place_line d p a k r entry ≡ accept (record { area = area; passed = reported line_record same_key (above p) xs (line_of p entry r) })
  pub frame : Frame d p k r a area
  pub on : On d p area (line_of p entry r ∷ xs)
  pub count : val area (cell p.to.shape k p.head 1) ≡ val a (cell p.to.shape k p.head 1) + 1

module _ {size : ℕ} {d : Shape} {p : Path} (S : Sane size d) (P : PathOk size d p) (a : Area) (l : length a ≡ size) (xs : List PLine) (I : On d p a xs) (T : Tie d p a xs) (k r : ℕ) (entry : List ℕ) where
  -- each line of the path passes what is asked, and its sort value is the one that it is known by
  tests : All (λ y. (good S P a entry y.rec ≡ true) × (over S P a entry y.rec ≡ above p y (line_of p entry r))) xs
  unfolding above line_of
  tests = all_both xs one T.each (all_links S P a xs I T)
    where
      one : (y : PLine) → Tied d p a y → Link a d (backs d p.links a y.rec) × Link a d (fores d p.links a y.rec)
          → (good S P a entry y.rec ≡ true) × (over S P a entry y.rec ≡ above p y (line_of p entry r))
      one y t h = (
        and_both _ _ (and_both _ _ t.live (le-leb _ _ (link_high a d _ h.0))) (le-leb _ _ (link_high a d _ h.1)),
        by_bool p.sorted (λ e. ap (λ v. p.sorted && greater v (value p.sort entry)) (sort_read S P a l (alive_in a y.rec t.live) e ∙ ap (λ z. z.sort) (sym t.shows))) (λ e. rw e),
      )

  pub put_on : In d r → alive a d r ≡ false → Where p a (value p.search entry) k → PutOn d p a xs k r entry
  unfolding place_line line_of reported
  put_on R dead W =
      let key = value p.search entry in
      let m = p.to.shape in
      let h = head_in a m k p.head in
      let x = line_of p entry r in
      let o : Free 0 0 r (map line_record xs) = not_line r T R dead in
      let lc : length (chain_by_key line_record line_key same (above p) key xs) ≤ d.cap = omega (arith, head_lines S P a xs I T W, head_count S P a xs I T W) in
      let u = inv_place line_record line_key same (above p) same_keys (path_order p) (pstore d p a) xs x d.cap (good S P a entry) (over S P a entry) I.inv o (seen_here W d) tests lc in
      let n = u.joins.near r (free_chain line_record (above p) r (mine line_record line_key same (above p) key) xs o) in
      let Lp : Link a d u.p = on_line u.p u.joins.p_in in
      let Lq : Link a d u.q = on_line u.q u.joins.q_in in
      let N = lead (λ y. above p y x) (chain_by_key line_record line_key same (above p) key xs) in
      let K = where_in W in
      record {
        area = link_in d p a k h r (record { behind = u.p; ahead = u.q; passed = N });
        answer = goes _ (head_read S P a xs I T W) (goes _ (subst (λ z. spot_for d p a entry z ≡ accept (record { behind = u.p; ahead = u.q; passed = N })) (seen_last W d)
            (spot_right S P a entry _ (λ j z. seen_b W d j ∙ headed_is _ (backs d p.links a) j _ (λ e. absurd (z e)) (λ _. refl)) _ u.p u.q N u.walked)) refl);
        frame = link_in_frame S P a l k r u.p u.q N h K R Lp Lq;
        on = record {
          inv = inv_put line_record line_key same (above p) same_keys (path_order p) (pstore d p a) _ xs x u.p u.q I.inv o (seen_here W d) u.joins
              (link_in_step S P a l k r u.p u.q N h K R Lp Lq n.0 n.1 key x.sort W refl);
        };
        count = link_in_count S P a l k r u.p u.q N h K R Lp Lq n.0 n.1;
      }
    where
      on_line : (j : ℕ) → (j ≡ 0) ⊎ Step.In j (map line_record (chain_by_key line_record line_key same (above p) (value p.search entry) xs)) → Link a d j
      on_line j (inl e) = inl e
      on_line j (inr i) = inr (Step.all_in (λ z. alive a d z ≡ true) j (map line_record (chain_by_key line_record line_key same (above p) (value p.search entry) xs)) i
          (all_chain line_record (above p) (λ z. alive a d z ≡ true) (mine line_record line_key same (above p) (value p.search entry)) xs (all_mapped (λ z. alive a d z ≡ true) line_record xs (all_map xs (λ y (t : Tied d p a y). t.live) T.each))))

-- "0 for a path that is .. unsorted"
pub unsorted_none : (p : Path) (xs : List PLine) (x : PLine) → p.sorted ≡ false → reported line_record same_key (above p) xs x ≡ 0
unfolding reported
unsorted_none p xs x e = none (sort (above p) (keep (same_key x) xs))
  where
    none : (ys : List PLine) → lead (λ y. above p y x) ys ≡ 0
    none [] = unfold lead in refl
    none (y ∷ ys) = unfold lead above in rw (e, lead)
