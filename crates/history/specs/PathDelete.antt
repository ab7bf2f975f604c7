-- A line taken off a path: `hung` is never refused, the chain is closed behind the line, its count is lowered, and all else stands.
use Rattle.std.specs.Prelude.{◌≡◌, ◌≢◌, true, ℕ, ◌+◌, ◌-◌, ◌≤◌, ◌<◌, eqb}
use Rattle.std.proofs.Math.Path.{refl}
use Rattle.std.proofs.Common.{sym, ap, ◌∙◌, inl, inr, eq-eqb, eqb-true, lt-ltb}
use mathlib.Core.List.{List, [], ◌∷◌, map}
use native.Mathlib.Omega.{arith}
use Rattle.std.proofs.Math.ListN.{length, length-map}
use Rattle.spec.specs.declared.Refusal.TheVariants.{Broken}
use Rattle.spec.specs.declared.Shape.{Shape}
use Rattle.spec.specs.declared.Head.{Head}
use Rattle.spec.specs.declared.Links.{Links}
use Rattle.spec.specs.declared.Path.{Path}
use Rattle.spec.specs.Words.{same}
use Rattle.spec.specs.Outcome.{accept}
use Rattle.spec.specs.Follow.{goes, passes}
use Rattle.spec.specs.Area.{Area}
use Rattle.spec.specs.Detail.{link_out, drop_automatic, hung, unhang}
use Rattle.history.specs.Chain.{◌⨾◌}
use Rattle.history.specs.History.{del}
use Rattle.history.specs.PathStep as Step
use Rattle.history.specs.PathInv.{fv, bv, chain_by_key, DelStep, inv_delete}
use Rattle.history.specs.PathLinks.{headed_both, headed_is}
use Rattle.history.specs.Runs.{num_one}
use Rattle.history.specs.Shapes.{Sane, In, Beside, beside_sym}
use Rattle.history.specs.Spots.{val, alive, cell}
use Rattle.history.specs.Writes.{one, two}
use Rattle.history.specs.Apart.{by_set, by_record, by_test, by_place}
use Rattle.history.specs.Shown.{gives_put, two_val, here, ◌▸◌}
use Rattle.history.specs.Writers.{Ran, start, ran_val, shows_val}
use Rattle.history.specs.Reads.{alive_in, head_in, links_in, follow_accepts}
use Rattle.history.specs.Sets.{PathOk}
use Rattle.history.specs.Steps.{link_out_writes, link_out_run}
use Rattle.history.specs.Stores.{fores, backs, same_keys}
use Rattle.history.specs.PathLines.{PLine, line_record, line_key, line_at, above, path_order, pstore, On, Tie, Link, link_high, link_row, Where, where_in, seen_here, seen_count, nexts, prevs, seen_f, seen_b}
use Rattle.history.specs.PathFrame.{own_link, own_head, Frame, frame_of, frame_where, frame_present, frame_heads, head_words, link_words, gives_if, cond_or}
use Rattle.history.specs.PathReads.{line_on, links_of_line, links_read, head_lines, head_read}

-- ---- what linking out writes

module _ {size : ℕ} {d : Shape} {p : Path} (S : Sane size d) (P : PathOk size d p) (a : Area) (l : length a ≡ size) (k r u v : ℕ) (h : Head) (K : In p.to.shape k) (U : Link a d u) (W : Link a d v) where
  abbrev own : Links
  own = record { back = u; fore = v }

  abbrev b : Area
  b = link_out d p a k h own

  step : Ran a (link_out_writes d p k h own []) b
  step = link_out_run S P start h own K (link_high a d u U) (link_high a d v W)

  pub link_out_frame : Frame d p k r a b
  link_out_frame = frame_of S P k r step (
      own_head _ (p.head + 3) (two v) refl (omega arith) (omega arith) (cond_or (eqb u 0) k)
      ⨾ own_head _ (p.head + 1) (two u) refl (omega arith) (omega arith) (cond_or (eqb v 0) k)
      ⨾ own_head k p.head (one (h.count - 1)) refl (omega arith) (omega arith) (inr refl)
      ⨾ own_link v p.links (two u) refl (omega arith) (omega arith) (inl W)
      ⨾ own_link u (p.links + 2) (two v) refl (omega arith) (omega arith) (inl U)
      ⨾ tt)

  abbrev far : Beside p.to.shape d
  far = beside_sym P.beside

  small : (j : ℕ) → Link a d j → j < 4294967296
  small j g = omega (arith, link_high a d j g, S.cap_high)

  -- the forward links, with the head as record 0
  next_else : (j : ℕ) → j ≢ u → nexts d p k b j ≡ nexts d p k a j
  next_else j ju = headed_both _ _ (fores d p.links b) (fores d p.links a) j
      (λ e. ran_val step _ (by_test (eqb u 0) (λ t. absurd (ju (e ∙ sym (eqb-true u 0 t)))) ⨾ by_place (inl (omega arith)) ⨾ by_place (inl (omega arith)) ⨾ by_set P.beside ⨾ by_set P.beside ⨾ tt))
      (λ _. ran_val step _ (by_set far ⨾ by_set far ⨾ by_set far ⨾ by_place (inl (omega arith)) ⨾ by_record ju ⨾ tt))

  next_behind : nexts d p k b u ≡ v
  next_behind = headed_is _ (fores d p.links b) u v
      (λ e. shows_val step l _ (here (gives_if (eqb u 0) (eq-eqb u 0 e) (gives_put P.to.sane (head_words S P K (omega arith)) refl))) (two_val v (small v W)))
      (λ z. shows_val step l _ (by_set far ▸ by_set far ▸ by_set far ▸ by_place (inl (omega arith))
      ▸ here (gives_put S (link_words S P (link_row a d u U z) (omega arith)) refl)) (two_val v (small v W)))

  -- the backward links
  prev_else : (j : ℕ) → j ≢ v → prevs d p k b j ≡ prevs d p k a j
  prev_else j jv = headed_both _ _ (backs d p.links b) (backs d p.links a) j
      (λ e. ran_val step _ (by_place (inr (omega arith)) ⨾ by_test (eqb v 0) (λ t. absurd (jv (e ∙ sym (eqb-true v 0 t)))) ⨾ by_place (inl (omega arith)) ⨾ by_set P.beside ⨾ by_set P.beside ⨾ tt))
      (λ _. ran_val step _ (by_set far ⨾ by_set far ⨾ by_set far ⨾ by_record jv ⨾ by_place (inr (omega arith)) ⨾ tt))

  prev_ahead : prevs d p k b v ≡ u
  prev_ahead = headed_is _ (backs d p.links b) v u
      (λ e. shows_val step l _ (by_place (inr (omega arith)) ▸ here (gives_if (eqb v 0) (eq-eqb v 0 e) (gives_put P.to.sane (head_words S P K (omega arith)) refl))) (two_val u (small u U)))
      (λ z. shows_val step l _ (by_set far ▸ by_set far ▸ by_set far
      ▸ here (gives_put S (link_words S P (link_row a d v W z) (omega arith)) refl)) (two_val u (small u U)))

  pub link_out_count : val b (cell p.to.shape k p.head 1) ≡ h.count - 1
  link_out_count = shows_val step l _ (by_place (inr (omega arith)) ▸ by_place (inr (omega arith)) ▸ here (gives_put P.to.sane (head_words S P K (omega arith)) refl)) (num_one _)

  -- to the theory it is the step of a delete of r, if u and v are the links of r
  module _ (key : List ℕ) (Y : Where p a key k) (c : h.count ≡ val a (cell p.to.shape k p.head 1)) (some : 1 ≤ h.count)
      (eu : bv (pstore d p a) key r ≡ u) (ev : fv (pstore d p a) key r ≡ v) where
    pub link_out_step : DelStep line_record line_key same (above p) (pstore d p a) (pstore d p b) key r
    link_out_step =
        let F = link_out_frame in
        let Y' : Where p b key k = frame_where S P F Y in
        record {
          but_f = λ j ju _ _. seen_f Y' d j ∙ next_else j (rw eu at ju) ∙ sym (seen_f Y d j);
          but_b = λ j jv _ _. seen_b Y' d j ∙ prev_else j (rw ev at jv) ∙ sym (seen_b Y d j);
          at_p = ap (fv (pstore d p b) key) eu ∙ seen_f Y' d u ∙ next_behind ∙ sym ev;
          at_q = ap (bv (pstore d p b) key) ev ∙ seen_b Y' d v ∙ prev_ahead ∙ sym eu;
          count = omega (arith, seen_count Y' d, link_out_count, seen_count Y d);
          present = frame_present S P F;
          others = frame_heads S P F Y;
        }

-- ---- the line is taken off

-- the area with line r off its chain, of which the head is in record k of the master
abbrev pub unlinked : Shape → Path → Area → ℕ → ℕ → Area
unlinked d p a k r = link_out d p a k (head_in a p.to.shape k p.head) (links_in a d r p.links)

pub record OffPath (d : Shape) (p : Path) (a : Area) (xs : List PLine) (k r : ℕ) : Type 0 where
  pub answer : hung d p a k r ≡ accept (record { head = head_in a p.to.shape k p.head; links = links_in a d r p.links })
  pub frame : Frame d p k r a (unlinked d p a k r)
  pub on : On d p (unlinked d p a k r) (del line_record r xs)
  pub count : val (unlinked d p a k r) (cell p.to.shape k p.head 1) + 1 ≡ val a (cell p.to.shape k p.head 1)

module _ {size : ℕ} {d : Shape} {p : Path} (S : Sane size d) (P : PathOk size d p) (a : Area) (l : length a ≡ size) (xs : List PLine) (I : On d p a xs) (T : Tie d p a xs) (k r : ℕ) where
  pub off_path : alive a d r ≡ true → Where p a (line_at d p a r).key k → OffPath d p a xs k r
  unfolding hung
  off_path e W =
      let key = (line_at d p a r).key in
      let h = head_in a p.to.shape k p.head in
      let chain = chain_by_key line_record line_key same (above p) key xs in
      let i = line_on S P a xs I T r e in
      let some : 1 ≤ h.count = omega (arith, head_lines S P a xs I T W, length-map chain line_record, filled r (map line_record chain) i) in
      let L = links_of_line S P a xs I T r e in
      let z : 1 ≤ r = (alive_in a r e).low in
      let eu : bv (pstore d p a) key r ≡ backs d p.links a r = seen_b W d r ∙ headed_is _ (backs d p.links a) r _ (λ o. absurd (omega arith)) (λ _. refl) in
      let ev : fv (pstore d p a) key r ≡ fores d p.links a r = seen_f W d r ∙ headed_is _ (fores d p.links a) r _ (λ o. absurd (omega arith)) (λ _. refl) in
      let K = where_in W in
      let c = link_out_count S P a l k r _ _ h K L.0 L.1 in
      record {
        answer = goes _ (head_read S P a xs I T W) (goes _ (links_read S P a xs I T r e) (goes _ (follow_accepts a d _ L.0) (goes _ (follow_accepts a d _ L.1) (goes _ (passes Broken (lt-ltb _ _ some)) refl))));
        frame = link_out_frame S P a l k r _ _ h K L.0 L.1;
        on = record {
          inv = inv_delete line_record line_key same (above p) same_keys (path_order p) (pstore d p a) _ xs key r I.inv (seen_here W d) i
              (link_out_step S P a l k r _ _ h K L.0 L.1 key W refl some eu ev);
        };
        count = omega arith;
      }
    where
      filled : (j : ℕ) (ys : List ℕ) → Step.In j ys → 1 ≤ length ys
      filled j [] i = absurd i
      filled j (y ∷ ys) i = omega arith

-- so what is left of a path's turn is to drop the automatic entry
pub unhang_is : {d : Shape} {p : Path} {a : Area} {xs : List PLine} {k r : ℕ} (heads : List ℕ) → OffPath d p a xs k r → unhang d p heads a k r ≡ drop_automatic p.to heads (unlinked d p a k r) k
unfolding unhang
unhang_is heads o = goes _ o.answer refl
