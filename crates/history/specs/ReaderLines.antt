-- What a get and a find read of a base that has the invariant: never trouble, and what they save in a detail's cursor leads to live lines or nowhere, never to the line
-- that it is saved with.
use Rattle.std.specs.Prelude.{◌≡◌, ◌≢◌, false, ℕ, zero, suc, ◌+◌, ◌-◌, ◌≤◌, leb, ltb, eqb, get_or}
use Rattle.std.proofs.Math.Path.{refl, subst}
use Rattle.std.proofs.Common.{sym, ◌∙◌, inr, arith}
use Rattle.std.proofs.Math.Logic.{inl}
use mathlib.Core.List.{List, [], ◌∷◌, map}
use Rattle.std.proofs.Math.Bool.{true}
use borrow.Author.Tests.{ltb-true, leb-true, eqb-false}
use Rattle.spec.specs.declared.Refusal.{Refusal}
use Rattle.spec.specs.declared.Refusal.TheVariants.{NoMode, NoRecord, NoneBelow, NoneAbove, RecordZero, PastCapacity, ChainStart, ChainEnd}
use Rattle.spec.specs.declared.Shape.{Shape}
use Rattle.spec.specs.declared.Links.{Links}
use Rattle.spec.specs.declared.Cursor.{Cursor}
use Rattle.spec.specs.declared.Master.{Master}
use Rattle.spec.specs.declared.Path.{Path}
use Rattle.spec.specs.Words.{same}
use Rattle.spec.specs.Outcome.{Outcome, accept, refuse}
use Rattle.spec.specs.Root.{root_good, kind, detail, path_count}
use Rattle.spec.specs.Layout.{shape_of, master_of, path_of, detail_of, heads_of, a_master, a_detail, links_of}
use Rattle.spec.specs.Area.{Area, live, peek_links, read_links}
use Rattle.spec.specs.Cursor.{saved_links, links_readable, readable, no_mode, readings, reading, nonzero, current_record, live_above, live_down, given_record, saved_record, keyed_record, numbered_record, chained_record, record_for}
use Rattle.spec.specs.Follow.{goes, taken, other}
use Rattle.history.specs.Chain.{All, ◌⨾◌}
use Rattle.history.specs.Walk.{by_bool}
use Rattle.history.specs.PathStep.{path_delete}
use Rattle.history.specs.PathInv.{chain_by_key, mine, clean_chain}
use Rattle.history.specs.PathLinks.{headed_is}
use Rattle.history.specs.MasterKeys.{seen}
use Rattle.history.specs.Shapes.{Sane}
use Rattle.history.specs.Spots.{alive}
use Rattle.history.specs.Reads.{live_alive, alive_in, links_in, peek_links_in, read_accepts, follow_accepts}
use Rattle.history.specs.Sets.{MasterOk, PathOk}
use Rattle.history.specs.Steps.{links_fit}
use Rattle.history.specs.Stores.{fores, backs}
use Rattle.history.specs.MasterInv.{MasterInv, synonyms_read}
use Rattle.history.specs.MasterFind.{Finds, present, missing, finds}
use Rattle.history.specs.PathLines.{PLine, line_record, line_key, line_at, above, pstore, On, Tie, Link, link_high}
use Rattle.history.specs.PathReads.{line_on, line_present, links_of_line, links_read}
use Rattle.history.specs.Base.{Lines, IsSet, IsPath, CursorInv, AreaInv}
use Rattle.history.specs.CallEnds.{broken, not_broken, Ends, refused, done, asks, some_number, number_ends, answers}
use Rattle.history.specs.EntrySets.{shape_sane, path_fine, master_fine}

-- ---- the links of a line

-- what may be saved with line r
pub record Neighbours (a : Area) (d : Shape) (r : ℕ) (l : Links) : Type 0 where
  pub back : Link a d l.back
  pub fore : Link a d l.fore
  pub not_back : l.back ≢ r
  pub not_fore : l.fore ≢ r

module _ {size : ℕ} {d : Shape} {p : Path} (S : Sane size d) (P : PathOk size d p) (a : Area) (xs : List PLine) (I : On d p a xs) (T : Tie d p a xs) (r : ℕ) (e : alive a d r ≡ true) where
  -- a line's neighbour on a path is another line
  pub links_off : (backs d p.links a r ≢ r) × (fores d p.links a r ≢ r)
  unfolding pstore seen
  links_off =
      let k = (line_at d p a r).key in
      let c = map line_record (chain_by_key line_record line_key same (above p) k xs) in
      let v = (path_delete c r (line_on S P a xs I T r e) (clean_chain line_record (above p) (mine line_record line_key same (above p) k) xs I.inv.clean) (I.inv.chains k (line_present S P a xs I T r e))).self in (
        subst (λ j. j ≢ r) (headed_is _ (backs d p.links a) r (backs d p.links a r) some (λ n. refl)) v.0,
        subst (λ j. j ≢ r) (headed_is _ (fores d p.links a) r (fores d p.links a r) some (λ n. refl)) v.1,
      )
    where
      some : {x y : ℕ} → r ≡ 0 → x ≡ y
      some z = absurd (omega (arith, (alive_in a r e).low))

  pub neighbours : Neighbours a d r (links_in a d r p.links)
  neighbours =
      let l = links_of_line S P a xs I T r e in
      record { back = l.0; fore = l.1; not_back = links_off.0; not_fore = links_off.1 }

-- ---- the record that a mode reads

all_get_or : {A : Type 0} (P : A → Type 0) (xs : List A) (i : ℕ) (d : A) → All P xs → P d → P (get_or xs i d)
all_get_or P [] i d h o = o
all_get_or P (x ∷ xs) zero d h o = h.0
all_get_or P (x ∷ xs) (suc i) d h o = all_get_or P xs i d h.1 o

-- the cursor's own record, live
pub record Current (a : Area) (d : Shape) (c : Cursor) (k : ℕ) : Type 0 where
  pub own : k ≡ c.current
  pub live : alive a d k ≡ true

module _ (a : Area) (d : Shape) where
  is_live : (r : ℕ) → 1 ≤ r → r ≤ d.cap → live d a r ≡ true → alive a d r ≡ true
  is_live r h k e = sym (live_alive a record { low = h; high = k }) ∙ e

  pub current_ends : (c : Cursor) → c.current ≤ d.cap → Ends (Current a d c) (current_record d a c)
  unfolding current_record
  current_ends c h = asks (ltb 0 c.current) NoRecord _ refl (λ e. asks (live d a c.current) NoRecord _ refl (λ f. done c.current record { own = refl; live = is_live c.current (omega (arith, ltb-true 0 c.current e)) h f }))

  above_here : (n r : ℕ) → live d a (r + 1) ≡ true → live_above d a (suc n) r ≡ r + 1
  unfolding live_above
  above_here n r e = taken _ _ e refl

  above_on : (n r : ℕ) → live d a (r + 1) ≡ false → live_above d a (suc n) r ≡ live_above d a n (r + 1)
  unfolding live_above
  above_on n r e = other _ _ e refl

  above_none : (r : ℕ) → live_above d a 0 r ≡ 0
  unfolding live_above
  above_none r = refl

  above_live : (n r : ℕ) → r + n ≤ d.cap → live_above d a n r ≢ 0 → alive a d (live_above d a n r) ≡ true
  above_live zero r h z = absurd (z (above_none r))
  above_live (suc n) r h z = by_bool (live d a (r + 1))
      (λ e. subst (λ k. alive a d k ≡ true) (sym (above_here n r e)) (is_live (r + 1) (omega arith) (omega arith) e))
      (λ e. subst (λ k. alive a d k ≡ true) (sym (above_on n r e)) (above_live n (r + 1) (omega arith) (λ q. z (above_on n r e ∙ q))))

  down_here : (r : ℕ) → live d a (suc r) ≡ true → live_down d a (suc r) ≡ suc r
  unfolding live_down
  down_here r e = taken _ _ e refl

  down_on : (r : ℕ) → live d a (suc r) ≡ false → live_down d a (suc r) ≡ live_down d a r
  unfolding live_down
  down_on r e = other _ _ e refl

  down_none : live_down d a 0 ≡ 0
  unfolding live_down
  down_none = refl

  down_live : (r : ℕ) → r ≤ d.cap → live_down d a r ≢ 0 → alive a d (live_down d a r) ≡ true
  down_live zero h z = absurd (z down_none)
  down_live (suc r) h z = by_bool (live d a (suc r))
      (λ e. subst (λ k. alive a d k ≡ true) (sym (down_here r e)) (is_live (suc r) (omega arith) h e))
      (λ e. subst (λ k. alive a d k ≡ true) (sym (down_on r e)) (down_live r (omega arith) (λ q. z (down_on r e ∙ q))))

  given_ends : (r : ℕ) → Ends (λ k. alive a d k ≡ true) (given_record d a r)
  unfolding given_record
  given_ends r = asks (ltb 0 r) RecordZero _ refl (λ e. asks (leb r d.cap) PastCapacity _ refl (λ h. asks (live d a r) NoRecord _ refl (λ f. done r (is_live r (omega (arith, ltb-true 0 r e)) (leb-true r d.cap h) f))))

  saved_ends : (r : ℕ) (why : Refusal) → broken why ≡ false → Link a d r → Ends (λ k. alive a d k ≡ true) (saved_record d a r why)
  unfolding saved_record
  saved_ends r why n h = some_number r why _ n (λ z. answers _ (read_accepts d.cap r (link_high a d r h)) (answers _ (follow_accepts a d r h) (done r (go z h))))
    where
      go : r ≢ 0 → Link a d r → alive a d r ≡ true
      go z (inl e) = absurd (z e)
      go z (inr e) = e

  -- modes 1 to 4
  module _ (c : Cursor) (h : c.current ≤ d.cap) (r : ℕ) where
    by_current : Ends (λ k. alive a d k ≡ true) (current_record d a c)
    by_current = only (current_ends c h)
      where
        only : {o : Outcome ℕ} → Ends (Current a d c) o → Ends (λ k. alive a d k ≡ true) o
        only (refused why n) = refused why n
        only (done k q) = done k q.live

    by_above : Ends (λ k. alive a d k ≡ true) (nonzero (live_above d a (d.cap - c.current) c.current) NoneAbove)
    by_above = number_ends _ NoneAbove refl (above_live (d.cap - c.current) c.current (omega arith))

    by_below : Ends (λ k. alive a d k ≡ true) (nonzero (live_down d a (c.current - 1)) NoneBelow)
    by_below = number_ends _ NoneBelow refl (down_live (c.current - 1) (omega arith))

keyed_ends : {size : ℕ} {m : Master} {a : Area} → MasterOk size m → MasterInv size m a → (key : List ℕ) → Ends (λ k. alive a m.shape k ≡ true) (keyed_record m a key)
unfolding keyed_record
keyed_ends {m = m} {a = a} M J key = go (finds M J key)
  where
    go : Finds m a key → Ends (λ k. alive a m.shape k ≡ true) (keyed_record m a key)
    go (present r e _ l q) = answers _ e (number_ends r NoRecord refl (λ z. l))
    go (missing e _ f) = answers _ e (number_ends 0 NoRecord refl (λ z. absurd (z refl)))

module _ (root : List ℕ) (g : root_good root ≡ true) {a : Area} {L : Lines} (I : AreaInv root a L) (s : ℕ) (S : IsSet root s) (c : Cursor) (h : c.current ≤ (shape_of root s).cap) where
  -- ---- a detail

  module _ (D : detail (kind root s) ≡ true) where
    pub line_read : CursorInv root s a c → (mode r : ℕ) (key : List ℕ) → Ends (λ k. alive a (shape_of root s) k ≡ true) (record_for (reading (a_detail (detail_of root s)) mode) (shape_of root s) a c r key)
    unfolding reading readings record_for numbered_record chained_record
    line_read C mode r key =
        let d = shape_of root s in
        let none : Ends (λ k. alive a d k ≡ true) (refuse NoMode) = refused NoMode (not_broken NoMode refl) in
        all_get_or (λ how. Ends (λ k. alive a d k ≡ true) (record_for how d a c r key)) (readings (a_detail (detail_of root s))) mode no_mode
        (none ⨾ by_current a d c h r ⨾ by_above a d c h r ⨾ by_below a d c h r ⨾ given_ends a d r ⨾ saved_ends a d c.fore ChainEnd refl C.fore ⨾ saved_ends a d c.back ChainStart refl C.back ⨾ tt) none

  -- ---- a master

  module _ (D : detail (kind root s) ≡ false) where
    pub entry_read : (mode r : ℕ) (key : List ℕ) → Ends (λ k. alive a (shape_of root s) k ≡ true) (record_for (reading (a_master (master_of root s) (heads_of root s)) mode) (shape_of root s) a c r key)
    unfolding reading readings record_for numbered_record master_of
    entry_read mode r key =
        let d = shape_of root s in
        let none : Ends (λ k. alive a d k ≡ true) (refuse NoMode) = refused NoMode (not_broken NoMode refl) in
        all_get_or (λ how. Ends (λ k. alive a d k ≡ true) (record_for how d a c r key)) (readings (a_master (master_of root s) (heads_of root s))) mode no_mode
        (none ⨾ by_current a d c h r ⨾ by_above a d c h r ⨾ by_below a d c h r ⨾ given_ends a d r ⨾ none ⨾ none ⨾ keyed_ends (master_fine root g s S D) (I.masters s S D) key ⨾ tt) none

module _ (root : List ℕ) (g : root_good root ≡ true) {a : Area} {L : Lines} (I : AreaInv root a L) (s : ℕ) (S : IsSet root s) (r : ℕ) (l : alive a (shape_of root s) r ≡ true) where
  -- ---- what is saved with a record, and read first

  module _ (D : detail (kind root s) ≡ true) (path : ℕ) (h : path ≤ path_count root s) where
    on_path : path ≢ 0 → IsPath root s path
    on_path n = record { set = S; lines = D; low = omega arith; high = h }

    pub saved_right : Neighbours a (shape_of root s) r (saved_links (shape_of root s) a path r)
    unfolding saved_links path_of
    saved_right = by_bool (eqb path 0)
        (λ e. subst (Neighbours a d r) (sym (taken _ _ e refl)) record { back = inl refl; fore = inl refl; not_back = some; not_fore = some })
        (λ e. subst (Neighbours a d r) (sym (other _ _ e (read_as (eqb-false path 0 e)))) (on (eqb-false path 0 e)))
      where
        d : Shape
        d = shape_of root s

        some : 0 ≢ r
        some z = omega (arith, (alive_in a r l).low)

        read_as : path ≢ 0 → peek_links d a r (links_of path) ≡ links_in a d r (path_of root s path).links
        read_as n = peek_links_in a (links_fit (shape_sane root g s S) (path_fine root g s path (on_path n)) (alive_in a r l))

        on : path ≢ 0 → Neighbours a d r (links_in a d r (path_of root s path).links)
        on n = let H = on_path n in neighbours (shape_sane root g s S) (path_fine root g s path H) a (L s path) (I.paths s path H).on (I.paths s path H).tie r l

    pub line_readable : links_readable (shape_of root s) a path r ≡ accept tt
    unfolding links_readable path_of
    line_readable = by_bool (eqb path 0) (λ e. taken _ _ e refl) (λ e. other _ _ e (goes _ (reads (eqb-false path 0 e)) refl))
      where
        reads : path ≢ 0 → read_links (shape_of root s) a r (links_of path) ≡ accept (links_in a (shape_of root s) r (path_of root s path).links)
        reads n = let H = on_path n in links_read (shape_sane root g s S) (path_fine root g s path H) a (L s path) (I.paths s path H).on (I.paths s path H).tie r l

  module _ (D : detail (kind root s) ≡ false) (path : ℕ) where
    pub entry_readable : readable (a_master (master_of root s) (heads_of root s)) a path r ≡ accept tt
    unfolding readable master_of
    entry_readable = goes _ (synonyms_read (master_fine root g s S D) (I.masters s S D) r l) refl
