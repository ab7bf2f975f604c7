-- After any calls, no call on a detail meets −93: its cursor's path is one of the set's and its record is not above the capacity. This needs nothing of the area: each
-- accepted step has tested it.
use Rattle.std.specs.Prelude.{◌≡◌, Bool, true, false, not, length, replicate, leb, ltb}
use Rattle.std.proofs.Math.Path.{refl}
use Rattle.std.proofs.Common.{sym, ◌∙◌, subst, true≢false, get_or-set_other, leb-true, le-leb, ltb-true}
use Rattle.std.proofs.Math.Logic.{dite}
use mathlib.Core.List.{List, [], ◌∷◌}
use Prim.Native.Nat.{ℕ, zero, suc, ◌+◌, ◌-◌, ◌≤◌}
use native.Mathlib.Omega.{arith}
use Rattle.std.proofs.Math.Decide.{ℕ_discrete, dec_lt}
use Rattle.std.proofs.Math.ListN.{get_or}
use Rattle.std.proofs.Math.Seq.{get_or-set_same, set_out}
use Rattle.std.proofs.Math.Dec.{eqb}
use Rattle.spec.specs.declared.Shape.{Shape}
use Rattle.spec.specs.declared.Refusal.{Refusal}
use Rattle.spec.specs.declared.Refusal.TheVariants.{NoSet, BadCursor, NotByCall, NoMode, WrongLength, NoPath, ShortBuffer, NoRecord, NoneBelow, NoneAbove, RecordZero, PastCapacity, ChainStart, ChainEnd, KeyChanged, SetFull, Broken, NotSearched}
use Rattle.spec.specs.declared.Taken.{Taken}
use Rattle.spec.specs.declared.Cursor.{Cursor}
use Rattle.spec.specs.Outcome.{Outcome, accept, refuse, require, ◌>>=◌}
use Rattle.spec.specs.Words.{within, latest}
use Rattle.spec.specs.Root.{sets, kind, path_count, max_sets, detail, search_path, path_search, item_length}
use Rattle.spec.specs.Layout.{Detail, View, a_detail, view_shape, view_of, detail_of}
use Rattle.spec.specs.Area.{Area, live, read, follow}
use Rattle.spec.specs.Master.{find_key}
use Rattle.spec.specs.Detail.{head_at, Line, put_line, put_taken, put_paths, take_record, take_freed, take_above}
use Rattle.spec.specs.Cursor.{fresh, cursor_good, paths_in, readings, reading, record_for, numbered_record, chained_record, current_record, live_above, live_down, given_record, saved_record, nonzero, no_mode, readable, mode_good, value_good, path_chosen}
use Rattle.spec.specs.Calls.{Done, answer, known, named_set, named_cursor, the_detail, find_chain, find_on, find_steps, find, open_to_change, keeps_all, get_on, get_steps, get, put_in, put_on, put_steps, put, update_on, update_steps, update, delete_in, delete_on, delete_steps, delete}
use Rattle.history.specs.Chain.{All, ◌⨾◌}
use Rattle.history.specs.Walk.{by_bool}
use Rattle.history.specs.Ranges.{within_low, both}
use Rattle.history.specs.Base.{Base, Call, a_find, a_get, a_put, a_update, a_delete, answered, after, new, cursor_in, IsSet}
use Rattle.history.specs.Demand.{run_from, run}

-- ---- what an accepted step has tested

abbrev pub Holds : {A : Type 0} → (A → Type 0) → Outcome A → Type 0
Holds P (accept x) = P x
Holds P (refuse why) = Unit {0}

module _ {A B : Type 0} (P : A → Type 0) (Q : B → Type 0) where
  follows : (m : Outcome A) (f : A → Outcome B) → Holds P m → ((x : A) → P x → Holds Q (f x)) → Holds Q (m >>= f)
  follows (accept x) f h g = g x h
  follows (refuse why) f h g = tt

module _ {A B : Type 0} (Q : B → Type 0) where
  behind : (m : Outcome A) (f : A → Outcome B) → ((x : A) → Holds Q (f x)) → Holds Q (m >>= f)
  behind (accept x) f g = g x
  behind (refuse why) f g = tt

tested : {B : Type 0} (Q : B → Type 0) (b : Bool) (why : Refusal) (f : Unit {0} → Outcome B) → (b ≡ true → Holds Q (f tt)) → Holds Q (require b why >>= f)
tested Q true why f g = g refl
tested Q false why f g = tt

is_nonzero : (P : ℕ → Type 0) (r : ℕ) (why : Refusal) → P r → Holds P (nonzero r why)
unfolding nonzero
is_nonzero P r why h = by_bool (eqb r 0) (λ e. rw (e, nonzero) tt) (λ e. rw (e, nonzero) h)

was_read : (limit n : ℕ) → Holds (λ k. (k ≡ n) × (n ≤ limit)) (read limit n)
unfolding read
was_read limit n = by_bool (leb n limit) (λ e. rw (e, read) (refl, leb-true n limit e)) (λ e. rw (e, read) tt)

-- ---- the record of a get, and of a put

live_up : (s : Shape) (a : Area) (n r : ℕ) → live_above s a n r ≤ r + n
unfolding live_above
live_up s a zero r = omega arith
live_up s a (suc n) r = by_bool (live s a (r + 1)) (λ e. rw (e, live_above) (omega arith)) (λ e. rw (e, live_above) (omega (arith, live_up s a n (r + 1))))

live_low : (s : Shape) (a : Area) (r : ℕ) → live_down s a r ≤ r
unfolding live_down
live_low s a zero = omega arith
live_low s a (suc r) = by_bool (live s a (suc r)) (λ e. rw (e, live_down) (omega arith)) (λ e. rw (e, live_down) (omega (arith, live_low s a r)))

all_get : {A : Type 0} (P : A → Type 0) (xs : List A) (i : ℕ) (x : A) → P x → All P xs → P (get_or xs i x)
all_get P [] i x h a = h
all_get P (y ∷ ys) zero x h a = a.0
all_get P (y ∷ ys) (suc i) x h a = all_get P ys i x h a.1

module _ (d : Detail) (a : Area) (c : Cursor) (fits : c.current ≤ d.shape.cap) where
  abbrev Low : ℕ → Type 0
  Low k = k ≤ d.shape.cap

  saved_low : (r : ℕ) (why : Refusal) → Holds Low (saved_record d.shape a r why)
  unfolding saved_record
  saved_low r why = behind Low (nonzero r why) _ (λ _. follows (λ k. (k ≡ r) × (r ≤ d.shape.cap)) Low (read d.shape.cap r) _ (was_read d.shape.cap r) (λ k h. behind Low (follow d.shape a r) _ (λ _. h.1)))

  record_low : (mode r : ℕ) (key : List ℕ) → Holds Low (record_for (reading (a_detail d) mode) d.shape a c r key)
  unfolding reading readings record_for numbered_record chained_record current_record given_record
  record_low mode r key = all_get (λ how. Holds Low (record_for how d.shape a c r key)) (readings (a_detail d)) mode no_mode tt
      (tt ⨾ current ⨾ above ⨾ below ⨾ given ⨾ saved_low c.fore ChainEnd ⨾ saved_low c.back ChainStart ⨾ tt)
    where
      current : Holds Low (current_record d.shape a c)
      current = tested Low (ltb 0 c.current) NoRecord _ (λ _. tested Low (live d.shape a c.current) NoRecord _ (λ _. fits))

      above : Holds Low (nonzero (live_above d.shape a (d.shape.cap - c.current) c.current) NoneAbove)
      above = is_nonzero Low _ NoneAbove (omega (arith, live_up d.shape a (d.shape.cap - c.current) c.current))

      below : Holds Low (nonzero (live_down d.shape a (c.current - 1)) NoneBelow)
      below = is_nonzero Low _ NoneBelow (omega (arith, live_low d.shape a (c.current - 1)))

      given : Holds Low (given_record d.shape a r)
      given = tested Low (ltb 0 r) RecordZero _ (λ _. tested Low (leb r d.shape.cap) PastCapacity _ (λ e. tested Low (live d.shape a r) NoRecord _ (λ _. leb-true r d.shape.cap e)))

taken_low : (s : Shape) (a : Area) → Holds (λ (t : Taken). t.at ≤ s.cap) (take_record s a)
unfolding take_record take_freed take_above
taken_low s a = behind Q (read s.cap _) _ (λ high. follows (λ k. (k ≡ _) × (_ ≤ s.cap)) Q (read s.cap _) _ (was_read s.cap _) (λ r h. by_bool (eqb r 0) (λ e. rw e (up high)) (λ e. rw e (freed high r (omega (arith, h.0, h.1))))))
  where
    Q : Taken → Type 0
    Q t = t.at ≤ s.cap

    up : (high : ℕ) → Holds Q (take_above s a high)
    up high = tested Q (ltb high s.cap) SetFull _ (λ e. behind Q (require (not (live s a (high + 1))) Broken) _ (λ _. omega (arith, ltb-true high s.cap e)))

    freed : (high r : ℕ) → r ≤ s.cap → Holds Q (take_freed s a high r)
    freed high r l = behind Q (require (not (live s a r)) Broken) _ (λ _. behind Q (read s.cap _) _ (λ _. l))

line_low : (d : Detail) (a : Area) (entry : List ℕ) → Holds (λ (l : Line). l.at ≤ d.shape.cap) (put_line d a entry)
unfolding put_line put_taken
line_low d a entry = follows (λ (t : Taken). t.at ≤ d.shape.cap) Q (take_record d.shape a) _ (taken_low d.shape a) (λ t h. behind Q (put_paths d entry t.at d.paths 1 _) _ (λ _. h))
  where
    Q : Line → Type 0
    Q l = l.at ≤ d.shape.cap

-- ---- the calls on a detail

-- a cursor that a call on detail d takes
pub record Fits (d : Detail) (c : Cursor) : Type 0 where
  pub path : c.path ≤ d.paths
  pub current : c.current ≤ d.shape.cap

pub fits_good : (d : Detail) (c : Cursor) → Fits d c → cursor_good (a_detail d) c ≡ true
unfolding cursor_good paths_in view_shape
fits_good d c f = rw (le-leb c.path d.paths f.path, le-leb c.current d.shape.cap f.current)

good_fits : (d : Detail) (c : Cursor) → cursor_good (a_detail d) c ≡ true → Fits d c
unfolding cursor_good paths_in view_shape
good_fits d c e = let h = both (leb c.path d.paths) (leb c.current d.shape.cap) e in record { path = leb-true c.path d.paths h.0; current = leb-true c.current d.shape.cap h.1 }

module _ (d : Detail) (a : Area) (c : Cursor) (F : Fits d c) where
  abbrev Fine : Done → Type 0
  Fine o = Fits d o.cursor

  get_fits : (mode r : ℕ) (key : List ℕ) (room : ℕ) → Holds Fine (get_on (a_detail d) a c mode r key room)
  unfolding get_on view_shape
  get_fits mode r key room =
      let how = reading (a_detail d) mode in
      behind Fine (require (mode_good how) NoMode) _ (λ _. behind Fine (require (value_good how key) WrongLength) _ (λ _. behind Fine (require (path_chosen how c) NoPath) _
      (λ _. behind Fine (require (leb d.shape.entry room) ShortBuffer) _
      (λ _. follows (λ k. k ≤ d.shape.cap) Fine (record_for how d.shape a c r key) _ (record_low d a c F.current mode r key)
      (λ k l. behind Fine (readable (a_detail d) a c.path k) _ (λ _. record { path = F.path; current = l }))))))

  put_fits : (entry : List ℕ) → Holds Fine (put_on (a_detail d) a c entry)
  unfolding put_on put_in view_shape
  put_fits entry =
      behind Fine (require (open_to_change (a_detail d)) NotByCall) _ (λ _. behind Fine (require (eqb (length entry) d.shape.entry) WrongLength) _
      (λ _. follows (λ (l : Line). l.at ≤ d.shape.cap) Fine (put_line d a entry) _ (line_low d a entry) (λ t l. record { path = F.path; current = l })))

  update_fits : (entry : List ℕ) → Holds Fine (update_on (a_detail d) a c entry)
  unfolding update_on view_shape
  update_fits entry =
      behind Fine (require (open_to_change (a_detail d)) NotByCall) _ (λ _. behind Fine (require (eqb (length entry) d.shape.entry) WrongLength) _
      (λ _. behind Fine (current_record d.shape a c) _ (λ r. behind Fine (require (keeps_all (a_detail d) a r entry) KeyChanged) _ (λ _. F))))

  delete_fits : Holds Fine (delete_on (a_detail d) a c)
  unfolding delete_on view_shape
  delete_fits = behind Fine (require (open_to_change (a_detail d)) NotByCall) _ (λ _. behind Fine (current_record d.shape a c) _ (λ r. behind Fine (delete_in (a_detail d) a r) _ (λ _. F)))

-- ---- the calls

holds_map : {A : Type 0} (P Q : A → Type 0) (m : Outcome A) → ((x : A) → P x → Q x) → Holds P m → Holds Q m
holds_map P Q (accept x) h p = h x p
holds_map P Q (refuse why) h p = tt

holds_any : {A : Type 0} (Q : A → Type 0) (m : Outcome A) → ((x : A) → Q x) → Holds Q m
holds_any Q (accept x) h = h x
holds_any Q (refuse why) h = tt

latest_low : (n : ℕ) (test : ℕ → Bool) → latest n test ≤ n
unfolding latest
latest_low zero test = omega arith
latest_low (suc n) test = by_bool (test (suc n)) (λ e. rw (e, latest) (omega arith)) (λ e. rw (e, latest) (omega (arith, latest_low n test)))

module _ (root : List ℕ) where
  -- the cursor that an accepted call on set t leaves
  abbrev Leaves : ℕ → Done → Type 0
  Leaves t o = (1 ≤ t) × (detail (kind root t) ≡ true → Fits (detail_of root t) o.cursor)

  abbrev Named : ℕ → View → Type 0
  Named t v = (1 ≤ t) × (v ≡ view_of root t)

  is_named : (a : Area) (t : ℕ) → Holds (Named t) (named_set root a t)
  unfolding named_set
  is_named a t = behind (Named t) (known root a) _ (λ _. tested (Named t) (within 1 (sets root) t) NoSet _ (λ e. (within_low 1 (sets root) t e, refl)))

  is_good : (v : View) (cs : List Cursor) (t : ℕ) → Holds (λ c. cursor_good v c ≡ true) (named_cursor v cs t)
  unfolding named_cursor
  is_good v cs t = tested (λ c. cursor_good v c ≡ true) (cursor_good v (get_or cs (t - 1) fresh)) BadCursor _ (λ e. e)

  pub detail_view : (t : ℕ) → detail (kind root t) ≡ true → view_of root t ≡ a_detail (detail_of root t)
  unfolding view_of
  detail_view t e = rw (e, view_of)

  on_set : (a : Area) (cs : List Cursor) (t : ℕ) (on : View → Cursor → Outcome Done)
      → ((c : Cursor) → Fits (detail_of root t) c → Holds (λ o. Fits (detail_of root t) o.cursor) (on (a_detail (detail_of root t)) c))
      → Holds (Leaves t) (named_set root a t >>= (λ v. named_cursor v cs t >>= on v))
  on_set a cs t on h = follows (Named t) (Leaves t) (named_set root a t) _ (is_named a t)
      (λ v n. follows (λ c. cursor_good v c ≡ true) (Leaves t) (named_cursor v cs t) (on v) (is_good v cs t) (λ c g. by_bool (detail (kind root t))
      (λ e. whole v c n.0 (n.1 ∙ detail_view t e) g)
      (λ e. holds_any (Leaves t) (on v c) (λ o. (n.0, λ q. absurd (true≢false (sym q ∙ e)))))))
    where
      whole : (v : View) (c : Cursor) → 1 ≤ t → v ≡ a_detail (detail_of root t) → cursor_good v c ≡ true → Holds (Leaves t) (on v c)
      whole v c l e g = subst (λ w. Holds (Leaves t) (on w c)) (sym e)
          (holds_map (λ o. Fits (detail_of root t) o.cursor) (Leaves t) (on (a_detail (detail_of root t)) c) (λ o f. (l, λ _. f)) (h c (good_fits (detail_of root t) c (subst (λ w. cursor_good w c ≡ true) e g))))

  find_leaves : (a : Area) (cs : List Cursor) (t item : ℕ) (key : List ℕ) → Holds (Leaves t) (find_steps root a cs t item key)
  unfolding find_steps find_on find_chain detail_of
  find_leaves a cs t item key = follows (Named t) (Leaves t) (named_set root a t) _ (is_named a t) (λ v n. behind (Leaves t) (the_detail v) _ (λ d. behind (Leaves t) (named_cursor v cs t) _ (λ _.
      follows (λ p. p ≤ path_count root t) (Leaves t) (nonzero (search_path root t item) NotSearched) _ (is_nonzero (λ p. p ≤ path_count root t) (search_path root t item) NotSearched searched)
      (λ p l. behind (Leaves t) (require (eqb (length key) (item_length root item)) WrongLength) _ (λ _. behind (Leaves t) (find_key (d.path p).to a key) _ (λ r. behind (Leaves t) (nonzero r NoRecord) _
      (λ k. behind (Leaves t) (head_at d.shape (d.path p) a k) _ (λ h. (n.0, λ _. record { path = l; current = omega arith })))))))))
    where
      searched : search_path root t item ≤ path_count root t
      searched = unfold search_path in latest_low (path_count root t) (λ p. eqb (path_search root t p) item)

  -- one set's cursor is replaced
  module _ (a : Area) (cs : List Cursor) (t : ℕ) (buffer : List ℕ) where
    left : (o : Outcome Done) → Holds (Leaves t) o → (s : ℕ) → 1 ≤ s → detail (kind root s) ≡ true → Fits (detail_of root s) (get_or cs (s - 1) fresh) → Fits (detail_of root s) (get_or (answer a cs t buffer o).cursors (s - 1) fresh)
    unfolding answer
    left (accept o) h s l e F = dite (ℕ_discrete s t)
        (λ q. dite (dec_lt (t - 1) (length cs))
        (λ i. rw (q, get_or-set_same cs (t - 1) o.cursor fresh i) (h.1 (rw q at e)))
        (λ i. rw (set_out cs (t - 1) o.cursor (omega arith)) F))
        (λ n. rw (get_or-set_other cs (t - 1) (s - 1) o.cursor fresh (λ z. n (omega (arith, h.0)))) F)
    left (refuse why) h s l e F = F

  -- the cursor of every detail is one that its calls take
  abbrev pub CursorsFit : Base → Type 0
  CursorsFit b = (s : ℕ) → IsSet root s → detail (kind root s) ≡ true → Fits (detail_of root s) (cursor_in b s)

  fit_after : (b : Base) (c : Call) → CursorsFit b → CursorsFit (after root b c)
  unfolding after answered cursor_in find get put update delete get_steps put_steps update_steps delete_steps
  fit_after b (a_find t item value) F s S e = left b.area b.cursors t [] _ (find_leaves b.area b.cursors t item value) s S.low e (F s S e)
  fit_after b (a_get t mode number value buffer) F s S e = left b.area b.cursors t buffer _
      (on_set b.area b.cursors t (λ v c. get_on v b.area c mode number value (length buffer)) (λ c f. get_fits (detail_of root t) b.area c f mode number value (length buffer))) s S.low e (F s S e)
  fit_after b (a_put t entry) F s S e = left b.area b.cursors t [] _ (on_set b.area b.cursors t (λ v c. put_on v b.area c entry) (λ c f. put_fits (detail_of root t) b.area c f entry)) s S.low e (F s S e)
  fit_after b (a_update t entry) F s S e = left b.area b.cursors t [] _ (on_set b.area b.cursors t (λ v c. update_on v b.area c entry) (λ c f. update_fits (detail_of root t) b.area c f entry)) s S.low e (F s S e)
  fit_after b (a_delete t) F s S e = left b.area b.cursors t [] _ (on_set b.area b.cursors t (λ v c. delete_on v b.area c) (λ c f. delete_fits (detail_of root t) b.area c f)) s S.low e (F s S e)

  fit_new : CursorsFit (new root)
  unfolding new cursor_in
  fit_new s S e = rw (all_fresh max_sets (s - 1)) record { path = omega arith; current = omega arith }
    where
      all_fresh : (n i : ℕ) → get_or (replicate n fresh) i fresh ≡ fresh
      all_fresh zero i = refl
      all_fresh (suc n) zero = refl
      all_fresh (suc n) (suc i) = all_fresh n i

  fit_from : (cs : List Call) (b : Base) → CursorsFit b → CursorsFit (run_from root b cs)
  unfolding run_from
  fit_from [] b F = F
  fit_from (c ∷ cs) b F = fit_from cs (after root b c) (fit_after b c F)

  pub cursors_fit : (cs : List Call) → CursorsFit (run root cs)
  unfolding run
  cursors_fit cs = fit_from cs (new root) fit_new
