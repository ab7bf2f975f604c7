-- The reader's side of demand 3: after any calls, a find by a path's search item with a key that a live master entry has is accepted, and gets in mode 5 then give the
-- lines of the key in the order of their chain, and at last 15; gets in mode 6 give the reverse, and at last 14.
use Rattle.std.specs.Prelude.{◌≡◌, ◌≢◌, true, length, set, leb}
use Rattle.std.proofs.Math.Path.{refl, ap, ap₂}
use Rattle.std.proofs.Common.{sym, ◌∙◌, inr, true≢false, length-set}
use Rattle.std.proofs.Math.Logic.{dite}
use mathlib.Core.List.{List, [], ◌∷◌, ◌++◌, map, reverse}
use Prim.Native.Nat.{ℕ, suc, ◌+◌, ◌-◌, ◌*◌, ◌/◌, ◌%◌, ◌≤◌, ◌<◌}
use native.Mathlib.Omega.{arith}
use Rattle.std.proofs.Math.Decide.{ℕ_discrete}
use Rattle.std.proofs.Math.ListN.{get_or}
use Rattle.std.proofs.lemmas.List.{length-reverse}
use Rattle.std.proofs.Math.Seq.{get_or-set_same}
use Rattle.std.proofs.Math.Dec.{eqb}
use borrow.Author.Tests.{eq-eqb, ne_eqb, le-leb, lt-ltb, eqb-true}
use Rattle.spec.specs.declared.Shape.{Shape}
use Rattle.spec.specs.declared.Head.{Head}
use Rattle.spec.specs.declared.Links.{Links}
use Rattle.spec.specs.declared.Cursor.{Cursor}
use Rattle.spec.specs.declared.Refusal.{Refusal}
use Rattle.spec.specs.declared.Refusal.TheVariants.{BadRoot, BadLength, NoSet, BadCursor, NoMode, NotSearched, WrongLength, NoPath, ShortBuffer, NoRecord, ChainStart, ChainEnd}
use Rattle.spec.specs.Outcome.{Outcome, accept, refuse, refused_words, number, twos}
use Rattle.spec.specs.Words.{word, long, long_words, any}
use Rattle.spec.specs.Root.{root_good, sets, max_sets, path_count, path_search, item_length, search_path}
use Rattle.spec.specs.Layout.{back_at, fore_at, a_detail, view_shape, detail_of, area_length, shape_of, path_of, field_of, links_of}
use Rattle.spec.specs.Area.{Area, entry_at, peek_link, peek_links, read_links}
use Rattle.spec.specs.Master.{find_key, key_at}
use Rattle.spec.specs.Detail.{head_at, none_passed}
use Rattle.spec.specs.Cursor.{fresh, at_chain, at_record, seen, saved_links, readable, links_readable, readings, reading, mode_good, value_good, path_chosen, nonzero, saved_record, chained_record, record_for, Along, forward, backward, along}
use Rattle.spec.specs.Calls.{Answer, Done, status_words, answer, known, named_set, named_cursor, the_detail, find_chain, find_on, find_steps, find, get_on, get_steps, get}
use Rattle.spec.specs.Follow.{goes, stops, other, taken, passes}
use Rattle.history.specs.Chain.{All, hd}
use Rattle.history.specs.Walk.{by_bool}
use Rattle.history.specs.Ranges.{and_both, Among, any_none, latest_at}
use Rattle.history.specs.Good.{sets_high, detail_set, searches_differ}
use Rattle.history.specs.Shapes.{In}
use Rattle.history.specs.Spots.{alive}
use Rattle.history.specs.Reads.{alive_in, follow_accepts, read_accepts}
use Rattle.history.specs.Base.{Base, Call, a_find, a_get, answered, after, new, cursor_in, Lines, IsPath, BaseInv, CallRight}
use Rattle.history.specs.Demand.{run, answers, there, record_of, reached}
use Rattle.history.specs.DemandThree.{of_key, chain_of, Live}
use Rattle.history.specs.DemandSeen.{length_chain}
use Rattle.history.specs.DemandCursors.{Fits, fits_good, detail_view, cursors_fit}
use Rattle.history.specs.DemandChains.{Leads, lines_read, sane_set, sound_path, the_size, the_master, the_path, the_chain}

-- ---- the words

-- what a reader looks at in an answer: status word 1, and the record in words 3 and 4
abbrev pub told : Answer → ℕ × ℕ
told w = (word w.status 0, long w.status 2)

-- the arguments of a get but its set and mode; modes 5 and 6 read neither number nor value
pub record Ask : Type 0 where
  pub number : ℕ
  pub value : List ℕ
  pub buffer : List ℕ

-- gets on set s in one mode, one after another
abbrev pub gets : ℕ → ℕ → List Ask → List Call
gets s mode asks = map (λ q. a_get s mode q.number q.value q.buffer) asks

-- each buffer holds an entry of the set
abbrev pub Roomy : List ℕ → ℕ → List Ask → Type 0
Roomy root s asks = All (λ q. (shape_of root s).entry ≤ length q.buffer) asks

-- After the calls cs, a find on set s by the search item of path p, with this key. It tells how many lines the key has. With one get more than that, mode 5 tells the
-- records of its lines in the order of their chain, each accepted, and then 15; mode 6 the same backward, and then 14. A refusal's other words are 0
pub record Reads (root : List ℕ) (cs : List Call) (s p : ℕ) (key : List ℕ) : Type 0 where
  pub count : long (answered root (run root cs) (a_find s (path_search root s p) key)).status 4 ≡ length (of_key (path_of root s p) key (there root s cs))
  pub forward : (asks : List Ask) → Roomy root s asks → length asks ≡ suc (length (of_key (path_of root s p) key (there root s cs)))
      → map told (answers root (run root cs) (a_find s (path_search root s p) key ∷ gets s 5 asks))
      ≡ (0, 0) ∷ map (λ r. (0, r)) (map record_of (chain_of (path_of root s p) key (there root s cs))) ++ ((15, 0) ∷ [])
  pub backward : (asks : List Ask) → Roomy root s asks → length asks ≡ suc (length (of_key (path_of root s p) key (there root s cs)))
      → map told (answers root (run root cs) (a_find s (path_search root s p) key ∷ gets s 6 asks))
      ≡ (0, 0) ∷ map (λ r. (0, r)) (reverse (map record_of (chain_of (path_of root s p) key (there root s cs)))) ++ ((14, 0) ∷ [])

-- ---- status words

-- a number of two words is told whole
whole : (r : ℕ) → r ≤ 4095 → r / 65536 % 65536 * 65536 + r % 65536 ≡ r
whole r h = omega arith

told_done : (size r n : ℕ) (l : Links) (w : Answer) → r ≤ 4095 → w.status ≡ status_words size r n l → told w ≡ (0, r)
unfolding status_words long_words long
told_done size r n l w h e = rw e (ap (λ v. (0, v)) (whole r h))

-- ---- the two ways along a chain

abbrev mode_of : Along → ℕ
mode_of forward = 5
mode_of backward = 6

abbrev saved : Along → Cursor → ℕ
saved forward c = c.fore
saved backward c = c.back

abbrev link_at : Along → ℕ
link_at forward = fore_at
link_at backward = back_at

abbrev at_last : Along → Refusal
at_last forward = ChainEnd
at_last backward = ChainStart

abbrev last_word : Along → ℕ
last_word forward = 15
last_word backward = 14

told_last : (way : Along) (w : Answer) → w.status ≡ refused_words (at_last way) → told w ≡ (last_word way, 0)
unfolding refused_words number twos long
told_last forward w e = rw e
told_last backward w e = rw e

chained : (way : Along) (s : Shape) (a : Area) (c : Cursor) → chained_record way s a c ≡ saved_record s a (saved way c) (at_last way)
unfolding chained_record
chained forward s a c = refl
chained backward s a c = refl

-- ---- one get

abbrev base : Area → List Cursor → Base
base a ks = record { area = a; cursors = ks }

-- what stands of a path of a detail in an area: its links are read at every live line
pub record Readable (root : List ℕ) (s p : ℕ) (a : Area) : Type 0 where
  pub good : root_good root ≡ true
  pub path : IsPath root s p
  pub size : length a ≡ area_length root
  pub cap : (shape_of root s).cap ≤ 4095
  pub reads : (r : ℕ) → alive a (shape_of root s) r ≡ true → (l : Links) × (read_links (shape_of root s) a r (links_of p) ≡ accept l)

module _ {root : List ℕ} {s p : ℕ} {a : Area} (R : Readable root s p a) where
  named : named_set root a s ≡ accept (a_detail (detail_of root s))
  unfolding named_set known
  named =
      let P = R.path in
      goes _ (goes _ (passes BadRoot R.good) (passes BadLength (eq-eqb (length a) (area_length root) R.size)))
      (goes _ (passes NoSet (and_both (leb 1 s) (leb s (sets root)) (le-leb 1 s P.set.low) (le-leb s (sets root) P.set.high))) (ap accept (detail_view root s P.lines)))

  pointed : (ks : List Cursor) → Fits (detail_of root s) (get_or ks (s - 1) fresh) → named_cursor (a_detail (detail_of root s)) ks s ≡ accept (get_or ks (s - 1) fresh)
  unfolding named_cursor
  pointed ks F = goes _ (passes BadCursor (fits_good (detail_of root s) (get_or ks (s - 1) fresh) F)) refl

  -- what a get of record x comes to, by a cursor c on the path
  abbrev got : Cursor → ℕ → Done
  got c x = record {
    status = status_words (shape_of root s).entry x 0 (peek_links (shape_of root s) a x (links_of p));
    cursor = at_record c x (peek_links (shape_of root s) a x (links_of p));
    passed = none_passed;
    area = a;
    words = entry_at (shape_of root s) a x;
  }

  module _ (way : Along) (c : Cursor) (on : c.path ≡ p) (r : ℕ) (key : List ℕ) (room : ℕ) (fits : (shape_of root s).entry ≤ room) where
    off_zero : c.path ≢ 0
    off_zero z = let e = on in omega (arith, R.path.low)

    way_good : mode_good (along way) ≡ true
    way_good = unfold mode_good in refl

    key_free : value_good (along way) key ≡ true
    key_free = unfold value_good in refl

    path_on : path_chosen (along way) c ≡ true
    path_on = let e = on in unfold path_chosen in lt-ltb 0 c.path (omega (arith, R.path.low))

    way_is : reading (a_detail (detail_of root s)) (mode_of way) ≡ along way
    unfolding reading readings
    way_is = go way
      where
        go : (w : Along) → reading (a_detail (detail_of root s)) (mode_of w) ≡ along w
        go forward = refl
        go backward = refl

    get_end : saved way c ≡ 0 → get_on (a_detail (detail_of root s)) a c (mode_of way) r key room ≡ refuse (at_last way)
    unfolding get_on view_shape detail_of
    get_end z = rw way_is (goes _ (passes NoMode way_good) (goes _ (passes WrongLength key_free) (goes _ (passes NoPath path_on) (goes _ (passes ShortBuffer (le-leb _ room fits)) (stops _ none)))))
      where
        none : record_for (along way) (shape_of root s) a c r key ≡ refuse (at_last way)
        none = unfold record_for saved_record nonzero in (chained way (shape_of root s) a c ∙ stops _ (taken _ _ (eq-eqb (saved way c) 0 z) refl))

    get_line : (x : ℕ) → saved way c ≡ x → alive a (shape_of root s) x ≡ true → get_on (a_detail (detail_of root s)) a c (mode_of way) r key room ≡ accept (got c x)
    unfolding get_on view_shape detail_of seen saved_links
    get_line x z v =
        rw way_is (goes _ (passes NoMode way_good) (goes _ (passes WrongLength key_free) (goes _ (passes NoPath path_on) (goes _ (passes ShortBuffer (le-leb _ room fits)) (goes _ taken_record (goes _ links_whole shown))))))
      where
        row : In (shape_of root s) x
        row = alive_in a x v

        taken_record : record_for (along way) (shape_of root s) a c r key ≡ accept x
        taken_record = unfold record_for saved_record nonzero in (chained way (shape_of root s) a c
            ∙ rw z (goes _ (other _ _ (ne_eqb x 0 (λ q. omega (arith, row.low))) refl) (goes _ (read_accepts _ x row.high) (goes _ (follow_accepts a (shape_of root s) x (inr v)) refl))))

        links_whole : readable (a_detail (detail_of root s)) a c.path x ≡ accept tt
        links_whole = unfold readable links_readable in (let l = R.reads x v in other _ _ (ne_eqb c.path 0 off_zero) (goes _ (ap (λ q. read_links (shape_of root s) a x (links_of q)) on ∙ l.1) refl))

        links_saved : saved_links (shape_of root s) a c.path x ≡ peek_links (shape_of root s) a x (links_of p)
        links_saved = other _ _ (ne_eqb c.path 0 off_zero) (ap (λ q. peek_links (shape_of root s) a x (links_of q)) on)

        shown : ◌≡◌ {A = Outcome Done}
            (accept record {
              status = status_words (shape_of root s).entry x 0 (saved_links (shape_of root s) a c.path x);
              cursor = at_record c x (saved_links (shape_of root s) a c.path x);
              passed = none_passed;
              area = a;
              words = entry_at (shape_of root s) a x;
            })
            (accept (got c x))
        shown = rw links_saved

  -- ---- one get after another

  few : s - 1 < max_sets
  few = omega (arith, sets_high root R.good, R.path.set.low, R.path.set.high)

  saved_is : (way : Along) (c : Cursor) (x : ℕ) → saved way (at_record c x (peek_links (shape_of root s) a x (links_of p))) ≡ peek_link (shape_of root s) a x (links_of p + link_at way)
  unfolding peek_links
  saved_is forward c x = refl
  saved_is backward c x = refl

  module _ (way : Along) (q : Ask) (room : (shape_of root s).entry ≤ length q.buffer) (ks : List Cursor) (F : Fits (detail_of root s) (get_or ks (s - 1) fresh)) (on : (get_or ks (s - 1) fresh).path ≡ p) where
    asked : (o : Outcome Done) → get_on (a_detail (detail_of root s)) a (get_or ks (s - 1) fresh) (mode_of way) q.number q.value (length q.buffer) ≡ o
        → answered root (base a ks) (a_get s (mode_of way) q.number q.value q.buffer) ≡ answer a ks s q.buffer o
    unfolding answered get get_steps
    asked o e = ap (answer a ks s q.buffer) (goes _ named (goes _ (pointed ks F) e))

    ask_end : saved way (get_or ks (s - 1) fresh) ≡ 0 → told (answered root (base a ks) (a_get s (mode_of way) q.number q.value q.buffer)) ≡ (last_word way, 0)
    ask_end z = told_last way (answered root (base a ks) (a_get s (mode_of way) q.number q.value q.buffer))
        (ap (λ (w : Answer). w.status) (asked (refuse (at_last way)) (get_end way (get_or ks (s - 1) fresh) on q.number q.value (length q.buffer) room z)) ∙ unfold answer in refl)

    module _ (x : ℕ) (z : saved way (get_or ks (s - 1) fresh) ≡ x) (v : alive a (shape_of root s) x ≡ true) where
      ask_says : answered root (base a ks) (a_get s (mode_of way) q.number q.value q.buffer) ≡ answer a ks s q.buffer (accept (got (get_or ks (s - 1) fresh) x))
      ask_says = asked (accept (got (get_or ks (s - 1) fresh) x)) (get_line way (get_or ks (s - 1) fresh) on q.number q.value (length q.buffer) room x z v)

      ask_line : told (answered root (base a ks) (a_get s (mode_of way) q.number q.value q.buffer)) ≡ (0, x)
      ask_line = told_done (shape_of root s).entry x 0 (peek_links (shape_of root s) a x (links_of p)) (answered root (base a ks) (a_get s (mode_of way) q.number q.value q.buffer))
          (omega (arith, (alive_in a x v).high, R.cap)) (ap (λ (w : Answer). w.status) ask_says ∙ unfold answer in refl)

      ask_leaves : after root (base a ks) (a_get s (mode_of way) q.number q.value q.buffer) ≡ base a (set ks (s - 1) (got (get_or ks (s - 1) fresh) x).cursor)
      unfolding after
      ask_leaves = ap (λ (w : Answer). record { area = w.area; cursors = w.cursors }) ask_says ∙ unfold answer in refl

  -- from a cursor on the path whose saved link is the first of xs
  reads_on : (way : Along) (xs : List ℕ) → Leads (shape_of root s) a (links_of p + link_at way) xs → (ks : List Cursor) → length ks ≡ max_sets → Fits (detail_of root s) (get_or ks (s - 1) fresh)
      → (get_or ks (s - 1) fresh).path ≡ p → saved way (get_or ks (s - 1) fresh) ≡ hd 0 xs → (asks : List Ask) → Roomy root s asks → length asks ≡ suc (length xs)
      → map told (answers root (base a ks) (gets s (mode_of way) asks)) ≡ map (λ r. (0, r)) xs ++ ((last_word way, 0) ∷ [])
  unfolding answers
  reads_on way [] t ks n F on z [] room e = absurd (omega arith)
  reads_on way [] t ks n F on z (q ∷ []) room e = ap (λ u. u ∷ []) (ask_end way q room.0 ks F on z)
  reads_on way [] t ks n F on z (q ∷ q' ∷ asks) room e = absurd (omega arith)
  reads_on way (x ∷ xs) t ks n F on z [] room e = absurd (omega arith)
  reads_on way (x ∷ xs) t ks n F on z (q ∷ asks) room e = next (reads_on way xs t.2 (set ks (s - 1) now) (length-set ks (s - 1) now ∙ n))
    where
      now : Cursor
      now = (got (get_or ks (s - 1) fresh) x).cursor

      here : get_or (set ks (s - 1) now) (s - 1) fresh ≡ now
      here = get_or-set_same ks (s - 1) now fresh (rw n few)

      next : (Fits (detail_of root s) (get_or (set ks (s - 1) now) (s - 1) fresh) → (get_or (set ks (s - 1) now) (s - 1) fresh).path ≡ p → saved way (get_or (set ks (s - 1) now) (s - 1) fresh) ≡ hd 0 xs
          → (more : List Ask) → Roomy root s more → length more ≡ suc (length xs)
          → map told (answers root (base a (set ks (s - 1) now)) (gets s (mode_of way) more)) ≡ map (λ r. (0, r)) xs ++ ((last_word way, 0) ∷ []))
          → map told (answers root (base a ks) (gets s (mode_of way) (q ∷ asks))) ≡ map (λ r. (0, r)) (x ∷ xs) ++ ((last_word way, 0) ∷ [])
      next ih = ap₂ ◌∷◌ (ask_line way q room.0 ks F on x z t.0)
          (ap (λ b. map told (answers root b (gets s (mode_of way) asks))) (ask_leaves way q room.0 ks F on x z t.0)
          ∙ ih (rw here record { path = F.path; current = unfold detail_of in (alive_in a x t.0).high }) (ap (λ (c : Cursor). c.path) here ∙ on)
          (ap (saved way) here ∙ saved_is way (get_or ks (s - 1) fresh) x ∙ t.1) asks room.1 (omega arith))

  -- ---- the find

  pub searched : search_path root s (path_search root s p) ≡ p
  unfolding search_path
  searched = by_bool (any (path_count root s) (λ q. eqb (path_search root s q) (path_search root s p)))
      (λ e. let f = latest_at (path_count root s) (λ q. eqb (path_search root s q) (path_search root s p)) e in is_it _ f.place (eqb-true _ _ f.holds))
      (λ e. absurd (true≢false (sym (eq-eqb (path_search root s p) (path_search root s p) refl) ∙ any_none (path_count root s) (λ q. eqb (path_search root s q) (path_search root s p)) e p way)))
    where
      here : Among (sets root) s
      here = record { low = R.path.set.low; high = R.path.set.high }

      way : Among (path_count root s) p
      way = record { low = R.path.low; high = R.path.high }

      is_it : (q : ℕ) → Among (path_count root s) q → path_search root s q ≡ path_search root s p → q ≡ p
      is_it q w e = dite (ℕ_discrete q p) (λ z. z) (λ n. absurd (searches_differ root R.good s q p here (detail_set root R.good s here R.path.lines) w way n e))

  module _ (ks : List Cursor) (n : length ks ≡ max_sets) (F : Fits (detail_of root s) (get_or ks (s - 1) fresh)) (key : List ℕ) (k : ℕ) (h : Head) (long_enough : length key ≡ item_length root (path_search root s p))
      (found : find_key (path_of root s p).to a key ≡ accept k) (some : k ≢ 0) (read : head_at (shape_of root s) (path_of root s p) a k ≡ accept h) where
    abbrev the_find : Call
    the_find = a_find s (path_search root s p) key

    abbrev done : Done
    done = record { status = status_words 0 0 h.count (record { back = h.back; fore = h.fore }); cursor = at_chain p h; passed = none_passed; area = a; words = [] }

    find_chained : find_chain (shape_of root s) (path_of root s p) p a key ≡ accept done
    unfolding find_chain
    find_chained = goes _ found (goes _ there_is (goes _ read refl))
      where
        there_is : nonzero k NoRecord ≡ accept k
        there_is = unfold nonzero in other _ _ (ne_eqb k 0 some) refl

    find_says : answered root (base a ks) the_find ≡ answer a ks s [] (accept done)
    unfolding answered find find_steps find_on detail_of
    find_says = ap (answer a ks s []) (goes _ named (goes _ is_detail (goes _ (pointed ks F) (goes _ on_path (goes _ (passes WrongLength (eq-eqb (length key) _ long_enough)) find_chained)))))
      where
        is_detail : the_detail (a_detail (detail_of root s)) ≡ accept (detail_of root s)
        is_detail = unfold the_detail in refl

        on_path : nonzero (search_path root s (path_search root s p)) NotSearched ≡ accept p
        on_path = rw searched (unfold nonzero in other _ _ (ne_eqb p 0 (λ z. omega (arith, R.path.low))) refl)

    find_status : (answered root (base a ks) the_find).status ≡ status_words 0 0 h.count (record { back = h.back; fore = h.fore })
    find_status = ap (λ (w : Answer). w.status) find_says ∙ unfold answer in refl

    find_told : told (answered root (base a ks) the_find) ≡ (0, 0)
    find_told = told_done 0 0 h.count (record { back = h.back; fore = h.fore }) (answered root (base a ks) the_find) (omega arith) find_status

    find_counts : h.count ≤ 4095 → long (answered root (base a ks) the_find).status 4 ≡ h.count
    unfolding status_words long_words long
    find_counts b = rw find_status (whole h.count b)

    find_leaves : after root (base a ks) the_find ≡ base a (set ks (s - 1) (at_chain p h))
    unfolding after
    find_leaves = ap (λ (w : Answer). record { area = w.area; cursors = w.cursors }) find_says ∙ unfold answer in refl

    reads_all : (way : Along) (xs : List ℕ) → Leads (shape_of root s) a (links_of p + link_at way) xs → saved way (at_chain p h) ≡ hd 0 xs → (asks : List Ask) → Roomy root s asks → length asks ≡ suc (length xs)
        → map told (answers root (base a ks) (the_find ∷ gets s (mode_of way) asks)) ≡ (0, 0) ∷ map (λ r. (0, r)) xs ++ ((last_word way, 0) ∷ [])
    unfolding answers
    reads_all way xs t z asks room e = ap₂ ◌∷◌ find_told (ap (λ b. map told (answers root b (gets s (mode_of way) asks))) find_leaves
        ∙ reads_on way xs t (set ks (s - 1) (at_chain p h)) (length-set ks (s - 1) (at_chain p h) ∙ n)
        (rw here record { path = unfold detail_of in R.path.high; current = omega arith }) (ap (λ (c : Cursor). c.path) here) (ap (saved way) here ∙ z) asks room e)
      where
        here : get_or (set ks (s - 1) (at_chain p h)) (s - 1) fresh ≡ at_chain p h
        here = get_or-set_same ks (s - 1) (at_chain p h) fresh (rw n few)

-- ---- the reader

module _ (root : List ℕ) (good : root_good root ≡ true) (first : BaseInv root (new root) (λ s p. [])) (step : (b : Base) (L : Lines) → BaseInv root b L → (c : Call) → CallRight root b L c)
    (cs : List Call) (s p : ℕ) (h : IsPath root s p) where
  readable_path : Readable root s p (run root cs).area
  unfolding path_of
  readable_path =
      let S = sane_set root good first step cs s p h in
      let l = the_size root good first step cs s p h in
      record {
        good = good;
        path = h;
        size = l;
        cap = S.cap_high;
        reads = lines_read S (sound_path root good first step cs s p h) (run root cs).area l (the_master root good first step cs s p h) (there root s cs) (the_path root good first step cs s p h);
      }

  pub reads : (k : ℕ) → Live (path_of root s p).to.shape (run root cs).area k → Reads root cs s p (key_at (path_of root s p).to (run root cs).area k)
  unfolding path_of field_of cursor_in
  reads k v =
      let q = path_of root s p in
      let key = key_at (path_of root s p).to (run root cs).area k in
      let L = the_chain root good first step cs s p h k v in
      let n = (reached root step first cs).sixteen in
      let F = cursors_fit root cs s h.set h.lines in
      let some : k ≢ 0 = λ z. omega (arith, v.low) in
      let m = length_chain q key (there root s cs) in
      let all = reads_all readable_path (run root cs).cursors n F key k L.head L.long L.found some L.reads in
      record {
        count = find_counts readable_path (run root cs).cursors n F key k L.head L.long L.found some L.reads (omega (arith, readable_path.cap, L.few)) ∙ L.counts ∙ m;
        forward = λ asks room e. all forward (map record_of (chain_of q key (there root s cs))) L.ahead L.first asks room (e ∙ ap suc (sym m));
        backward = λ asks room e. all backward (reverse (map record_of (chain_of q key (there root s cs)))) L.behind L.last asks room
            (e ∙ ap suc (sym (length-reverse (map record_of (chain_of q key (there root s cs))) ∙ m)));
      }
