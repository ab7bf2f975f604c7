-- Document 01, "Master steps": the primary address, find, put with the move of a secondary, delete with the move of the
-- first secondary.
-- Assumes nothing.
use Rattle.std.specs.Prelude.{ℕ, zero, suc, ◌+◌, ◌-◌, ◌*◌, ◌%◌, ◌^◌, Bool, true, false, cond, not, List, [], ◌∷◌, ltb, eqb}
use Rattle.spec.specs.declared.Refusal.{Refusal}
use Rattle.spec.specs.declared.Refusal.TheVariants.{Broken}
use Rattle.spec.specs.declared.Shape.{Shape}
use Rattle.spec.specs.declared.Head.{Head}
use Rattle.spec.specs.declared.Lowered.{Lowered}
use Rattle.spec.specs.declared.Master.{Master}
use Rattle.spec.specs.Outcome.{Outcome, accept, refuse, require, ◌>>=◌}
use Rattle.spec.specs.Words.{same}
use Rattle.spec.specs.Layout.{head_words, synonym_words}
use Rattle.spec.specs.Area.{Area, live, go_live, go_unused, copy_part, blank, value, value_at, put_entry_at, check, follow, read_head, synonyms, set_synonym_count, mend_synonym_back, mend_synonym_fore, set_synonyms}

-- The primary address.

-- "For I and K, v is the key's words as an unsigned number, less the top bit of a two-word key. For X (H), start at 0 and for
-- each word w take (257v + w) mod 2^31." A number is made as the X value is, with 65536 for 257: 2^31 is the top bit of a
-- two-word number, and a one-word number has none.
unfoldable pub key_number : ℕ → ℕ → List ℕ → ℕ
key_number by v [] = v
key_number by v (w ∷ ws) = key_number by ((by * v + w) % 2 ^ 31) ws

-- "Primary address for key number v and capacity C: ((v + C − 1) mod C) + 1."
unfoldable pub address_in : ℕ → ℕ → ℕ
address_in cap v = (v + cap - 1) % cap + 1

unfoldable pub address : Master → List ℕ → ℕ
address m key = address_in m.shape.cap (key_number (cond m.text 257 65536) 0 key)

unfoldable pub key_at : Master → Area → ℕ → List ℕ
key_at m a r = value_at m.shape m.key a r

-- "To mend a last or lower a count, a secondary's primary is found from its key; that address counts as a link."
unfoldable pub primary_of : Master → Area → ℕ → Outcome ℕ
primary_of m a r =
    let p : ℕ = address m (key_at m a r) in do
      _ ← check (not (eqb p r))
      _ ← follow m.shape a p
      accept p

-- Find. "look at the primary address; unused, or held by a secondary, means absent; otherwise compare along the synonym
-- chain." What it gives: the record that has the key; 0 where none has.

-- at most n records from r on; "visits more than C records in a walk"
unfoldable pub find_along : Master → Area → List ℕ → ℕ → ℕ → Outcome ℕ
find_along m a key zero r = elim (eqb r 0) [ true ↦ accept 0 | false ↦ refuse Broken ]
find_along m a key (suc n) r =
    elim (eqb r 0) [
      | true ↦ accept 0
      | false ↦ do
        _ ← follow m.shape a r
        elim (same (key_at m a r) key) [
          | true ↦ accept r
          | false ↦ do
            y ← synonyms m.shape a r
            find_along m a key n y.fore
        ]
    ]

unfoldable pub find_primary : Master → Area → List ℕ → ℕ → Outcome ℕ
find_primary m a key h = do
  y ← synonyms m.shape a h
  elim (eqb y.count 0) [
    | true ↦ accept 0
    | false ↦
        elim (same (key_at m a h) key) [
          | true ↦ accept h
          | false ↦ find_along m a key (m.shape.cap - 1) y.fore
        ]
  ]

unfoldable pub find_key : Master → Area → List ℕ → Outcome ℕ
find_key m a key =
    elim (live m.shape a (address m key)) [
      | true ↦ find_primary m a key (address m key)
      | false ↦ accept 0
    ]

-- Put. What it gives: the record taken, and the area.
pub record Put : Type 0 where
  pub at : ℕ
  pub area : Area

-- "going up from h, wrapping past C to 1"
abbrev pub next_up : ℕ → ℕ → ℕ
next_up cap r = cond (ltb r cap) (r + 1) 1

-- "the first unused record" of n, from r on; 0 where none of them is unused
unfoldable pub unused_from : Shape → Area → ℕ → ℕ → ℕ
unused_from s a zero r = 0
unused_from s a (suc n) r = elim (live s a r) [ true ↦ unused_from s a n (next_up s.cap r) | false ↦ r ]

-- a new entry in record r, with no lines: synonym words, heads, entry; "A master record goes live .. at its step's end"
unfoldable pub enter : Master → Area → ℕ → Head → List ℕ → Area
enter m a r y entry =
    let s : Shape = m.shape in
    go_live s (put_entry_at s (blank s (set_synonyms s a r y) r synonym_words (s.front - synonym_words)) r entry) r

-- "unused, take it as primary"
abbrev pub lone : Head
lone = record { count = 1; back = 0; fore = 0 }

-- The chain of the primary h, of so many entries, gets f behind its end. Written: behind, primary.
unfoldable pub lengthen : Shape → Area → ℕ → ℕ → ℕ → ℕ → Area
lengthen s a h count behind f = mend_synonym_back s (set_synonym_count s (mend_synonym_fore s a behind f) h (count + 1)) h f

-- "Held by a primary, take the first unused record .. and join the chain's end (behind last; behind h if that is 0)": y are the
-- synonym words of h, f is the record taken
unfoldable pub join : Master → Area → ℕ → Head → ℕ → List ℕ → Outcome Put
join m a h y f entry =
    let behind : ℕ = cond (eqb y.back 0) h y.back in do
      _ ← follow m.shape a behind
      let longer = lengthen m.shape a h y.count behind f
      accept (record { at = f; area = enter m longer f (record { count = 0; back = behind; fore = 0 }) entry })

-- "Held by a secondary, move that one, heads included, to such a record, mend its links, and take h."

-- the whole of record h in record f; "heads and entry are copied unread"
unfoldable pub carry : Master → Area → ℕ → ℕ → Area
carry m a h f = go_live m.shape (copy_part m.shape a h f 0 m.shape.width) f

-- "and, if its last changes, primary": found from the key, its five words read whole
unfoldable pub last_primary : Master → Area → ℕ → Outcome ℕ
last_primary m a h = do
  p ← primary_of m a h
  _ ← synonyms m.shape a p
  accept p

-- the record whose link back names the one moved: the next, or the primary by its last
unfoldable pub named_by : Master → Area → ℕ → Head → Outcome ℕ
named_by m a h y = elim (eqb y.fore 0) [ true ↦ last_primary m a h | false ↦ accept y.fore ]

-- What the move of record h to f writes: the one behind, the one k that names it back, the new record.
unfoldable pub relink : Master → Area → ℕ → ℕ → ℕ → ℕ → Area
relink m a h behind k f = carry m (mend_synonym_back m.shape (mend_synonym_fore m.shape a behind f) k f) h f

-- "A put's move reads the moved one's synonym words [y], behind, ahead and, if its last changes, primary"
unfoldable pub move_away : Master → Area → ℕ → Head → ℕ → Outcome Area
move_away m a h y f = do
  _ ← follow m.shape a y.back
  _ ← follow m.shape a y.fore
  k ← named_by m a h y
  accept (relink m a h y.back k f)

unfoldable pub displace : Master → Area → ℕ → Head → ℕ → List ℕ → Outcome Put
displace m a h y f entry = do
  moved ← move_away m a h y f
  accept (record { at = h; area = enter m moved h lone entry })

-- at a live address h: f is the first unused record going up from it, 0 where there is none
unfoldable pub put_held : Master → Refusal → Area → ℕ → Head → ℕ → List ℕ → Outcome Put
put_held m full a h y f entry = do
  _ ← require (ltb 0 f) full
  elim (eqb y.count 0) [
    | true ↦ displace m a h y f entry
    | false ↦ join m a h y f entry
  ]

-- Put of an entry whose key is absent, "at address h"; refused as `full` says where no record is unused
unfoldable pub put_entry : Master → Refusal → Area → List ℕ → Outcome Put
put_entry m full a entry =
    let h : ℕ = address m (value m.key entry) in
    elim (live m.shape a h) [
      | true ↦ do
        y ← synonyms m.shape a h
        put_held m full a h y (unused_from m.shape a m.shape.cap h) entry
      | false ↦ accept (record { at = h; area = enter m a h lone entry })
    ]

-- Delete. "in a master delete, heads, synonym words, behind, ahead, primary".

-- "Heads are read one by one, and a delete stops reading them at the first count that isn't 0": whether all are 0, from head
-- j on
unfoldable pub no_lines : Shape → Area → ℕ → List ℕ → ℕ → Outcome Bool
no_lines s a r [] j = accept true
no_lines s a r (cap ∷ caps) j = do
  h ← read_head cap s a r (synonym_words + head_words * j)
  elim (eqb h.count 0) [ true ↦ no_lines s a r caps (j + 1) | false ↦ accept false ]

unfoldable pub without_lines : Master → List ℕ → Area → ℕ → Outcome Bool
without_lines m heads a r = no_lines m.shape a r heads 0

-- "Unused record: zeros"; "A master record goes .. unused at its step's end"
unfoldable pub erase : Master → Area → ℕ → Area
erase m a r = go_unused m.shape (blank m.shape a r 0 m.shape.width) r

-- "a secondary is unlinked": behind and ahead are joined; the primary's count is lowered, and its last mended where the one
-- that goes was it
unfoldable pub new_last : Master → Area → ℕ → Head → Area
new_last m a p y =
    elim (eqb y.fore 0) [
      | true ↦ mend_synonym_back m.shape a p (cond (eqb y.back p) 0 y.back)
      | false ↦ a
    ]

-- behind and ahead of the one that goes, joined
unfoldable pub close_up : Shape → Area → Head → Area
close_up s a y = mend_synonym_back s (mend_synonym_fore s a y.back y.fore) y.fore y.back

-- What goes with the secondary r is written: behind, ahead, its primary q, own record.
unfoldable pub cut : Master → Area → ℕ → Head → Lowered → Area
cut m a r y q =
    erase m (new_last m (set_synonym_count m.shape (close_up m.shape a y) q.at q.count) q.at y) r

-- the primary of the secondary r, found from its key and read whole; "or must lower 0"
unfoldable pub lowered : Master → Area → ℕ → Outcome Lowered
lowered m a r = do
  p ← primary_of m a r
  z ← synonyms m.shape a p
  _ ← check (ltb 0 z.count)
  accept (record { at = p; count = z.count - 1 })

unfoldable pub unlink : Master → Area → ℕ → Head → Outcome Area
unlink m a r y = do
  _ ← follow m.shape a y.back
  _ ← follow m.shape a y.fore
  q ← lowered m a r
  accept (cut m a r y q)

-- "a primary whose first isn't 0 is replaced by that one, moved to its address: count less 1, last (0 if it was the one
-- moved), first its next". "a delete's move [reads] the moved one's synonym words, then ahead; heads and entry are copied
-- unread"
unfoldable pub promoted : Head → ℕ → Head
promoted y next = record { count = y.count - 1; back = cond (eqb y.back y.fore) 0 y.back; fore = next }

-- What the promotion of the first secondary to record r writes: ahead, record r, the record it leaves.
unfoldable pub promote : Master → Area → ℕ → Head → ℕ → Area
promote m a r y next =
    let s : Shape = m.shape in
    let mended : Area = mend_synonym_back s a next r in
    let carried : Area = copy_part s mended y.fore r synonym_words (s.width - synonym_words) in
    erase m (set_synonyms s carried r (promoted y next)) y.fore

unfoldable pub succeed : Master → Area → ℕ → Head → Outcome Area
succeed m a r y = do
  _ ← follow m.shape a y.fore
  z ← synonyms m.shape a y.fore
  _ ← follow m.shape a z.fore
  accept (promote m a r y z.fore)

unfoldable pub remove_primary : Master → Area → ℕ → Head → Outcome Area
remove_primary m a r y = elim (eqb y.fore 0) [ true ↦ accept (erase m a r) | false ↦ succeed m a r y ]

-- the entry in record r goes; its head counts are all 0
unfoldable pub remove_entry : Master → Area → ℕ → Outcome Area
remove_entry m a r = do
  y ← synonyms m.shape a r
  elim (eqb y.count 0) [ true ↦ unlink m a r y | false ↦ remove_primary m a r y ]

-- To compute with this file's definitions: `unfolding open_master` opens them all.
unfoldable pub open_master : Unit {0}
unfolding key_number address_in address key_at primary_of find_along find_primary find_key unused_from enter lengthen join carry last_primary named_by relink move_away displace put_held put_entry no_lines without_lines erase new_last close_up cut lowered unlink promoted promote succeed remove_primary remove_entry
open_master = tt
