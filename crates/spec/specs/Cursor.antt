-- Document 01, "Cursors and reading": the cursor, its moves, and the record that each get mode reads.
-- Assumes nothing.
use Rattle.std.specs.Prelude.{ℕ, zero, suc, ◌+◌, ◌-◌, Bool, true, false, ◌&&◌, List, [], ◌∷◌, length, get_or, leb, ltb, eqb}
use Rattle.spec.specs.declared.Refusal.{Refusal}
use Rattle.spec.specs.declared.Refusal.TheVariants.{NoMode, NoRecord, NoneBelow, NoneAbove, RecordZero, PastCapacity, ChainStart, ChainEnd}
use Rattle.spec.specs.declared.Shape.{Shape}
use Rattle.spec.specs.declared.Head.{Head}
use Rattle.spec.specs.declared.Links.{Links}
use Rattle.spec.specs.declared.Cursor.{Cursor}
use Rattle.spec.specs.declared.Master.{Master}
use Rattle.spec.specs.Outcome.{Outcome, accept, refuse, require, ◌>>=◌}
use Rattle.spec.specs.Layout.{View, a_master, a_detail, view_shape, links_of}
use Rattle.spec.specs.Area.{Area, live, read, follow, peek_links, read_links, synonyms, synonym_count}
use Rattle.spec.specs.Master.{find_key}

-- "A cursor: current record, current path, saved back, saved forward; fresh is all 0."
abbrev pub fresh : Cursor
fresh = record { current = 0; path = 0; back = 0; fore = 0 }

-- −93: "this set's cursor: path above its paths, or current record above C"
unfoldable pub paths_in : View → ℕ
paths_in (a_master m heads) = 0
paths_in (a_detail d) = d.paths

unfoldable pub cursor_good : View → Cursor → Bool
cursor_good v c = leb c.path (paths_in v) && leb c.current (view_shape v).cap

-- "Find sets the path, record 0, back = last, forward = first"
abbrev pub at_chain : ℕ → Head → Cursor
at_chain p h = record { current = 0; path = p; back = h.back; fore = h.fore }

-- "Get and put make their record current and save its links on the current path"
abbrev pub at_record : Cursor → ℕ → Links → Cursor
at_record c r l = record { current = r; path = c.path; back = l.back; fore = l.fore }

abbrev pub no_links : Links
no_links = record { back = 0; fore = 0 }

-- What a get or a put tells of record r beside the entry: the links that are saved, "0 on path 0 and for masters", and the
-- number in status words 5 and 6, a master's first synonym word.
pub record Seen : Type 0 where
  pub links : Links
  pub number : ℕ

unfoldable pub saved_links : Shape → Area → ℕ → ℕ → Links
saved_links s a path r = elim (eqb path 0) [ true ↦ no_links | false ↦ peek_links s a r (links_of path) ]

unfoldable pub seen : View → Area → ℕ → ℕ → Seen
seen (a_master m heads) a path r = record { links = no_links; number = synonym_count m.shape a r }
seen (a_detail d) a path r = record { links = saved_links d.shape a path r; number = 0 }

-- A get reads them whole first: the synonym words, or the pair of links on the current path.
unfoldable pub links_readable : Shape → Area → ℕ → ℕ → Outcome (Unit {0})
links_readable s a path r =
    elim (eqb path 0) [
      | true ↦ accept tt
      | false ↦ do
        _ ← read_links s a r (links_of path)
        accept tt
    ]

unfoldable pub readable : View → Area → ℕ → ℕ → Outcome (Unit {0})
readable (a_master m heads) a path r = do
  _ ← synonyms m.shape a r
  accept tt
readable (a_detail d) a path r = links_readable d.shape a path r

-- The get modes. "get mode not 1..7; 5, 6 on a master; 7 on a detail" is no mode (−31).

pub data ByNumber : Type 0 where
  current above below given : ByNumber

pub data Along : Type 0 where
  forward backward : Along

pub data Reading : Type 0 where
  by_number : ByNumber → Reading
  along : Along → Reading
  by_key : Master → Reading
  no_mode : Reading

-- the table's column "Mode": what mode 0, 1, .. reads
unfoldable pub readings : View → List Reading
readings (a_master m heads) =
    no_mode ∷ by_number current ∷ by_number above ∷ by_number below ∷ by_number given ∷ no_mode ∷ no_mode ∷ by_key m ∷ []
readings (a_detail d) =
    no_mode ∷ by_number current ∷ by_number above ∷ by_number below ∷ by_number given ∷ along forward ∷ along backward ∷ []

unfoldable pub reading : View → ℕ → Reading
reading v mode = get_or (readings v) mode no_mode

unfoldable pub mode_good : Reading → Bool
mode_good (by_number which) = true
mode_good (along way) = true
mode_good (by_key m) = true
mode_good no_mode = false

-- −95: "mode 7: value length wrong"
unfoldable pub value_good : Reading → List ℕ → Bool
value_good (by_number which) key = true
value_good (along way) key = true
value_good (by_key m) key = eqb (length key) m.key.size
value_good no_mode key = true

-- −94: "mode 5, 6 with current path 0"
unfoldable pub path_chosen : Reading → Cursor → Bool
path_chosen (by_number which) c = true
path_chosen (along way) c = ltb 0 c.path
path_chosen (by_key m) c = true
path_chosen no_mode c = true

-- The table's columns "Reads" and "Otherwise". `nonzero r why`: r, or refused where it is 0.

unfoldable pub nonzero : ℕ → Refusal → Outcome ℕ
nonzero r why = elim (eqb r 0) [ true ↦ refuse why | false ↦ accept r ]

-- Mode 1: "the current record"; "17 if none or unused". Update and delete ask the same: "update, delete on no live record"
unfoldable pub current_record : Shape → Area → Cursor → Outcome ℕ
current_record s a c = do
  _ ← require (ltb 0 c.current) NoRecord
  _ ← require (live s a c.current) NoRecord
  accept c.current

-- Mode 2: "lowest live above current"; 11. Among n records above r; 0 where none is live
unfoldable pub live_above : Shape → Area → ℕ → ℕ → ℕ
live_above s a zero r = 0
live_above s a (suc n) r = elim (live s a (r + 1)) [ true ↦ r + 1 | false ↦ live_above s a n (r + 1) ]

-- Mode 3: "highest live below current"; 10. From r down; 0 where none is live
unfoldable pub live_down : Shape → Area → ℕ → ℕ
live_down s a zero = 0
live_down s a (suc r) = elim (live s a (suc r)) [ true ↦ suc r | false ↦ live_down s a r ]

-- Mode 4: "the given record"; "12 for 0, 13 above C, 17 unused"
unfoldable pub given_record : Shape → Area → ℕ → Outcome ℕ
given_record s a r = do
  _ ← require (ltb 0 r) RecordZero
  _ ← require (leb r s.cap) PastCapacity
  _ ← require (live s a r) NoRecord
  accept r

-- Mode 5: "saved forward"; "15 if 0". Mode 6: "saved back"; "14 if 0". The link is read and followed
unfoldable pub saved_record : Shape → Area → ℕ → Refusal → Outcome ℕ
saved_record s a r none = do
  _ ← nonzero r none
  _ ← read s.cap r
  _ ← follow s a r
  accept r

-- Mode 7: "the given key"; "17 if absent"
unfoldable pub keyed_record : Master → Area → List ℕ → Outcome ℕ
keyed_record m a key = do
  r ← find_key m a key
  nonzero r NoRecord

unfoldable pub numbered_record : ByNumber → Shape → Area → Cursor → ℕ → Outcome ℕ
numbered_record current s a c r = current_record s a c
numbered_record above s a c r = nonzero (live_above s a (s.cap - c.current) c.current) NoneAbove
numbered_record below s a c r = nonzero (live_down s a (c.current - 1)) NoneBelow
numbered_record given s a c r = given_record s a r

unfoldable pub chained_record : Along → Shape → Area → Cursor → Outcome ℕ
chained_record forward s a c = saved_record s a c.fore ChainEnd
chained_record backward s a c = saved_record s a c.back ChainStart

unfoldable pub record_for : Reading → Shape → Area → Cursor → ℕ → List ℕ → Outcome ℕ
record_for (by_number which) s a c r key = numbered_record which s a c r
record_for (along way) s a c r key = chained_record way s a c
record_for (by_key m) s a c r key = keyed_record m a key
record_for no_mode s a c r key = refuse NoMode

-- To compute with this file's definitions: `unfolding open_cursor` opens them all.
unfoldable pub open_cursor : Unit {0}
unfolding paths_in cursor_good saved_links seen links_readable readable readings reading mode_good value_good path_chosen nonzero current_record live_above live_down given_record saved_record keyed_record numbered_record chained_record record_for
open_cursor = tt
