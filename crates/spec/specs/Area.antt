-- Document 01, "The area": the map, the words of a record, and the reading of counts and links with the rules of answer 18.
-- The steps reach the area through these definitions alone, so the place and the width of a count or a link stand here and
-- in Layout and nowhere else.
-- Assumes nothing.
use Rattle.std.specs.Prelude.{ℕ, ◌+◌, ◌-◌, ◌*◌, ◌/◌, ◌%◌, ◌^◌, Bool, true, false, ◌&&◌, ◌||◌, not, List, set, replicate, leb, eqb}
use Rattle.std.specs.Int.Bits.{bit_or, bit_xor}
use Rattle.spec.specs.declared.Refusal.TheVariants.{Broken}
use Rattle.spec.specs.declared.Field.{Field}
use Rattle.spec.specs.declared.Shape.{Shape}
use Rattle.spec.specs.declared.Head.{Head}
use Rattle.spec.specs.declared.Links.{Links}
use Rattle.spec.specs.Outcome.{Outcome, accept, refuse, require, ◌>>=◌}
use Rattle.spec.specs.Words.{word, part, lay, long, long_words}
use Rattle.spec.specs.Layout.{mark_at, freed_at, back_at, fore_at, last_at, first_at, synonym_back_at, synonym_fore_at}

abbrev pub Area : Type 0
Area = List ℕ

-- The map: "one bit per record, 1 = live, record 1 in the highest bit of the first word". A word's highest bit is bit 15.

unfoldable pub map_place : Shape → ℕ → ℕ
map_place s r = s.map + (r - 1) / 16

unfoldable pub map_bit : ℕ → ℕ
map_bit r = 15 - (r - 1) % 16

unfoldable pub bit_of : ℕ → ℕ → ℕ
bit_of w p = w / 2 ^ p % 2

unfoldable pub with_bit : ℕ → ℕ → ℕ
with_bit w p = bit_or w (2 ^ p)

unfoldable pub without_bit : ℕ → ℕ → ℕ
without_bit w p = bit_xor (bit_or w (2 ^ p)) (2 ^ p)

unfoldable pub live : Shape → Area → ℕ → Bool
live s a r = eqb (bit_of (word a (map_place s r)) (map_bit r)) 1

unfoldable pub go_live : Shape → Area → ℕ → Area
go_live s a r = set a (map_place s r) (with_bit (word a (map_place s r)) (map_bit r))

unfoldable pub go_unused : Shape → Area → ℕ → Area
go_unused s a r = set a (map_place s r) (without_bit (word a (map_place s r)) (map_bit r))

-- "then the records numbered from 1". "A record is handled as the part of the area that is its own": its words are named by
-- their place in it, counted from 0.

unfoldable pub place : Shape → ℕ → ℕ
place s r = s.records + (r - 1) * s.width

unfoldable pub peek : Shape → Area → ℕ → ℕ → ℕ
peek s a r i = word a (place s r + i)

unfoldable pub peek_link : Shape → Area → ℕ → ℕ → ℕ
peek_link s a r i = long a (place s r + i)

unfoldable pub peek_part : Shape → Area → ℕ → ℕ → ℕ → List ℕ
peek_part s a r i n = part a (place s r + i) n

unfoldable pub poke : Shape → Area → ℕ → ℕ → ℕ → Area
poke s a r i n = set a (place s r + i) n

unfoldable pub poke_link : Shape → Area → ℕ → ℕ → ℕ → Area
poke_link s a r i n = lay a (place s r + i) (long_words n)

unfoldable pub poke_part : Shape → Area → ℕ → ℕ → List ℕ → Area
poke_part s a r i vs = lay a (place s r + i) vs

-- a link in a neighbour, if there is one: "Links are two words, 0 = none"
unfoldable pub mend : Shape → Area → ℕ → ℕ → ℕ → Area
mend s a r i n = elim (eqb r 0) [ true ↦ a | false ↦ poke_link s a r i n ]

-- "Unused record: zeros": n words of a record from place i on
unfoldable pub blank : Shape → Area → ℕ → ℕ → ℕ → Area
blank s a r i n = poke_part s a r i (replicate n 0)

-- n words of record f, from place i in it on, in record r: "copied unread"
unfoldable pub copy_part : Shape → Area → ℕ → ℕ → ℕ → ℕ → Area
copy_part s a f r i n = poke_part s a r i (peek_part s a f i n)

-- The entry in record r, and an item of it; an item of an entry in hand.

unfoldable pub entry_at : Shape → Area → ℕ → List ℕ
entry_at s a r = peek_part s a r s.front s.entry

unfoldable pub value_at : Shape → Field → Area → ℕ → List ℕ
value_at s f a r = peek_part s a r (s.front + f.at) f.size

unfoldable pub put_entry_at : Shape → Area → ℕ → List ℕ → Area
put_entry_at s a r entry = poke_part s a r s.front entry

abbrev pub value : Field → List ℕ → List ℕ
value f entry = part entry f.at f.size

-- "Each has two words (high-water mark and first freed record; .."

unfoldable pub mark : Shape → Area → ℕ
mark s a = word a (s.start + mark_at)

unfoldable pub freed : Shape → Area → ℕ
freed s a = word a (s.start + freed_at)

unfoldable pub set_mark : Shape → Area → ℕ → Area
set_mark s a n = set a (s.start + mark_at) n

unfoldable pub set_freed : Shape → Area → ℕ → Area
set_freed s a n = set a (s.start + freed_at) n

-- "a freed detail record's first word names the next freed one"
unfoldable pub next_freed : Shape → Area → ℕ → ℕ
next_freed s a r = peek s a r 0

unfoldable pub set_next_freed : Shape → Area → ℕ → ℕ → Area
set_next_freed s a r n = poke s a r 0 n

-- Answer 18. `check`: a trouble of the table's last row. `read`: a link above C, or a count above its set's capacity.
-- `read_synonym`: such a link, or "a synonym link to its own record". `follow`: a link to an unused record; 0 leads nowhere.

abbrev pub check : Bool → Outcome (Unit {0})
check test = require test Broken

unfoldable pub read : ℕ → ℕ → Outcome ℕ
read limit n = elim (leb n limit) [ true ↦ accept n | false ↦ refuse Broken ]

unfoldable pub read_synonym : ℕ → ℕ → ℕ → Outcome ℕ
read_synonym limit r n = elim (leb n limit && not (eqb n r)) [ true ↦ accept n | false ↦ refuse Broken ]

unfoldable pub follow : Shape → Area → ℕ → Outcome (Unit {0})
follow s a r = check (eqb r 0 || live s a r)

-- "A head, a pair of links or the five synonym words are read whole, in stored order, when first used."

-- A head at a place in record r of a master: count, last, first. "a head's count and links against the detail's [capacity]"
unfoldable pub read_head : ℕ → Shape → Area → ℕ → ℕ → Outcome Head
read_head limit s a r at = do
  c ← read limit (peek s a r at)
  b ← read limit (peek_link s a r (at + last_at))
  f ← read limit (peek_link s a r (at + first_at))
  accept (record { count = c; back = b; fore = f })

unfoldable pub set_head_count : Shape → Area → ℕ → ℕ → ℕ → Area
set_head_count s a r at n = poke s a r at n

unfoldable pub set_last : Shape → Area → ℕ → ℕ → ℕ → Area
set_last s a r at n = poke_link s a r (at + last_at) n

unfoldable pub set_first : Shape → Area → ℕ → ℕ → ℕ → Area
set_first s a r at n = poke_link s a r (at + first_at) n

-- The pair of links at a place in line r: backward, forward.
unfoldable pub peek_links : Shape → Area → ℕ → ℕ → Links
peek_links s a r at = record { back = peek_link s a r (at + back_at); fore = peek_link s a r (at + fore_at) }

unfoldable pub read_links : Shape → Area → ℕ → ℕ → Outcome Links
read_links s a r at = do
  b ← read s.cap (peek_link s a r (at + back_at))
  f ← read s.cap (peek_link s a r (at + fore_at))
  accept (record { back = b; fore = f })

unfoldable pub mend_back : Shape → Area → ℕ → ℕ → ℕ → Area
mend_back s a r at n = mend s a r (at + back_at) n

unfoldable pub mend_fore : Shape → Area → ℕ → ℕ → ℕ → Area
mend_fore s a r at n = mend s a r (at + fore_at) n

-- The five synonym words of record r. "A synonym count is held against the master's capacity"
unfoldable pub synonym_count : Shape → Area → ℕ → ℕ
synonym_count s a r = peek s a r 0

unfoldable pub synonyms : Shape → Area → ℕ → Outcome Head
synonyms s a r = do
  c ← read s.cap (synonym_count s a r)
  b ← read_synonym s.cap r (peek_link s a r synonym_back_at)
  f ← read_synonym s.cap r (peek_link s a r synonym_fore_at)
  accept (record { count = c; back = b; fore = f })

unfoldable pub set_synonym_count : Shape → Area → ℕ → ℕ → Area
set_synonym_count s a r n = poke s a r 0 n

unfoldable pub mend_synonym_back : Shape → Area → ℕ → ℕ → Area
mend_synonym_back s a r n = mend s a r synonym_back_at n

unfoldable pub mend_synonym_fore : Shape → Area → ℕ → ℕ → Area
mend_synonym_fore s a r n = mend s a r synonym_fore_at n

unfoldable pub set_synonyms : Shape → Area → ℕ → Head → Area
set_synonyms s a r y = poke_link s (poke_link s (poke s a r 0 y.count) r synonym_back_at y.back) r synonym_fore_at y.fore

-- To compute with this file's definitions: `unfolding open_area` opens them all.
unfoldable pub open_area : Unit {0}
unfolding map_place map_bit bit_of with_bit without_bit live go_live go_unused place peek peek_link peek_part poke poke_link poke_part mend blank copy_part entry_at value_at put_entry_at mark freed set_mark set_freed next_freed set_next_freed read read_synonym follow read_head set_head_count set_last set_first peek_links read_links mend_back mend_fore synonym_count synonyms set_synonym_count mend_synonym_back mend_synonym_fore set_synonyms
open_area = tt
