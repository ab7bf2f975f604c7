-- Document 01, "Detail steps": put with its paths, automatic entries and sorted places; delete with unlinking, and the
-- dropping of automatic entries.
-- Assumes nothing.
use Rattle.std.specs.Prelude.{ℕ, zero, suc, ◌+◌, ◌-◌, true, false, not, List, set, replicate, ltb, eqb}
use Rattle.spec.specs.declared.Refusal.TheVariants.{SetFull, NoEntry, MasterFull, Broken}
use Rattle.spec.specs.declared.Shape.{Shape}
use Rattle.spec.specs.declared.Head.{Head}
use Rattle.spec.specs.declared.Links.{Links}
use Rattle.spec.specs.declared.Master.{Master}
use Rattle.spec.specs.declared.Path.{Path}
use Rattle.spec.specs.declared.Spot.{Spot}
use Rattle.spec.specs.declared.Hung.{Hung}
use Rattle.spec.specs.declared.Taken.{Taken}
use Rattle.spec.specs.Outcome.{Outcome, accept, refuse, require, ◌>>=◌}
use Rattle.spec.specs.Words.{greater}
use Rattle.spec.specs.Root.{max_paths}
use Rattle.spec.specs.Layout.{Detail}
use Rattle.spec.specs.Area.{Area, live, go_live, go_unused, blank, value, value_at, put_entry_at, mark, freed, set_mark, set_freed, next_freed, set_next_freed, check, read, follow, read_head, set_head_count, set_last, set_first, read_links, mend_back, mend_fore}
use Rattle.spec.specs.Master.{find_key, Put, put_entry, without_lines, remove_entry}

-- Put.

-- "Put takes the first freed record; if none, the one above the high-water mark." "a high-water mark above C, read first of
-- all by a detail put"; "needs a free one that is live"
unfoldable pub take_freed : Shape → Area → ℕ → ℕ → Outcome Taken
take_freed s a high r = do
  _ ← check (not (live s a r))
  next ← read s.cap (next_freed s a r)
  accept (record { at = r; mark = high; freed = next })

unfoldable pub take_above : Shape → Area → ℕ → Outcome Taken
take_above s a high = do
  _ ← require (ltb high s.cap) SetFull
  _ ← check (not (live s a (high + 1)))
  accept (record { at = high + 1; mark = high + 1; freed = 0 })

unfoldable pub take_record : Shape → Area → Outcome Taken
take_record s a = do
  high ← read s.cap (mark s a)
  r ← read s.cap (freed s a)
  elim (eqb r 0) [ true ↦ take_above s a high | false ↦ take_freed s a high r ]

-- "find the master entry; an automatic master gets it if absent" (i is the path's number)
unfoldable pub missing : Path → ℕ → Area → List ℕ → Outcome Put
missing p i a key = elim p.to.auto [ true ↦ put_entry p.to (MasterFull i) a key | false ↦ refuse (NoEntry i) ]

unfoldable pub master_entry : Path → ℕ → Area → List ℕ → Outcome Put
master_entry p i a key = do
  k ← find_key p.to a key
  elim (eqb k 0) [ true ↦ missing p i a key | false ↦ accept (record { at = k; area = a }) ]

-- the head of the path's chain in record k of its master
unfoldable pub head_at : Shape → Path → Area → ℕ → Outcome Head
head_at d p a k = read_head d.cap p.to.shape a k p.head

-- "Sorted: from the last line backward, pass each line whose sort value is greater than the new one (..), and stand after the
-- first that isn't." At most n lines are visited.
unfoldable pub pass : Shape → Path → Area → List ℕ → ℕ → Spot → Outcome Spot
pass d p a v zero t = elim (eqb t.behind 0) [ true ↦ accept t | false ↦ refuse Broken ]
pass d p a v (suc n) t =
    elim (eqb t.behind 0) [
      | true ↦ accept t
      | false ↦ do
        _ ← follow d a t.behind
        elim (greater (value_at d p.sort a t.behind) v) [
          | true ↦ do
            l ← read_links d a t.behind p.links
            pass d p a v n (record { behind = l.back; ahead = t.behind; passed = t.passed + 1 })
          | false ↦ accept t
        ]
    ]

-- after the last line, with none passed
abbrev pub last_spot : ℕ → Spot
last_spot last = record { behind = last; ahead = 0; passed = 0 }

-- "Unsorted: at the end."
unfoldable pub at_end : Shape → Area → ℕ → Outcome Spot
at_end d a last = do
  _ ← follow d a last
  accept (last_spot last)

-- "place the line"
unfoldable pub spot_for : Shape → Path → Area → List ℕ → ℕ → Outcome Spot
spot_for d p a entry last =
    elim p.sorted [
      | true ↦ pass d p a (value p.sort entry) d.cap (last_spot last)
      | false ↦ at_end d a last
    ]

-- "The new links are that line and the one passed last; with 0 on a side, the head's first or last is the new line." "writes
-- behind, ahead, head or primary, own record"
unfoldable pub link_neighbours : Shape → Path → Area → ℕ → Spot → Area
link_neighbours d p a r t = mend_back d (mend_fore d a t.behind p.links r) t.ahead p.links r

unfoldable pub new_ends : Path → Area → ℕ → ℕ → Spot → Area
new_ends p a k r t =
    let s : Shape = p.to.shape in
    let lasted : Area = elim (eqb t.ahead 0) [ true ↦ set_last s a k p.head r | false ↦ a ] in
    elim (eqb t.behind 0) [ true ↦ set_first s lasted k p.head r | false ↦ lasted ]

unfoldable pub link_own : Shape → Path → Area → ℕ → Spot → Area
link_own d p a r t = mend_fore d (mend_back d a r p.links t.behind) r p.links t.ahead

unfoldable pub link_in : Shape → Path → Area → ℕ → Head → ℕ → Spot → Area
link_in d p a k h r t =
    let counted : Area = set_head_count p.to.shape (link_neighbours d p a r t) k p.head (h.count + 1) in
    link_own d p (new_ends p counted k r t) r t

-- What a path's turn gives: the area, and how many lines it passed.
pub record Placed : Type 0 where
  pub area : Area
  pub passed : ℕ

-- The line r on the chain of record k of the master: "head, .. line behind, line ahead"
unfoldable pub place_line : Shape → Path → Area → ℕ → ℕ → List ℕ → Outcome Placed
place_line d p a k r entry = do
  h ← head_at d p a k
  t ← spot_for d p a entry h.back
  accept (record { area = link_in d p a k h r t; passed = t.passed })

-- "in a path, master entry, head, .."
unfoldable pub put_path : Shape → Path → ℕ → Area → ℕ → List ℕ → Outcome Placed
put_path d p i a r entry = do
  m ← master_entry p i a (value p.search entry)
  place_line d p m.area m.at r entry

-- "put also answers the lines passed on each of four paths (0 for a path that is absent or unsorted, and on refusal)"
abbrev pub none_passed : List ℕ
none_passed = replicate max_paths 0

pub record Lined : Type 0 where
  pub area : Area
  pub passed : List ℕ

-- "Then paths 1 upward": n paths from path i on
unfoldable pub put_paths : Detail → List ℕ → ℕ → ℕ → ℕ → Lined → Outcome Lined
put_paths d entry r zero i l = accept l
put_paths d entry r (suc n) i l = do
  t ← put_path d.shape (d.path i) i l.area r entry
  put_paths d entry r n (i + 1) (record { area = t.area; passed = set l.passed (i - 1) t.passed })

-- the leading words, the entry, and last the map: "a detail record [goes live] after the last path"
unfoldable pub settle : Shape → Area → Taken → List ℕ → Area
settle s a t entry =
    go_live s (put_entry_at s (set_freed s (set_mark s a t.mark) t.freed) t.at entry) t.at

-- What a put gives: the record taken, the area, and the lines passed on each path.
pub record Line : Type 0 where
  pub at : ℕ
  pub area : Area
  pub passed : List ℕ

-- the put with its record taken
unfoldable pub put_taken : Detail → Taken → Area → List ℕ → Outcome Line
put_taken d t a entry = do
  l ← put_paths d entry t.at d.paths 1 (record { area = a; passed = none_passed })
  accept (record { at = t.at; area = settle d.shape l.area t entry; passed = l.passed })

unfoldable pub put_line : Detail → Area → List ℕ → Outcome Line
put_line d a entry = do
  t ← take_record d.shape a
  put_taken d t a entry

-- Delete. "paths 1 upward, unlink, lower the count, and drop an automatic entry whose head counts are then all 0; the record
-- becomes the first freed."

-- Written: behind, ahead, head. The head's last and first, where the line that goes was at that end.
unfoldable pub unlink_neighbours : Shape → Path → Area → Links → Area
unlink_neighbours d p a l = mend_back d (mend_fore d a l.back p.links l.fore) l.fore p.links l.back

unfoldable pub old_ends : Path → Area → ℕ → Links → Area
old_ends p a k l =
    let s : Shape = p.to.shape in
    let lasted : Area = elim (eqb l.fore 0) [ true ↦ set_last s a k p.head l.back | false ↦ a ] in
    elim (eqb l.back 0) [ true ↦ set_first s lasted k p.head l.fore | false ↦ lasted ]

unfoldable pub link_out : Shape → Path → Area → ℕ → Head → Links → Area
link_out d p a k h l =
    old_ends p (set_head_count p.to.shape (unlink_neighbours d p a l) k p.head (h.count - 1)) k l

-- "drop an automatic entry whose head counts are then all 0"
unfoldable pub drop_empty : Master → List ℕ → Area → ℕ → Outcome Area
drop_empty m heads a k = do
  none ← without_lines m heads a k
  elim none [ true ↦ remove_entry m a k | false ↦ accept a ]

unfoldable pub drop_automatic : Master → List ℕ → Area → ℕ → Outcome Area
drop_automatic m heads a k = elim m.auto [ true ↦ drop_empty m heads a k | false ↦ accept a ]

-- What is read of line r on the chain of record k: "head, own links, line behind, line ahead"; "or must lower 0"
unfoldable pub hung : Shape → Path → Area → ℕ → ℕ → Outcome Hung
hung d p a k r = do
  h ← head_at d p a k
  l ← read_links d a r p.links
  _ ← follow d a l.back
  _ ← follow d a l.fore
  _ ← check (ltb 0 h.count)
  accept (record { head = h; links = l })

unfoldable pub unhang : Shape → Path → List ℕ → Area → ℕ → ℕ → Outcome Area
unhang d p heads a k r = do
  g ← hung d p a k r
  drop_automatic p.to heads (link_out d p a k g.head g.links) k

-- "Also 18: .. a detail delete whose master entry is absent"
unfoldable pub delete_path : Shape → Path → List ℕ → Area → ℕ → Outcome Area
delete_path d p heads a r = do
  k ← find_key p.to a (value_at d p.search a r)
  _ ← check (ltb 0 k)
  unhang d p heads a k r

unfoldable pub delete_paths : Detail → ℕ → ℕ → ℕ → Area → Outcome Area
delete_paths d r zero i a = accept a
delete_paths d r (suc n) i a = do
  b ← delete_path d.shape (d.path i) (d.heads i) a r
  delete_paths d r n (i + 1) b

-- "the record becomes the first freed": zeros, "except that a freed detail record's first word names the next freed one"
unfoldable pub free_record : Shape → Area → ℕ → ℕ → Area
free_record s a r next = go_unused s (set_freed s (set_next_freed s (blank s a r 0 s.width) r next) r) r

unfoldable pub delete_line : Detail → Area → ℕ → Outcome Area
delete_line d a r = do
  b ← delete_paths d r d.paths 1 a
  next ← read d.shape.cap (freed d.shape b)
  accept (free_record d.shape b r next)

-- To compute with this file's definitions: `unfolding open_detail` opens them all.
unfoldable pub open_detail : Unit {0}
unfolding take_freed take_above take_record missing master_entry head_at pass at_end spot_for link_neighbours new_ends link_own link_in place_line put_path put_paths settle put_taken put_line unlink_neighbours old_ends link_out drop_empty drop_automatic hung unhang delete_path delete_paths free_record delete_line
open_detail = tt
