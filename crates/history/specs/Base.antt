-- A base, the calls on it, and the invariant that every call keeps: T-08's rules over the lines of each path, with what is needed of the cursors. What a call
-- does to the lines of a set is read off its answer.
use Rattle.std.specs.Prelude.{◌≡◌, ◌≢◌, ◌⊎◌, List, [], ◌∷◌, Bool, true, false, ◌&&◌, ℕ, ◌+◌, ◌-◌, ◌*◌, ◌≤◌, ◌<◌, length, get_or, replicate, eqb}
use Rattle.spec.specs.declared.Cursor.{Cursor}
use Rattle.spec.specs.declared.Path.{Path}
use Rattle.spec.specs.declared.Refusal.{Refusal}
use Rattle.spec.specs.declared.Refusal.TheVariants.{Broken}
use Rattle.spec.specs.Outcome.{Outcome, accept, refuse}
use Rattle.spec.specs.Words.{word, long}
use Rattle.spec.specs.Root.{sets, kind, path_count, max_sets, max_paths, automatic, detail}
use Rattle.spec.specs.Layout.{area_length, shape_of, master_of, path_of, detail_of}
use Rattle.spec.specs.Area.{Area}
use Rattle.spec.specs.Detail.{Line, delete_line}
use Rattle.spec.specs.Cursor.{fresh}
use Rattle.spec.specs.Calls.{Answer, find, get, put, update, delete}
use Rattle.history.specs.Shapes.{In}
use Rattle.history.specs.Spots.{val, alive, cell}
use Rattle.history.specs.History.{Event, came, gone, del, lines, reported, reports}
use Rattle.history.specs.MasterInv.{MasterInv}
use Rattle.history.specs.PathLines.{PLine, line_record, same_key, above, line_of, PathInv, Link}
use Rattle.history.specs.FreeInv.{FreeInv}

-- ---- calls

pub record Base : Type 0 where
  pub area : Area
  pub cursors : List Cursor

-- a call with all its arguments, arbitrary but for the root, the area and the cursors, which are the base's
pub data Call : Type 0 where
  a_find : (set item : ℕ) (value : List ℕ) → Call
  a_get : (set mode number : ℕ) (value buffer : List ℕ) → Call
  a_put a_update : (set : ℕ) (entry : List ℕ) → Call
  a_delete : (set : ℕ) → Call

unfoldable pub answered : List ℕ → Base → Call → Answer
answered root b (a_find s item value) = find root b.area b.cursors s item value
answered root b (a_get s mode number value buffer) = get root b.area b.cursors s mode number value buffer
answered root b (a_put s entry) = put root b.area b.cursors s entry
answered root b (a_update s entry) = update root b.area b.cursors s entry
answered root b (a_delete s) = delete root b.area b.cursors s

unfoldable pub after : List ℕ → Base → Call → Base
after root b c = record { area = (answered root b c).area; cursors = (answered root b c).cursors }

-- "From a new base and fresh cursors"
unfoldable pub new : List ℕ → Base
new root = record { area = replicate (area_length root) 0; cursors = replicate max_sets fresh }

unfoldable pub cursor_in : Base → ℕ → Cursor
cursor_in b s = get_or b.cursors (s - 1) fresh

abbrev pub accepted : Answer → Bool
accepted w = eqb (word w.status 0) 0

-- ---- the lines of a set

-- a line that was put: the record that it took, and its entry
pub record PutLine : Type 0 where
  pub rec : ℕ
  pub entry : List ℕ

-- what a call does to the lines of detail set s: an accepted put brings the line that its status tells, an accepted delete takes the cursor's record
unfoldable pub happened : List ℕ → Base → Call → ℕ → List (Event PutLine)
happened root b (a_find t item value) s = []
happened root b (a_get t mode number value buffer) s = []
happened root b (a_put t entry) s =
    elim (eqb t s && accepted (answered root b (a_put t entry))) [
      | true ↦ came (record { rec = long (answered root b (a_put t entry)).status 2; entry = entry }) ∷ []
      | false ↦ []
    ]
happened root b (a_update t entry) s = []
happened root b (a_delete t) s =
    elim (eqb t s && accepted (answered root b (a_delete t))) [ true ↦ gone (cursor_in b t).current ∷ [] | false ↦ [] ]

-- the same as a path sees it
abbrev pub seen_by : Path → Event PutLine → Event PLine
seen_by p (came x) = came (line_of p x.entry x.rec)
seen_by p (gone r) = gone r

unfoldable pub events : Path → List (Event PutLine) → List (Event PLine)
events p [] = []
events p (e ∷ es) = seen_by p e ∷ events p es

-- the lines that an accepted put on set s reports as passed on path p; 0 for every other call
unfoldable pub passed_on : List ℕ → Base → Call → ℕ → ℕ → ℕ
passed_on root b (a_find t item value) s p = 0
passed_on root b (a_get t mode number value buffer) s p = 0
passed_on root b (a_put t entry) s p =
    elim (eqb t s && accepted (answered root b (a_put t entry))) [
      | true ↦ word (answered root b (a_put t entry)).passed (p - 1)
      | false ↦ 0
    ]
passed_on root b (a_update t entry) s p = 0
passed_on root b (a_delete t) s p = 0

-- ---- the invariant

-- the lines of each path of each set, newest first
abbrev pub Lines : Type 0
Lines = ℕ → ℕ → List PLine

pub record IsSet (root : List ℕ) (s : ℕ) : Type 0 where
  pub low : 1 ≤ s
  pub high : s ≤ sets root

pub record IsPath (root : List ℕ) (s p : ℕ) : Type 0 where
  pub set : IsSet root s
  pub lines : detail (kind root s) ≡ true
  pub low : 1 ≤ p
  pub high : p ≤ path_count root s

-- some head of entry k of a master counts lines
pub record Used (root : List ℕ) (s : ℕ) (a : Area) (k : ℕ) : Type 0 where
  pub slot : ℕ
  pub in_record : slot < (master_of root s).leads
  pub counts : val a (cell (shape_of root s) k (5 + 5 * slot) 1) ≢ 0

-- a detail's cursor: its saved links lead to live lines, and never to the current one, which alone a delete takes
pub record CursorInv (root : List ℕ) (s : ℕ) (a : Area) (c : Cursor) : Type 0 where
  pub back : Link a (shape_of root s) c.back
  pub fore : Link a (shape_of root s) c.fore
  pub not_back : alive a (shape_of root s) c.current ≡ true → c.back ≢ c.current
  pub not_fore : alive a (shape_of root s) c.current ≡ true → c.fore ≢ c.current

-- the rules about the area
pub record AreaInv (root : List ℕ) (a : Area) (L : Lines) : Type 0 where
  pub size : length a ≡ area_length root
  -- each master: synonym chains, counts, last, no key twice, leading words and unused records zero
  pub masters : (s : ℕ) → IsSet root s → detail (kind root s) ≡ false → MasterInv (area_length root) (master_of root s) a
  -- "each automatic entry has a nonzero count"
  pub used : (s : ℕ) → IsSet root s → automatic (kind root s) ≡ true → (k : ℕ) → alive a (shape_of root s) k ≡ true → Used root s a k
  -- each detail: freed records, mark, unused records
  pub freed : ℕ → List ℕ
  pub frees : (s : ℕ) → IsSet root s → detail (kind root s) ≡ true → FreeInv (shape_of root s) a (freed s)
  -- each path: its heads lead to exactly its key's lines
  pub paths : (s p : ℕ) → IsPath root s p → PathInv (shape_of root s) (path_of root s p) a (L s p)

pub record BaseInv (root : List ℕ) (b : Base) (L : Lines) : Type 0 where
  pub base : AreaInv root b.area L
  pub sixteen : length b.cursors ≡ max_sets
  pub cursors : (s : ℕ) → IsSet root s → detail (kind root s) ≡ true → CursorInv root s b.area (cursor_in b s)

-- ---- what is to be shown of the steps that change lines or entries

-- the lines with one more in set s, and with those of record r gone from it
unfoldable pub lines_put : List ℕ → Lines → ℕ → List ℕ → ℕ → ℕ → ℕ → List PLine
lines_put root L s entry r t q = elim (eqb t s) [ true ↦ line_of (path_of root t q) entry r ∷ L t q | false ↦ L t q ]

unfoldable pub lines_gone : Lines → ℕ → ℕ → ℕ → ℕ → List PLine
lines_gone L s r t q = elim (eqb t s) [ true ↦ del line_record r (L t q) | false ↦ L t q ]

-- every live line is still live
abbrev pub StillLive : List ℕ → Area → Area → Type 0
StillLive root a b = (t r : ℕ) → IsSet root t → detail (kind root t) ≡ true → alive a (shape_of root t) r ≡ true → alive b (shape_of root t) r ≡ true

-- a line put
pub record PutDone (root : List ℕ) (a : Area) (L : Lines) (s : ℕ) (entry : List ℕ) (l : Line) : Type 0 where
  pub kept : AreaInv root l.area (lines_put root L s entry l.at)
  pub row : In (shape_of root s) l.at
  pub dead : alive a (shape_of root s) l.at ≡ false
  pub live : alive l.area (shape_of root s) l.at ≡ true
  pub lives : StillLive root a l.area
  pub four : length l.passed ≡ max_paths
  pub passed : (p : ℕ) → IsPath root s p
      → word l.passed (p - 1) ≡ reported line_record same_key (above (path_of root s p)) (L s p) (line_of (path_of root s p) entry l.at)

pub data PutEnds (root : List ℕ) (a : Area) (L : Lines) (s : ℕ) (entry : List ℕ) : Outcome Line → Type 0 where
  refused : (why : Refusal) → why ≢ Broken → PutEnds root a L s entry (refuse why)
  done : (l : Line) → PutDone root a L s entry l → PutEnds root a L s entry (accept l)

-- a line deleted
pub record GoneDone (root : List ℕ) (a : Area) (L : Lines) (s r : ℕ) : Type 0 where
  pub area : Area
  pub says : delete_line (detail_of root s) a r ≡ accept area
  pub kept : AreaInv root area (lines_gone L s r)
  pub lives : (t k : ℕ) → IsSet root t → detail (kind root t) ≡ true → (t ≢ s) ⊎ (k ≢ r) → alive a (shape_of root t) k ≡ true → alive area (shape_of root t) k ≡ true
  pub dead : alive area (shape_of root s) r ≡ false

-- an entry of a master put or deleted by a call; `left` is the area that such an outcome leaves
pub data EntryEnds (root : List ℕ) (a : Area) (L : Lines) {A : Type 0} (left : A → Area) : Outcome A → Type 0 where
  entry_refused : (why : Refusal) → why ≢ Broken → EntryEnds root a L left (refuse why)
  entry_done : (x : A) → AreaInv root (left x) L → StillLive root a (left x) → EntryEnds root a L left (accept x)

-- ---- what is to be shown of each call, and of a new base

-- the lines after a call
unfoldable pub lines_after : List ℕ → Base → Call → Lines → ℕ → ℕ → List PLine
lines_after root b c L s p = lines line_record (L s p) (events (path_of root s p) (happened root b c s))

pub record CallRight (root : List ℕ) (b : Base) (L : Lines) (c : Call) : Type 0 where
  pub kept : BaseInv root (after root b c) (lines_after root b c L)
  -- "18 never comes"
  pub never : word (answered root b c).status 0 ≢ 18
  -- what a put reports as passed is what the lists say
  pub told : (s p : ℕ) → IsPath root s p
      → passed_on root b c s p ≡ reports line_record same_key (above (path_of root s p)) (L s p) (events (path_of root s p) (happened root b c s))
