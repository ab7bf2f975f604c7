-- Document 01, "The area": where each set, record and word stands. What is known of a set is computed from the root once;
-- the steps go by its plain numbers and name no root.
-- Assumes nothing.
use Rattle.std.specs.Prelude.{ℕ, zero, suc, ◌+◌, ◌-◌, ◌*◌, ◌/◌, true, false, List, [], ◌∷◌, ◌++◌, ltb, eqb}
use Rattle.spec.specs.declared.Field.{Field}
use Rattle.spec.specs.declared.Shape.{Shape}
use Rattle.spec.specs.declared.Master.{Master}
use Rattle.spec.specs.declared.Path.{Path}
use Rattle.spec.specs.Words.{total, latest}
use Rattle.spec.specs.Root.{sets, item_type, item_length, kind, capacity, item_count, key_item, path_count, set_item, path_master, path_search, path_sort, automatic, detail, is_text, leading, leading_from}

-- The widths and places of the layout, each named once.

-- "Each has two words (high-water mark and first freed record; both 0 for masters), then the map"
abbrev pub lead_words : ℕ
lead_words = 2

abbrev pub mark_at : ℕ
mark_at = 0

abbrev pub freed_at : ℕ
freed_at = 1

-- "Map: one bit per record"
abbrev pub map_words : ℕ → ℕ
map_words cap = (cap + 15) / 16

-- "Detail record: for each path a backward and a forward link, then the entry."
abbrev pub line_words : ℕ
line_words = 4

abbrev pub back_at : ℕ
back_at = 0

abbrev pub fore_at : ℕ
fore_at = 2

-- "five words of chain head for each path leading here (..): count, last, first"
abbrev pub head_words : ℕ
head_words = 5

abbrev pub last_at : ℕ
last_at = 1

abbrev pub first_at : ℕ
first_at = 3

-- "Master record: five synonym words". "Synonym words: in a primary, how many live entries have this primary address, itself
-- included, then last and first secondary. In a secondary: 0, previous (the primary for the first), next."
-- The link back is last or previous, the link on is first or next.
abbrev pub synonym_words : ℕ
synonym_words = 5

abbrev pub synonym_back_at : ℕ
synonym_back_at = 1

abbrev pub synonym_fore_at : ℕ
synonym_fore_at = 3

-- The length of the first n items of set s; the entry is all of them.
unfoldable pub items_length : List ℕ → ℕ → ℕ → ℕ
items_length root s n = total n (λ j. item_length root (set_item root s j))

unfoldable pub entry_length : List ℕ → ℕ → ℕ
entry_length root s = items_length root s (item_count root s)

-- the number of item i among the items of set s, and its place in the entry
unfoldable pub item_number : List ℕ → ℕ → ℕ → ℕ
item_number root s i = latest (item_count root s) (λ j. eqb (set_item root s j) i)

unfoldable pub field_of : List ℕ → ℕ → ℕ → Field
field_of root s i = record { at = items_length root s (item_number root s i - 1); size = item_length root i }

abbrev pub no_field : Field
no_field = record { at = 0; size = 0 }

-- What stands in a record before the entry. "Detail record: for each path a backward and a forward link"; "Master record:
-- five synonym words; five words of chain head for each path leading here"
unfoldable pub front_words : List ℕ → ℕ → ℕ
front_words root s =
    elim (detail (kind root s)) [
      | true ↦ line_words * path_count root s
      | false ↦ synonym_words + head_words * leading root s (sets root)
    ]

unfoldable pub record_words : List ℕ → ℕ → ℕ
record_words root s = front_words root s + entry_length root s

-- the words of set s: "two words (..), then the map, then the records"
unfoldable pub size_of : List ℕ → ℕ → ℕ
size_of root s = lead_words + map_words (capacity root s) + capacity root s * record_words root s

-- "Sets follow one another."
unfoldable pub start_of : List ℕ → ℕ → ℕ
start_of root s = total (s - 1) (size_of root)

unfoldable pub area_length : List ℕ → ℕ
area_length root = total (sets root) (size_of root)

unfoldable pub shape_of : List ℕ → ℕ → Shape
shape_of root s =
    let start : ℕ = start_of root s in
    let front : ℕ = front_words root s in
    let entry : ℕ = entry_length root s in
    record {
      set = s;
      start = start;
      map = start + lead_words;
      records = start + lead_words + map_words (capacity root s);
      cap = capacity root s;
      width = front + entry;
      front = front;
      entry = entry;
    }

-- The capacities that the heads of master m are held against, in the order of the heads, "by detail set number, then path
-- number": of the first n paths of set s, and of the first n sets.
unfoldable pub heads_from : List ℕ → ℕ → ℕ → ℕ → List ℕ
heads_from root m s zero = []
heads_from root m s (suc n) =
    heads_from root m s n ++ elim (eqb (path_master root s (suc n)) m) [ true ↦ capacity root s ∷ [] | false ↦ [] ]

unfoldable pub heads_in : List ℕ → ℕ → ℕ → List ℕ
heads_in root m zero = []
heads_in root m (suc n) = heads_in root m n ++ heads_from root m (suc n) (path_count root (suc n))

unfoldable pub heads_of : List ℕ → ℕ → List ℕ
heads_of root m = heads_in root m (sets root)

unfoldable pub master_of : List ℕ → ℕ → Master
master_of root s =
    record {
      shape = shape_of root s;
      auto = automatic (kind root s);
      text = is_text (item_type root (key_item root s));
      key = field_of root s (key_item root s);
      leads = leading root s (sets root);
    }

-- the head of path p of detail s stands behind those of the sets before s and of the paths before p
unfoldable pub head_of : List ℕ → ℕ → ℕ → ℕ
head_of root s p =
    synonym_words + head_words * (leading root (path_master root s p) (s - 1) + leading_from root (path_master root s p) s (p - 1))

-- where the links of path p stand in a line
abbrev pub links_of : ℕ → ℕ
links_of p = line_words * (p - 1)

-- "sort item (0: none)"
unfoldable pub sort_of : List ℕ → ℕ → ℕ → Field
sort_of root s p = elim (eqb (path_sort root s p) 0) [ true ↦ no_field | false ↦ field_of root s (path_sort root s p) ]

unfoldable pub path_of : List ℕ → ℕ → ℕ → Path
path_of root s p =
    record {
      to = master_of root (path_master root s p);
      head = head_of root s p;
      links = links_of p;
      search = field_of root s (path_search root s p);
      sorted = ltb 0 (path_sort root s p);
      sort = sort_of root s p;
    }

-- What the steps know of a detail: its shape, how many paths it has, and by the path's number the path and the capacities of
-- the heads in its master.
pub record Detail : Type 0 where
  pub shape : Shape
  pub paths : ℕ
  pub path : ℕ → Path
  pub heads : ℕ → List ℕ

unfoldable pub detail_of : List ℕ → ℕ → Detail
detail_of root s =
    record {
      shape = shape_of root s;
      paths = path_count root s;
      path = path_of root s;
      heads = λ p. heads_of root (path_master root s p);
    }

-- What the steps know of a set: a master with the capacities of its heads, or a detail.
pub data View : Type 0 where
  a_master : Master → List ℕ → View
  a_detail : Detail → View

unfoldable pub view_shape : View → Shape
view_shape (a_master m heads) = m.shape
view_shape (a_detail d) = d.shape

unfoldable pub view_of : List ℕ → ℕ → View
view_of root s =
    elim (detail (kind root s)) [
      | true ↦ a_detail (detail_of root s)
      | false ↦ a_master (master_of root s) (heads_of root s)
    ]

-- To compute with this file's definitions: `unfolding open_layout` opens them all.
unfoldable pub open_layout : Unit {0}
unfolding items_length entry_length item_number field_of front_words record_words size_of start_of area_length shape_of heads_from heads_in heads_of master_of head_of sort_of path_of detail_of view_shape view_of
open_layout = tt
