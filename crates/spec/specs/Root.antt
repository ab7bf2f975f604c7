-- Document 01, "The root": where its words stand, and the rules that −91 refuses.
-- Assumes nothing.
use Rattle.std.specs.Prelude.{ℕ, ◌+◌, ◌-◌, ◌*◌, Bool, true, false, ◌&&◌, ◌||◌, not, List, length, leb, eqb}
use Rattle.spec.specs.Words.{word, within, all, any, total, latest}

-- The root's limits and lengths, each named once.

-- "items, 1..64"
abbrev pub max_items : ℕ
max_items = 64

-- "sets, 1..16"
abbrev pub max_sets : ℕ
max_sets = 16

-- "capacity 1..4,095"
abbrev pub max_capacity : ℕ
max_capacity = 4095

-- "item count 1..16"
abbrev pub max_set_items : ℕ
max_set_items = 16

-- "path count 0..4"
abbrev pub max_paths : ℕ
max_paths = 4

-- "at most 8 paths lead to a master"
abbrev pub max_leading : ℕ
max_leading = 8

-- "I and K: 1 or 2; X: 1..32"
abbrev pub max_number_length : ℕ
max_number_length = 2

abbrev pub max_text_length : ℕ
max_text_length = 32

-- "33 words per set"
abbrev pub set_words : ℕ
set_words = 33

-- "Word 1: items, 1..64. Word 2: sets, 1..16. Then two words per item: type .. and length in words". Items, sets, and the items
-- and paths of a set are counted from 1.
unfoldable pub items : List ℕ → ℕ
items root = word root 0

unfoldable pub sets : List ℕ → ℕ
sets root = word root 1

unfoldable pub item_type : List ℕ → ℕ → ℕ
item_type root i = word root (2 * i)

unfoldable pub item_length : List ℕ → ℕ → ℕ
item_length root i = word root (2 * i + 1)

-- "type (1 = I signed, 2 = K unsigned, 3 = X characters)"
abbrev pub is_unsigned : ℕ → Bool
is_unsigned type = eqb type 2

abbrev pub is_text : ℕ → Bool
is_text type = eqb type 3

-- "Then 33 words per set: kind ..; capacity ..; item count ..; key item number (0 for a detail); path count .. (0 for a master); 16 item
-- numbers; four triples of master set, search item, sort item (0: none)."
unfoldable pub description : List ℕ → ℕ → ℕ
description root s = 2 + 2 * items root + set_words * (s - 1)

unfoldable pub kind : List ℕ → ℕ → ℕ
kind root s = word root (description root s)

unfoldable pub capacity : List ℕ → ℕ → ℕ
capacity root s = word root (description root s + 1)

unfoldable pub item_count : List ℕ → ℕ → ℕ
item_count root s = word root (description root s + 2)

unfoldable pub key_item : List ℕ → ℕ → ℕ
key_item root s = word root (description root s + 3)

unfoldable pub path_count : List ℕ → ℕ → ℕ
path_count root s = word root (description root s + 4)

-- the j-th item of set s; the three words of its path p
unfoldable pub set_item : List ℕ → ℕ → ℕ → ℕ
set_item root s j = word root (description root s + 4 + j)

unfoldable pub path_master : List ℕ → ℕ → ℕ → ℕ
path_master root s p = word root (description root s + 18 + 3 * p)

unfoldable pub path_search : List ℕ → ℕ → ℕ → ℕ
path_search root s p = word root (description root s + 19 + 3 * p)

unfoldable pub path_sort : List ℕ → ℕ → ℕ → ℕ
path_sort root s p = word root (description root s + 20 + 3 * p)

-- "kind (1 manual master, 2 automatic master, 3 detail)"
abbrev pub manual : ℕ → Bool
manual k = eqb k 1

abbrev pub automatic : ℕ → Bool
automatic k = eqb k 2

abbrev pub detail : ℕ → Bool
detail k = eqb k 3

abbrev pub master : ℕ → Bool
master k = within 1 2 k

-- How many of the first n paths of set s lead to master m, and how many paths of the first n sets.
abbrev pub bit : Bool → ℕ
bit true = 1
bit false = 0

unfoldable pub leading_from : List ℕ → ℕ → ℕ → ℕ → ℕ
leading_from root m s n = total n (λ p. bit (eqb (path_master root s p) m))

unfoldable pub leading : List ℕ → ℕ → ℕ → ℕ
leading root m n = total n (λ s. leading_from root m s (path_count root s))

-- The rules.

-- "type (1 = I signed, 2 = K unsigned, 3 = X characters) and length in words (I and K: 1 or 2; X: 1..32)"
unfoldable pub item_good : List ℕ → ℕ → Bool
item_good root i =
    (within 1 2 (item_type root i) && within 1 max_number_length (item_length root i))
    || (is_text (item_type root i) && within 1 max_text_length (item_length root i))

-- item i is among the first n of set s
unfoldable pub among : List ℕ → ℕ → ℕ → ℕ → Bool
among root s n i = any n (λ j. eqb (set_item root s j) i)

abbrev pub has_item : List ℕ → ℕ → ℕ → Bool
has_item root s i = among root s (item_count root s) i

-- "a set's items exist and differ"
unfoldable pub item_listed : List ℕ → ℕ → ℕ → Bool
item_listed root s j = within 1 (items root) (set_item root s j) && not (among root s (j - 1) (set_item root s j))

-- "Unused places are 0": the item numbers after the item count
unfoldable pub set_item_good : List ℕ → ℕ → ℕ → Bool
set_item_good root s j =
    elim (leb j (item_count root s)) [
      | true ↦ item_listed root s j
      | false ↦ eqb (set_item root s j) 0
    ]

-- "key item number (0 for a detail); path count 0..4 (0 for a master)", "a master's key is among them"
unfoldable pub kind_good : List ℕ → ℕ → Bool
kind_good root s =
    (detail (kind root s) && eqb (key_item root s) 0 && leb (path_count root s) max_paths)
    || (master (kind root s) && eqb (path_count root s) 0 && has_item root s (key_item root s))

-- a set by itself: what makes the counts in it safe to go by
unfoldable pub set_good : List ℕ → ℕ → Bool
set_good root s =
    within 1 max_capacity (capacity root s)
    && within 1 max_set_items (item_count root s)
    && all max_set_items (set_item_good root s)
    && kind_good root s

-- "A path names a master set"
unfoldable pub names_master : List ℕ → ℕ → Bool
names_master root m = within 1 (sets root) m && master (kind root m)

-- "a search item has its master's key type and length"
unfoldable pub fits_key : List ℕ → ℕ → ℕ → Bool
fits_key root i k = eqb (item_type root i) (item_type root k) && eqb (item_length root i) (item_length root k)

-- "its items are among its own set's items; search items of one set differ"
unfoldable pub search_good : List ℕ → ℕ → ℕ → Bool
search_good root s p =
    has_item root s (path_search root s p)
    && not (any (p - 1) (λ q. eqb (path_search root s q) (path_search root s p)))

-- "a sort item is K or X and isn't that path's search item" (0: none)
unfoldable pub sort_good : List ℕ → ℕ → ℕ → Bool
sort_good root s p =
    eqb (path_sort root s p) 0
    || (has_item root s (path_sort root s p)
    && (is_unsigned (item_type root (path_sort root s p)) || is_text (item_type root (path_sort root s p)))
    && not (eqb (path_sort root s p) (path_search root s p)))

unfoldable pub path_good : List ℕ → ℕ → ℕ → Bool
path_good root s p =
    names_master root (path_master root s p)
    && search_good root s p
    && fits_key root (path_search root s p) (key_item root (path_master root s p))
    && sort_good root s p

-- "Unused places are 0": the triples after the path count
unfoldable pub path_empty : List ℕ → ℕ → ℕ → Bool
path_empty root s p = eqb (path_master root s p) 0 && eqb (path_search root s p) 0 && eqb (path_sort root s p) 0

unfoldable pub set_path_good : List ℕ → ℕ → ℕ → Bool
set_path_good root s p = elim (leb p (path_count root s)) [ true ↦ path_good root s p | false ↦ path_empty root s p ]

-- "an automatic master has only its key and at least one path leading to it; at most 8 paths lead to a master"
unfoldable pub leading_good : List ℕ → ℕ → Bool
leading_good root s =
    detail (kind root s)
    || (leb (leading root s (sets root)) max_leading
    && (manual (kind root s) || (eqb (item_count root s) 1 && leb 1 (leading root s (sets root)))))

-- a set beside the others
unfoldable pub set_linked : List ℕ → ℕ → Bool
set_linked root s = all max_paths (set_path_good root s) && leading_good root s

-- "nothing follows"
unfoldable pub root_length : List ℕ → ℕ
root_length root = 2 + 2 * items root + set_words * sets root

unfoldable pub root_good : List ℕ → Bool
root_good root =
    within 1 max_items (items root)
    && within 1 max_sets (sets root)
    && eqb (length root) (root_length root)
    && all (items root) (item_good root)
    && all (sets root) (set_good root)
    && all (sets root) (set_linked root)

-- the path of set s whose search item is item i; 0 where there is none
unfoldable pub search_path : List ℕ → ℕ → ℕ → ℕ
search_path root s i = latest (path_count root s) (λ p. eqb (path_search root s p) i)

-- To compute with this file's definitions: `unfolding open_root` opens them all.
unfoldable pub open_root : Unit {0}
unfolding items sets item_type item_length description kind capacity item_count key_item path_count set_item path_master path_search path_sort leading_from leading item_good among item_listed set_item_good kind_good set_good names_master fits_key search_good sort_good path_good path_empty set_path_good leading_good set_linked root_length root_good search_path
open_root = tt
