-- A session as the 64 numbers that a host lends, and characters in words.
-- Assumes nothing.
use Rattle.std.specs.Prelude.{ℕ, zero, suc, ◌+◌, ◌*◌, ◌/◌, ◌%◌, List, [], ◌∷◌, ◌++◌, length, get_or, drop}
use Rattle.spec.specs.declared.Cursor.{Cursor}
use Rattle.spec.specs.Cursor.{fresh}

-- the cursor whose four numbers begin at a place
unfoldable pub cursor_at : List ℕ → ℕ → Cursor
cursor_at ws at = record { current = get_or ws at 0; path = get_or ws (at + 1) 0; back = get_or ws (at + 2) 0; fore = get_or ws (at + 3) 0 }

-- n cursors from the i-th on; all sixteen
unfoldable pub cursors_from : List ℕ → ℕ → ℕ → List Cursor
cursors_from ws zero i = []
cursors_from ws (suc n) i = cursor_at ws (4 * i) ∷ cursors_from ws n (i + 1)

unfoldable pub cursors_of : List ℕ → List Cursor
cursors_of ws = cursors_from ws 16 0

-- "current record, current path, saved back, saved forward"
unfoldable pub cursor_words : Cursor → List ℕ
cursor_words c = c.current ∷ c.path ∷ c.back ∷ c.fore ∷ []

-- the numbers of n cursors from the i-th on; of all sixteen
unfoldable pub session_from : List Cursor → ℕ → ℕ → List ℕ
session_from cs zero i = []
session_from cs (suc n) i = cursor_words (get_or cs i fresh) ++ session_from cs n (i + 1)

unfoldable pub session_words : List Cursor → List ℕ
session_words cs = session_from cs 16 0

-- n words of the characters of a text, the first in the high byte, blanks (32) past its end
unfoldable pub packed_from : List ℕ → ℕ → ℕ → List ℕ
packed_from text zero i = []
packed_from text (suc n) i = (get_or text (2 * i) 32 * 256 + get_or text (2 * i + 1) 32) ∷ packed_from text n (i + 1)

unfoldable pub packed : ℕ → List ℕ → List ℕ
packed n text = packed_from text n 0

-- the characters of the words, and of the text what is past them
unfoldable pub characters : List ℕ → List ℕ
characters [] = []
characters (w ∷ ws) = (w / 256) ∷ (w % 256) ∷ characters ws

unfoldable pub unpacked : List ℕ → List ℕ → List ℕ
unpacked ws text = characters ws ++ drop (2 * length ws) text
