-- The words of a line of text, and a word as a number.
-- Assumes nothing.
use Rattle.std.specs.Prelude.{ℕ, ◌+◌, ◌-◌, ◌*◌, Bool, true, false, ◌&&◌, not, List, [], ◌∷◌, length, take, drop, ◌≡◌, ◌<◌, MatchOption, Option, Some, None, eqb, ltb}
use Rattle.std.specs.Borrow.{Bor}
use Rattle.std.specs.List.{list_all, prefix_len, zip}

-- a blank is a space, a tab, the end of a line, and every other byte up to 32; anything else is a letter
abbrev pub blank : ℕ → Bool
blank b = ltb b 33

abbrev pub letter : ℕ → Bool
letter b = ltb 32 b

-- any byte but one
abbrev pub other : ℕ → ℕ → Bool
other b x = not (eqb x b)

-- a line from its first word on, if it has one
abbrev pub from_word : List ℕ → List ℕ
from_word line = drop (prefix_len blank line) line

-- the first word of a line is found, and the line after it is left; none is found where every byte is a blank
abbrev pub FindsWord : List ℕ → Option (Bor (List ℕ)) → List ℕ → Type 0
FindsWord line found rest =
    MatchOption found (prefix_len blank line ≡ length line) (λ word.
    (word.now ≡ take (prefix_len letter (from_word line)) (from_word line))
    × (0 < length word.now) × (rest ≡ drop (prefix_len letter (from_word line)) (from_word line)))

-- small letters a to z, 97 to 122, stand 32 above the capitals
abbrev pub upper_case : ℕ → ℕ
upper_case b = elim (ltb b 97) [ true ↦ b | false ↦ elim (ltb 122 b) [ true ↦ b | false ↦ b - 32 ] ]

-- two words with the same letters, upper and lower case aside
abbrev pub alike : List ℕ → List ℕ → Bool
alike a b = eqb (length a) (length b) && list_all (λ p. eqb (upper_case p.0) (upper_case p.1)) (zip a b)

-- the number that a value and the digits after it make: refused at the first byte that is no digit, 48 to 57, and where it
-- passes 4294967295
abbrev pub digits_after : ℕ → List ℕ → Option ℕ
digits_after value [] = Some value
digits_after value (b ∷ bs) =
    elim (ltb b 48) [
      | true ↦ None
      | false ↦ elim (ltb 57 b) [
        | true ↦ None
        | false ↦ elim (ltb 4294967295 (10 * value + (b - 48))) [
          | true ↦ None
          | false ↦ digits_after (10 * value + (b - 48)) bs
        ]
      ]
    ]

-- a word is a number where it has a digit, and nothing else than digits
abbrev pub number : List ℕ → Option ℕ
number [] = None
number (b ∷ bs) = digits_after 0 (b ∷ bs)
