-- Document 01, "Condition words": refusals and their numbers, the word that is stored, and what a step comes to.
-- Assumes nothing.
use Rattle.std.specs.Prelude.{ℕ, zero, suc, ◌+◌, ◌-◌, Bool, true, false, List, ◌∷◌, ℤ, pos, negsuc, replicate}
use Rattle.std.specs.Prelude.{Result}
pub use Rattle.std.specs.Prelude.{Ok as accept, Err as refuse}
use Rattle.spec.specs.declared.Refusal.{Refusal}
use Rattle.spec.specs.declared.Refusal.TheVariants.{BadRoot, BadLength, NoSet, BadCursor, NotByCall, NoMode, NotSearched, WrongLength, NoPath, ShortBuffer, NoRecord, NoneBelow, NoneAbove, RecordZero, PastCapacity, ChainStart, ChainEnd, KeyChanged, KeyPresent, SetFull, HasLines, NoEntry, MasterFull, Broken}

-- −n
abbrev pub minus : ℕ → ℤ
minus zero = pos 0
minus (suc n) = negsuc n

-- The table's numbers, row by row. This is the one place that has them.
unfoldable pub number : Refusal → ℤ
-- "root breaks a rule above"
number BadRoot = minus 91
-- "area length isn't the root's"
number BadLength = minus 92
-- "no such set; find on a master"
number NoSet = minus 21
-- "this set's cursor: path above its paths, or current record above C"
number BadCursor = minus 93
-- "put, update, delete on an automatic master"
number NotByCall = minus 24
-- "get mode not 1..7; 5, 6 on a master; 7 on a detail"
number NoMode = minus 31
-- "find: not a search item of the set"
number NotSearched = minus 52
-- "put, update: entry length wrong; find, mode 7: value length wrong"
number WrongLength = minus 95
-- "mode 5, 6 with current path 0"
number NoPath = minus 94
-- "get: buffer shorter than the entry"
number ShortBuffer = pos 50
-- 17, 10 to 15: "as above; 17 also for find without a master entry, and for update, delete on no live record"
number NoRecord = pos 17
number NoneBelow = pos 10
number NoneAbove = pos 11
number RecordZero = pos 12
number PastCapacity = pos 13
number ChainStart = pos 14
number ChainEnd = pos 15
-- "update would change a key, search or sort item"
number KeyChanged = pos 41
-- "master put: key present; no unused record"
number KeyPresent = pos 43
number SetFull = pos 16
-- "master delete: a head's count isn't 0"
number HasLines = pos 44
-- "no manual entry (100 + path), automatic master full (300 + path)"
number (NoEntry path) = pos (100 + path)
number (MasterFull path) = pos (300 + path)
-- "a step reads a link above C .."
number Broken = pos 18

-- "The word is signed, stored as two's complement."
unfoldable pub twos : ℤ → ℕ
twos (pos n) = n
twos (negsuc n) = 65535 - n

-- "On each: word 1 the number, nine zeros"
unfoldable pub refused_words : Refusal → List ℕ
refused_words why = twos (number why) ∷ replicate 9 0

-- What a step comes to: accepted with a value, or refused. "Each call is worked as if on a copy: a refusal at any step
-- leaves the original": a refusal carries no area.
abbrev pub Outcome : Type 0 → Type 0
Outcome A = Result A Refusal

-- `x ← step` goes on with what the step gives, or is refused as the step is
infixl 1 ◌>>=◌
abbrev pub ◌>>=◌ : {A B : Type 0} → Outcome A → (A → Outcome B) → Outcome B
accept a >>= f = f a
refuse why >>= f = refuse why

-- `_ ← require test why` is refused where the test fails
abbrev pub require : Bool → Refusal → Outcome (Unit {0})
require true why = accept tt
require false why = refuse why

-- To compute with this file's definitions: `unfolding open_outcome` opens them all.
unfoldable pub open_outcome : Unit {0}
unfolding number twos refused_words
open_outcome = tt
