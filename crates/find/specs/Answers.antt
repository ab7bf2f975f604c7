-- A word of the map that the search for an unused record passes at once. Assumes nothing.
use Rattle.std.specs.Prelude.{ℕ, ◌+◌, ◌≤◌, ◌<◌, ◌^◌, true, List}
use Rattle.spec.specs.declared.Shape.{Shape}
use Rattle.area.specs.MapLaws.{Alike}

-- the n records from r on begin with the 16 of a word of the map, within the capacity, and so numbers of 32 bits, and live
pub record Full (s : Shape) (a : List ℕ) (n r : ℕ) : Type 0 where
  pub many : 16 ≤ n
  pub within : r + 15 ≤ s.cap
  pub small : r + 15 < 2 ^ 32
  pub alike : Alike s a r true
