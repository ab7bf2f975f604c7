-- The numbers that stand for a set's kind and for an item's type.
-- Assumes nothing.
use Rattle.std.specs.Prelude.{ℕ, ◌≡◌, ◌≤◌, ◌<◌, Result, MatchResult}
use Rattle.root.specs.declared.codes.Kind.{Kind}
use Rattle.root.specs.declared.codes.Kind.TheVariants.{Manual, Automatic, Detail}
use Rattle.root.specs.declared.codes.ItemType.{ItemType}
use Rattle.root.specs.declared.codes.ItemType.TheVariants.{Signed, Unsigned, Text}
use Rattle.root.specs.declared.codes.UnknownCode.{UnknownCode}

-- "kind (1 manual master, 2 automatic master, 3 detail)"
abbrev pub kind_code : Kind → ℕ
kind_code Manual = 1
kind_code Automatic = 2
kind_code Detail = 3

-- "type (1 = I signed, 2 = K unsigned, 3 = X characters)"
abbrev pub type_code : ItemType → ℕ
type_code Signed = 1
type_code Unsigned = 2
type_code Text = 3

-- what a number is read as: the kind or the type whose code it is, and a refusal of every number that is no code
abbrev pub KindOf : ℕ → Result Kind UnknownCode → Type 0
KindOf n r = MatchResult r (λ k. kind_code k ≡ n) (λ e. (e.0 ≡ n) × (1 ≤ n → 3 < n))

abbrev pub TypeOf : ℕ → Result ItemType UnknownCode → Type 0
TypeOf n r = MatchResult r (λ t. type_code t ≡ n) (λ e. (e.0 ≡ n) × (1 ≤ n → 3 < n))
