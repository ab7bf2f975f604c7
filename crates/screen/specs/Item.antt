-- An item's type, as the root has it.
-- Assumes nothing.
use Rattle.std.specs.Prelude.{ℕ, true, false, eqb}
use Rattle.root.specs.declared.codes.ItemType.{ItemType}
use Rattle.root.specs.declared.codes.ItemType.TheVariants.{Signed, Unsigned, Text}

-- "type (1 = I signed, 2 = K unsigned, 3 = X characters)"; a good root has no other
abbrev pub type_of : ℕ → ItemType
type_of code = elim (eqb code 1) [ true ↦ Signed | false ↦ elim (eqb code 2) [ true ↦ Unsigned | false ↦ Text ] ]
