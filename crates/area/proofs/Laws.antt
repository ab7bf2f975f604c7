-- Laws of the area's readers. Assumes nothing.
use Rattle.std.specs.Prelude.{ℕ, ◌-◌, ◌%◌, ◌≡◌, Bool, true, false, List, get_or, eqb}
use Rattle.std.proofs.Common.{eqb-true}
use Rattle.spec.specs.declared.Shape.{Shape}
use Rattle.spec.specs.Area.{map_place}
use Rattle.area.specs.MapLaws.{Alike, alike}

-- a word of the map compared with all ones, or with none
module _ (s : Shape) (a : List ℕ) (r m w : ℕ) (on : Bool) (h : (r - 1) % 16 ≡ 0) (e : m ≡ map_place s r) (q : w ≡ get_or a m 0) where
  pub alike_ones : on ≡ true → eqb w 65535 ≡ true → Alike s a r on
  alike_ones t k = alike s a r w on h (rw (← e) q) (rw t (eqb-true w 65535 k))

  pub alike_zeros : on ≡ false → eqb w 0 ≡ true → Alike s a r on
  alike_zeros t k = alike s a r w on h (rw (← e) q) (rw t (eqb-true w 0 k))
