-- What the writing steps of a master answer, as outcomes of the definitions.
-- Assumes nothing.
use Rattle.std.specs.Prelude.{ℕ, ◌≡◌, IfErr}
use Rattle.spec.specs.Outcome.{Outcome, accept, refuse}
use Rattle.spec.specs.Area.{Area}
use Rattle.spec.specs.Master.{Put}

-- the area that a step left, where it was done
abbrev pub area_out : Outcome (Unit {0}) → Area → Outcome Area
area_out (accept u) a = accept a
area_out (refuse why) a = refuse why

-- the record that a put took, and the area
abbrev pub put_out : Outcome ℕ → Area → Outcome Put
put_out (accept r) a = accept (record { at = r; area = a })
put_out (refuse why) a = refuse why

-- a step that refuses has written nothing
abbrev pub Unwritten : {A : Type 0} → Outcome A → Area → Area → Type 0
Unwritten o a b = IfErr o (λ why. b ≡ a)
