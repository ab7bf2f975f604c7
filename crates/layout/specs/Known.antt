-- Whether root and area go together, by the area's length. Assumes nothing.
use Rattle.std.specs.Prelude.{ℕ, ◌≡◌, refl, List, length, eqb, Result, Ok, Err}
use Rattle.spec.specs.declared.Refusal.{Refusal}
use Rattle.spec.specs.declared.Refusal.TheVariants.{BadRoot, BadLength}
use Rattle.spec.specs.Outcome.{Outcome, accept, refuse, require, ◌>>=◌}
use Rattle.spec.specs.Root.{root_good}
use Rattle.spec.specs.Layout.{area_length}
use Rattle.spec.specs.Area.{Area}
use Rattle.spec.specs.Calls.{known}
use Rattle.layout.specs.declared.sets.Root.{Root}

-- what an answer says
abbrev pub known_out : Result Root Refusal → Outcome (Unit {0})
known_out (Ok root) = accept tt
known_out (Err why) = refuse why

-- −91, −92
unfoldable pub known_by : List ℕ → ℕ → Outcome (Unit {0})
known_by root n = do
  _ ← require (root_good root) BadRoot
  require (eqb n (area_length root)) BadLength

-- it is what the calls ask first
pub known_by_length : (root : List ℕ) (a : Area) → known_by root (length a) ≡ known root a
unfolding known_by known
known_by_length root a = refl
