-- What the steps of a detail put answer, as outcomes of the definitions.
-- Assumes nothing.
use Rattle.std.specs.Prelude.{ℕ, List}
use Rattle.spec.specs.Outcome.{Outcome, accept, refuse}
use Rattle.spec.specs.Area.{Area}
use Rattle.spec.specs.Layout.{shape_of, path_of}
use Rattle.spec.specs.Detail.{Placed, put_path, Lined, Line as LineOf}
use Rattle.detail_put.specs.declared.Line.{Line}

abbrev pub lined_out : Outcome (List ℕ) → Area → Outcome Lined
lined_out (accept ks) a = accept (record { area = a; passed = ks })
lined_out (refuse why) a = refuse why

abbrev pub line_out : Outcome Line → Area → Outcome LineOf
line_out (accept l) a = accept (record { at = l.at; area = a; passed = l.passed })
line_out (refuse why) a = refuse why

-- the turn of path i of set s
unfoldable pub path_at : List ℕ → ℕ → ℕ → Area → ℕ → List ℕ → Outcome Placed
path_at root s i a r entry = put_path (shape_of root s) (path_of root s i) i a r entry
