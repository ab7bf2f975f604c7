use Rattle.std.proofs.Common.{◌≡◌, ◌-◌}
use Rattle.std.proofs.lemmas.List.Edits.{sets}
use Rattle.lent.specs.Lent.{cursors_from, cursors_of}
use Rattle.lent.proofs.session_of.Given as goal

abbrev pub invariant-loop-i : goal.invariant-loop-i
invariant-loop-i l = sets l.cursor-items l.i (cursors_from l.words (16 - l.i) l.i) ≡ cursors_of l.words
