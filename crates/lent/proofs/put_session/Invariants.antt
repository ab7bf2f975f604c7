use Rattle.std.proofs.Common.{◌≡◌, ◌-◌, ◌*◌}
use Rattle.std.proofs.lemmas.List.Edits.{sets}
use Rattle.lent.specs.Lent.{session_from, session_words}
use Rattle.lent.proofs.put_session.Given as goal

abbrev pub invariant-loop-i : goal.invariant-loop-i
invariant-loop-i l = sets l.words (4 * l.i) (session_from l.fn.s.cursors (16 - l.i) l.i) ≡ session_words l.fn.s.cursors
