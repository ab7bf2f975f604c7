use Rattle.std.proofs.Common.{◌≡◌, ◌-◌, length}
use Rattle.std.proofs.lemmas.List.Edits.{sets}
use Rattle.lent.specs.Lent.{packed_from, packed}
use Rattle.lent.proofs.pack.Given as goal

abbrev pub invariant-loop-i : goal.invariant-loop-i
invariant-loop-i l = sets l.words l.i (packed_from l.text (length l.initial.words - l.i) l.i) ≡ packed (length l.initial.words) l.text
