use Rattle.std.proofs.Common.{◌≡◌, ◌*◌, drop}
use Rattle.std.proofs.lemmas.List.Edits.{sets}
use Rattle.lent.specs.Lent.{characters, unpacked}
use Rattle.lent.proofs.unpack.Given as goal

abbrev pub invariant-loop-i : goal.invariant-loop-i
invariant-loop-i l = sets l.text (2 * l.i) (characters (drop l.i l.words)) ≡ unpacked l.words l.initial.text
