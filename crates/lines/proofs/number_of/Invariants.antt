use Rattle.std.proofs.Common.{◌≡◌, ◌≤◌, drop}
use Rattle.lines.specs.Lines.{digits_after, number}
use Rattle.lines.proofs.number_of.Given as goal

abbrev pub invariant-loop-b : goal.invariant-loop-b
invariant-loop-b l = (l.value ≤ 4294967295) × (number l.word ≡ digits_after l.value (drop l.b-index l.word))
