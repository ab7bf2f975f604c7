use Rattle.std.proofs.Common.{◌≡◌, ◌++◌, take}
use Rattle.cases.proofs.command.lay.Given as goal

abbrev pub invariant-loop-n : goal.invariant-loop-n
invariant-loop-n l = l.words.items ≡ l.initial.words.items ++ take l.n-index l.numbers
