use Rattle.std.proofs.Common.{◌≡◌, ◌-◌, true}
use Rattle.spec.specs.Root.{leading_good}
use Rattle.spec.specs.Words.{all}
use Rattle.rules.proofs.sets.Head.all_leading_good.Given as goal

abbrev pub invariant-loop-s : goal.invariant-loop-s
invariant-loop-s l = all (l.s - 1) (leading_good l.self.root.words.now) ≡ true
