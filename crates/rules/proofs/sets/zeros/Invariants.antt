use Rattle.std.proofs.Common.{◌≡◌}
use Rattle.std.proofs.Math.Dec.{eqb}
use Rattle.spec.specs.Words.{all}
use Rattle.rules.specs.Rules.{unused}
use Rattle.rules.proofs.sets.zeros.Given as goal

abbrev pub invariant-loop-word : goal.invariant-loop-word
invariant-loop-word l = eqb l.seen 0 ≡ all l.word-index (unused l.root.words.now l.at)
