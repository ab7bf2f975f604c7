use Rattle.std.proofs.Common.{◌≡◌, true}
use Rattle.spec.specs.Layout.{detail_of}
use Rattle.spec.specs.Calls.{keeps_paths}
use Rattle.detail_calls.proofs.keeps_paths.Given as goal

abbrev pub invariant-loop-i : goal.invariant-loop-i
invariant-loop-i l = keeps_paths (detail_of l.d.root.now.words.now l.d.number) l.area l.r l.entry l.i ≡ true
