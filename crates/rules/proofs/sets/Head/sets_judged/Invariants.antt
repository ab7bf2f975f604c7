use Rattle.std.proofs.Common.{◌≡◌, ◌-◌, true}
use Rattle.spec.specs.Words.{all}
use Rattle.spec.specs.Layout.{entry_length}
use Rattle.root.specs.Plan.{Filled}
use Rattle.rules.specs.Rules.{set_judged, Counted}
use Rattle.rules.proofs.sets.Head.sets_judged.Given as goal

abbrev pub invariant-loop-s : goal.invariant-loop-s
invariant-loop-s l =
    (all (l.s - 1) (set_judged l.self.root.words.now) ≡ true)
    × Counted l.self.root.words.now l.s 0 l.plan.leads l.plan.slots
    × Filled (entry_length l.self.root.words.now) l.s l.plan.entries
