use Rattle.std.proofs.Common.{◌≡◌, ◌-◌, true}
use Rattle.spec.specs.Root.{path_good}
use Rattle.spec.specs.Words.{all}
use Rattle.rules.specs.Rules.{Spare, Counted}
use Rattle.rules.proofs.sets.GoodSet.paths_good.Given as goal

abbrev pub invariant-loop-p : goal.invariant-loop-p
invariant-loop-p l =
    (all (l.p - 1) (path_good l.self.set.root.words.now l.self.set.number) ≡ true)
    × Spare l.self.set.root.words.now l.self.set.number (l.p - 1) l.spare.bits
    × Counted l.self.set.root.words.now l.self.set.number (l.p - 1) l.plan.leads l.plan.slots
    × (l.plan.entries ≡ l.fn.plan.entries)
