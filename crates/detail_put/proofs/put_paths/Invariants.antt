use Rattle.std.proofs.Common.{◌≡◌, ◌*◌}
use Rattle.spec.specs.Root.{path_count}
use Rattle.spec.specs.Layout.{detail_of}
use Rattle.spec.specs.Detail.{none_passed, put_paths}
use Rattle.journal.specs.Journal.{Back}
use Rattle.detail_put.proofs.Laws.{Left}
use Rattle.detail_put.proofs.put_paths.Given as goal

abbrev pub invariant-loop-i : goal.invariant-loop-i
invariant-loop-i l = record {
  back : Back l.initial.jr (173 * l.i) l.jr;
  left :
      put_paths (detail_of l.d.root.now.words.now l.d.number) l.entry l.r (path_count l.d.root.now.words.now l.d.number) 1
      (record { area = l.initial.jr.area.now; passed = none_passed })
      ≡ Left l.d.root.now.words.now l.d.number l.entry l.r (path_count l.d.root.now.words.now l.d.number) l.i l.jr.area.now l.passed;
}
