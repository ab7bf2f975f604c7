use Rattle.std.proofs.Common.{◌≡◌, ◌*◌}
use Rattle.spec.specs.Root.{path_count}
use Rattle.spec.specs.Layout.{detail_of}
use Rattle.spec.specs.Detail.{delete_paths}
use Rattle.journal.specs.Journal.{Back}
use Rattle.detail_delete.proofs.Laws.{Left}
use Rattle.detail_delete.proofs.delete_paths.Given as goal

abbrev pub invariant-loop-i : goal.invariant-loop-i
invariant-loop-i l = record {
  back : Back l.initial.jr (173 * l.i) l.jr;
  left :
      delete_paths (detail_of l.d.root.now.words.now l.d.number) l.r (path_count l.d.root.now.words.now l.d.number) 1 l.initial.jr.area.now
      ≡ Left l.d.root.now.words.now l.d.number l.r (path_count l.d.root.now.words.now l.d.number) l.i l.jr.area.now;
}
