use Rattle.std.proofs.Common.{◌≡◌}
use Rattle.spec.specs.Root.{path_search, search_path}
use Rattle.root.specs.Ranges.{last_of}
use Rattle.root.proofs.search_path.Given as goal

abbrev pub invariant-loop-p : goal.invariant-loop-p
invariant-loop-p g l =
    search_path (g.R.Readable.words l.root) l.s l.item ≡ last_of (path_search (g.R.Readable.words l.root) l.s) l.p l.item
