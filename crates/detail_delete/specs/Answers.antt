-- A path's turn of a detail delete by the path's number, and how much such a turn may overwrite.
-- Assumes nothing.
use Rattle.std.specs.Prelude.{ℕ, ◌+◌, ◌*◌, true, false, List}
use Rattle.spec.specs.declared.Master.{Master}
use Rattle.spec.specs.declared.Path.{Path}
use Rattle.spec.specs.Root.{path_master}
use Rattle.spec.specs.Layout.{shape_of, path_of, heads_of}
use Rattle.spec.specs.Outcome.{Outcome}
use Rattle.spec.specs.Area.{Area}
use Rattle.spec.specs.Detail.{delete_path}

-- words that the dropping of an automatic entry may overwrite, and all that a path's turn may
unfoldable pub drop_room : Master → ℕ
drop_room m = elim m.auto [ true ↦ 2 * m.shape.width + 8 | false ↦ 0 ]

unfoldable pub path_room : Path → ℕ
path_room p = 9 + drop_room p.to

-- the turn of path i of set s
unfoldable pub path_at : List ℕ → ℕ → ℕ → Area → ℕ → Outcome Area
path_at root s i a r = delete_path (shape_of root s) (path_of root s i) (heads_of root (path_master root s i)) a r
