-- What the steps of one path's turn answer, as outcomes of the definitions, and how much such a turn may overwrite.
-- Assumes nothing.
use Rattle.std.specs.Prelude.{ℕ, ◌+◌, true, false, List, eqb, Option, Some, None}
use Rattle.spec.specs.declared.Path.{Path}
use Rattle.spec.specs.declared.Shape.{Shape}
use Rattle.spec.specs.Outcome.{Outcome, accept, refuse, ◌>>=◌}
use Rattle.spec.specs.Words.{greater}
use Rattle.spec.specs.Area.{Area, poke_link, value_at, follow, read_links}
use Rattle.spec.specs.Detail.{Placed}

-- what line r says to the walk: nothing where the walk stands after it, the line behind it where it is passed
unfoldable pub looked : Shape → Path → Area → List ℕ → ℕ → Outcome (Option ℕ)
looked d p a v r = do
  _ ← follow d a r
  elim (greater (value_at d p.sort a r) v) [
    | true ↦ do
      l ← read_links d a r p.links
      accept (Some l.back)
    | false ↦ accept None
  ]

abbrev pub placed_out : Outcome ℕ → Area → Outcome Placed
placed_out (accept k) a = accept (record { area = a; passed = k })
placed_out (refuse why) a = refuse why

-- words that an automatic entry may overwrite, its key of n words; and all that a path's turn may
unfoldable pub entry_room : Path → ℕ → ℕ
entry_room p n = elim p.to.auto [ true ↦ p.to.shape.width + p.to.shape.front + n + 6 | false ↦ 0 ]

unfoldable pub path_room : Path → ℕ
path_room p = entry_room p p.search.size + 13

-- an end of a head, at a place in record k, where there is no neighbour on that side
unfoldable pub end_set : Shape → Area → ℕ → ℕ → ℕ → ℕ → Area
end_set s a k at neighbour v = elim (eqb neighbour 0) [ true ↦ poke_link s a k at v | false ↦ a ]
