-- The named set as the calls see it, and what every call asks of a root that goes with the area.
-- Assumes nothing.
use Rattle.std.specs.Prelude.{ℕ, List, Result, Ok, Err}
use Rattle.spec.specs.declared.Refusal.{Refusal}
use Rattle.spec.specs.declared.Refusal.TheVariants.{NoSet}
use Rattle.spec.specs.declared.Cursor.{Cursor}
use Rattle.spec.specs.Outcome.{Outcome, accept, refuse, require, ◌>>=◌}
use Rattle.spec.specs.Words.{within}
use Rattle.spec.specs.Root.{sets}
use Rattle.spec.specs.Layout.{View, a_master, a_detail, master_of, heads_of, detail_of, view_of}
use Rattle.spec.specs.Calls.{named_cursor}
use Rattle.layout.specs.declared.sets.Root.{Root}
use Rattle.named.specs.declared.Named.{Named}
use Rattle.named.specs.declared.Named.TheVariants.{Master, Detail}

-- the set's root, its number, and the set as the calls see it
abbrev pub root_out : Named → Root
root_out (Master m) = m.root.now
root_out (Detail d) = d.root.now

abbrev pub number_out : Named → ℕ
number_out (Master m) = m.number
number_out (Detail d) = d.number

abbrev pub view_out : Named → View
view_out (Master m) = a_master (master_of m.root.now.words.now m.number) (heads_of m.root.now.words.now m.number)
view_out (Detail d) = a_detail (detail_of d.root.now.words.now d.number)

-- what an answer says
abbrev pub set_out : Result Named Refusal → Outcome View
set_out (Ok named) = accept (view_out named)
set_out (Err why) = refuse why

abbrev pub cursor_out : Result (Named × Cursor) Refusal → Outcome (View × Cursor)
cursor_out (Ok named) = accept (view_out named.0, named.1)
cursor_out (Err why) = refuse why

-- −21
unfoldable pub set_named : List ℕ → ℕ → Outcome View
set_named root s = do
  _ ← require (within 1 (sets root) s) NoSet
  accept (view_of root s)

-- −21, −93
unfoldable pub cursor_named : List ℕ → List Cursor → ℕ → Outcome (View × Cursor)
cursor_named root cs s = do
  v ← set_named root s
  c ← named_cursor v cs s
  accept (v, c)
