-- What the changing calls on a master tell.
-- Assumes nothing.
use Rattle.std.specs.Prelude.{ℕ}
use Rattle.spec.specs.declared.Cursor.{Cursor}
use Rattle.spec.specs.declared.Master.{Master}
use Rattle.spec.specs.Outcome.{Outcome, accept, refuse}
use Rattle.spec.specs.Area.{Area, synonym_count}
use Rattle.spec.specs.Detail.{Line, none_passed}
use Rattle.spec.specs.Cursor.{no_links, at_record}
use Rattle.session.specs.declared.Good.{Good}

-- the record that a put took, and the area; no lines are passed
abbrev pub line_out : Outcome ℕ → Area → Outcome Line
line_out (accept r) a = accept (record { at = r; area = a; passed = none_passed })
line_out (refuse why) a = refuse why

-- what is told of a new entry in record r
unfoldable pub told : Master → Area → Cursor → ℕ → Good
told m a c r =
    record {
      size = m.shape.entry;
      at = r;
      number = synonym_count m.shape a r;
      links = no_links;
      cursor = at_record c r no_links;
      passed = none_passed;
    }

-- what is told after an update or a delete
unfoldable pub rewritten : ℕ → Cursor → Good
rewritten size c = record { size = size; at = 0; number = 0; links = no_links; cursor = c; passed = none_passed }
