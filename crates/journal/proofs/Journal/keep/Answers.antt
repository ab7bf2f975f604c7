use Rattle.std.proofs.Common.{rules, ◌∙◌}
use Rattle.journal.proofs.Laws.{keep_more}
use Rattle.journal.proofs.Journal.keep.Goals as goal

pub loop-i-preserved : goal.loop-i-preserved
loop-i-preserved c = record {
  lent = c.note.ensures.lent ∙ c.loop-i.invariant.lent;
  held = c.note.ensures.held ∙ c.loop-i.invariant.held;
  area = c.note.ensures.area ∙ c.loop-i.invariant.area;
  size = search rules;
  count = search rules;
  kept = search keep_more;
}
