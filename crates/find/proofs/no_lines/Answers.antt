use Rattle.std.proofs.Common.{sym}
use Rattle.std.proofs.lemmas.Result.{err_from_is_err_and}
use Rattle.find.proofs.Laws.{heads_torn, heads_next}
use Rattle.find.proofs.no_lines.Goals as goal

pub returns-in_err-read_head : goal.returns-in_err-read_head
returns-in_err-read_head c =
    let p = err_from_is_err_and c.from_residual.result c.from_residual.ensures.1 in
    rw (p.1, p.2, c.loop-j.invariant) (sym (heads_torn _ _ _ _ _ c.loop-j-test.true _ c.in_err-read_head.ensures.is))

pub loop-j-preserved : goal.loop-j-preserved
loop-j-preserved c = rw c.loop-j.invariant (heads_next _ _ _ _ _ c.loop-j-test.true _ c.in_ok-read_head.ensures.is c.if-branch-ne0.false)
