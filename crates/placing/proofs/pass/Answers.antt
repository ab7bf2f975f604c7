use Rattle.std.proofs.Common.{sym}
use Rattle.std.proofs.lemmas.Result.{err_from_is_err_and}
use Rattle.placing.proofs.Laws.{walk_lost}
use Rattle.placing.proofs.pass.Goals as goal

pub returns-in_err-back : goal.returns-in_err-back
returns-in_err-back c =
    let p = err_from_is_err_and c.from_residual.result c.from_residual.ensures.1 in
    rw (p.1, p.2, c.loop.invariant.rest) (sym (walk_lost _ _ _ _ _ _ _ c.if-t-eq0.false c.loop-test.true _ c.in_err-back.ensures))
