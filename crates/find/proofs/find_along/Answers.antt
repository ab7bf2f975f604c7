use Rattle.std.proofs.Common.{sym}
use Rattle.std.proofs.lemmas.Result.{err_from_is_err_and}
use Rattle.find.proofs.Laws.{walk_lost, walk_torn}
use Rattle.find.proofs.find_along.Goals as goal

pub returns-in_err-follow : goal.returns-in_err-follow
returns-in_err-follow c =
    let p = err_from_is_err_and c.from_residual.result c.from_residual.ensures.1 in
    rw (p.1, p.2, c.loop.invariant) (sym (walk_lost _ _ _ _ _ _ c.if-at-eq0.false c.loop-test.true _ c.in_err-follow.ensures))

pub returns-in_err-at : goal.returns-in_err-at
returns-in_err-at c =
    let p = err_from_is_err_and c.from_residual-in_err-at.result c.from_residual-in_err-at.ensures.1 in
    rw (p.1, p.2, c.loop.invariant)
    (sym (walk_torn _ _ _ _ _ _ c.if-at-eq0.false c.loop-test.true c.in_ok-follow.ensures _ c.has_key.ensures c.if-has_key.false _ c.in_err-at.ensures.is))
