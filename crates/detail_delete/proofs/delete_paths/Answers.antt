use Rattle.std.proofs.Common.{arith, sym}
use Rattle.std.proofs.lemmas.Result.{err_from_is_err_and}
use Rattle.detail_delete.proofs.Laws.{paths_refused}
use Rattle.detail_delete.proofs.delete_paths.Goals as goal

pub returns-in_err-delete_path-clause-is : goal.returns-in_err-delete_path-clause-is
returns-in_err-delete_path-clause-is c =
    let p = err_from_is_err_and c.from_residual.result c.from_residual.ensures.1 in
    let q = rw (c.path.ensures.set, c.path.ensures.number) at c.in_err-delete_path.ensures.is in
    rw (p.1, p.2, c.loop-i.invariant.left) (sym (paths_refused _ _ _ _ _ _ (omega arith) _ q))
