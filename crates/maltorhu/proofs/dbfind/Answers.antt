use Rattle.std.proofs.Common.{rules, arith}
use Rattle.maltorhu.proofs.Laws.{find_cursors}
use Rattle.maltorhu.proofs.dbfind.Goals as goal

pub returns-clause-cursors : goal.returns-clause-cursors
returns-clause-cursors c =
    find_cursors c.args.root.now c.args.area.now c.args.cursors.now c.args.set c.args.item c.args.value.now c.args.status.now
    _ _ _ _ _ (search rules) c.session_of-session.ensures (omega arith) (omega arith) c.find-answer.ensures.cursors c.give_back.ensures.cursors
