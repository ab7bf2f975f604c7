use Rattle.std.proofs.Common.{rules, arith}
use Rattle.maltorhu.proofs.Laws.{get_cursors}
use Rattle.maltorhu.proofs.dbget.Goals as goal

pub returns-clause-cursors : goal.returns-clause-cursors
returns-clause-cursors c =
    get_cursors c.args.root.now c.args.area.now c.args.cursors.now c.args.set c.args.mode c.args.number c.args.value.now c.args.buffer.now c.args.status.now
    _ _ _ _ _ (search rules) c.session_of-session.ensures (omega arith) (omega arith) c.get-answer.ensures.cursors c.give_back.ensures.cursors
