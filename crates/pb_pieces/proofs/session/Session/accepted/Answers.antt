use Rattle.pb_pieces.proofs.{Common.Some, Faults.so_far, Fed.running}
use Rattle.pb_pieces.proofs.session.Session.accepted.Goals as goal

pub returns-clause-counts : goal.returns-clause-counts
returns-clause-counts c limits longest i fed s none =
    let r = running limits longest i fed c.args.self.now none s in
    let (left, last, all, is, at, answer) = so_far limits longest s.problem c.texts_are_read.ensures.read fed c.args.self.now.accepted c.args.self.now.checker r.running r.counts in
    (s.instance, s.file, s.problem, s.opened, Some left, _, _, last, all.0, all.1)
