use Rattle.pb_pieces.proofs.{Common.Ok, Common.first_state, Fed.running}
use Rattle.pb_pieces.proofs.session.Session.held.Goals as goal

pub returns-clause-few : goal.returns-clause-few
returns-clause-few c limits longest i fed s none =
    let r = running limits longest i fed c.args.self.now none s in
    c.held.ensures.few limits longest s.problem (Ok (first_state s.problem)) fed r.running r.counts.0
