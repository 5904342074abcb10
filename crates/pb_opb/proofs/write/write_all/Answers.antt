use Rattle.pb_opb.proofs.{Common.refl, Common.part_broke, Common.part_then, Common.constraint_events, lemmas.instances.Spelled.objective_turn}
use Rattle.pb_opb.proofs.write.write_all.Goals as goal

pub returns-in_err-write_comments : goal.returns-in_err-write_comments
returns-in_err-write_comments g c =
    part_broke g.S.Sink.contents g.S.Sink.faults _ _ _ _ _ _ (objective_turn c.count_due.result c.args.terms.now c.args.comments.now c.split_at.result.0.now c.split_at.result.1.now (constraint_events c.args.constraints.now) c.count_due.ensures.count c.split_at.ensures.front c.split_at.ensures.back) c.from_residual.ensures.0 c.in_err-write_comments.ensures

pub returns-in_err-write_bytes : goal.returns-in_err-write_bytes
returns-in_err-write_bytes g c =
    part_then g.S.Sink.contents g.S.Sink.faults _ _ _ _ _ _ _ (objective_turn c.count_due.result c.args.terms.now c.args.comments.now c.split_at.result.0.now c.split_at.result.1.now (constraint_events c.args.constraints.now) c.count_due.ensures.count c.split_at.ensures.front c.split_at.ensures.back) c.in_ok-write_comments.ensures
    (part_broke g.S.Sink.contents g.S.Sink.faults _ _ _ _ _ _ refl c.from_residual-in_err-write_bytes.ensures.0 c.in_err-write_bytes.ensures)

pub returns-in_err-write_objective : goal.returns-in_err-write_objective
returns-in_err-write_objective g c =
    part_then g.S.Sink.contents g.S.Sink.faults _ _ _ _ _ _ _ (objective_turn c.count_due.result c.args.terms.now c.args.comments.now c.split_at.result.0.now c.split_at.result.1.now (constraint_events c.args.constraints.now) c.count_due.ensures.count c.split_at.ensures.front c.split_at.ensures.back) c.in_ok-write_comments.ensures
    (part_then g.S.Sink.contents g.S.Sink.faults _ _ _ _ _ _ _ refl c.in_ok-write_bytes.ensures
    (part_broke g.S.Sink.contents g.S.Sink.faults _ _ _ _ _ _ refl c.from_residual-in_err-write_objective.ensures.0 c.in_err-write_objective.ensures))

pub returns : goal.returns
returns g c =
    part_then g.S.Sink.contents g.S.Sink.faults _ _ _ _ _ _ _ (objective_turn c.count_due.result c.args.terms.now c.args.comments.now c.split_at.result.0.now c.split_at.result.1.now (constraint_events c.args.constraints.now) c.count_due.ensures.count c.split_at.ensures.front c.split_at.ensures.back) c.in_ok-write_comments.ensures
    (part_then g.S.Sink.contents g.S.Sink.faults _ _ _ _ _ _ _ refl c.in_ok-write_bytes.ensures
    (part_then g.S.Sink.contents g.S.Sink.faults _ _ _ _ _ _ _ refl c.in_ok-write_objective.ensures
    (c.write_constraints.ensures)))
