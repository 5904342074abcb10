use Rattle.pb_opb.proofs.{Common.refl, Common.rules, Common.part_broke, Common.part_then, lemmas.instances.Spelled.objective_parts}
use Rattle.pb_opb.proofs.write.write_objective.Goals as goal

pub returns-in_err-write_bytes : goal.returns-in_err-write_bytes
returns-in_err-write_bytes g c =
    part_broke g.S.Sink.contents g.S.Sink.faults _ _ _ _ _ _ (objective_parts c.args.terms.now (search rules)) c.from_residual.ensures.0 c.in_err-write_bytes.ensures

pub returns-in_err-write_sum : goal.returns-in_err-write_sum
returns-in_err-write_sum g c =
    part_then g.S.Sink.contents g.S.Sink.faults _ _ _ _ _ _ _ (objective_parts c.args.terms.now (search rules)) c.in_ok-write_bytes.ensures
    (part_broke g.S.Sink.contents g.S.Sink.faults _ _ _ _ _ _ refl c.from_residual-in_err-write_sum.ensures.0 c.in_err-write_sum.ensures)

pub returns : goal.returns
returns g c =
    part_then g.S.Sink.contents g.S.Sink.faults _ _ _ _ _ _ _ (objective_parts c.args.terms.now (search rules)) c.in_ok-write_bytes.ensures
    (part_then g.S.Sink.contents g.S.Sink.faults _ _ _ _ _ _ _ refl c.in_ok-write_sum.ensures c.write_bytes-3.ensures)
