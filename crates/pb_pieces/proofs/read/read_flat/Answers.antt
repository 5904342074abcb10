use Rattle.pb_pieces.proofs.{Common.opb, Common.IsInstance, Common.AcceptsItems, Common.largest, Common.top_of, Statements.read_as, Statements.refused_as}
use Rattle.pb_pieces.proofs.read.read_flat.Goals as goal

pub returns-clause-read : goal.returns-clause-read
returns-clause-read g c =
    read_as (AcceptsItems opb c.new-machine.result) (IsInstance (largest c.args.limits) (top_of c.args.limits)) c.args.longest (g.S.Source.left c.args.input.now) (g.S.Source.left c.read_events.new.input)
    (λ items h. (c.new-machine.ensures.accepts items).0 h) c.read_events.result c.read_events.ensures.read

pub returns-clause-refused : goal.returns-clause-refused
returns-clause-refused g c =
    refused_as (AcceptsItems opb c.new-machine.result) (IsInstance (largest c.args.limits) (top_of c.args.limits)) c.args.longest (g.S.Source.left c.args.input.now) (g.S.Source.left c.read_events.new.input)
    c.new-machine.ensures.reads c.read_events.result c.read_events.ensures.refused
