use Rattle.pb_proof.proofs.{Common.AcceptsItems, Common.MayAsk, Common.largest, Common.top_of, Common.arith, lemmas.Proofs.is_read, lemmas.Proofs.stops_in}
use Rattle.pb_proof.proofs.read.read_by.Goals as goal

pub returns-in-Ok-clause-reads : goal.returns-in-Ok-clause-reads
returns-in-Ok-clause-reads g c = grind (arith, c.in-Ok.ensures.reads, is_read, g.M.Machine.automaton, c.requires.accepts, c.new.ensures)

pub returns-in-Ok-clause-given : goal.returns-in-Ok-clause-given
returns-in-Ok-clause-given g c =
    let (given, left, are, r) = c.in-Ok.ensures.given in
    (given, left, are, (r.0, r.1, r.2, is_read (largest c.args.limits) (top_of c.args.limits) c.args.longest (AcceptsItems g.M.Machine.automaton c.args.machine) c.requires.accepts r.0 c.new.result c.new.ensures c.in-Ok.read r.3))

pub returns-in-Err-clause-reads : goal.returns-in-Err-clause-reads
returns-in-Err-clause-reads g c =
    let r = c.in-Err.ensures.reads in
    (r.0, r.1, r.2, stops_in (largest c.args.limits) (top_of c.args.limits) c.args.longest (AcceptsItems g.M.Machine.automaton c.args.machine) c.requires.accepts r.0 c.new.result (MayAsk g.M.Machine.automaton c.args.machine) c.requires.asks r.1 c.in-Err.stop r.3)

pub returns-in-Err-clause-given : goal.returns-in-Err-clause-given
returns-in-Err-clause-given g c =
    let (given, left, are, r) = c.in-Err.ensures.given in
    (given, left, are, (r.0, r.1, r.2, stops_in (largest c.args.limits) (top_of c.args.limits) c.args.longest (AcceptsItems g.M.Machine.automaton c.args.machine) c.requires.accepts r.0 c.new.result (MayAsk g.M.Machine.automaton c.args.machine) c.requires.asks r.1 c.in-Err.stop r.3))
