use Rattle.pb_opb.proofs.Common.{AcceptsItems, MayAsk, largest, top_of, begin, opb}
use Rattle.pb_opb.proofs.lemmas.{instances.Reported.is_read, instances.Reported.stops_in, machine.Asked.read_exactly, machine.Asked.stops_exactly}
use Rattle.pb_opb.proofs.read.read_instance_within.Goals as goal

pub returns-in-Ok-clause-reads : goal.returns-in-Ok-clause-reads
returns-in-Ok-clause-reads g c =
    let r = rw c.new-machine.ensures.begins at c.in-Ok.ensures.reads in
    let value = is_read (AcceptsItems opb (begin (largest c.args.limits) (top_of c.args.limits))) c.args.longest c.new.result c.new.ensures.instance c.new.ensures.ended r.0 c.in-Ok.read r.3 in
    (r.0, r.1, r.2, read_exactly (largest c.args.limits) (top_of c.args.limits) c.args.longest r.0 _ value)

pub returns-in-Ok-clause-given : goal.returns-in-Ok-clause-given
returns-in-Ok-clause-given g c =
    let (given, seen, are, r) = rw c.new-machine.ensures.begins at c.in-Ok.ensures.given in
    let value = is_read (AcceptsItems opb (begin (largest c.args.limits) (top_of c.args.limits))) c.args.longest c.new.result c.new.ensures.instance c.new.ensures.ended r.0 c.in-Ok.read r.3 in
    (given, seen, are, (r.0, r.1, r.2, read_exactly (largest c.args.limits) (top_of c.args.limits) c.args.longest r.0 _ value))

pub returns-in-Err-clause-reads : goal.returns-in-Err-clause-reads
returns-in-Err-clause-reads g c =
    let r = rw c.new-machine.ensures.begins at c.in-Err.ensures.reads in
    let start = begin (largest c.args.limits) (top_of c.args.limits) in
    let stops = stops_in (AcceptsItems opb start) c.args.longest c.new.result c.new.ensures.instance c.new.ensures.ended r.0 (MayAsk opb start) r.1 c.in-Err.stop r.3 in
    (r.0, r.1, r.2, stops_exactly (largest c.args.limits) (top_of c.args.limits) c.args.longest r.0 r.1 c.in-Err.stop stops)

pub returns-in-Err-clause-given : goal.returns-in-Err-clause-given
returns-in-Err-clause-given g c =
    let (given, left, are, r) = rw c.new-machine.ensures.begins at c.in-Err.ensures.given in
    let start = begin (largest c.args.limits) (top_of c.args.limits) in
    let stops = stops_in (AcceptsItems opb start) c.args.longest c.new.result c.new.ensures.instance c.new.ensures.ended r.0 (MayAsk opb start) r.1 c.in-Err.stop r.3 in
    (given, left, are, (r.0, r.1, r.2, stops_exactly (largest c.args.limits) (top_of c.args.limits) c.args.longest r.0 r.1 c.in-Err.stop stops))
