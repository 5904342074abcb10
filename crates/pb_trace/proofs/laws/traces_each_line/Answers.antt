use Rattle.pb_trace.proofs.{Storing.traces-each-line, laws.traces_each_line.Goals.returns as goal}

pub returns : goal
returns g c = traces-each-line g.S.Sink.contents g.S.Sink.faults
