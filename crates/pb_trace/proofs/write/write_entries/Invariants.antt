use Rattle.pb_trace.proofs.{Common.take, Common.flat_map, Common.Wrote, Texts.entry_bytes}
use Rattle.pb_trace.proofs.write.write_entries.Given as goal

abbrev pub invariant-entries : goal.invariant-entries
invariant-entries g l = Wrote g.S.Sink.contents g.S.Sink.faults l.initial.out (flat_map (entry_bytes (g.N.Named.names l.names)) (take l.i l.entries)) l.out
