use Rattle.pb_trace.proofs.Common.{◌≡◌, arith, take, common_steps, no_entry, total-read}
use Rattle.pb_trace.proofs.{Texts.entry_bytes, Texts.head_entries, Texts.each_broke, Texts.each_wrote}
use Rattle.pb_trace.proofs.write.write_entries.Goals as goal

pub write_entry-requires : goal.write_entry-requires
write_entry-requires g c =
    let one = total-read c.args.entries.now c.entries.i no_entry _ (omega arith) (c.get-entry.ensures.read no_entry) in
    omega (arith, c.requires, one)

pub returns-in_err-write_entry : goal.returns-in_err-write_entry
returns-in_err-write_entry g c =
    rw (head_entries (g.N.Named.names c.args.names.now) c.args.entries.now)
    (each_broke g.S.Sink.contents g.S.Sink.faults (entry_bytes (g.N.Named.names c.args.names.now)) _ _ _ _ _ no_entry _ c.entries.invariant
    (rw (c.get-entry.ensures.read no_entry) at c.in_err-write_entry.ensures) c.from_residual.ensures.0 (omega arith))

pub entries-preserved : goal.entries-preserved
entries-preserved g c =
    each_wrote g.S.Sink.contents g.S.Sink.faults (entry_bytes (g.N.Named.names c.args.names.now)) _ _ _ _ _ no_entry c.entries.invariant
    (rw (c.get-entry.ensures.read no_entry) at c.in_ok-write_entry.ensures) (omega arith)

pub returns : goal.returns
returns g c =
    let all : take c.entries.i c.args.entries.now ≡ c.args.entries.now = grind (arith, common_steps) in
    rw (head_entries (g.N.Named.names c.args.names.now) c.args.entries.now) (rw all at c.entries.invariant)
