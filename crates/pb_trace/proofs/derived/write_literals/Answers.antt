use Rattle.pb_trace.proofs.{Common.arith, Common.forced_line, Common.known_by, Deriving.no_literal, Texts.each_broke}
use Rattle.pb_trace.proofs.derived.write_literals.Goals as goal

pub returns-in_err-write_forced : goal.returns-in_err-write_forced
returns-in_err-write_forced g c =
    each_broke g.S.Sink.contents g.S.Sink.faults (forced_line (known_by c.args.facts.now)) _ _ _ c.args.forced.now c.loop-one.one-index no_literal _
    c.loop-one.invariant c.in_err-write_forced.ensures c.from_residual.ensures.0 (omega arith)
