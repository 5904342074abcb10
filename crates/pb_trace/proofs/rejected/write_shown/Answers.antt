use Rattle.pb_trace.proofs.{Common.known_by, ReasonLines.before_cut, ReasonLines.derivation_cut, ReasonLines.shown_end}
use Rattle.pb_trace.proofs.rejected.write_shown.Goals as goal

pub returns-in_err-write_before : goal.returns-in_err-write_before
returns-in_err-write_before g c =
    before_cut g.S.Sink.contents g.S.Sink.faults (known_by c.args.facts.now) _ _ _ _ _ _ c.from_residual.ensures.0 c.in_err-write_before.ensures

pub returns-in_err-write_derivation : goal.returns-in_err-write_derivation
returns-in_err-write_derivation g c =
    derivation_cut g.S.Sink.contents g.S.Sink.faults (known_by c.args.facts.now) _ _ _ _ _ _ _ c.from_residual-in_err-write_derivation.ensures.0 c.in_ok-write_before.ensures c.in_err-write_derivation.ensures

pub returns : goal.returns
returns g c =
    shown_end g.S.Sink.contents g.S.Sink.faults (known_by c.args.facts.now) _ _ _ _ _ _ _ c.in_ok-write_before.ensures c.in_ok-write_derivation.ensures c.write_lines.ensures
