use Rattle.pb_trace.{proofs.Common.ℕ, proofs.Common.arith, proofs.Common.List, proofs.Texts.each_broke, specs.Counted.count_line}
use Rattle.std.specs.Borrow.{Bor}
use Rattle.pb_trace.proofs.stats.write_counts.Goals as goal

-- the line of a count
abbrev line_of : Bor (List ℕ) × ℕ → List ℕ
line_of x = count_line x.0.now x.1

pub returns-in_err-write_counted : goal.returns-in_err-write_counted
returns-in_err-write_counted g c =
    each_broke g.S.Sink.contents g.S.Sink.faults line_of _ _ _ c.args.counts.now c.loop-name.name-index _ _ c.loop-name.invariant
    c.in_err-write_counted.ensures c.from_residual.ensures.0 (omega arith)
