use Rattle.pb_trace.proofs.Common.{◌∙◌, ◌≡◌, ap, arith, pos, sym, to_z, decimal_digit, to_z-of_z, w128}
use Rattle.pb_trace.proofs.write.write_end.Goals as goal

pub returns-then-degree-eq1 : goal.returns-then-degree-eq1
returns-then-degree-eq1 g c =
    let one : c.args.degree ≡ pos 1 = sym (to_z-of_z w128 c.args.degree c.ranges.degree) ∙ ap (to_z w128) c.if-degree-eq1.true in
    rw (one, decimal_digit 1 (omega arith)) c.write_bytes.ensures
