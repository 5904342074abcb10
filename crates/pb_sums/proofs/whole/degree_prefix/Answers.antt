use Rattle.pb_sums.proofs.Common.{arith, ints, subst, sym, to_z-of_z, w128, IsDegree, take, ◌+◌}
use Rattle.pb_sums.proofs.lemmas.prefixes.TermParts.{degree_runs}
use mir.Val.{SFits}
use Rattle.pb_sums.proofs.whole.degree_prefix.Goals as goal

pub returns-clause-runs : goal.returns-clause-runs
returns-clause-runs c =
    let n = c.number_prefix-count in
    let i = c.sign_prefix-sign.result.0 in
    let fits : SFits w128 c.signed.result = record { sfits = omega (arith, ints) } in
    rw (to_z-of_z w128 c.signed.result fits) (subst (λ z. IsDegree c.args.limit c.args.relation (take (i + n.result.0) c.args.text.now) z) (sym c.signed.ensures)
    (degree_runs c.args.limit c.args.relation c.args.text.now i n.result.0 n.result.1 c.sign_prefix-sign.result.1 c.sign_prefix-sign.ensures.sign n.ensures.digits n.ensures.value n.ensures.bound c.if-count-eq0.false c.if-magnitude-limit.false))
