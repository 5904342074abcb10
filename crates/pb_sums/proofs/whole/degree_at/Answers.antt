use Rattle.pb_sums.proofs.Common.{◌+◌, [], arith, refl, ints, to_z-of_z, w128, Phase}
use Rattle.pb_sums.proofs.lemmas.prefixes.TermParts.{degree_ends, spaced_degree_ends, spaced_relation_runs}
use mir.Val.{SFits}
use Rattle.pb_sums.proofs.whole.degree_at.Goals as goal

pub returns-then-text-end-eq32-clause-runs : goal.returns-then-text-end-eq32-clause-runs
returns-then-text-end-eq32-clause-runs c spaces xs =
    let limit = c.args.limit in let part = c.args.part in let text = c.args.text.now in let i = c.in-Some in let d = c.in-Some-degree_prefix in
    let fits : SFits w128 d.degree = record { sfits = omega (arith, ints) } in
    rw (to_z-of_z w128 d.degree fits) (spaced_degree_ends spaces part limit xs i.relation d.degree text (i.length + 1) d.count
    (spaced_relation_runs spaces part limit xs [] Phase.Between text i.length i.relation refl refl i.ensures.allowed i.ensures.relation c.if-length-text.false c.if-text-length-ne32.false)
    d.ensures.runs c.if-end-text.true c.if-text-end-eq32.true)

pub returns-clause-runs : goal.returns-clause-runs
returns-clause-runs c spaces xs =
    let limit = c.args.limit in let part = c.args.part in let text = c.args.text.now in let i = c.in-Some in let d = c.in-Some-degree_prefix in
    let fits : SFits w128 d.degree = record { sfits = omega (arith, ints) } in
    rw (to_z-of_z w128 d.degree fits) (degree_ends spaces part limit xs i.relation d.degree text (i.length + 1) d.count
    (spaced_relation_runs spaces part limit xs [] Phase.Between text i.length i.relation refl refl i.ensures.allowed i.ensures.relation c.if-length-text.false c.if-text-length-ne32.false)
    d.ensures.runs)
