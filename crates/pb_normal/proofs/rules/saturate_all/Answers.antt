use Rattle.pb_normal.proofs.Common.{◌<◌, ◌≡◌, ◌≤◌, append-nil, arith, drop_all, length, min, refl, take_all, Entry, with_coefficient, map_over_more}
use Rattle.pb_normal.proofs.lemmas.rules.Scales.{saturated_nothing, saturated_each}
use Rattle.pb_normal.proofs.rules.saturate_all.Goals as goal

pub returns-then-degree-eq0 : goal.returns-then-degree-eq0
returns-then-degree-eq0 c =
    let nothing : c.args.degree ≡ 0 = omega arith in rw (c.clear.ensures.items, nothing, saturated_nothing c.args.terms.now.items) refl

pub terms-preserved : goal.terms-preserved
terms-preserved c =
    let lt : c.terms.i < length c.args.terms.now.items = omega (arith, c.terms-test.true, c.len-i-end.ensures, c.args.terms.now.ok.0) in
    rw c.saturated_term.ensures (map_over_more (λ (t : Entry). with_coefficient t (min t.coefficient c.args.degree)) c.args.terms.now.items c.terms.terms.items c.terms.i c.index-t.result.now lt c.terms.invariant c.index-t.ensures)

pub returns : goal.returns
returns c =
    let all : length c.args.terms.now.items ≤ c.terms.i = omega (arith, c.terms-test.false, c.len-i-end.ensures, c.args.terms.now.ok.0) in
    let some : 0 < c.args.degree = omega arith in
    rw (saturated_each c.args.degree 0 c.args.terms.now.items some c.requires) (rw (take_all c.terms.i c.args.terms.now.items all, drop_all c.terms.i c.args.terms.now.items all, append-nil) at c.terms.invariant)
