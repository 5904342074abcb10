use Rattle.pb_normal.proofs.Common.{◌<◌, ◌∙◌, arith, length, rules, to_z-of_z, w128, take, take_read, AfterPrefix, names_of, take_more_set}
use Rattle.pb_normal.proofs.lemmas.names.{Numbering.Numbering-push, Numbering.AfterPrefix-from, Numbering.OnErr-always, WrittenForms.magnitude-read}
use Rattle.pb_normal.proofs.linear.number.Goals as goal

pub returns-in_err-variable-clause-err : goal.returns-in_err-variable-clause-err
returns-in_err-variable-clause-err c =
    let before = AfterPrefix-from c.args.side c.args.names.now c.terms.names c.args.terms.now c.terms.i (take c.terms.i c.terms.out) c.terms.invariant.1 in
    let after : AfterPrefix c.args.names.now (names_of c.args.terms.now) c.number.new.self = (before.0, c.in_err-variable.ensures.err ∙ before.1) in
    OnErr-always _ _ after

pub signed-coefficient-requires : goal.signed-coefficient-requires
signed-coefficient-requires c = grind (arith, to_z-of_z, magnitude-read, c.index-terms-i.is)

pub terms-preserved : goal.terms-preserved
terms-preserved c =
    let t = c.index-terms-i.result in
    let same = to_z-of_z w128 t.coefficient (search rules) in
    let signed = rw same at c.signed-coefficient.ensures in
    let signed_same = to_z-of_z w128 c.signed-coefficient.result (search rules) in
    let entry = rw (signed_same, signed) at c.raw.ensures in
    let step = Numbering-push c.args.side _ _ _ _ t _ _ c.terms.invariant.1 (rw c.as_str.ensures at c.in_ok-variable.ensures.names) (rw c.as_str.ensures at c.in_ok-variable.ensures.number) in
    let room : c.terms.i < length c.terms.out = omega (arith, c.terms.invariant.0, c.terms-test.true) in
    (search rules, rw (take_read c.args.terms.now c.terms.i t t (omega arith) c.index-terms-i.is, take_more_set c.terms.out c.terms.i c.raw.result room, entry) step)
