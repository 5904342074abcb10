use Rattle.pb_replay.proofs.Common.{ℤ, ◌+ℤ◌, ◌+◌, ◌<◌, ◌∙◌, ap, arith, FitsSigned, length, sym, take, to_z, fits_signed_from_abs, to_z-of_z, w128, number_in}
use Rattle.pb_replay.proofs.Common.{assignment, true_sum, Term, by_name}
use Rattle.pb_replay.proofs.lemmas.meaning.Assigned.{has-one, inside-one, next-fits, next-small, sum-more, magnitude-prefix, magnitude-more}
use Rattle.pb_replay.proofs.state.solution.value_of.Goals as goal

pub part_of-sum-requires : goal.part_of-sum-requires
part_of-sum-requires c = record {
  named = has-one c.args.terms.now c.loop-term.term-index c.term-item.result c.loop-term-test.true c.term-item.is c.args.names.now c.requires.named;
  inside = inside-one c.args.terms.now c.loop-term.term-index c.term-item.result c.loop-term-test.true c.term-item.is (λ (t : Term). number_in c.args.names.now t.literal.name < length c.args.values.now) c.requires.inside;
}

pub overflow_add-sum : goal.overflow_add-sum
overflow_add-sum c = grind (arith, magnitude-more, c.loop-term-test.true, c.term-item.is, c.part_of-sum.ensures.small, magnitude-prefix, c.requires.small, to_z-of_z, next-fits, c.loop-term.invariant)

pub loop-term-preserved : goal.loop-term-preserved
loop-term-preserved c =
    let t = c.term-item.result in
    let more = magnitude-more c.args.terms.now c.loop-term.term-index t c.loop-term-test.true c.term-item.is in
    let part : FitsSigned w128 c.part_of-sum.result = fits_signed_from_abs w128 c.part_of-sum.result (omega (arith, c.part_of-sum.ensures.small, more, magnitude-prefix c.args.terms.now (c.loop-term.term-index + 1), c.requires.small)) in
    let whole = next-fits c.args.terms.now c.loop-term.term-index t c.loop-term-test.true c.term-item.is (to_z w128 c.loop-term.sum-bits) c.part_of-sum.result (c.loop-term.invariant).1 c.part_of-sum.ensures.small c.requires.small in
    rw (to_z-of_z w128 c.part_of-sum.result part, to_z-of_z w128 (to_z w128 c.loop-term.sum-bits +ℤ c.part_of-sum.result) whole) (
      ap (λ (z : ℤ). z +ℤ c.part_of-sum.result) (c.loop-term.invariant).0 ∙ ap (λ (z : ℤ). true_sum (by_name c.args.names.now (assignment c.args.values.now)) (take c.loop-term.term-index c.args.terms.now) +ℤ z) c.part_of-sum.ensures.part
          ∙ sym (sum-more c.args.terms.now c.loop-term.term-index t c.loop-term-test.true c.term-item.is (by_name c.args.names.now (assignment c.args.values.now))),
      next-small c.args.terms.now c.loop-term.term-index t c.loop-term-test.true c.term-item.is (to_z w128 c.loop-term.sum-bits) c.part_of-sum.result (c.loop-term.invariant).1 c.part_of-sum.ensures.small,
    )
