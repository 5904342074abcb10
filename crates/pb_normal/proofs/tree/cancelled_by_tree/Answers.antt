use Rattle.pb_normal.proofs.Common.{◌++◌, ◌∷◌, ◌≡◌, [], arith, rules}
use Rattle.pb_normal.proofs.lemmas.terms.KeyedTerms.{AllCancel-le, AllCancel-more, split-positive, split-le, split-next}
use Rattle.pb_normal.proofs.tree.cancelled_by_tree.Goals as goal

pub cancelled_by-cancelled-requires : goal.cancelled_by-cancelled-requires
cancelled_by-cancelled-requires c =
    let next : c.loop-term.term-iterator ≡ c.in-Some.term.now ∷ c.next.new.self = search rules in
    record {
      keyed = c.requires.keyed;
      positive = split-positive _ c.loop-term.invariant.0 _ _ c.in-Some.term.now c.requires.others_rising c.loop-term.invariant.1 next;
      fits = omega (arith, c.requires.fits, split-le _ c.loop-term.invariant.0 _ _ c.in-Some.term.now c.loop-term.invariant.1 next);
    }

pub overflow_add-cancelled : goal.overflow_add-cancelled
overflow_add-cancelled c =
    let next : c.loop-term.term-iterator ≡ c.in-Some.term.now ∷ c.next.new.self = search rules in
    omega (arith, c.requires.fits, AllCancel-le c.args.terms.now c.loop-term.invariant.0 _ c.loop-term.invariant.2, c.cancelled_by-cancelled.ensures.3, split-le _ c.loop-term.invariant.0 _ _ c.in-Some.term.now c.loop-term.invariant.1 next)

pub loop-term-preserved : goal.loop-term-preserved
loop-term-preserved c =
    let next : c.loop-term.term-iterator ≡ c.in-Some.term.now ∷ c.next.new.self = search rules in (
      c.loop-term.invariant.0 ++ c.in-Some.term.now ∷ [],
      split-next _ c.loop-term.invariant.0 _ _ c.in-Some.term.now c.loop-term.invariant.1 next,
      AllCancel-more c.args.terms.now c.loop-term.invariant.0 c.in-Some.term.now _ _ c.loop-term.invariant.2 c.cancelled_by-cancelled.ensures,
    )
