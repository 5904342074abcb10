use Rattle.pb_sums.proofs.Common.{◌++◌, ◌-◌, ◌∷◌, [], arith, drop, first, ints, length, length-drop, length-take, refl, runs_further, standing, sums, sym, to_z-of_z, w128, Phase}
use Rattle.pb_sums.proofs.lemmas.prefixes.TermParts.{grown}
use mir.Val.{SFits}
use Rattle.pb_sums.proofs.whole.linear_at.Goals as goal

pub loop-length-preserved : goal.loop-length-preserved
loop-length-preserved c =
    let text = c.args.text.now in let limit = c.largest-limit.result in let i = c.loop-length.head in let xs = c.loop-length.terms in
    let b = c.in-Some-term_at.ensures.bound in
    let more = grown c.push.result c.push.new.self (xs ++ c.in-Some-term_at.term ∷ []) xs c.push.ensures.items (sym c.if-is_err.ensures.value) in
    record {
      bound = omega (arith, b.1, c.loop-length.invariant.bound, length-take (length text - i) (drop i text), length-drop i text);
      begins = refl;
      runs = λ spaces part. rw more (
          runs_further sums (standing spaces part limit [] [] Phase.Start) text i c.in-Some-term_at.length (standing spaces part limit xs [] c.loop-length.phase)
          (standing spaces part limit (xs ++ c.in-Some-term_at.term ∷ []) [] Phase.Between) (c.loop-length.invariant.runs spaces part) (c.in-Some-term_at.ensures.runs spaces part xs));
    }

pub returns-clause-runs : goal.returns-clause-runs
returns-clause-runs c spaces =
    let limit = c.largest-limit.result in let part = c.args.part in let xs = c.loop-length.terms in
    let fits : SFits w128 c.in-Some-degree_at.degree = record { sfits = omega (arith, ints) } in
    let (mid, runs, ends) = c.in-Some-degree_at.ensures.runs spaces xs in
    rw (to_z-of_z w128 c.in-Some-degree_at.degree fits, ← c.largest-limit.ensures.value) (
      mid,
      runs_further sums (first spaces part limit) c.args.text.now c.loop-length.head c.in-Some-degree_at.tail (standing spaces part limit xs [] Phase.Between) mid
          (rw c.in-Between.is at (c.loop-length.invariant.runs spaces part)) runs,
      ends,
    )
