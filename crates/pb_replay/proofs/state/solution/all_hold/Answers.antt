use Rattle.pb_replay.proofs.Common.{◌≡◌, arith, cases_lt, inl, inr, get_or_from_slice_get, rules, no_form}
use Rattle.pb_replay.proofs.state.solution.all_hold.Goals as goal

pub loop-at-preserved : goal.loop-at-preserved
loop-at-preserved c =
    let at = c.loop-at.at in
    let read = get_or_from_slice_get c.args.constraints.now.loaded at c.of_instance.result.now no_form c.of_instance.ensures in
    λ k lt. elim (cases_lt k at) [
      | inl below ↦ c.loop-at.invariant k below
      | inr past ↦ let same : k ≡ at = omega (arith, past, lt) in rw (same, read) (search rules)
    ]
