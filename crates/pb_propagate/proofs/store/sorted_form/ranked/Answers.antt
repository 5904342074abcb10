use Rattle.pb_propagate.proofs.Common.{◌-◌, ◌^◌, arith, rules, All-permutation, IsNonDecreasingBy-from_sort_by_key, Rank, IsPlaced}
use Rattle.pb_propagate.proofs.lemmas.store.Stored.{ranked-falling}
use Rattle.pb_propagate.proofs.store.sorted_form.ranked.Goals as goal

pub returns-clause-falling : goal.returns-clause-falling
returns-clause-falling c =
    let placed = All-permutation (IsPlaced c.args.entries.now) c.in_ok-ranks.ranks.items c.sort_unstable_by_key.new.self.items c.sort_unstable_by_key.ensures.permutation c.in_ok-ranks.ensures.0 in
    ranked-falling c.args.entries.now c.sort_unstable_by_key.new.self.items (2 ^ 128 - 1)
    (IsNonDecreasingBy-from_sort_by_key (λ (r : Rank). (2 ^ 128 - 1) - r.coefficient) _ c.sort_unstable_by_key.ensures.sorted (λ a r q k. search rules))
    (omega (arith, c.requires)) placed
