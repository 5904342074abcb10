use Rattle.pb_propagate.proofs.Common.{ℕ, ◌<◌, ◌≡◌, get_or, Entry}
use Rattle.pb_propagate.proofs.store.sorted_form.are_equal.Given as goal

abbrev pub invariant-entries : goal.invariant-entries
invariant-entries l = (k : ℕ) (d : Entry) → k < l.i → (get_or l.entries k d).coefficient ≡ (get_or l.entries 0 d).coefficient
