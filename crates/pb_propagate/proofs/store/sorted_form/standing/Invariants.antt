use Rattle.pb_propagate.proofs.lemmas.store.Stored.{IsStanding}
use Rattle.pb_propagate.proofs.store.sorted_form.standing.Given as goal

abbrev pub invariant-entries : goal.invariant-entries
invariant-entries l = IsStanding l.entries l.ranks.items l.place
