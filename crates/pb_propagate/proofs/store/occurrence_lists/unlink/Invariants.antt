use Rattle.pb_propagate.proofs.lemmas.store.Links.{IsUnlinking}
use Rattle.pb_propagate.proofs.store.occurrence_lists.unlink.Given as goal

abbrev pub invariant-terms : goal.invariant-terms
invariant-terms l = IsUnlinking l.initial.store l.store l.form l.left

abbrev pub decreases-terms : goal.decreases-terms
decreases-terms l = l.left
