use Rattle.pb_propagate.proofs.lemmas.root.Retracted.{some-released}
use Rattle.pb_propagate.proofs.store.reasons.release_by_terms.Goals as goal

pub release_literal-requires-clause-rooted : goal.release_literal-requires-clause-rooted
release_literal-requires-clause-rooted c = some-released c.requires.rooted c.terms.invariant.released
