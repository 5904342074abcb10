use Rattle.pb_propagate.proofs.Common.{◌≡◌, ◌≤◌, List, take, NumberedLiteral, open_sum, size, stored_terms}
use Rattle.pb_propagate.proofs.lemmas.engine.Literals.{Agree}
use Rattle.pb_propagate.proofs.store.opened.open_under.Given as goal

abbrev pub invariant-terms : goal.invariant-terms
invariant-terms l = record {
  each : (list : List NumberedLiteral) → Agree l.values list → l.sum ≡ open_sum list (take l.i (stored_terms l.kept));
  small : l.sum ≤ size (take l.i (stored_terms l.kept));
}
