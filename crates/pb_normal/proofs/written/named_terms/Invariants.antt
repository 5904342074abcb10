use Rattle.pb_normal.proofs.Common.{◌≡◌, map, take, term_of}
use Rattle.pb_normal.proofs.written.named_terms.Given as goal

abbrev pub invariant-terms : goal.invariant-terms
invariant-terms l = l.out.items ≡ map (term_of l.names) (take l.i l.terms)
