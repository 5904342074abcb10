use Rattle.pb_normal.proofs.{Common.◌≡◌, Common.length, Common.take, lemmas.names.Numbering.Numbering}
use Rattle.pb_normal.proofs.linear.number.Given as goal

abbrev pub invariant-terms : goal.invariant-terms
invariant-terms l = (length l.out ≡ length l.terms) × Numbering l.side l.initial.names l.names (take l.i l.terms) (take l.i l.out)
