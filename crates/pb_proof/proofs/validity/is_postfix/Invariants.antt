use Rattle.pb_proof.proofs.{Common.◌↔◌, Common.◌≤◌, Common.drop, Common.IsPostfix, lemmas.pol.Postfix.Counts}
use Rattle.pb_proof.proofs.validity.is_postfix.Given as goal

-- the words are those of one expression if and only if the rest leads from the finished ones to one
abbrev pub invariant-loop-word : goal.invariant-loop-word
invariant-loop-word l = record { most : l.finished ≤ l.word-index; leads : IsPostfix l.words ↔ Counts l.finished (drop l.word-index l.words) }
