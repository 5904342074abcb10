use Rattle.pb_sums.proofs.Common.{◌==◌, ◌∙◌, ap, length, sym}
use Rattle.pb_sums.proofs.lemmas.prefixes.{Digits.none_there, TermParts.number_state}
use Rattle.pb_sums.proofs.machine.SumMachine.take_spaced_number.Goals as goal

pub returns-clause-state : goal.returns-clause-state
returns-clause-state c =
    let none = none_there c.self.inside.name (ap (λ x. length x == 0) (sym c.as_bytes.ensures) ∙ (sym c.is_empty.ensures ∙ c.if-not-is_empty.false)) in
    rw (none, c.after_number-self-inside.ensures) (number_state c.self.inside.spaces c.self.inside.part c.self.inside.limit c.self.inside.terms c.role.result _)
