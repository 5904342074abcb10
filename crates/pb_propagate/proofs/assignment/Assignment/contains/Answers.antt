use Rattle.pb_propagate.proofs.Common.{◌∙◌, None, sym, get_or_read, arith}
use Rattle.pb_propagate.proofs.lemmas.engine.Literals.{beq-not, says-some, says-none}
use Rattle.pb_propagate.proofs.assignment.Assignment.contains.Goals as goal

pub returns-in-Some : goal.returns-in-Some
returns-in-Some c =
    let at = sym (get_or_read c.args.self.now.values.items c.args.literal.variable c.index.result.now c.requires c.index.ensures None) ∙ c.in-Some.is in
    sym (c.args.self.now.agrees c.args.literal ∙ says-some c.args.self.now.values.items c.args.literal c.in-Some.value at ∙ beq-not c.in-Some.value c.args.literal.negated)

pub returns-in-None : goal.returns-in-None
returns-in-None c = grind (arith, get_or_read, c.requires, c.index.ensures, c.in-None.is, says-none)
