use Rattle.pb_replay.proofs.{Common.refl, Common.take, Common.literal_names, lemmas.meaning.Assigned.next-names, lemmas.rules.Words.prefix_in}
use Rattle.pb_replay.proofs.state.literals.number_names.Goals as goal

pub loop-literal-preserved : goal.loop-literal-preserved
loop-literal-preserved c =
    next-names c.args.given.now c.loop-literal.literal-index c.literal-item.result c.loop-literal-test.true c.literal-item.is c.args.names.now c.loop-literal.names c.number.new.self c.loop-literal.invariant (rw c.as_str.ensures at c.in_ok-number.ensures.names)

pub returns-in_err-number-clause-prefix : goal.returns-in_err-number-clause-prefix
returns-in_err-number-clause-prefix c = prefix_in _ _ _ (literal_names (take c.loop-literal.literal-index c.args.given.now)) c.loop-literal.invariant c.in_err-number.ensures.err

pub returns-clause-prefix : goal.returns-clause-prefix
returns-clause-prefix c = prefix_in _ _ _ (literal_names (take c.loop-literal.literal-index c.args.given.now)) c.loop-literal.invariant refl
