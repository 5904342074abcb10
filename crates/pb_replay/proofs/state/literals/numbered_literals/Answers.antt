use Rattle.pb_replay.proofs.Common.{All-nil, NumberedLiteral, ◌<◌, length, take_all, arith, refl}
use Rattle.pb_replay.proofs.lemmas.meaning.Assigned.{next-numbers, one-named}
use Rattle.pb_replay.proofs.state.literals.numbered_literals.Goals as goal

pub number_of-variable-requires : goal.number_of-variable-requires
number_of-variable-requires c = rw c.as_str.ensures (one-named c.args.given.now c.loop-literal.literal-index c.literal-item.result c.loop-literal-test.true c.literal-item.is c.args.names.now c.requires)

pub loop-literal-preserved : goal.loop-literal-preserved
loop-literal-preserved c =
    next-numbers c.args.given.now c.loop-literal.literal-index c.literal-item.result c.loop-literal-test.true c.literal-item.is c.args.names.now c.requires c.number_of-variable.result (rw c.as_str.ensures at c.number_of-variable.ensures) c.loop-literal.out.items c.push.new.self.items
    c.loop-literal.invariant c.in_ok-push.ensures.items

pub loop-literal-init : goal.loop-literal-init
loop-literal-init c = rw c.new-out.ensures.items (refl, All-nil (λ (x : NumberedLiteral). x.variable < length c.args.names.now))

pub returns-clause-literals : goal.returns-clause-literals
returns-clause-literals c = grind (arith, c.loop-literal.invariant.0, take_all, c.loop-literal-test.false)

pub returns-clause-inside : goal.returns-clause-inside
returns-clause-inside c = c.loop-literal.invariant.1
