use Rattle.pb_propagate.proofs.Common.{or_left, or_right, negation, added, kept, has}
use Rattle.pb_propagate.proofs.run.try_put.Goals as goal

pub returns-then-contains-clause-adopted : goal.returns-then-contains-clause-adopted
returns-then-contains-clause-adopted c = kept (or_left (has c.args.run.now.assignment.list.items c.args.literal)
    (has c.args.run.now.assignment.list.items (negation c.args.literal)) (cc (c.contains.ensures, c.if-contains.true)))

pub returns-then-contains-2-clause-adopted : goal.returns-then-contains-2-clause-adopted
returns-then-contains-2-clause-adopted c = kept (or_right (has c.args.run.now.assignment.list.items c.args.literal)
    (has c.args.run.now.assignment.list.items (negation c.args.literal)) (cc (c.contains-2.ensures, c.if-contains-2.true, c.negation.ensures)))

pub returns-clause-adopted : goal.returns-clause-adopted
returns-clause-adopted c = rw c.in_ok-found.ensures.list
    (added (cc (c.contains.ensures, c.if-contains.false)) (cc (c.contains-2.ensures, c.if-contains-2.false, c.negation.ensures)))
