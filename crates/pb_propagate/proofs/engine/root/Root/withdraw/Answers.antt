use Rattle.pb_propagate.proofs.Common.{rules}
use Rattle.pb_propagate.proofs.lemmas.root.Retracted.{due-some, some-released, shortened-released, shortened-then}
use Rattle.pb_propagate.proofs.engine.root.Root.withdraw.Goals as goal

pub retract-requires : goal.retract-requires
retract-requires c =
    let rooted = some-released c.requires.rooted (shortened-released c.args.store.now c.args.slot _ _ c.literals.invariant) in
    let some = due-some c.literals.self.run.assignment.list.items c.args.literal (c.is_due.ensures.yes c.literals-test.true).0 in
    search (rules, rooted, some)

pub literals-preserved : goal.literals-preserved
literals-preserved c = shortened-then c.literals.invariant c.retract.ensures.shortened
