use Rattle.pb_propagate.proofs.Common.{◌∙◌, arith, length, length-map, rules, begin, Costs, database, progress, RunRefutes, list_of}
use Rattle.pb_propagate.proofs.engine.denial.refute.Goals.{After-deny_all, After-propagate}
use Rattle.pb_propagate.proofs.lemmas.engine.{Literals.derivation-keeps, Literals.sum-bounded, Literals.opposite, Reasoned.reasons-derive}
use Rattle.pb_propagate.proofs.lemmas.root.Questions.{denied-conflicts, denied-derives, denial-settled, more-conflicts, more-settled}
use Rattle.pb_propagate.proofs.lemmas.root.Ready.{left-then, puts-left, puts-ready, heads-now, refutes-short, refutes-long}
use Rattle.pb_propagate.proofs.engine.denial.refute.Goals as goal

pub returns-then-branch-clause-derived : goal.returns-then-branch-clause-derived
returns-then-branch-clause-derived c = denied-derives _ _ _ _ _ c.in_ok-deny_all.ensures.derived begin

pub returns-then-branch-clause-conflict : goal.returns-then-branch-clause-conflict
returns-then-branch-clause-conflict c = λ found. denied-conflicts _ _ _ _ c.requires.ready.joined (c.in_ok-deny_all.ensures.conflict c.if-branch.true)

-- the cost if nothing is propagated
short : (c : After-deny_all) → Costs (database c.args.store.now c.args.rests.now) 0 (length c.args.goal.now) (progress c.args.run.now) (progress c.deny_all.new.run) → RunRefutes c.args.store.now c.args.rests.now c.args.clauses.now (length c.args.goal.now) c.args.run.now c.deny_all.new.run
short c costs = search (rules, c.requires.ready, c.deny_all.ensures.candidates, sum-bounded, length-map, refutes-short, c.requires.ready.running.passed.bounded)

pub returns-then-branch-clause-costs : goal.returns-then-branch-clause-costs
returns-then-branch-clause-costs c = short (goal.at.returns-then-branch-clause-costs c).After-deny_all c.in_ok-deny_all.ensures.puts.advances.costs

pub returns-in_err-deny_all-clause-costs : goal.returns-in_err-deny_all-clause-costs
returns-in_err-deny_all-clause-costs c = short (goal.at.returns-in_err-deny_all-clause-costs c).After-deny_all c.in_err-deny_all.ensures.costs

-- the cost of both parts
refuted : (c : After-propagate) → RunRefutes c.args.store.now c.args.rests.now c.args.clauses.now (length c.args.goal.now) c.args.run.now c.propagate.new.run
refuted c =
    let heads = heads-now c.at.result _ (length (list_of c.args.run.now)) c.at.ensures (omega (arith, c.len-count.ensures, c.args.run.now.assignment.list.ok.0)) in
    let spends = rw (c.as_slice.ensures.value ∙ c.new-none.ensures.items) at c.propagate.ensures.costs in
    refutes-long c.args.store.now c.args.rests.now c.args.clauses.now _ c.at.result c.args.run.now c.deny_all.new.run c.propagate.new.run heads c.requires.work.0
    c.requires.work.1
    c.in_ok-deny_all.ensures.puts.advances spends

pub returns-in_err-found-clause-costs : goal.returns-in_err-found-clause-costs
returns-in_err-found-clause-costs c = refuted (goal.at.returns-in_err-found-clause-costs c).After-propagate

pub returns-clause-costs : goal.returns-clause-costs
returns-clause-costs c = refuted (goal.at.returns-clause-costs c).After-propagate

pub returns-clause-conflict : goal.returns-clause-conflict
returns-clause-conflict c = λ found. more-conflicts _ _ _ (c.in_ok-found.ensures.conflict found)

pub returns-clause-settled : goal.returns-clause-settled
returns-clause-settled c = λ found.
    let done = c.propagate.new.run.assignment in
    let within = derivation-keeps _ _ _ (reasons-derive c.in_ok-found.ensures.reasons.added) in
    more-settled _ _ _ (c.in_ok-found.ensures.settled found).settled
    (denial-settled done.list.items c.args.goal.now c.requires.light (λ l. opposite done.values.items done.list.items l done.agrees)
    (λ k d less. within _ (c.in_ok-deny_all.ensures.denied c.if-branch.false k d less)))

pub propagate-requires-clause-ready : goal.propagate-requires-clause-ready
propagate-requires-clause-ready c =
    let heads = heads-now c.at.result _ (length (list_of c.args.run.now)) c.at.ensures (omega (arith, c.len-count.ensures, c.args.run.now.assignment.list.ok.0)) in
    rw (c.as_slice.ensures.value, c.new-none.ensures.items, heads) (puts-ready c.requires.ready c.in_ok-deny_all.ensures.puts (c.in_ok-deny_all.ensures.sums c.if-branch.false))

pub returns-then-branch-clause-left : goal.returns-then-branch-clause-left
returns-then-branch-clause-left c = puts-left c.requires.ready c.in_ok-deny_all.ensures.puts

pub returns-clause-left : goal.returns-clause-left
returns-clause-left c = left-then c.in_ok-deny_all.ensures.puts c.in_ok-found.ensures.left
