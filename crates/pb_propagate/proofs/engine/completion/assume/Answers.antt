use Rattle.pb_propagate.proofs.{engine.completion.assume.Goals.In_ok-try_put, lemmas.engine.Bridge.Assumed, lemmas.engine.Bridge.assumed-next}
use Rattle.pb_propagate.proofs.{lemmas.engine.Bridge.none-assumed, lemmas.root.Ready.puts-none, lemmas.root.Ready.puts-then, rulesets.Engine.completion}
use Rattle.pb_propagate.proofs.Common.{rules, ◌+◌, false, begin, arith, list_of}
use Rattle.pb_propagate.proofs.engine.completion.assume.Goals as goal

pub given-init : goal.given-init
given-init c = search (rules, puts-none c.args.store.now c.args.rests.now c.args.run.now, c.requires.sums, none-assumed c.args.run.now.assignment.list.items)

-- the literal was tried
tried : (c : In_ok-try_put) → Assumed (list_of c.args.run.now) c.args.given.now (list_of c.try_put.new.run) (c.given.i + 1)
tried c = assumed-next (list_of c.args.run.now) c.args.given.now (list_of c.given.run) (list_of c.try_put.new.run) c.given.i (record { variable = 0; negated = false }) c.given-test.true
    (grind (arith, c.contains.ensures, c.if-contains.false, c.negation.ensures)) c.in_ok-try_put.ensures.adopted (record { within = c.given.invariant.within; covers = c.given.invariant.covers })

pub given-preserved : goal.given-preserved
given-preserved c =
    let a = tried (goal.at.given-preserved c).In_ok-try_put in
    let reported = c.in_ok-try_put.ensures in
    record { puts = puts-then c.given.invariant.puts reported.puts; sums = reported.sums c.if-branch.false; within = a.within; covers = a.covers }

pub returns-then-branch-clause-clash : goal.returns-then-branch-clause-clash
returns-then-branch-clause-clash c = λ found.
    let list = list_of c.try_put.new.run in
    let a = tried (goal.at.returns-then-branch-clause-clash c).In_ok-try_put in
    record { list = list; reached = record { first = list; within = a.within; derived = begin }; conflict = c.in_ok-try_put.ensures.conflict c.if-branch.true }

pub returns-then-branch-clause-puts : goal.returns-then-branch-clause-puts
returns-then-branch-clause-puts c = puts-then c.given.invariant.puts c.in_ok-try_put.ensures.puts

pub returns-then-contains-clause-clash : goal.returns-then-contains-clause-clash
returns-then-contains-clause-clash c = grind (arith, completion)
