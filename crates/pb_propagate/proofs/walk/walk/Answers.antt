use Rattle.pb_propagate.proofs.Common.{rules, ◌≡◌, ◌++◌, ◌+◌, ◌*◌, ◌-◌, ◌^◌, ◌<◌, ◌∙◌, ◌∷◌, [], ap, arith, length, min, sum, Leaves, Stays, list_at, watch_lists, passed_of, IsUnit, all_of, clauses_of}
use Rattle.pb_propagate.proofs.{Common.database, Common.shapes_in, Common.values_of, walk.walk.Goals.After-visit_clause, walk.walk.Goals.In_ok-put-in-Forces}
use Rattle.{pb_propagate.proofs.Common.progress, pb_propagate.proofs.Common.list_of, std.proofs.lemmas.Grind.common_steps, std.proofs.lemmas.Option.slice_get_within}
use Rattle.pb_propagate.proofs.{Common.RunReasons, lemmas.engine.Reasoned.run-reasons-none, lemmas.engine.Reasoned.unit-reasons, lemmas.root.Ready.open-later}
use Rattle.pb_propagate.proofs.lemmas.clauses.{Listed.list-ended, Listed.list-small, Literals.false-listed, Literals.true-listed, Shapes.broken-conflicts, Shapes.conflicts-joined}
use Rattle.pb_propagate.proofs.lemmas.clauses.Walks.{IsWalking, kept-then, walking-start, walking-met, walking-next, walking-pass, walking-forces, walked-end}
use Rattle.pb_propagate.proofs.lemmas.engine.Advances.{advances-as, on-err, WalkIsDone, walk-ends, walk-then, walk-costs}
use Rattle.pb_propagate.proofs.walk.walk.Goals as goal

-- how many visits were counted with the one to the watch
met : (c : After-visit_clause) → c.pass_true-passed.new.visits ≡ min (c.watches.run.visits + (c.pass_true-passed.result.index - c.watches.index + 1)) (2 ^ 64 - 1)
met c = rw c.in-Some.is at c.pass_true-passed.ensures.count

-- the walk before the visit to the watch
before : (c : After-visit_clause) → IsWalking (database c.args.store.now c.args.rests.now) c.args.clauses.now c.watches.clauses c.args.literal c.pass_true-passed.result.index (progress c.args.run.now)
    (record (progress c.watches.run) { visits = min (c.watches.run.visits + (c.pass_true-passed.result.index - c.watches.index)) (2 ^ 64 - 1) })
before c =
    let p = c.pass_true-passed.ensures in
    walking-met c.watches.invariant.walking c.pass_true-passed.result.index c.pass_true-passed.new.visits p.after p.within p.served p.rising (met c)

-- the watch that is visited is one of the list
inside : (c : After-visit_clause) → c.pass_true-passed.result.index < length (list_at (watch_lists c.watches.clauses.lists) c.args.literal)
inside c = slice_get_within (list_at (watch_lists c.watches.clauses.lists) c.args.literal) c.pass_true-passed.result.index c.in-Some.watch (c.pass_true-passed.ensures.watch ∙ c.in-Some.is)

-- the next position has a number
next : (c : After-visit_clause) → c.pass_true-passed.result.index + 1 < 2 ^ 64
next c = omega (arith, inside c, list-small _ _ c.args.literal c.watches.invariant.walking.running.stored.linked)

-- what a visit has cost that ends the walk
ends : (c : After-visit_clause) → WalkIsDone (database c.args.store.now c.args.rests.now) c.args.clauses.now c.visit_clause.new.clauses c.args.literal (progress c.args.run.now) (record (progress c.watches.run) { visits = c.visit_clause.new.visits })
ends c =
    let v = c.visit_clause.ensures in
    walk-ends (database c.args.store.now c.args.rests.now) c.args.clauses.now c.watches.clauses c.visit_clause.new.clauses c.args.literal c.pass_true-passed.result.index c.visit_clause.new.visits (inside c) (omega (arith, v.covered, met c)) (omega (arith, v.rising, met c)) (before c).advances

-- a clause has forced a literal
forced : (c : In_ok-put-in-Forces) → RunReasons (all_of c.args.store.now c.args.clauses.now) c.args.run.now c.put.new.run × IsWalking (database c.args.store.now c.args.rests.now) c.args.clauses.now c.visit_clause.new.clauses c.args.literal (c.pass_true-passed.result.index + 1) (progress c.args.run.now) (progress c.put.new.run)
forced c =
    let v = rw c.in-Forces.is at c.in_ok-visit_clause.ensures.watch in
    let p = c.pass_true-passed.ensures in let visit = c.visit_clause.ensures in
    let count = rw c.in-Some.is at p.count in
    let i = c.watches.invariant in let run = c.watches.run in let f = c.in-Forces.forced in
    let w = walking-met i.walking c.pass_true-passed.result.index c.pass_true-passed.new.visits p.after p.within p.served p.rising count in
    let clauses = clauses_of c.args.clauses.now in
    let unit : IsUnit (values_of run) clauses f.slot f.code = rw (visit.literals, i.walking.literals) at v.found.1 in
    let reported = c.in_ok-put-in-Forces.ensures in (
      unit-reasons (shapes_in c.args.store.now) clauses c.args.run.now run c.put.new.run f.slot f.code c.literal_of.result c.requires.joined unit c.literal_of.ensures
          reported.list reported.reason reported.puts.kept i.reasons,
      walking-forces w c.visit_clause.new.clauses c.visit_clause.new.visits f (progress c.put.new.run) v visit.literals
          (slice_get_within (list_at (watch_lists c.watches.clauses.lists) c.args.literal) c.pass_true-passed.result.index c.in-Some.watch (p.watch ∙ c.in-Some.is)) (omega (arith, visit.covered, count)) (λ few. omega (arith, visit.counted few, count)) (omega (arith, visit.rising, count))
          reported.puts.advances (reported.list ∙ ap (λ k. (list_of run) ++ (k ∷ [])) c.literal_of.ensures) run.assignment.agrees c.put.new.run.assignment.agrees,
    )

pub watches-init : goal.watches-init
watches-init c = search (rules, run-reasons-none, walking-start, c.requires.running, c.requires.literal.1)

pub watches-preserved-in-Stays : goal.watches-preserved-in-Stays
watches-preserved-in-Stays c =
    let i = c.watches.invariant in let visit = c.visit_clause.ensures in
    let s = (goal.at.watches-preserved-in-Stays c).After-visit_clause in
    let v = rw c.in-Stays.is at c.in_ok-visit_clause.ensures.watch in
    let now = walking-next (before s) c.visit_clause.new.clauses Stays c.visit_clause.new.visits v visit.literals (inside s) (omega (arith, v.found)) (omega (arith, visit.covered, met s)) (λ few. omega (arith, visit.counted few, met s)) (omega (arith, visit.rising, met s)) in
    search (rules, now, i.tidy, i.reasons.kept, i.reasons.added)

pub watches-preserved-in-Leaves : goal.watches-preserved-in-Leaves
watches-preserved-in-Leaves c =
    let i = c.watches.invariant in let visit = c.visit_clause.ensures in
    let s = (goal.at.watches-preserved-in-Leaves c).After-visit_clause in
    let v = rw c.in-Leaves.is at c.in_ok-visit_clause.ensures.watch in
    let now = walking-next (before s) c.visit_clause.new.clauses Leaves c.visit_clause.new.visits v visit.literals (inside s) (omega (arith, v.found)) (omega (arith, visit.covered, met s)) (λ few. omega (arith, visit.counted few, met s)) (omega (arith, visit.rising, met s)) in
    search (rules, now, i.tidy, i.reasons.kept, i.reasons.added)

pub watches-preserved : goal.watches-preserved
watches-preserved c =
    let f = forced (goal.at.watches-preserved c).In_ok-put-in-Forces in
    let i = c.watches.invariant in let reported = c.in_ok-put-in-Forces.ensures in let puts = reported.puts in
    search (rules, f.0.kept, f.0.added, f.1, reported.candidates ∙ i.candidates, open-later, i.sums, reported.counted c.if-branch.false, puts.advances, puts.tidy, i.tidy)

pub returns-then-branch-clause-conflict : goal.returns-then-branch-clause-conflict
returns-then-branch-clause-conflict c = λ found.
    conflicts-joined (shapes_in c.args.store.now) (clauses_of c.args.clauses.now) (list_of c.put.new.run) c.requires.joined
    (c.in_ok-put-in-Forces.ensures.conflict c.if-branch.true)

pub returns-in-Falsified-clause-conflict : goal.returns-in-Falsified-clause-conflict
returns-in-Falsified-clause-conflict c = λ yes.
    let v = rw c.in-Falsified.is at c.in_ok-visit_clause.ensures.watch in
    broken-conflicts (shapes_in c.args.store.now) (clauses_of c.args.clauses.now) _ (list_of c.watches.run) c.requires.joined c.watches.run.assignment.agrees
    (rw (c.visit_clause.ensures.literals, c.watches.invariant.walking.literals) at v.found)

pub returns-in_err-put-in-Forces-clause-costs : goal.returns-in_err-put-in-Forces-clause-costs
returns-in_err-put-in-Forces-clause-costs c = on-err _ (walk-costs (ends (goal.at.returns-in_err-put-in-Forces-clause-costs c).After-visit_clause).costs c.in_err-put-in-Forces.ensures.costs)

pub returns-in-None-clause-walked : goal.returns-in-None-clause-walked
returns-in-None-clause-walked c = λ no_conflict.
    let w = c.watches.invariant.walking in let p = c.pass_true-passed.ensures in
    (c.watches.invariant.sums, λ walked s. walked-end c.watches.run.assignment.values.items c.watches.clauses walked c.args.literal c.pass_true-passed.result.index w.running.stored.linked (list-ended (list_at (watch_lists c.watches.clauses.lists) c.args.literal) c.pass_true-passed.result.index (p.watch ∙ c.in-None.is)) (p.served walked (w.served walked s)))

pub returns-in-None-clause-walks : goal.returns-in-None-clause-walks
returns-in-None-clause-walks c =
    let i = c.watches.invariant in let p = c.pass_true-passed.ensures in
    let all = rw c.in-None.is at p.all in
    let w = walking-pass i.walking c.pass_true-passed.result.index c.pass_true-passed.new.visits p.after p.within (omega (arith, all)) p.served p.rising in
    let done = advances-as (sum (passed_of c.args.clauses.now)) (2 * length (list_at (watch_lists c.args.clauses.now.lists) c.args.literal) + sum (passed_of c.watches.clauses)) (omega arith) w.advances in
    search (rules, done, w, i.tidy, i.reasons.kept, i.reasons.added)

pub returns-then-branch-clause-walks : goal.returns-then-branch-clause-walks
returns-then-branch-clause-walks c =
    let puts = c.in_ok-put-in-Forces.ensures.puts in
    let f = forced (goal.at.returns-then-branch-clause-walks c).In_ok-put-in-Forces in
    let done = ends (goal.at.returns-then-branch-clause-walks c).After-visit_clause in
    search (rules, walk-then, done, puts.advances, f.0.kept, f.0.added, puts.tidy, c.watches.invariant.tidy, f.1.kept, f.1.found)

pub returns-in-Falsified-clause-walks : goal.returns-in-Falsified-clause-walks
returns-in-Falsified-clause-walks c =
    let i = c.watches.invariant in
    let s = (goal.at.returns-in-Falsified-clause-walks c).After-visit_clause in
    search (rules, i, c.in-Falsified.is, c.in_ok-visit_clause.ensures.watch, kept-then, ends s, (before s).found, c.visit_clause.ensures.counted, met s)

pub put-requires-clause-inside : goal.put-requires-clause-inside
put-requires-clause-inside c = grind (arith, common_steps)

pub put-requires-clause-absent : goal.put-requires-clause-absent
put-requires-clause-absent c = grind (arith, false-listed, true-listed)

pub put-requires-clause-not_falsified : goal.put-requires-clause-not_falsified
put-requires-clause-not_falsified c = grind (arith, false-listed, true-listed)

pub overflow_add-index : goal.overflow_add-index
overflow_add-index c = omega (arith, next (goal.at.overflow_add-index c).After-visit_clause)

pub overflow_add-index-in-Forces : goal.overflow_add-index-in-Forces
overflow_add-index-in-Forces c = omega (arith, next (goal.at.overflow_add-index-in-Forces c).After-visit_clause)

pub watches-smaller-in-Stays : goal.watches-smaller-in-Stays
watches-smaller-in-Stays c =
    let v = rw c.in-Stays.is at c.in_ok-visit_clause.ensures.watch in
    omega (arith, v.found, c.pass_true-passed.ensures.after, inside (goal.at.watches-smaller-in-Stays c).After-visit_clause)

pub watches-smaller-in-Leaves : goal.watches-smaller-in-Leaves
watches-smaller-in-Leaves c =
    let v = rw c.in-Leaves.is at c.in_ok-visit_clause.ensures.watch in
    omega (arith, v.found, c.pass_true-passed.ensures.after, inside (goal.at.watches-smaller-in-Leaves c).After-visit_clause)

pub watches-smaller : goal.watches-smaller
watches-smaller c =
    let v = rw c.in-Forces.is at c.in_ok-visit_clause.ensures.watch in
    omega (arith, v.found.0, c.pass_true-passed.ensures.after, inside (goal.at.watches-smaller c).After-visit_clause)

pub returns-in_err-visit_clause-clause-costs : goal.returns-in_err-visit_clause-clause-costs
returns-in_err-visit_clause-clause-costs c = on-err _ (ends (goal.at.returns-in_err-visit_clause-clause-costs c).After-visit_clause).costs

pub returns-clause-walked : goal.returns-clause-walked
returns-clause-walked c = λ no_conflict.
    let w = c.watches.invariant.walking in
    (c.watches.invariant.sums, λ walked s. walked-end c.watches.run.assignment.values.items c.watches.clauses walked c.args.literal c.watches.index w.running.stored.linked (omega (arith, c.watches-test.false, c.watch_count.ensures)) (w.served walked s))
