use Rattle.pb_propagate.proofs.{Common.◌<◌, Common.ap, Common.arith, Common.length, Common.rules, Common.sym, rulesets.Clauses.visiting}
use Rattle.pb_propagate.proofs.clauses.visiting.search_clause.Goals.{After-advance-stop}
use Rattle.pb_propagate.proofs.lemmas.clauses.Visited.{entry-slot, other-watched, round-next, running-small, clause_of, start_of, IsSought, sought-left}
use Rattle.pb_propagate.proofs.lemmas.clauses.Visited.{stopped, visited-falsified, visited-forces, visited-leaves}
use Rattle.pb_propagate.proofs.clauses.visiting.search_clause.Goals as goal

pub read-clause-requires : goal.read-clause-requires
read-clause-requires c = (entry-slot c.requires.running _ (c.requires.running.stored.linked.named _ _ _ c.requires.item).live).0

-- what the search in the clause has found
sought : (c : After-advance-stop) → IsSought c.args.clauses.now c.args.assignment.now.values.items c.args.literal c.args.index c.args.watch c.args.other
    c.advance-stop.result c.args.visits.now c.advance-stop.new.visits
sought c =
    let a = rw (c.read-clause.ensures.search, c.read-clause.ensures.literals) at c.advance-stop.ensures in
    let q = c.requires in
    record { run = q.running; failed = q.failed; item = q.item; other_is = q.other; within = a.within; round = a.round; passed = a.passed; few = a.few; found = a.found }

pub falsifies-requires : goal.falsifies-requires
falsifies-requires c = rw c.requires.other
    (running-small _ _ c.requires.running (other-watched c.requires.running _ (c.requires.running.stored.linked.named _ _ _ c.requires.item).live))

pub returns-then-falsifies : goal.returns-then-falsifies
returns-then-falsifies c =
    let s = sought (goal.at.returns-then-falsifies c).After-advance-stop in
    let end = rw c.read-clause.ensures.literals at c.if-stop-literals.true in
    rw c.seek.ensures (search (rules, visited-falsified s end (sym c.if-falsifies.ensures), sought-left s c.advance-stop.result (omega (arith, end, s.within))))

pub returns-then-stop-literals : goal.returns-then-stop-literals
returns-then-stop-literals c =
    let s = sought (goal.at.returns-then-stop-literals c).After-advance-stop in
    let end = rw c.read-clause.ensures.literals at c.if-stop-literals.true in
    rw c.seek.ensures
    (search (rules, visited-forces s end c.requires.untrue (sym c.if-falsifies.ensures), sought-left s c.advance-stop.result (omega (arith, end, s.within))))

pub returns : goal.returns
returns c =
    let s = sought (goal.at.returns c).After-advance-stop in
    let at = rw c.read-clause.ensures.literals at c.next-next.ensures in
    let less : c.advance-stop.result.passed < length (clause_of c.args.clauses.now c.args.watch) =
    omega (arith, c.if-stop-literals.false, ap length c.read-clause.ensures.literals) in
    let round = round-next (start_of s.run c.args.watch) c.advance-stop.result c.next-next.result (length (clause_of c.args.clauses.now c.args.watch)) (stopped s) less
    at.position at.passed in
    let r = rw (c.seek-2.ensures, c.read-clause.ensures.literals) at c.in_ok-shift.ensures in
    let left = visited-leaves s less round at.passed {lists' = c.shift.new.lists}
    (record { linked = r.linked; moved = r.moved; others = r.others; sizes = r.sizes; more = r.more }) r.shorter in
    rw (c.shift.ensures.kept, c.seek-2.ensures) (search (rules, left, sought-left s c.next-next.result (omega (arith, less, at.passed))))

pub returns-in_err-shift : goal.returns-in_err-shift
returns-in_err-shift c =
    let s = sought (goal.at.returns-in_err-shift c).After-advance-stop in
    let at = rw c.read-clause.ensures.literals at c.next-next.ensures in
    rw (c.shift.ensures.kept, c.seek-2.ensures)
    (search (rules, sought-left s c.next-next.result (omega (arith, c.if-stop-literals.false, ap length c.read-clause.ensures.literals, at.passed))))

pub advance-stop-requires-clause-within : goal.advance-stop-requires-clause-within
advance-stop-requires-clause-within c = grind (arith, visiting)

pub advance-stop-requires-clause-inside : goal.advance-stop-requires-clause-inside
advance-stop-requires-clause-inside c = grind (arith, visiting)

pub shift-requires-clause-inside : goal.shift-requires-clause-inside
shift-requires-clause-inside c = grind (arith, visiting)
