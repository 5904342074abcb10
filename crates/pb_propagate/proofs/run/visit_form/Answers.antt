use Rattle.pb_propagate.proofs.Common.{IsTidyAt, RunReasons, Conflicts, shapes_in, [], stored_degree, stored_terms, ◌+◌, ◌<◌, ap, arith, get_or}
use Rattle.pb_propagate.proofs.{Common.list_of, Common.progress, Common.reasons_of, Common.◌≤◌, lemmas.clauses.Walks.never, lemmas.root.Ready.visiting-visits}
use Rattle.pb_propagate.proofs.{rulesets.Engine.run, run.visit_form.Goals.After-get-candidate, run.visit_form.Goals.In_ok-found}
use Rattle.pb_propagate.proofs.Common.{length, refl, set, get_or_default, rules, length-map, get_or-le-sum_by, Term, stored_shape, database}
use Rattle.pb_propagate.proofs.lemmas.engine.{Runs.counted-conflict, Reasoned.run-reasons-none, Reasoned.keeps-then, Reasoned.reasons-within}
use Rattle.pb_propagate.proofs.lemmas.{store.Stored.stored-small, store.Stored.stored-low, engine.Literals.sum-bounded, engine.Propagated.IsForced}
use Rattle.pb_propagate.proofs.lemmas.engine.Propagated.{IsVisiting, visiting-next, visiting-reasons, forced-read, visiting-settled, shape-at, term-inside}
use Rattle.pb_propagate.proofs.lemmas.engine.Advances.{advances-refl, advances-visit, advances-then, costs-then, on-err}
use Rattle.std.proofs.lemmas.Grind.{common_steps}
use Rattle.pb_propagate.proofs.run.visit_form.Goals as goal

pub terms-init : goal.terms-init
terms-init c = search (rules, length-map, c.requires.sums.counted, run-reasons-none, advances-refl, c.requires.tidy, c.requires.there, c.requires.sums.opens, c.requires.sums.candidates)

-- the term of the candidate is forced
forced : (c : In_ok-found) → IsForced (database c.args.store.now c.args.rests.now) c.args.form (progress c.terms.run) (stored_shape c.index-kept.result.now)
    c.visit_term-term.result c.get-candidate.result
forced c = forced-read c.args.store.now c.args.rests.now c.args.form (progress c.terms.run) c.index-kept.result.now c.get-opened.result
    c.get-candidate.result c.visit_term-term.result c.requires.form c.index-kept.ensures c.terms.invariant.in_visit.opens c.terms.invariant.in_visit.candidates
    (c.get-opened.ensures c.get-opened.result) (c.get-candidate.ensures c.get-candidate.result)
    (omega (arith, c.if-candidate-len.false, c.len.ensures)) (c.visit_term-term.ensures.item c.visit_term-term.result)
    (rw c.degree-degree.ensures at (c.is_below-demands.ensures.below c.if-not-demands.false))

-- where a further form is falsified: the term is passed
passed : (c : In_ok-found) → IsVisiting (database c.args.store.now c.args.rests.now) c.args.waiting.now c.args.form (progress c.args.run.now) (record (progress c.try_put.new.run) { candidates = set c.try_put.new.run.candidates c.args.form (c.get-candidate.result + 1) })
passed c =
    let reported = c.in_ok-found.ensures in
    visiting-next c.visit_term-term.new.visits (progress c.try_put.new.run) c.terms.invariant.in_visit (forced c) c.terms.invariant.counted
    c.visit_term-term.ensures.count c.visit_term-term.ensures.rising reported.adopted reported.puts.advances reported.puts.tidy
    reported.candidates

-- the literal has the form as its reason
reasoned : (c : In_ok-found) → RunReasons (shapes_in c.args.store.now) c.args.run.now c.try_put.new.run
reasoned c =
    let reported = c.in_ok-found.ensures in let reasons = c.terms.invariant.reasons in
    record {
      kept = keeps-then (list_of c.args.run.now) (list_of c.terms.run) (reasons_of c.args.run.now) (reasons_of c.terms.run) (reasons_of c.try_put.new.run)
          (reasons-within (list_of c.args.run.now) (list_of c.terms.run) reasons.added) reasons.kept reported.puts.kept;
      added = visiting-reasons (list_of c.args.run.now) (list_of c.try_put.new.run) (reasons_of c.terms.run) (reasons_of c.try_put.new.run) (forced c)
          c.terms.invariant.counted reported.adopted reported.reason reported.puts.kept reasons.added;
    }

pub terms-preserved : goal.terms-preserved
terms-preserved c =
    let r = reasoned (goal.at.terms-preserved c).In_ok-found in
    search (rules, passed (goal.at.terms-preserved c).In_ok-found, r.kept, r.added, (c.in_ok-found.ensures.sums c.if-found.false).counted)

pub overflow_add-degree : goal.overflow_add-degree
overflow_add-degree c =
    let k = c.index-kept.result.now in let t = c.visit_term-term.result in
    let top = get_or-le-sum_by (λ (x : Term). x.coefficient) (stored_terms k) c.get-candidate.result t (omega (arith, c.if-candidate-len.false, c.len.ensures)) in
    omega (arith, ap (λ (x : Term). x.coefficient) (c.visit_term-term.ensures.item t), top, stored-small k, stored-low k, c.degree-degree.ensures)

pub try_put-requires-clause-inside : goal.try_put-requires-clause-inside
try_put-requires-clause-inside c =
    let store = c.args.store.now in
    term-inside store.stored.items store.variables c.args.form c.index-kept.result.now (stored_terms c.index-kept.result.now) c.get-candidate.result c.visit_term-term.result c.requires.form c.index-kept.ensures refl
    (omega (arith, c.if-candidate-len.false, c.len.ensures)) (c.visit_term-term.ensures.item c.visit_term-term.result) c.requires.store.inside

pub returns-then-falsified : goal.returns-then-falsified
returns-then-falsified c =
    let store = c.args.store.now in let run = c.terms.run in let v = c.terms.invariant.in_visit in
    let inside : c.args.form < length (shapes_in store) = omega (arith, length-map store.stored.items stored_shape, c.requires.form) in
    let read = c.get-opened.ensures 0 in
    let low : get_or run.opens c.args.form 0 < stored_degree c.index-kept.result.now = omega (arith, read, c.degree-degree.ensures, c.is_below-falsified.ensures.below c.if-falsified.true) in
    let conflict = counted-conflict (shapes_in store) run.opens (list_of run) [] c.args.form inside c.terms.invariant.counted
    (λ d. rw (shape-at store.stored.items c.args.form c.index-kept.result.now c.requires.form c.index-kept.ensures d) low) in
    let bounded = sum-bounded (shapes_in store) run.candidates v.candidates v.tidy.bounded in
    let visits = visiting-visits c.args.run.now run v c.terms.invariant.reasons in
    record { visits = visits; costs = search rules; counted = never; tidy = never; conflict = λ found. conflict; bounded = bounded }

-- a form that is not falsified is settled if no term from its candidate on is forced
settled : (c : After-get-candidate) → ((d : Term) → c.get-candidate.result < length (stored_terms c.index-kept.result.now) → stored_degree c.index-kept.result.now + (get_or (stored_terms c.index-kept.result.now) c.get-candidate.result d).coefficient ≤ c.get-opened.result) →
    IsTidyAt (database c.args.store.now c.args.rests.now) c.args.waiting.now (length c.args.store.now.stored.items) (progress c.terms.run)
settled c none = visiting-settled c.args.store.now c.args.rests.now c.index-kept.result.now c.get-opened.result c.get-candidate.result c.requires.form c.index-kept.ensures (c.get-opened.ensures c.get-opened.result) (c.get-candidate.ensures c.get-candidate.result)
    (rw c.degree-degree.ensures at (c.is_below-falsified.ensures.above c.if-falsified.false)) none c.terms.invariant.in_visit

pub returns-in_err-found-clause-costs : goal.returns-in_err-found-clause-costs
returns-in_err-found-clause-costs c =
    let visit = c.visit_term-term.ensures in
    on-err _ (costs-then c.terms.invariant.in_visit.advances.costs (costs-then (advances-visit (database c.args.store.now c.args.rests.now) (progress c.terms.run) c.visit_term-term.new.visits 0 1 visit.rising (omega (arith, visit.count))).costs c.in_err-found.ensures.costs))

pub returns-then-found : goal.returns-then-found
returns-then-found c =
    let v = rw (← c.set.ensures) at (passed (goal.at.returns-then-found c).In_ok-found) in
    let conflict : Conflicts (shapes_in c.args.store.now) (list_of c.try_put.new.run) = c.in_ok-found.ensures.conflict c.if-found.true in
    let r = reasoned (goal.at.returns-then-found c).In_ok-found in
    let visits = visiting-visits c.args.run.now _ v (record { kept = r.kept; added = r.added }) in
    let bounded = sum-bounded (shapes_in c.args.store.now) c.set.new.self v.candidates v.tidy.bounded in
    record { visits = visits; costs = search rules; counted = never; tidy = never; conflict = λ found. conflict; bounded = bounded }

pub returns-then-candidate-len : goal.returns-then-candidate-len
returns-then-candidate-len c =
    let tidy = settled (goal.at.returns-then-candidate-len c).After-get-candidate (λ d less. absurd (omega (arith, less, c.len.ensures, c.if-candidate-len.true))) in
    search (rules, tidy, sum-bounded, visiting-visits, c.terms.invariant, c.terms.invariant.in_visit.tidy.bounded)

pub returns-then-not-demands : goal.returns-then-not-demands
returns-then-not-demands c =
    let v = c.terms.invariant.in_visit in let visit = c.visit_term-term.ensures in
    let tidy = settled (goal.at.returns-then-not-demands c).After-get-candidate (λ d less. grind (arith, get_or_default, visit.item c.visit_term-term.result, rw c.degree-degree.ensures at (c.is_below-demands.ensures.above c.if-not-demands.true))) in
    let reasons = c.terms.invariant.reasons in
    search (rules, tidy, sum-bounded, v.candidates, v.tidy.bounded, v, visit, advances-then, advances-visit, reasons.kept, reasons.added)

pub returns-in_err-found-clause-bounded : goal.returns-in_err-found-clause-bounded
returns-in_err-found-clause-bounded c = grind (arith, run)

pub terms-smaller : goal.terms-smaller
terms-smaller c = grind (arith, common_steps)
