use Rattle.pb_propagate.proofs.Common.{rules, ◌≡◌, AreSettled, ◌+◌, ◌<◌, ◌∙◌, ◌≤◌, ap, arith, drop, get_or, inl, inr, length, refl, subst, sum}
use Rattle.pb_propagate.proofs.Common.{drop_all, get_or_default, length-map, take_rest, passed_of, all_of, clauses_of, heads_at, IsAhead, shapes_in}
use Rattle.pb_propagate.proofs.{Common.stored_shape, Common.database, Common.progress, Common.list_of, Common.values_of, lemmas.root.Ready.gains-then}
use Rattle.pb_propagate.proofs.lemmas.clauses.{Walks.running-grow, Walks.grows-refl, Walks.grows-trans, Walks.kept-then, Walks.never, Shapes.joined-source}
use Rattle.pb_propagate.proofs.lemmas.{engine.Advances.extends-none, engine.Advances.extends-then, clauses.Shapes.conflicts-joined, root.Ready.assigned-grow}
use Rattle.pb_propagate.proofs.lemmas.engine.{Literals.opposite, Reasoned.run-reasons-none, Reasoned.run-reasons-then, Reasoned.run-reasons-joined}
use Rattle.pb_propagate.proofs.lemmas.clauses.Heads.{mark-walked, walked-mark, marking-start, marking-grow, marking-found, marking-next, cost, next-of}
use Rattle.pb_propagate.proofs.lemmas.clauses.Heads.{ahead-within, walked-whole, watching-grow, watching-next, watching-settled, same-reached, reached-ahead}
use Rattle.pb_propagate.proofs.lemmas.engine.Propagated.{walk-stopped, propagating-start, propagating-visit, propagating-next, propagating-bound, form-stopped}
use Rattle.pb_propagate.proofs.lemmas.engine.Propagated.{propagating-take, propagating-settled, propagating-spends, forms-falling, candidates-bounded, stopped}
use Rattle.pb_propagate.proofs.run.propagate.Goals as goal

pub work-init : goal.work-init
work-init c =
    let store = c.args.store.now in let run = c.args.run.now in let ready = c.requires.ready in
    let marking = marking-start c.args.clauses.now (list_of run) c.args.marks.now.items c.len-marked.result c.args.from
    (omega (arith, c.len-marked.ensures, run.assignment.list.ok.0)) ready.walked in
    let served = mark-walked (values_of run) c.args.clauses.now.blocks.literals c.args.clauses.now.blocks.watches (list_of run) c.args.from run.assignment.agrees
    ready.walked in
    let sized = length-map store.stored.items stored_shape in
    search (rules, grows-refl, ready.running, ready.walked.short, ready.walked.long, run-reasons-none, propagating-start, sized, ready.single, ready.sums, ready.tidy)

pub walk-requires-clause-literal : goal.walk-requires-clause-literal
walk-requires-clause-literal c =
    let next = next-of (values_of c.work.run) c.work.run.assignment.agrees (rw c.as_slice.ensures.value at c.in-Some.ensures.some) in
    (omega (arith, next.1, c.work.invariant.watching.running.sizes), next.0)

pub work-smaller-in-Some : goal.work-smaller-in-Some
work-smaller-in-Some c =
    let ends = ahead-within (rw c.as_slice.ensures.value at c.in-Some.ensures.some) c.work.invariant.watching.short c.work.invariant.watching.long in
    omega (arith, propagating-bound c.work.invariant.state, c.in_ok-walk.ensures.walks.advances.next, c.work.run.assignment.room)

pub work-preserved-in-Some : goal.work-preserved-in-Some
work-preserved-in-Some c =
    let i = c.work.invariant in let w = i.watching in let done = c.walk.new.run in
    let ahead : IsAhead c.work.heads (list_of c.work.run) c.in-Some.ahead = rw c.as_slice.ensures.value at c.in-Some.ensures.some in
    let reported = c.in_ok-walk.ensures in let walks = reported.walks in
    let walked = reported.walked c.if-branch-2.false in
    let more = walks.advances.costs.extends in
    let same = c.walk.ensures.candidates in
    let reaches = reached-ahead (list_of done) (i.state.costs.single c.requires.ready.single) ahead more w in
    let watching = watching-next c.walk.new.clauses c.work.run done ahead more reported.literals walks.running walked.1 w in
    let moved = marking-grow (marking-found i.marking _ c.walk.new.clauses c.work.run.assignment.agrees reported.literals walks.kept) (list_of done) more in
    let mark = walked-mark _ _ _ (list_of done) c.in-Some.ahead.heads done.assignment.agrees watching.short watching.long watching.served in
    let count_is : c.len-count.result ≡ length (list_of done) = omega (arith, c.len-count.ensures, done.assignment.list.ok.0) in
    let marking = marking-next moved c.mark.new.marks.items c.len-count.result c.in-Some.ahead.heads count_is c.in_ok-mark.ensures mark in
    let reasons = run-reasons-then i.reasons (rw w.literals at walks.reasons) in
    let state = propagating-next (cost c.args.clauses.now c.walk.new.clauses c.in-Some.ahead.heads (list_of done)) c.work.run.next i.state walked.0.counted
    (walks.tidy _ _ i.state.tidy) walks.advances walks.found (omega arith) i.state.within (omega (arith, walks.advances.costs.paid, reaches, ap sum same)) in
    search (rules, grows-trans, i.grows, walks.grows, kept-then, i.kept, walks.kept, marking, watching, reasons.kept, reasons.added, state)

pub visit_form-requires-clause-tidy : goal.visit_form-requires-clause-tidy
visit_form-requires-clause-tidy c =
    let run = c.work.run in
    rw (take_rest c.args.waiting.now c.work.taken) (propagating-visit (database c.args.store.now c.args.rests.now) (drop c.work.taken c.args.waiting.now) (progress run)
    c.index-form.result.now (length-map c.args.store.now.stored.items stored_shape) (omega (arith, c.if-run-len.true, c.len.ensures, run.work.ok.0))
    c.index-form.ensures c.work.invariant.state.tidy)

pub work-smaller-else-branch : goal.work-smaller-else-branch
work-smaller-else-branch c = let bound = propagating-bound c.work.invariant.state in omega (arith, c.work.run.work.ok.0, c.work.run.assignment.room, c.in_ok-visit_form.ensures.visits.advances.next)

pub work-preserved-else-branch : goal.work-preserved-else-branch
work-preserved-else-branch c =
    let store = c.args.store.now in let run = c.work.run in let state = c.work.invariant.state in
    let w = c.work.invariant.watching in let done = c.visit_form.new.run in
    let inside : run.next + 1 ≤ length run.work.items = omega (arith, c.if-run-len.true, c.len.ensures, run.work.ok.0) in
    let reported = c.in_ok-visit_form.ensures in
    let grows = assigned-grow run.assignment done.assignment reported.visits.advances.costs.extends in
    let tidy = rw (take_rest c.args.waiting.now c.work.taken) at (reported.tidy c.if-branch.false) in
    let marking_now = marking-grow c.work.invariant.marking (list_of done) reported.visits.advances.costs.extends in
    let watching_now = watching-grow reported.visits.advances.values grows reported.visits.advances.costs.extends w in
    let reasons_now = run-reasons-then c.work.invariant.reasons (run-reasons-joined (shapes_in store) (clauses_of c.args.clauses.now) run done c.requires.ready.joined
    reported.visits.reasons.kept reported.visits.reasons.added) in
    let same = (same-reached c.work.heads (list_of run) (list_of done) w.short w.long reported.visits.advances.costs.extends).1 (clauses_of c.args.clauses.now) in
    let state_now = propagating-next (cost c.args.clauses.now c.work.clauses c.work.heads (list_of done)) (run.next + 1) state (reported.counted c.if-branch.false) tidy
    reported.visits.advances reported.visits.found (omega arith) inside (omega (arith, reported.visits.advances.costs.paid, same)) in
    search (rules, grows-trans, c.work.invariant.grows, grows, marking_now, watching_now, reasons_now.kept, reasons_now.added, state_now, c.work.invariant.kept)

pub work-smaller : goal.work-smaller
work-smaller c = let bound = propagating-bound c.work.invariant.state in omega (arith, c.work.run.assignment.room)

pub work-preserved : goal.work-preserved
work-preserved c =
    let less : c.work.taken < length c.args.waiting.now = omega (arith, c.if-taken-waiting.true) in
    let state = propagating-take (get_or c.args.waiting.now c.work.taken 0) c.push-then-taken-waiting.new.self.items c.push.new.self.items c.work.invariant.state less (get_or_default c.args.waiting.now c.work.taken 0 _ less)
    (omega (arith, c.requires.waiting c.work.taken 0 less, length-map c.args.store.now.stored.items stored_shape)) c.in_ok-push-2.ensures.items c.in_ok-push.ensures.items in
    search (rules, less, c.work.invariant.kept)

pub returns-in_err-push-clause-costs : goal.returns-in_err-push-clause-costs
returns-in_err-push-clause-costs c = stopped c.args.clauses.now c.work.clauses c.work.heads _ c.work.invariant.state c.work.invariant.watching refl refl refl

pub returns-in_err-push-2-clause-costs : goal.returns-in_err-push-2-clause-costs
returns-in_err-push-2-clause-costs c = stopped c.args.clauses.now c.work.clauses c.work.heads _ c.work.invariant.state c.work.invariant.watching refl refl refl

pub returns-else-taken-waiting-clause-costs : goal.returns-else-taken-waiting-clause-costs
returns-else-taken-waiting-clause-costs c = stopped c.args.clauses.now c.work.clauses c.work.heads _ c.work.invariant.state c.work.invariant.watching refl refl refl

pub returns-in_err-visit_form-clause-costs : goal.returns-in_err-visit_form-clause-costs
returns-in_err-visit_form-clause-costs c = form-stopped c.args.clauses.now c.work.clauses c.work.heads (progress c.visit_form.new.run) 1 (c.work.run.next + 1) c.work.invariant.state c.work.invariant.watching (omega (arith, c.if-run-len.true, c.len.ensures, c.work.run.work.ok.0)) c.visit_form.ensures.bounded c.in_err-visit_form.ensures.costs

pub returns-in_err-walk-clause-costs : goal.returns-in_err-walk-clause-costs
returns-in_err-walk-clause-costs c =
    let a = subst (λ xs. IsAhead c.work.heads xs c.in-Some.ahead) c.as_slice.ensures.value c.in-Some.ensures.some in
    walk-stopped c.args.clauses.now c.work.clauses c.walk.new.clauses c.work.heads c.in-Some.ahead (progress c.walk.new.run) c.work.invariant.state c.work.invariant.watching a c.walk.ensures.bounded (c.walk.ensures.candidates) c.in_err-walk.ensures.costs

pub returns-in_err-mark-clause-costs : goal.returns-in_err-mark-clause-costs
returns-in_err-mark-clause-costs c =
    let a = subst (λ xs. IsAhead c.work.heads xs c.in-Some.ahead) c.as_slice.ensures.value c.in-Some.ensures.some in
    walk-stopped c.args.clauses.now c.work.clauses c.walk.new.clauses c.work.heads c.in-Some.ahead (progress c.walk.new.run) c.work.invariant.state c.work.invariant.watching a c.walk.ensures.bounded (c.walk.ensures.candidates) c.in_ok-walk.ensures.walks.advances.costs

-- a form that is visited is falsified
pub returns-then-branch : goal.returns-then-branch
returns-then-branch c =
    let run = c.work.run in let done = c.visit_form.new.run in let i = c.work.invariant in let s = i.state in
    let before = s.costs.extends in let visits = c.in_ok-visit_form.ensures.visits in let a = visits.advances in
    let more = a.costs.extends in
    let reasons = run-reasons-then i.reasons (run-reasons-joined _ _ run done c.requires.ready.joined visits.reasons.kept visits.reasons.added) in
    let running = running-grow _ _ _ a.values (assigned-grow run.assignment done.assignment more) i.watching.running in
    let inside : run.next + 1 ≤ length run.work.items = omega (arith, c.if-run-len.true, c.len.ensures, run.work.ok.0) in
    record {
      literals = i.watching.literals;
      left = search (rules, i.kept, visits.undone, a.values ∙ s.values, a.opens ∙ s.open_sizes, a.candidates ∙ s.candidate_sizes, extends-then, reasons.kept);
      marks = (marking-grow i.marking _ more).kept;
      costs = form-stopped c.args.clauses.now c.work.clauses c.work.heads (progress done) 1 (run.next + 1) s i.watching inside c.visit_form.ensures.bounded a.costs;
      reasons = reasons;
      gains = search (rules, gains-then, s.found, s.rising, visits.found, a.rising);
      conflict = λ found. conflicts-joined _ _ _ c.requires.ready.joined (c.in_ok-visit_form.ensures.conflict c.if-branch.true);
      settled = never;
    }

-- a clause is falsified on the way
pub returns-then-branch-2 : goal.returns-then-branch-2
returns-then-branch-2 c =
    let i = c.work.invariant in let s = i.state in let walks = c.in_ok-walk.ensures.walks in let a = walks.advances in
    let more = a.costs.extends in
    let next = rw c.as_slice.ensures.value at c.in-Some.ensures.some in
    let same = c.walk.ensures.candidates in
    let before = s.costs.extends in
    let t = walks.tidy (drop c.work.taken c.args.waiting.now) (length c.args.store.now.stored.items) s.tidy in
    let reasons = run-reasons-then i.reasons (rw i.watching.literals at walks.reasons) in
    let kept = kept-then _ _ c.args.clauses.now c.work.clauses c.walk.new.clauses i.grows i.kept walks.kept in
    record {
      literals = c.in_ok-walk.ensures.literals ∙ i.watching.literals;
      left = search (rules, walks.running, a.values ∙ s.values, a.opens ∙ s.open_sizes, a.candidates ∙ s.candidate_sizes, t.clean, t.marked, extends-then, reasons.kept);
      marks = (marking-grow (marking-found i.marking _ c.walk.new.clauses c.work.run.assignment.agrees c.in_ok-walk.ensures.literals walks.kept) _ more).kept;
      costs = search (rules, walk-stopped, s, i.watching, next, c.walk.ensures.bounded, same, a.costs);
      reasons = reasons;
      gains = search (rules, gains-then, s.found, s.rising, walks.found, a.rising);
      conflict = λ found. rw i.watching.literals at (c.in_ok-walk.ensures.conflict c.if-branch-2.true);
      settled = never;
    }

-- no conflict was met
pub returns-else-taken-waiting-clause-settled : goal.returns-else-taken-waiting-clause-settled
returns-else-taken-waiting-clause-settled c = λ found.
    let store = c.args.store.now in let run = c.work.run in let state = c.work.invariant.state in
    let w = c.work.invariant.watching in
    let all : length run.work.items ≤ run.next = omega (arith, c.if-run-len.false, c.len.ensures, run.work.ok.0) in
    let none_waits : length c.args.waiting.now ≤ c.work.taken = omega (arith, c.if-taken-waiting.false) in
    let end = rw c.as_slice.ensures.value at c.in_default.ensures.none in
    let walked = walked-mark _ _ _ (list_of run) (heads_at (length (list_of run))) run.assignment.agrees (omega arith) (omega arith)
    (walked-whole _ _ _ (list_of run) c.work.heads (omega (arith, w.short, end.0)) (omega (arith, w.long, end.1)) w.served) in
    let pays = propagating-spends (clauses_of c.args.clauses.now) c.work.heads (sum (passed_of c.work.clauses)) (progress run) 0 state (extends-none (list_of run))
    (λ s. s) (candidates-bounded state) (omega (arith, state.within)) (omega arith) in
    let settled : AreSettled (all_of store c.args.clauses.now) (list_of run) = λ f has. elim (joined-source (shapes_in store) (clauses_of c.args.clauses.now) f has) [
      | inl kept ↦ propagating-settled state all none_waits f kept (forms-falling store.stored.items f kept)
      | inr clause ↦ rw (← clause.2) (watching-settled _ _ _ _ _ clause.0 run.assignment.agrees (λ k on. opposite _ (list_of run) k run.assignment.agrees on) end.0 end.1
          clause.1 w)
    ] in
    search (rules, walked, pays, settled, state.counted, (rw (drop_all c.work.taken c.args.waiting.now none_waits) at state.tidy), all)
