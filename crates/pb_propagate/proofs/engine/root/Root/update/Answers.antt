use Rattle.pb_propagate.proofs.{lemmas.clauses.Heads.heads-is, lemmas.clauses.Heads.visits-back, lemmas.clauses.Heads.walks-back}
use Rattle.pb_propagate.proofs.Common.{both_ways, ◌∙◌, ◌≡◌, [], ap, arith, length, refl, take, slice_get_within, all_of, ◌++◌, ◌-◌, Assignment, heads_at}
use Rattle.pb_propagate.proofs.lemmas.{clauses.Heads.walks-ended, clauses.Heads.ready-running, engine.Reasoned.run-reasons-rooted, root.Kept.conflicts-kept}
use Rattle.pb_propagate.proofs.lemmas.root.{Kept.conflict-same, Ready.back-rooted, Ready.rooted-waiting, Ready.root-ready, Ready.kept-rooted}
use Rattle.std.proofs.Math.ListN.{replicate}
use Rattle.pb_propagate.proofs.engine.root.Root.update.Goals as goal

-- an allocation ends it
pub returns-in_err-found-clause-costs : goal.returns-in_err-found-clause-costs
returns-in_err-found-clause-costs c = record { ended = c.propagate.new.run; spends = rw c.as_slice.ensures.value at c.propagate.ensures.costs; visits = refl }

pub returns-in_err-note-clause-costs : goal.returns-in_err-note-clause-costs
returns-in_err-note-clause-costs c = record { ended = c.propagate.new.run; spends = rw c.as_slice.ensures.value at c.propagate.ensures.costs; visits = refl }

pub returns-then-found-clause-costs : goal.returns-then-found-clause-costs
returns-then-found-clause-costs c = record { ended = c.propagate.new.run; spends = rw c.as_slice.ensures.value at c.propagate.ensures.costs; visits = c.back.ensures.visits }

pub returns-then-found-clause-rooted : goal.returns-then-found-clause-rooted
returns-then-found-clause-rooted c =
    let me = c.args.self.now in let run = me.run in let r = c.requires.standing.rooted in
    let done = c.propagate.new.run in let reported = c.in_ok-found.ensures in
    let count_is : c.len-count.result ≡ length run.assignment.list.items = omega (arith, c.len-count.ensures, run.assignment.list.ok.0) in
    rooted-waiting me.waiting _ refl refl (back-rooted me r reported.left c.back.ensures count_is c.propagate.ensures.literals
    (walks-back c.args.clauses.now c.back.new.clauses run.assignment.list.items done.assignment.list.items me.walked (record { heads = me.walked.heads; marks = c.truncate.new.self }) c.propagate.new.marks.items r.walks c.propagate.ensures.costs.extends (visits-back run.assignment.values.items c.args.clauses.now c.propagate.new.clauses c.back.new.clauses run.assignment.list.items run.assignment.agrees (c.back.ensures.literals ∙ c.propagate.ensures.literals) c.back.ensures.watches reported.left.kept) (λ long old. rw (c.back.ensures.literals, c.back.ensures.watches) (reported.marks long old)) refl (c.truncate.ensures.items ∙ ap (λ n. take n c.propagate.new.marks.items) count_is)))

pub returns-then-found-clause-kept : goal.returns-then-found-clause-kept
returns-then-found-clause-kept c =
    let forms = all_of c.args.store.now c.args.clauses.now in
    let done = c.propagate.new.run.assignment in let reported = c.in_ok-found.ensures in
    let noted = c.in_ok-note.ensures in
    let reasoned = run-reasons-rooted c.requires.standing.rooted.reasoned reported.reasons in
    let holds = conflict-same forms done c.note.new.self.assignment noted.list noted.reasons (conflicts-kept forms done reasoned (reported.conflict c.if-found.true)) in
    let values : length c.note.new.self.assignment.values.items ≡ c.args.store.now.variables = noted.values ∙ (reported.left.values ∙ c.requires.standing.rooted.values) in
    record { few = omega (arith, values); values = λ met. values; none = λ unmet. absurd (both_ways _ unmet noted.met); holds = λ met. holds }

-- none is met
pub returns-clause-costs : goal.returns-clause-costs
returns-clause-costs c = record { ended = c.propagate.new.run; spends = rw c.as_slice.ensures.value at c.propagate.ensures.costs; visits = c.save.ensures.visits }

pub returns-clause-rooted : goal.returns-clause-rooted
returns-clause-rooted c =
    let store = c.args.store.now in let me = c.args.self.now in let r = c.requires.standing.rooted in
    let done = c.propagate.new.run in let reported = c.in_ok-found.ensures in
    let settled = reported.settled c.if-found.false in
    let whole_is : c.len-whole.result ≡ length done.assignment.list.items = omega (arith, c.len-whole.ensures, done.assignment.list.ok.0, ap (λ (a : Assignment). length a.list.items) c.save.ensures.assignment, c.save.new.run.assignment.list.ok.0) in
    let heads = heads-is c.finish.new.self.heads (length done.assignment.list.items) (c.in_ok-finish.ensures.heads.0 ∙ whole_is) (c.in_ok-finish.ensures.heads.1 ∙ whole_is) in
    let walks = walks-ended c.args.clauses.now c.propagate.new.clauses me.run.assignment.list.items done.assignment.list.items me.walked c.finish.new.self
    c.propagate.new.marks.items r.walks reported.marks settled.walked heads
    (c.in_ok-finish.ensures.marks ∙ ap (λ n. c.propagate.new.marks.items ++ replicate (n - length c.propagate.new.marks.items) (heads_at 0)) whole_is) in
    kept-rooted store c.propagate.new.clauses done c.save.new.run me.rests c.save.new.rests [] c.clear.new.self c.finish.new.self
    (grind (arith, reported.left, r.values, settled.counted, run-reasons-rooted r.reasoned reported.reasons, c.propagate.ensures.literals, walks))
    settled.tidy
    (λ s off. (λ i from less at. absurd (omega (arith, less)), λ i from less at. let end_is = settled.done in absurd (omega (arith, from, less, end_is))))
    c.save.ensures
    (ap length c.clear.ensures.positions ∙ r.positions)
    (λ i s at. absurd (omega (arith, slice_get_within c.clear.new.self.list.items i s at, ap length c.clear.ensures.list)))

pub returns-in_err-finish-clause-costs : goal.returns-in_err-finish-clause-costs
returns-in_err-finish-clause-costs c = record { ended = c.propagate.new.run; spends = rw c.as_slice.ensures.value at c.propagate.ensures.costs; visits = c.save.ensures.visits }

pub propagate-requires-clause-ready : goal.propagate-requires-clause-ready
propagate-requires-clause-ready c =
    let s = c.requires.standing in
    rw c.as_slice.ensures.value (root-ready s.rooted s.joined (ready-running c.args.clauses.now c.args.self.now.run.assignment.values.items s.ready (omega (arith, s.widths, s.rooted.values))))
