use Rattle.pb_propagate.proofs.{lemmas.engine.Runs.place-read, run.put.Goals.After-visit-entry, run.put.Goals.In_ok-lower, run.put.Goals.In_ok-put}
use Rattle.pb_propagate.proofs.Common.{rules, Run, RunPuts, RunRecords, ◌≡◌, ℕ, ◌+◌, ◌∙◌, ap, arith, refl, sym, length-map, Assignment, place}
use Rattle.pb_propagate.proofs.Common.{shapes_of, stored_shape, database, entries_against, progress}
use Rattle.pb_propagate.proofs.lemmas.engine.{Advances.costs-none, Advances.on-err, Reasoned.run-records, Runs.Assigns, Runs.IsPutting, Runs.IsRead}
use Rattle.pb_propagate.proofs.lemmas.engine.Runs.{putting-fits, putting-next, putting-advances, putting-costs, assigned-tidy, counted-conflict, entry-read}
use Rattle.pb_propagate.proofs.run.put.Goals as goal

pub list-entries-requires : goal.list-entries-requires
list-entries-requires c =
    let store = c.args.store.now in
    place-read (shapes_of store.stored.items) store.occurrences store.variables c.args.literal c.place_of.result c.requires.inside (c.place_of.ensures.place ∙ ap place c.negation.ensures) c.requires.store.places

-- the entry that is read is one of the literal's list
read : (c : After-visit-entry) → IsRead (database c.args.store.now c.args.rests.now) (entries_against (database c.args.store.now c.args.rests.now) c.args.literal) c.visit-entry.result c.entries.j
read c = entry-read c.args.store.now c.args.rests.now c.args.literal c.place_of.result c.list-entries.result.now c.entries.j c.visit-entry.result c.requires.store c.requires.inside (c.place_of.ensures.place ∙ ap place c.negation.ensures) c.list-entries.ensures c.visit-entry.ensures.item (omega (arith, c.entries-test.true))

pub lower-requires : goal.lower-requires
lower-requires c =
    let r = read (goal.at.lower-requires c).After-visit-entry in
    grind (arith, r.form, r.index, length-map c.args.store.now.stored.items stored_shape, c.entries.invariant.putting.sizes, putting-fits c.visit-entry.result r c.entries.invariant.putting)

-- one entry more was subtracted
lowered : (c : In_ok-lower) → IsPutting (database c.args.store.now c.args.rests.now) (entries_against (database c.args.store.now c.args.rests.now) c.args.literal) (record (progress c.args.run.now) { values = c.put.new.self.values.items; list = c.put.new.self.list.items }) (progress c.lower.new.run) (c.entries.j + 1)
lowered c =
    let read = entry-read c.args.store.now c.args.rests.now c.args.literal c.place_of.result c.list-entries.result.now c.entries.j c.visit-entry.result c.requires.store c.requires.inside (c.place_of.ensures.place ∙ ap place c.negation.ensures) c.list-entries.ensures c.visit-entry.ensures.item (omega (arith, c.entries-test.true)) in
    putting-next c.visit-entry.new.visits c.visit-entry.result (progress c.lower.new.run) read c.requires.sums.next c.visit-entry.ensures.count c.visit-entry.ensures.rising c.entries.invariant.putting c.in_ok-lower.ensures.lowers (ap (λ (a : Assignment). a.values.items) c.lower.ensures.assignment) c.lower.ensures.visits

pub entries-preserved : goal.entries-preserved
entries-preserved c =
    let putting = lowered (goal.at.entries-preserved c).In_ok-lower in
    search (rules, c.lower.ensures.assignment ∙ c.entries.invariant.assignment, c.lower.ensures.candidates ∙ c.entries.invariant.candidates, c.lower.ensures.next ∙ c.entries.invariant.next)

pub returns-in_err-put-clause-costs : goal.returns-in_err-put-clause-costs
returns-in_err-put-clause-costs c = on-err _ (costs-none (progress c.args.run.now) (record (progress c.args.run.now) { values = c.put.new.self.values.items; list = c.put.new.self.list.items }) c.in_err-put.ensures.err refl refl)

pub returns-in_err-lower-clause-costs : goal.returns-in_err-lower-clause-costs
returns-in_err-lower-clause-costs c =
    on-err _ (putting-costs (progress c.lower.new.run) (record { list_is = c.in_ok-put.ensures.ok; absent = c.requires.absent; sizes = c.put.ensures.values }) (ap (λ (a : Assignment). a.list.items) c.lower.ensures.assignment) c.lower.ensures.candidates (omega (arith, c.lower.ensures.visits, c.visit-entry.ensures.count, (read (goal.at.returns-in_err-lower-clause-costs c).After-visit-entry).inside)) c.entries.invariant.putting)

-- what is left once some entries were subtracted
left : (c : In_ok-put) (run : Run) (j : ℕ) → run.assignment ≡ c.put.new.self → IsPutting (database c.args.store.now c.args.rests.now)
    (entries_against (database c.args.store.now c.args.rests.now) c.args.literal) (record (progress c.args.run.now) { values = c.put.new.self.values.items; list = c.put.new.self.list.items }) (progress run) j →
    RunPuts c.args.store.now c.args.rests.now 0 c.args.run.now run × RunRecords c.args.reason c.args.literal c.args.run.now run
left c run j same putting =
    let assigned : Assigns c.args.literal c.put.new.self.values.items c.put.new.self.list.items (progress c.args.run.now) = record { list_is = c.in_ok-put.ensures.ok; absent = c.requires.absent; sizes = c.put.ensures.values } in
    let records = run-records c.args.reason c.args.literal c.args.run.now run c.requires.absent c.requires.not_falsified
    (omega (arith, c.requires.inside, c.requires.sums.values, c.args.run.now.assignment.known))
    (ap (λ (a : Assignment). a.reasons.items) same ∙ c.in_ok-put.ensures.reasons) in (
      record {
        advances = putting-advances assigned (c.requires.sums.opens ∙ sym (length-map c.args.store.now.stored.items stored_shape)) putting;
        tidy = λ aside busy t. putting.tidy aside busy (assigned-tidy (database c.args.store.now c.args.rests.now) assigned aside busy t);
        kept = records.0;
      },
      records.1,
    )

pub returns-clause-puts : goal.returns-clause-puts
returns-clause-puts c = (left (goal.at.returns-clause-puts c).In_ok-put c.entries.run c.entries.j c.entries.invariant.assignment c.entries.invariant.putting).0

pub returns-clause-reason : goal.returns-clause-reason
returns-clause-reason c = (left (goal.at.returns-clause-reason c).In_ok-put c.entries.run c.entries.j c.entries.invariant.assignment c.entries.invariant.putting).1

pub returns-then-branch-clause-puts : goal.returns-then-branch-clause-puts
returns-then-branch-clause-puts c = (left (goal.at.returns-then-branch-clause-puts c).In_ok-put c.lower.new.run (c.entries.j + 1)
    (c.lower.ensures.assignment ∙ c.entries.invariant.assignment) (lowered (goal.at.returns-then-branch-clause-puts c).In_ok-lower)).0

pub returns-then-branch-clause-reason : goal.returns-then-branch-clause-reason
returns-then-branch-clause-reason c = (left (goal.at.returns-then-branch-clause-reason c).In_ok-put c.lower.new.run (c.entries.j + 1)
    (c.lower.ensures.assignment ∙ c.entries.invariant.assignment) (lowered (goal.at.returns-then-branch-clause-reason c).In_ok-lower)).1

pub returns-then-branch-clause-conflict : goal.returns-then-branch-clause-conflict
returns-then-branch-clause-conflict c = λ found.
    counted-conflict (shapes_of c.args.store.now.stored.items) c.lower.new.run.opens c.lower.new.run.assignment.list.items _ c.visit-entry.result.form (read (goal.at.returns-then-branch-clause-conflict c).After-visit-entry).form (lowered (goal.at.returns-then-branch-clause-conflict c).In_ok-lower).counted (c.in_ok-lower.ensures.falsified c.if-branch.true)
