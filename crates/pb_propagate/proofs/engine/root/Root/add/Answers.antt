use Rattle.pb_propagate.{proofs.lemmas.store.Positions.get-absent, proofs.lemmas.store.Positions.push-older, specs.engine.engine.Progress.RunIsCalm}
use Rattle.pb_propagate.proofs.Common.{pushed, ◌∙◌, ap, arith, inl, inr, length, sym, cases_eq, length-map, shapes_of, stored_shape, IsRooted, [], ℕ, ◌++◌, ◌∷◌}
use Rattle.pb_propagate.proofs.Common.{◌<◌, List, rules, length-set, IsUndone}
use Rattle.pb_propagate.proofs.engine.root.Root.add.Goals.{In_ok-widen_run, In_ok-open_form}
use Rattle.pb_propagate.proofs.lemmas.{engine.Runs.grown-absent, engine.Runs.grown-new, engine.Runs.grown-still, root.Added.arrived}
use Rattle.pb_propagate.proofs.lemmas.root.{Added.gained-rooted, Added.clause-rooted, Added.slot-counted, Added.slot-tidy, Ready.IsEnded, Ready.kept-rooted}
use Rattle.pb_propagate.proofs.engine.root.Root.add.Goals as goal

-- the slot is the only one whose open sum is not that of the root's literals
added : (c : In_ok-widen_run) → IsRooted c.args.store.now c.args.clauses.now c.widen_run.new.run c.widen_run.new.rests c.widen_run.new.waiting c.args.self.now.walked
    c.args.slot
added c = gained-rooted c.args.store.now c.args.clauses.now c.args.self.now c.args.slot c.requires.gained c.requires.slot c.in_ok-widen_run.ensures

-- then it is too
opened : (c : In_ok-open_form) → IsEnded c.args.store.now c.args.clauses.now c.open_form.new.run c.args.self.now.walked × RunIsCalm c.args.store.now c.widen_run.new.rests
    c.widen_run.new.waiting.list.items c.open_form.new.run
opened c =
    let store = c.args.store.now in let slot = c.args.slot in let run = c.widen_run.new.run in
    let new = c.open_form.new.run in let o = c.in_ok-open_form.ensures in
    let r = gained-rooted store c.args.clauses.now c.args.self.now slot c.requires.gained c.requires.slot c.in_ok-widen_run.ensures in
    let shapes = shapes_of store.stored.items in
    let long = length-map store.stored.items stored_shape in
    let list = run.assignment.list.items in
    let room : slot < length run.opens = omega (arith, c.requires.slot, r.open_sizes) in
    let counted = slot-counted shapes run.opens new.opens list slot room (λ s e less apart. r.counted s e (omega (arith, less, long)) apart) o.opens in
    let tidy = slot-tidy c.widen_run.new.rests c.widen_run.new.waiting.list.items shapes run.opens run.candidates new.opens list new.work.items
    new.trail.items slot (omega (arith, c.requires.slot, long)) room r.tidy o.opens (rw r.work at o.work) (o.trail ∙ ap (λ (xs : List ℕ). xs ++ (slot ∷ [])) r.trail) in
    grind (arith, counted, tidy, c.open_form.ensures, r.values, r.start_sizes, r.open_sizes, r.reasoned, r.walks, r.next, long, o.opens (record { terms = []; degree = 0 }), length-set)

pub returns-then-is_filled : goal.returns-then-is_filled
returns-then-is_filled c =
    let there = arrived c.args.store.now c.args.clauses.now c.args.self.now c.args.slot c.requires.gained c.requires.slot c.in_ok-widen_run.ensures in
    let filled = c.is_filled.ensures.yes c.if-is_filled.true in
    clause-rooted c.requires.slot (λ d. c.requires.joined.apart c.args.slot d (omega (arith, c.requires.slot, length-map c.args.store.now.stored.items stored_shape)) filled)
    there.open_none (added (goal.at.returns-then-is_filled c).In_ok-widen_run)

pub open_form-requires-clause-opens : goal.open_form-requires-clause-opens
open_form-requires-clause-opens c = (added (goal.at.open_form-requires-clause-opens c).In_ok-widen_run).open_sizes

pub defer-requires-clause-inside : goal.defer-requires-clause-inside
defer-requires-clause-inside c = omega (arith, c.requires.slot, (added (goal.at.defer-requires-clause-inside c).In_ok-widen_run).positions)

pub defer-requires-clause-absent : goal.defer-requires-clause-absent
defer-requires-clause-absent c =
    let g = c.requires.gained in
    get-absent c.widen_run.new.waiting.list.items c.args.slot (λ i at. g.3.empty (g.2.live i c.args.slot (rw c.in_ok-widen_run.ensures.waits at at)))

pub save-requires : goal.save-requires
save-requires c =
    let r = added (goal.at.save-requires c).In_ok-widen_run in
    let o = opened (goal.at.save-requires c).In_ok-open_form in
    let run = c.open_form.new.run in
    let undone : IsUndone c.widen_run.new.rests (shapes_of c.args.store.now.stored.items) run.opens run.candidates run.trail.items 0 = search (rules, o.1.clean, o.1.marked) in
    search (rules, ap length r.opens, ap length r.starts, r.open_sizes, r.start_sizes, o.0.opens, o.0.candidates, undone, length-map c.args.store.now.stored.items stored_shape)

pub returns : goal.returns
returns c =
    let r = added (goal.at.returns c).In_ok-widen_run in
    let o = opened (goal.at.returns c).In_ok-open_form in
    let aside = c.widen_run.new.waiting.list.items in
    kept-rooted c.args.store.now c.args.clauses.now c.open_form.new.run c.save.new.run c.widen_run.new.rests c.save.new.rests aside c.defer.new.waiting
    c.args.self.now.walked o.0 o.1
    (λ s off. elim c.defer.ensures.list [
      | inl same ↦ (rw same.1 at off, λ i from less found. absurd (omega (arith, less, ap length (sym c.as_slice.ensures.value ∙ same.0))))
      | inr more ↦
          let off_more = rw more at off in
          let still = grown-still c.args.slot [] c.open_form.new.run.work.items s (λ here. grown-new c.args.slot aside _ 0 s (omega arith) here pushed off_more)
          (rw r.work at c.in_ok-open_form.ensures.work) (λ i from less. absurd (omega (arith, less))) in
          (grown-absent {needless = ⊥} c.args.slot aside _ 0 s pushed off_more, rw (c.open_form.ensures.next ∙ r.next) still)
    ])
    c.save.ensures
    (c.defer.ensures.positions ∙ r.positions)
    (λ i s at. grind (arith, c.defer.ensures.list, r.live i s, push-older aside c.args.slot i s, cases_eq s c.args.slot, c.requires.gained.3.full))
