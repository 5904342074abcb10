use Rattle.pb_propagate.proofs.lemmas.{store.Stored.stored-sum, root.Rooted.derives-within, store.Placed.numbered-entered, store.Placed.numbered-same}
use Rattle.{pb_propagate.specs.engine.engine.Root.terms_of_all, pb_propagate.specs.engine.engine.Root.HasSameForms, std.proofs.lemmas.Grind.common_steps}
use Rattle.pb_propagate.proofs.Common.{values_of, ◌<◌, map, length_permutation, entry_of, ℕ, ◌+◌, ◌∙◌, ◌∷◌, ◌≡◌, [], ap, arith, Global, length, length-append}
use Rattle.pb_propagate.proofs.{Common.get_or_append_left, engine.question.pose.Goals.After-propagate, engine.question.pose.Goals.In_ok-enter}
use Rattle.pb_propagate.proofs.Common.{length-set, rules, sym, Vec, sum, sum_by, take-append_seam, length-map, sum_by_push, Assignment, all_of, clauses_of}
use Rattle.pb_propagate.proofs.Common.{none, shapes_of, stored_shape, Derives, Shape, list_of, posed, ◌*◌, ◌≤◌, Contains-append_left, IsTidy, beside}
use Rattle.pb_propagate.proofs.lemmas.root.{Ready.rooted-again, Ready.heads-now, Added.slot-counted, Added.slot-tidy, Kept.met-asked, Questions.spends-refutes}
use Rattle.{pb_propagate.proofs.lemmas.clauses.Heads.visits-back, pb_propagate.proofs.lemmas.clauses.Heads.walks-kept, std.proofs.lemmas.List.length_push}
use Rattle.pb_propagate.proofs.lemmas.engine.{Literals.derivation-single, Reasoned.reasons-derive, Rests.joined-entered, Rests.prefix-of, Runs.grown-length}
use Rattle.pb_propagate.proofs.lemmas.root.Questions.{entered-shapes, undone-same, updated-most, all-entered, both-answered, entered-tidy, posed-most}
use Rattle.pb_propagate.proofs.engine.question.pose.Goals as goal

pub returns-then-branch-clause-most : goal.returns-then-branch-clause-most
returns-then-branch-clause-most c = omega (arith, updated-most c.requires.standing c.requires.visits c.update.ensures.costs)

pub returns-in_err-open_form-clause-most : goal.returns-in_err-open_form-clause-most
returns-in_err-open_form-clause-most c = omega (arith, updated-most c.requires.standing c.requires.visits c.update.ensures.costs, c.enter.ensures.rest.3, c.open_form.ensures.visits)

-- each number has the same form once one is entered
same-forms : (c : In_ok-enter) → HasSameForms c.args.store.now c.enter.new.store
same-forms c = λ places p.
    let h = c.in_ok-enter.ensures.entered in
    numbered-entered c.args.store.now.stored.items c.enter.new.store.stored.items h.kept places h.keeps p

pub returns-in_err-open_form-clause-forms : goal.returns-in_err-open_form-clause-forms
returns-in_err-open_form-clause-forms c = let same = same-forms (goal.at.returns-in_err-open_form-clause-forms c).In_ok-enter in search (rules, same)

pub returns-in_err-found-clause-forms : goal.returns-in_err-found-clause-forms
returns-in_err-found-clause-forms c = let same = same-forms (goal.at.returns-in_err-found-clause-forms c).In_ok-enter in search (rules, same)

pub returns-then-branch-clause-asked : goal.returns-then-branch-clause-asked
returns-then-branch-clause-asked c = met-asked c.requires.visits (c.in_ok-update.ensures.met c.if-branch.true) c.in_ok-update.ensures.kept

-- the visits of both parts
most : (c : After-propagate) → c.propagate.new.run.visits ≤ 3 * (terms_of_all c.args.store.now c.args.clauses.now + length c.args.form.terms) +
    (length c.args.root.now.waiting.list.items + 1)
most c =
    let store = c.args.store.now in let run = c.update.new.self.run in let start = c.open_form.new.run in
    let h = c.in_ok-enter.ensures.entered in let standing = c.requires.standing in
    let same : start.assignment ≡ run.assignment = c.open_form.ensures.assignment ∙ c.enter.ensures.rest.0 in
    let all = all-entered store c.enter.new.store c.args.clauses.now h.kept h.keeps standing.joined in
    let d : Derives (all_of c.enter.new.store c.args.clauses.now) [] (list_of c.args.root.now.run) = rw all (derives-within _ _ _ _ (Contains-append_left _ (stored_shape h.kept ∷ [])) (reasons-derive standing.rooted.reasoned)) in
    let work : length start.work.items ≤ 1 = grind (arith, grown-length _ _ _ c.in_ok-open_form.ensures.work, c.enter.ensures.rest.1, c.in_ok-update.ensures.rooted.work) in
    let begun = heads-now c.at.result _ (length (list_of run)) c.at.ensures (omega (arith, c.len-count.ensures, run.assignment.list.ok.0)) in
    let cands : sum start.candidates ≡ sum run.candidates = grind (arith, c.open_form.ensures.candidates, h.candidates, sum_by_push) in
    let refutes = spends-refutes c.enter.new.store c.update.new.self.rests c.update.new.clauses start c.propagate.new.run c.at.result (rw same begun) work (rw (c.as_slice.ensures.value ∙ c.new-none.ensures.items) at c.propagate.ensures.costs) in
    let few = posed-most c.enter.new.store start c.propagate.new.run 1 standing c.requires.visits (c.in_ok-update.ensures.updated c.if-branch.false) c.update.ensures.literals c.in_ok-enter.ensures.longer c.in_ok-enter.ensures.sound
    (joined-entered _ _ h.kept (clauses_of c.args.clauses.now) h.keeps standing.joined) d (ap (λ (a : Assignment). a.list.items) same) cands (c.open_form.ensures.visits ∙ c.enter.ensures.rest.3) refutes in
    let more = ap (sum_by (λ (f : Shape). length f.terms)) all ∙ sum_by_push (λ (f : Shape). length f.terms) (all_of store c.args.clauses.now) (stored_shape h.kept) in
    omega (arith, few, more, length_permutation (map entry_of (stored_shape h.kept).terms) c.args.form.terms h.is.terms, length-map (stored_shape h.kept).terms entry_of)

pub returns-in_err-found-clause-most : goal.returns-in_err-found-clause-most
returns-in_err-found-clause-most c = most (goal.at.returns-in_err-found-clause-most c).After-propagate

pub returns-clause-most : goal.returns-clause-most
returns-clause-most c = let few = most (goal.at.returns-clause-most c).After-propagate in omega (arith, few, c.back.ensures.visits, c.leave.ensures.rest.3)

pub returns-clause-asked : goal.returns-clause-asked
returns-clause-asked c =
    let run = c.update.new.self.run in let h = c.in_ok-enter.ensures.entered in let lit = c.update.ensures.literals in
    let all = all-entered c.args.store.now c.enter.new.store c.args.clauses.now h.kept h.keeps c.requires.standing.joined in
    let reported = c.in_ok-found.ensures in
    let same : c.open_form.new.run.assignment ≡ run.assignment = c.open_form.ensures.assignment ∙ c.enter.ensures.rest.0 in
    let visits = c.open_form.ensures.visits ∙ c.enter.ensures.rest.3 in
    posed (stored_shape h.kept) h.is (both-answered (stored_shape h.kept) c.args.root.now.run run c.propagate.new.run c.requires.visits
    (c.in_ok-update.ensures.updated c.if-branch.false).found (grind (arith, same, visits, reported.gains.found, reported.gains.rising))
    (sym (c.leave.ensures.rest.3 ∙ c.back.ensures.visits)) (rw lit at (reasons-derive c.in_ok-update.ensures.rooted.reasoned)) (rw (same, lit, all) at (reasons-derive reported.reasons.added))
    (λ found. rw (lit, all) at (reported.conflict found)) (λ found. rw (lit, all) at (reported.settled found).settled))

pub returns-clause-left : goal.returns-clause-left
returns-clause-left c =
    let keep = c.args.store.now.stored.items in let root = c.update.new.self in let run = root.run in
    let r = c.in_ok-update.ensures.rooted in let h = c.in_ok-enter.ensures.entered in
    let left = c.in_ok-found.ensures.left in let b = c.back.ensures in let l = c.leave.ensures in
    let same : c.open_form.new.run.assignment ≡ run.assignment = c.open_form.ensures.assignment ∙ c.enter.ensures.rest.0 in
    let kept_is = l.kept ∙ prefix-of c.enter.new.store.stored.items keep h.kept h.keeps in
    let long : length c.enter.new.store.stored.items ≡ length keep + 1 = grind (arith, h.keeps, length-append) in
    let back = undone-same root.rests (shapes_of c.enter.new.store.stored.items) c.back.new.run.opens c.back.new.run.candidates (length keep) b.undone
    (grind (arith, length-map)) (b.opens ∙ long) (b.candidates ∙ long) (ap length (sym r.opens) ∙ r.open_sizes) (ap length (sym r.starts) ∙ r.start_sizes) in
    let list : list_of c.leave.new.run ≡ list_of run = grind (arith, l.rest.0, b.list, c.len-count.ensures, run.assignment.list.ok.0, same, left.extends, take-append_seam) in
    let values : length (values_of c.leave.new.run) ≡ c.leave.new.store.variables = grind (arith, l.rest.0, b.values, left.values, same, r.values, l.variables, c.enter.ensures.variables) in
    let lit : clauses_of c.back.new.clauses ≡ clauses_of c.update.new.clauses = b.literals ∙ c.propagate.ensures.literals in
    let fallen = visits-back (values_of run) c.update.new.clauses c.propagate.new.clauses c.back.new.clauses (list_of run) run.assignment.agrees lit b.watches (rw same at left.kept) in
    record {
      sound = l.sound;
      kept = kept_is;
      ready = b.ready;
      lists = grind (arith, b.lists, left.running.sizes, left.values, same, r.values, c.requires.standing.widths);
      conflict = c.in_ok-update.ensures.kept;
      rooted = rooted-again r kept_is values (l.opens ∙ back.0) (l.candidates ∙ back.1) list (ap (λ (v : Vec ℕ Global). v.items) l.rest.1 ∙ b.work) (ap (λ (v : Vec ℕ Global). v.items) l.trail ∙ b.trail) (l.rest.2 ∙ b.next)
          (rw (l.rest.0, b.reasons) (rw same at left.reasons)) lit (walks-kept c.update.new.clauses c.back.new.clauses (list_of run) root.walked fallen r.walks);
    }

pub propagate-requires-clause-ready : goal.propagate-requires-clause-ready
propagate-requires-clause-ready c =
    let keep = c.args.store.now.stored.items in let root = c.update.new.self in let run = root.run in
    let r = c.in_ok-update.ensures.rooted in
    let u = c.in_ok-update.ensures.updated c.if-branch.false in
    let new = c.enter.new in let h = c.in_ok-enter.ensures.entered in let e = c.enter.ensures in
    let o = c.in_ok-open_form.ensures in let now = c.open_form.new.run in
    let shapes = shapes_of new.store.stored.items in
    let n = c.len-number.result in
    let long = length-map keep stored_shape in
    let n_is : n ≡ length (shapes_of keep) = omega (arith, c.len-number.ensures, c.args.store.now.stored.ok.0, long) in
    let more : length new.store.stored.items ≡ length keep + 1 = grind (arith, h.keeps, length-append) in
    let opens : length new.run.opens ≡ length keep + 1 = grind (arith, h.opened, length_push, r.open_sizes) in
    let size : length shapes ≡ length keep + 1 = length-map new.store.stored.items stored_shape ∙ more in
    let low = rw e.rest.0 at o.opens in
    let entered : IsTidy (beside root.rests []) shapes new.run.opens new.run.candidates run.assignment.list.items [] [] 0 n =
    rw (entered-shapes keep new.store.stored.items h.kept h.keeps, h.opened, h.candidates, r.opens, r.starts, n_is, stored-sum h.kept)
    (entered-tidy root.rests (shapes_of keep) (stored_shape h.kept) (list_of run) (grind (arith, r.opens, r.open_sizes, long)) (grind (arith, r.starts, r.start_sizes, long)) (rw (u.none, r.opens, r.starts, ← long) at r.tidy)) in
    let room : n < length new.run.opens = omega (arith, n_is, long, opens) in
    let tidy = slot-tidy root.rests [] shapes new.run.opens new.run.candidates now.opens (list_of run) now.work.items now.trail.items n
    (omega (arith, n_is, long, size)) room entered low (rw (e.rest.0, e.rest.1, r.work) at o.work) (rw (e.trail, r.trail) at o.trail) in
    let counted = slot-counted shapes new.run.opens now.opens (list_of run) n room (λ s d inside other.
    grind (arith, n_is, long, size, r.open_sizes, entered-shapes keep new.store.stored.items h.kept h.keeps, h.opened, get_or_append_left, r.counted s d)) low in
    let begun = heads-now c.at.result _ (length (list_of run)) c.at.ensures (omega (arith, c.len-count.ensures, run.assignment.list.ok.0)) in
    let single = derivation-single _ [] (list_of run) none (reasons-derive r.reasoned) in
    let joined = joined-entered keep _ h.kept _ h.keeps c.requires.standing.joined in
    grind (arith, c.as_slice.ensures.value, c.new-none.ensures.items, begun, c.open_form.ensures, e, r.values, low (record { terms = []; degree = 0 }), length-set, opens, more, h.candidates, length_push, r.start_sizes, r.next, counted, single, tidy, length-map, c.update.ensures.literals, joined, u.running, u.walked, r.walks.now)

pub returns-in_err-update-clause-most : goal.returns-in_err-update-clause-most
returns-in_err-update-clause-most c = omega (arith, updated-most c.requires.standing c.requires.visits c.update.ensures.costs)

pub returns-in_err-enter-clause-most : goal.returns-in_err-enter-clause-most
returns-in_err-enter-clause-most c = omega (arith, updated-most c.requires.standing c.requires.visits c.update.ensures.costs, c.enter.ensures.rest.3)

pub returns-in_err-enter-clause-forms : goal.returns-in_err-enter-clause-forms
returns-in_err-enter-clause-forms c =
    let same : HasSameForms c.args.store.now c.enter.new.store = λ places p. numbered-same _ _ places (λ n s h. c.in_err-enter.ensures.unchanged s) in
    search (rules, same)

pub open_form-requires-clause-form : goal.open_form-requires-clause-form
open_form-requires-clause-form c = grind (arith, common_steps)

pub open_form-requires-clause-opens : goal.open_form-requires-clause-opens
open_form-requires-clause-opens c = grind (arith, common_steps)

pub leave-requires-clause-some : goal.leave-requires-clause-some
leave-requires-clause-some c = grind (arith, common_steps)
