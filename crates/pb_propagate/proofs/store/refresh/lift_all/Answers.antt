use Rattle.pb_propagate.{proofs.lemmas.store.Stored.stored-small, proofs.store.refresh.lift_all.Goals.After-get-entry, specs.engine.engine.Refreshed.Lacks}
use Rattle.pb_propagate.proofs.Common.{ℕ, ◌+◌, ◌∙◌, [], refl, drop, get_or, map, set, size, stored_shape, subst, Shape, Term, ap, arith, length, length-map}
use Rattle.pb_propagate.proofs.Common.{shapes_of, weighted, slice_get_within}
use Rattle.pb_propagate.proofs.lemmas.{engine.Propagated.shape-at, engine.Propagated.weight-read, root.Retracted.ahead-entry}
use Rattle.pb_propagate.proofs.lemmas.root.Retracted.{all-next, lacks-fits, lacks-next, listed-entries, IsOccurrence, occurrence-read, refreshed-then}
use Rattle.pb_propagate.proofs.store.refresh.lift_all.Goals as goal

-- the entry that is read is one of the literal's
read : (c : After-get-entry) → IsOccurrence c.args.store.now c.args.literal (get_or c.args.store.now.occurrences c.place_of-place.result []) c.entries.j c.get-entry.result
read c = occurrence-read c.args.store.now c.args.literal c.place_of-place.result (get_or c.args.store.now.occurrences c.place_of-place.result []) c.entries.j c.get-entry.result c.requires.store c.requires.inside c.place_of-place.ensures.place refl (c.get-entry.ensures c.get-entry.result)
    (omega (arith, c.entries-test.true, c.count-j-end.ensures))

pub refresh-requires : goal.refresh-requires
refresh-requires c =
    let o = read (goal.at.refresh-requires c).After-get-entry in grind (arith, o.form, o.index, o.some)

pub entries-preserved : goal.entries-preserved
entries-preserved c =
    let v = (get_or c.args.store.now.occurrences c.place_of-place.result []) in
    let o = read (goal.at.entries-preserved c).After-get-entry in
    let form = c.get-entry.result.form in
    let read = c.get-before.ensures 0 in
    let weight = weight-read c.args.store.now.stored.items form c.get-entry.result.index c.index-kept.result.now c.term.result.coefficient o.form c.index-kept.ensures (λ d. ap (λ (t : Term). t.coefficient) (c.term.ensures d)) in
    record {
      each = refreshed-then c.args.store.now c.args.root.now c.entries.root c.refresh.new.root c.entries.invariant.each c.refresh.ensures.each;
      all = all-next c.args.store.now c.args.literal v c.entries.root c.refresh.new.root c.entries.j c.get-entry.result o c.refresh.ensures.each c.refresh.ensures.form c.entries.invariant.all;
      lacks = lacks-next c.args.store.now c.args.literal v c.entries.root c.refresh.new.root c.entries.j c.get-entry.result o c.entries.invariant.each.sized
          (c.refresh.ensures.opens ∙ ap (set c.entries.root.run.opens c.get-entry.result.form) (ap (λ (n : ℕ). n + c.term.result.coefficient) read ∙ ap (λ n. get_or c.entries.root.run.opens form 0 + n) weight)) c.refresh.ensures.each.assignment c.entries.invariant.lacks;
    }

pub returns-clause-all : goal.returns-clause-all
returns-clause-all c = λ j e at.
    let v = (get_or c.args.store.now.occurrences c.place_of-place.result []) in
    let same = listed-entries c.args.store.now c.args.literal c.place_of-place.result v c.requires.store c.requires.inside c.place_of-place.ensures.place refl in
    let inside = slice_get_within _ j e at in
    c.entries.invariant.all j e (omega (arith, inside, ap length same, length-map v (weighted (shapes_of c.args.store.now.stored.items)), c.entries-test.false, c.count-j-end.ensures)) at

pub get-before-requires : goal.get-before-requires
get-before-requires c =
    let o = read (goal.at.get-before-requires c).After-get-entry in omega (arith, o.form, c.entries.invariant.each.sized.opens)

pub term-requires : goal.term-requires
term-requires c =
    let o = read (goal.at.term-requires c).After-get-entry in grind (arith, o.form, o.index, shape-at)

pub overflow_add-opened : goal.overflow_add-opened
overflow_add-opened c =
    let v = (get_or c.args.store.now.occurrences c.place_of-place.result []) in
    let o = read (goal.at.overflow_add-opened c).After-get-entry in
    let store = c.args.store.now in
    let forms = shapes_of store.stored.items in
    let form = c.get-entry.result.form in let k = c.index-kept.result.now in
    let read = c.get-before.ensures 0 in
    let weight = weight-read store.stored.items form c.get-entry.result.index k c.term.result.coefficient o.form c.index-kept.ensures (λ d. ap (λ (t : Term). t.coefficient) (c.term.ensures d)) in
    let lacks = subst (Lacks store c.entries.root) (ahead-entry store v c.entries.j c.get-entry.result o.read o.inside) c.entries.invariant.lacks in
    let fits = lacks-fits store c.entries.root (weighted forms c.get-entry.result) (drop (c.entries.j + 1) (map (weighted forms) v)) (stored_shape k) o.form lacks in
    let shape = shape-at store.stored.items form k o.form c.index-kept.ensures (stored_shape k) in
    omega (arith, fits, read, weight, ap (λ (f : Shape). size f.terms) shape, stored-small k)

pub index-kept-requires : goal.index-kept-requires
index-kept-requires c =
    let o = read (goal.at.index-kept-requires c).After-get-entry in omega (arith, o.form, c.args.store.now.stored.ok.0)
