use Rattle.pb_propagate.proofs.Common.{◌∙◌, [], get_or, refl, set, set-get_or, ap, arith, length, length-map, shapes_of, weighted, slice_get_within}
use Rattle.pb_propagate.proofs.lemmas.root.Retracted.{all-next, listed-entries, IsOccurrence, occurrence-read, refreshed-then}
use Rattle.pb_propagate.proofs.store.refresh.refresh_all.Goals.{After-get-entry}
use Rattle.pb_propagate.proofs.store.refresh.refresh_all.Goals as goal

-- the entry that is read is one of the literal's
read : (c : After-get-entry) → IsOccurrence c.args.store.now c.args.literal (get_or c.args.store.now.occurrences c.place_of-place.result []) c.entries.j c.get-entry.result
read c = occurrence-read c.args.store.now c.args.literal c.place_of-place.result (get_or c.args.store.now.occurrences c.place_of-place.result []) c.entries.j c.get-entry.result c.requires.store c.requires.inside c.place_of-place.ensures.place refl (c.get-entry.ensures c.get-entry.result)
    (omega (arith, c.entries-test.true, c.count-j-end.ensures))

pub refresh-requires : goal.refresh-requires
refresh-requires c =
    let o = read (goal.at.refresh-requires c).After-get-entry in grind (arith, o.form, o.index, o.some)

pub entries-preserved : goal.entries-preserved
entries-preserved c =
    let v = (get_or c.args.store.now.occurrences c.place_of-place.result []) in
    let o = read (goal.at.entries-preserved c).After-get-entry in
    record {
      each = refreshed-then c.args.store.now c.args.root.now c.entries.root c.refresh.new.root c.entries.invariant.each c.refresh.ensures.each;
      all = all-next c.args.store.now c.args.literal v c.entries.root c.refresh.new.root c.entries.j c.get-entry.result o c.refresh.ensures.each c.refresh.ensures.form c.entries.invariant.all;
      opens =
          let form = c.get-entry.result.form in
          let read = c.get-opened.ensures 0 in
          c.refresh.ensures.opens ∙ ap (set c.entries.root.run.opens form) read ∙ set-get_or c.entries.root.run.opens form 0 ∙ c.entries.invariant.opens;
    }

pub returns-clause-all : goal.returns-clause-all
returns-clause-all c = λ j e at.
    let v = (get_or c.args.store.now.occurrences c.place_of-place.result []) in
    let same = listed-entries c.args.store.now c.args.literal c.place_of-place.result v c.requires.store c.requires.inside c.place_of-place.ensures.place refl in
    let inside = slice_get_within _ j e at in
    c.entries.invariant.all j e (omega (arith, inside, ap length same, length-map v (weighted (shapes_of c.args.store.now.stored.items)), c.entries-test.false, c.count-j-end.ensures)) at

pub get-opened-requires : goal.get-opened-requires
get-opened-requires c = omega (arith, (read (goal.at.get-opened-requires c).After-get-entry).form, c.entries.invariant.each.sized.opens)
