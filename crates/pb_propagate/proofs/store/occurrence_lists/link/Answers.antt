use Rattle.pb_propagate.proofs.{Common.stored_terms, Common.Occurrence}
use Rattle.pb_propagate.proofs.Common.{◌++◌, ◌<◌, ◌∙◌, ◌∷◌, ◌≡◌, [], ap, arith, get_or, length, length-append, length-set, Term, place}
use Rattle.pb_propagate.proofs.lemmas.store.Links.{longer-push, IsTerm, link-by}
use Rattle.pb_propagate.specs.engine.engine.Spots.{spots_in}
use Rattle.pb_propagate.proofs.store.occurrence_lists.link.Goals as goal

pub place_of-place-requires : goal.place_of-place-requires
place_of-place-requires c =
    let t = c.term-term.result in
    let inside = c.requires.inside c.terms.i t (omega (arith, c.terms-test.true, c.len-i-end.ensures)) in
    omega (arith, inside, ap (λ (x : Term). place x.literal) (c.term-term.ensures t), c.len.ensures)

pub push-requires : goal.push-requires
push-requires c = grind (arith, c.requires.inside, c.terms-test.true, c.len-i-end.ensures, c.term-term.ensures, c.place_of-place.ensures.place, c.terms.invariant.sizes)

pub terms-preserved : goal.terms-preserved
terms-preserved c =
    let ts = stored_terms c.args.kept.now in
    let t = c.term-term.result in let occ = c.terms.lists in let p = c.place_of-place.result in
    let at = c.place_of-place.ensures.place in
    let within : c.terms.i < length ts = omega (arith, c.terms-test.true, c.len-i-end.ensures) in
    let room : p < length occ = omega (arith, c.requires.inside c.terms.i t within, at, ap (λ (x : Term). place x.literal) (c.term-term.ensures t), c.terms.invariant.sizes) in
    let spot : c.in_ok-spot.spot ≡ length (get_or occ (place t.literal) []) = c.in_ok-spot.ensures.position ∙ ap (λ n. length (get_or occ n [])) at in
    let o : Occurrence = record { form = c.args.form; index = c.terms.i } in
    let pushed = rw c.in_ok-entry.ensures.ok at c.in_ok-spot.ensures.ok in
    record {
      sizes = ap length pushed ∙ (length-set occ p (get_or occ p [] ++ o ∷ []) ∙ c.terms.invariant.sizes);
      longer = λ q. omega (arith, c.terms.invariant.longer q, longer-push occ c.push.new.self p o room pushed q);
      count = omega (arith, ap length c.in_ok-add.ensures, length-append (spots_in c.terms.spots) (c.in_ok-spot.spot ∷ []), c.terms.invariant.count);
      linked = λ base rows inside same wide old.
          let x : IsTerm base c.args.form c.terms.i t = record { inside = inside; within = omega (arith, within, ap length same); is = rw same (c.term-term.ensures t) } in
          link-by x rows occ _ (spots_in c.terms.spots) (spots_in c.add.new.self) wide (omega (arith, room, at)) (rw (← at) pushed)
          (c.in_ok-add.ensures ∙ ap (λ n. spots_in c.terms.spots ++ (n ∷ [])) spot) c.terms.invariant.count (c.terms.invariant.linked base rows inside same wide old);
    }

pub returns-clause-linked : goal.returns-clause-linked
returns-clause-linked c = λ base rows inside same wide old.
    let all : c.terms.i ≡ length (stored_terms c.args.kept.now) = omega (arith, c.terms-test.false, c.terms.auto.i-end, c.len-i-end.ensures) in
    rw (← all) (c.terms.invariant.linked base rows inside same wide old)
