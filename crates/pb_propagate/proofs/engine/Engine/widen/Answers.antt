use Rattle.pb_propagate.proofs.Common.{◌∙◌, ◌∷◌, ◌≡◌, [], ap, arith, length, length-append, refl, all_of, clauses_of, shapes_of, spots_of, Standing}
use Rattle.pb_propagate.proofs.lemmas.{engine.Rests.widened-stored, engine.Rests.half, root.Ready.rooted-again}
use Rattle.pb_propagate.proofs.lemmas.store.Links.{entries-length}
use Rattle.pb_propagate.proofs.engine.Engine.widen.Goals as goal

pub invariant_of-self-2 : goal.invariant_of-self-2
invariant_of-self-2 c = λ ready.
    let e = c.self.inside in
    let both = c.self.invariant (ap (λ (v : Standing). v.spent) c.self.view_is ∙ c.requires.ready) in
    let r = both.0 in let occ = e.store.occurrences in
    let lit : clauses_of c.widen.new.self ≡ clauses_of e.clauses = c.widen.ensures.literals in
    let watches = c.widen.ensures.watches in
    let count = half c.len-2.result (length c.add-2.new.self) e.store.variables c.len-2.ensures (omega (arith, ap length c.add.ensures, ap length c.add-2.ensures, length-append occ ([] ∷ []), length-append c.add.new.self ([] ∷ []), entries-length (shapes_of e.store.stored.items) occ, r.sound.places)) in
    let sound = widened-stored (shapes_of e.store.stored.items) (spots_of e.store.spots) occ c.add.new.self c.add-2.new.self e.store.variables _ c.add.ensures c.add-2.ensures count r.sound in (
      grind (arith, sound, lit, r.slots, r.joined, c.in_ok-widen.ensures, r.widths, count, r.known),
      both.1,
      rooted-again both.2 refl (omega (arith, c.in_ok-widen-2.ensures.values, both.2.values, count)) both.2.opens both.2.starts c.widen-2.ensures.list both.2.work
          both.2.trail both.2.next c.in_ok-widen-2.ensures.reasons lit (record { now = rw (lit, watches) both.2.walks.now; marks = rw (lit, watches) both.2.walks.marks; level = both.2.walks.level }),
      rw (lit, count) (c.in_ok-widen-3.ensures (all_of e.store e.clauses) e.store.variables both.3),
    )
