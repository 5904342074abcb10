use Rattle.pb_propagate.proofs.Common.{◌*◌, ◌+◌, ◌∙◌, ◌≡◌, ap, arith, refl, slice_get, slice_get_within, Some, sym, true, Contents, list_at, watch_at}
use Rattle.pb_propagate.proofs.Common.{watch_lists}
use Rattle.pb_propagate.proofs.clauses.Clauses.remove_clause.Goals.{After-spot-spot, After-take_out, After-spot-spot-2}
use Rattle.pb_propagate.proofs.lemmas.clauses.{Listed.list-within, Listed.lists-length, Stores.slot-room, Stores.slot-sits, Stores.rest-cleared}
use Rattle.pb_propagate.proofs.clauses.Clauses.remove_clause.Goals as goal

-- the two watches stand in their lists: the first, and the second once the first is taken out
first : (c : After-spot-spot) → slice_get (list_at (watch_lists c.args.self.now.lists) c.watched-first.result) c.spot-spot.result ≡ Some (2 * c.args.slot)
first c =
    let st = c.requires.rest.stored in
    st.linked.sits _ _ _ (record { live = st.full c.args.slot c.requires.some; literal = sym c.watched-first.ensures; spot = sym c.spot-spot.ensures })

second-live : (c : After-take_out) → (watch_at c.take_out.new.blocks.watches (2 * c.args.slot + 1)).live ≡ true
second-live c =
    let st = c.requires.rest.stored in
    let item = st.linked.sits _ _ _ (record { live = st.full c.args.slot c.requires.some; literal = sym c.watched-first.ensures; spot = sym c.spot-spot.ensures }) in
    (c.take_out.ensures.remain (2 * c.args.slot) (2 * c.args.slot + 1) item (λ h. absurd (omega (arith, h)))).live
    ∙ slot-sits _ c.args.self.now.blocks.watches _ c.args.slot _ st c.requires.some (omega arith)

second : (c : After-spot-spot-2) → (watch_at c.take_out.new.blocks.watches (2 * c.args.slot + 1)).live ≡ true →
    slice_get (list_at (watch_lists c.take_out.new.lists) c.watched-second.result) c.spot-spot-2.result ≡ Some (2 * c.args.slot + 1)
second c live = c.take_out.ensures.linked.sits _ _ _ (record { live = live; literal = sym c.watched-second.ensures; spot = sym c.spot-spot-2.ensures })

pub take_out-requires : goal.take_out-requires
take_out-requires c = grind (arith, first (goal.at.take_out-requires c).After-spot-spot, slice_get_within, list-within, lists-length)

pub watched-second-requires : goal.watched-second-requires
watched-second-requires c = second-live (goal.at.watched-second-requires c).After-take_out

pub spot-spot-requires-2 : goal.spot-spot-requires-2
spot-spot-requires-2 c = second-live (goal.at.spot-spot-requires-2 c).After-take_out

pub take_out-requires-2 : goal.take_out-requires-2
take_out-requires-2 c =
    let at = goal.at.take_out-requires-2 c in
    let item = second at.After-spot-spot-2 (second-live at.After-take_out) in
    let inside = list-within (watch_lists c.take_out.new.lists) c.watched-second.result c.spot-spot-2.result (2 * c.args.slot + 1) item in
    record { literal = omega (arith, inside, lists-length c.take_out.new.lists); index = slice_get_within _ _ _ item; linked = c.take_out.ensures.linked }

pub returns-clause-literals : goal.returns-clause-literals
returns-clause-literals c = rw (c.clear.ensures, c.take_out-2.ensures.kept, c.take_out.ensures.kept) refl

pub returns-clause-watches : goal.returns-clause-watches
returns-clause-watches c =
    let at = goal.at.returns-clause-watches c in
    let one = first at.After-spot-spot in
    let two = second at.After-spot-spot-2 (second-live at.After-take_out) in
    λ k n. grind (arith, c.clear.ensures, c.take_out.ensures.remain (2 * c.args.slot) k one, c.take_out-2.ensures.remain (2 * c.args.slot + 1) k two, n)

pub returns-clause-rest : goal.returns-clause-rest
returns-clause-rest c =
    let at = goal.at.returns-clause-rest c in
    let item = second at.After-spot-spot-2 (second-live at.After-take_out) in
    let dead_1 = (c.take_out-2.ensures.remain _ (2 * c.args.slot) item (λ h. absurd (omega (arith, h)))).live ∙ c.take_out.ensures.taken _ (first at.After-spot-spot) in
    let same = ap (λ (x : Contents). x.watches) c.clear.ensures in
    rest-cleared c.requires.rest (slot-room _ c.args.slot c.requires.some) (returns-clause-literals c)
    (rw (c.clear.ensures, c.take_out-2.ensures.kept, c.take_out.ensures.kept) refl) (rw same c.take_out-2.ensures.linked)
    (rw same (c.take_out-2.ensures.sizes.0 ∙ c.take_out.ensures.sizes.0)) (c.take_out-2.ensures.sizes.1 ∙ c.take_out.ensures.sizes.1)
    (rw same dead_1) (rw same (c.take_out-2.ensures.taken _ item)) (λ x there. c.take_out.ensures.fewer x (c.take_out-2.ensures.fewer x there)) (returns-clause-watches c)
