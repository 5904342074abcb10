use Rattle.pb_propagate.proofs.{lemmas.store.Positions.positioned-last, waiting.Waiting.take.Goals.After-get-position}
use Rattle.pb_propagate.proofs.Common.{◌-◌, ◌<◌, ◌≡◌, arith, length, slice_get, slice_get_within, Some}
use Rattle.pb_propagate.proofs.lemmas.store.{Gets.swap-length, Positions.position-inside, Positions.position-got, Positions.taken-is, Positions.moved-last}
use Rattle.pb_propagate.proofs.waiting.Waiting.take.Goals as goal

pub get-position-requires : goal.get-position-requires
get-position-requires c =
    let me = c.args.self.now in
    omega (arith, position-inside me.list.items me.positions c.args.form c.requires.there me.positioned)

-- the form is at its position
found : (c : After-get-position) → slice_get c.args.self.now.list.items c.get-position.result ≡ Some c.args.form
found c =
    let me = c.args.self.now in
    position-got me.list.items me.positions c.args.form c.get-position.result c.requires.there me.positioned (c.get-position.ensures c.get-position.result)

pub swap_remove-requires : goal.swap_remove-requires
swap_remove-requires c =
    let inside : c.get-position.result < length c.args.self.now.list.items = slice_get_within _ _ _ (found (goal.at.swap_remove-requires c).After-get-position) in
    omega (arith, inside, c.args.self.now.list.ok.0)

pub invariant_of-self : goal.invariant_of-self
invariant_of-self c =
    let me = c.args.self.now in
    let inside = slice_get_within _ _ _ (found (goal.at.invariant_of-self c).After-get-position) in
    let size = swap-length me.list.items c.get-position.result c.swap_remove.result inside in
    grind (arith, inside, size, positioned-last, c.swap_remove.ensures.items, c.len.ensures, c.swap_remove.new.self.ok.0, c.if-position-len.true, me.positioned, me.room, c.swap_remove.ensures.capacity)

pub returns-then-position-len-clause-list : goal.returns-then-position-len-clause-list
returns-then-position-len-clause-list c =
    let got = found (goal.at.returns-then-position-len-clause-list c).After-get-position in
    (c.get-position.result, got, grind (arith, taken-is, got))

pub set-requires : goal.set-requires
set-requires c =
    let me = c.args.self.now in let now = c.swap_remove.new.self in let m = c.index-moved.result.now in
    let inside : c.get-position.result < length me.list.items = slice_get_within _ _ _ (found (goal.at.set-requires c).After-get-position) in
    let more : c.get-position.result < length now.items = omega (arith, c.len.ensures, now.ok.0, c.if-position-len.false) in
    let last = moved-last me.list.items now.items c.get-position.result c.swap_remove.result m inside c.swap_remove.ensures.items more c.index-moved.ensures in
    omega (arith, slice_get_within me.positions m (length me.list.items - 1) (me.positioned (length me.list.items - 1) m last.1))

pub returns-clause-list : goal.returns-clause-list
returns-clause-list c =
    let got = found (goal.at.returns-clause-list c).After-get-position in (c.get-position.result, got, grind (arith, taken-is, got))
