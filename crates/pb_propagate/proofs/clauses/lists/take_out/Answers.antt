use Rattle.pb_propagate.proofs.Common.{◌+◌, ◌-◌, ◌≡◌, arith, get_or-set_other, length, list_at, refl, watch_lists}
use Rattle.pb_propagate.proofs.clauses.lists.take_out.Goals.{After-idle, After-place}
use Rattle.pb_propagate.proofs.lemmas.clauses.Listed.{IsTakenOut, moved-apart, taken-last, taken-moved}
use Rattle.pb_propagate.proofs.clauses.lists.take_out.Goals as goal

pub place-requires-clause-live : goal.place-requires-clause-live
place-requires-clause-live c =
    let of = c.remove_entry-removed.ensures in
    let reported = rw c.in-Some.is at of.some in
    let apart = moved-apart c.args.literal c.args.index c.requires.linked of.watch of.lists reported.0 reported.1 in
    let sits = c.requires.linked.named c.in-Some.moved c.args.literal (length (list_at (watch_lists c.args.lists.now) c.args.literal) - 1) reported.1 in
    grind (arith, get_or-set_other, apart, sits)

-- another watch has moved to the position of the removed one, or none has
moved : (c : After-place) → IsTakenOut c.args.blocks.now.watches c.place.new.self.watches (watch_lists c.args.lists.now) (watch_lists c.remove_entry-removed.new.lists) c.args.literal c.args.index
moved c =
    let of = c.remove_entry-removed.ensures in
    let reported = rw c.in-Some.is at of.some in
    taken-moved c.args.literal c.args.index c.requires.linked of.watch of.lists reported.0 reported.1 (rw (c.place.ensures, c.idle.ensures) refl)

last : (c : After-idle) → c.args.index + 1 ≡ length (list_at (watch_lists c.args.lists.now) c.args.literal) → IsTakenOut c.args.blocks.now.watches c.idle.new.self.watches (watch_lists c.args.lists.now) (watch_lists c.remove_entry-removed.new.lists) c.args.literal c.args.index
last c end =
    let of = c.remove_entry-removed.ensures in
    taken-last c.args.literal c.args.index c.requires.linked of.watch of.lists end (rw c.idle.ensures refl)

pub returns-in-Some-clause-linked : goal.returns-in-Some-clause-linked
returns-in-Some-clause-linked c = (moved (goal.at.returns-in-Some-clause-linked c).After-place).linked

pub returns-in-Some-clause-taken : goal.returns-in-Some-clause-taken
returns-in-Some-clause-taken c = (moved (goal.at.returns-in-Some-clause-taken c).After-place).taken

pub returns-in-Some-clause-remain : goal.returns-in-Some-clause-remain
returns-in-Some-clause-remain c = (moved (goal.at.returns-in-Some-clause-remain c).After-place).remain

pub returns-in_default-clause-linked : goal.returns-in_default-clause-linked
returns-in_default-clause-linked c = (last (goal.at.returns-in_default-clause-linked c).After-idle (rw c.in_default.is at c.remove_entry-removed.ensures.none)).linked

pub returns-in_default-clause-taken : goal.returns-in_default-clause-taken
returns-in_default-clause-taken c = (last (goal.at.returns-in_default-clause-taken c).After-idle (rw c.in_default.is at c.remove_entry-removed.ensures.none)).taken

pub returns-in_default-clause-remain : goal.returns-in_default-clause-remain
returns-in_default-clause-remain c = (last (goal.at.returns-in_default-clause-remain c).After-idle (rw c.in_default.is at c.remove_entry-removed.ensures.none)).remain
