use Rattle.std.proofs.Common.{◌≡◌, ◌<◌, ap, arith, length, sum_by, take, take_all}
use Rattle.std.specs.Vec.{vec_capacity}
use Rattle.std.proofs.lemmas.List.Sums.{sum_by_more}
use Rattle.pb_normal.proofs.memory.Memory.trim.Goals as goal

pub lists-init : goal.lists-init
lists-init c = omega arith

pub lists-preserved : goal.lists-preserved
lists-preserved c =
    let xs = c.self.inside.lists.items in let x = c.index.result.now in
    let inside : c.lists.i < length xs = omega (arith, c.lists-test.true, c.len-i-end.ensures, c.self.inside.lists.ok.0) in
    omega (arith, sum_by_more vec_capacity xs c.lists.i x inside, ap vec_capacity c.index.ensures, c.capacity.ensures, c.saturating_add-room.ensures, c.lists.invariant)

pub returns-then-room-gt-KEPT-clause-few : goal.returns-then-room-gt-KEPT-clause-few
returns-then-room-gt-KEPT-clause-few c = λ few.
    let xs = c.self.inside.lists.items in
    let all : take c.lists.i xs ≡ xs = take_all c.lists.i xs (omega (arith, c.lists-test.false, c.len-i-end.ensures, c.self.inside.lists.ok.0)) in
    absurd (omega (arith, few, c.self.view_is, ap (sum_by vec_capacity) all, c.lists.invariant, c.if-room-gt-KEPT.true))

pub returns-else-room-gt-KEPT-clause-most : goal.returns-else-room-gt-KEPT-clause-most
returns-else-room-gt-KEPT-clause-most c =
    let xs = c.self.inside.lists.items in
    let all : take c.lists.i xs ≡ xs = take_all c.lists.i xs (omega (arith, c.lists-test.false, c.len-i-end.ensures, c.self.inside.lists.ok.0)) in
    omega (arith, c.self.view_is, ap (sum_by vec_capacity) all, c.lists.invariant, c.if-room-gt-KEPT.false)
