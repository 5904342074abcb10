use Rattle.std.proofs.Common.{arith}
use Rattle.pb_propagate.proofs.lemmas.OpenSums.{inside, written_narrow, written_wide}
use Rattle.pb_propagate.proofs.open_sums.OpenSums.set.Goals as goal

pub set-requires : goal.set-requires
set-requires c = let s = c.self.inside in (inside s.narrow s.wide c.self.view_is c.self.invariant c.args.index c.requires).0

pub set-requires-then-sum-from : goal.set-requires-then-sum-from
set-requires-then-sum-from c = let s = c.self.inside in (inside s.narrow s.wide c.self.view_is c.self.invariant c.args.index c.requires).1

pub returns-then-sum-from : goal.returns-then-sum-from
returns-then-sum-from c =
    let s = c.self.inside in
    written_wide s.narrow s.wide c.self.view_is c.self.invariant c.args.index c.args.sum c.set.ensures c.set-then-sum-from.ensures

pub set-requires-2 : goal.set-requires-2
set-requires-2 c = let s = c.self.inside in (inside s.narrow s.wide c.self.view_is c.self.invariant c.args.index c.requires).0

pub returns : goal.returns
returns c =
    let s = c.self.inside in
    written_narrow s.narrow s.wide c.self.view_is c.self.invariant c.args.index c.args.sum c.set-2.ensures (λ there. omega (arith, there, c.if-sum-from.false, c.from.ensures))
