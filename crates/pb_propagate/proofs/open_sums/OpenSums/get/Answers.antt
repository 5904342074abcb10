use Rattle.std.proofs.Common.{◌∙◌}
use Rattle.pb_propagate.proofs.lemmas.OpenSums.{inside, read_narrow, read_wide}
use Rattle.pb_propagate.proofs.open_sums.OpenSums.get.Goals as goal

pub get-sum-requires : goal.get-sum-requires
get-sum-requires c = let s = c.self.inside in (inside s.narrow s.wide c.self.view_is c.self.invariant c.args.index c.requires).0

pub get-requires : goal.get-requires
get-requires c = let s = c.self.inside in (inside s.narrow s.wide c.self.view_is c.self.invariant c.args.index c.requires).1

pub returns-then-sum : goal.returns-then-sum
returns-then-sum c =
    let s = c.self.inside in
    read_wide s.narrow s.wide c.self.view_is c.self.invariant c.args.index c.get-sum.result c.get.result c.requires c.get-sum.ensures c.if-sum.true c.get.ensures

pub returns : goal.returns
returns c =
    let s = c.self.inside in
    λ d. c.from.ensures ∙ read_narrow s.narrow s.wide c.self.view_is c.self.invariant c.args.index c.get-sum.result c.requires c.get-sum.ensures c.if-sum.false d
