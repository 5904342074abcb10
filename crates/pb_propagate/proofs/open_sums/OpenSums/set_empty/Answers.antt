use Rattle.std.proofs.Common.{arith}
use Rattle.pb_propagate.proofs.lemmas.OpenSums.{inside, written_narrow}
use Rattle.pb_propagate.proofs.open_sums.OpenSums.set_empty.Goals as goal

pub set_empty-requires : goal.set_empty-requires
set_empty-requires c = let s = c.self.inside in (inside s.narrow s.wide c.self.view_is c.self.invariant c.args.index c.requires).0

pub returns : goal.returns
returns c =
    let s = c.self.inside in
    written_narrow s.narrow s.wide c.self.view_is c.self.invariant c.args.index 0 c.set_empty.ensures (λ there. omega (arith, there))
