use Rattle.pb_propagate.{proofs.Common.◌≡◌, proofs.Common.arith, proofs.Common.nat_tests, proofs.Common.◌%◌, specs.engine.clauses.Truths.flip}
use Rattle.std.{proofs.lemmas.Nat.and_mask, specs.Int.Bits.bit_and, specs.Int.Bits.xor_add_and}
use Rattle.pb_propagate.proofs.clause.opposite.Goals as goal

pub returns : goal.returns
unfolding flip
returns c =
    let last : bit_and c.args.code 1 ≡ c.args.code % 2 = and_mask c.args.code 1 in grind (arith, nat_tests, last, xor_add_and c.args.code 1)
