use Rattle.pb_propagate.proofs.{Common.ap, Common.arith, Common.NumberedLiteral, lemmas.root.Retracted.some-released}
use Rattle.pb_propagate.proofs.clauses.reasons.release_by_codes.Goals as goal

pub release_literal-requires : goal.release_literal-requires
release_literal-requires c =
    let all = c.requires.inside c.literals.i 0 c.literals-test.true in
    record {
      sound = c.requires.sound;
      rooted = some-released c.requires.rooted c.literals.invariant.released;
      inside = omega (arith, all, ap (λ (l : NumberedLiteral). l.variable) c.literal_of.ensures);
    }
