use Rattle.pb_proof.{proofs.Common.ap, proofs.Common.largest, proofs.Common.top_of, proofs.lemmas.conclusion.Numbers.bound_below, specs.engine.line.Conclusion.number}
use Rattle.pb_proof.proofs.line.conclusion.Concluding.with_word.Goals as goal

pub bound_of-requires : goal.bound_of-requires
bound_of-requires c =
    bound_below c.args.limits c.args.self c.args.word (λ sign. ap (λ x. number (largest c.args.limits) (top_of c.args.limits) x sign) c.in-Bounded.is) c.requires

pub bound_of-requires-in-Lower : goal.bound_of-requires-in-Lower
bound_of-requires-in-Lower c =
    bound_below c.args.limits c.args.self c.args.word (λ sign. ap (λ x. number (largest c.args.limits) (top_of c.args.limits) x sign) c.in-Lower.is) c.requires
