use Rattle.pb_propagate.proofs.Common.{refl}
use Rattle.pb_propagate.proofs.lemmas.root.Retracted.{released-then, replaced-released, shortened-released, some-released, some-sized}
use Rattle.pb_propagate.proofs.engine.root.Root.release_literal.Goals as goal

pub withdraw-requires : goal.withdraw-requires
withdraw-requires c =
    let mid = replaced-released c.args.store.now c.args.slot c.args.self.now _ c.replace_reason.new.assignment refl (some-sized c.args.store.now c.args.self.now c.requires.rooted) c.replace_reason.ensures.reasons in
    record { sound = c.requires.sound; rooted = some-released c.requires.rooted mid; inside = c.requires.inside }

pub returns-clause-released : goal.returns-clause-released
returns-clause-released c =
    let mid = replaced-released c.args.store.now c.args.slot c.args.self.now _ c.replace_reason.new.assignment refl (some-sized c.args.store.now c.args.self.now c.requires.rooted) c.replace_reason.ensures.reasons in
    released-then mid (shortened-released c.args.store.now c.args.slot _ c.withdraw.new.self c.withdraw.ensures.shortened)
