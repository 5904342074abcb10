use Rattle.pb_replay.proofs.Common.{refl, names_of}
use Rattle.pb_replay.proofs.lemmas.rules.Loading.{made-named, made-ok, ok-made}
use Rattle.pb_replay.proofs.loading.forms.FormsSoFar.number.Goals as goal

pub returns-in-Ok-number_names-clause-made : goal.returns-in-Ok-number_names-clause-made
returns-in-Ok-number_names-clause-made c = λ named cs made.
    let kept = made-ok named cs c.args.self.now c.in-Ok.is made in
    ok-made _ cs _ c.in-Ok.is (made-named named cs c.args.self.now _ kept refl (names_of c.args.terms.now) c.in-Ok-number_names.ensures.names refl)
