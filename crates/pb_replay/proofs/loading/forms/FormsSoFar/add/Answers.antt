use Rattle.pb_normal.proofs.lemmas.names.Appearing.{named}
use Rattle.pb_replay.proofs.Common.{◌∙◌, ap, HasNames, largest, Limits, names_of, refl}
use Rattle.pb_replay.proofs.lemmas.rules.{Loading.fit-last, Loading.made-added, Loading.made-ok, Loading.ok-made, Loading.unmade-more, Loading.unmade-now, Steps.fits_of}
use Rattle.std.proofs.lemmas.Bool.{false≢true}
use Rattle.pb_replay.proofs.loading.forms.FormsSoFar.add.Goals as goal

pub returns-in-Ok-add_sides-clause-made : goal.returns-in-Ok-add_sides-clause-made
returns-in-Ok-add_sides-clause-made c = λ seen cs made.
    let old = c.args.self.now in let new = c.add_sides.new.self in let names = names_of c.args.constraint.now.terms in
    let kept = made-ok seen cs old c.in-Ok.is made in
    let fits = fits_of _ _ _ _ c.in-Ok-add_sides.is c.add_sides.ensures.overflow in
    let has : HasNames new.names names = rw c.in-Ok-add_sides.ensures.names (named old.names names) in
    ok-made _ _ new (c.add_sides.ensures.made ∙ c.in-Ok.is) (made-added seen cs old new kept c.add_sides.ensures.limits c.args.constraint.now fits has c.in-Ok-add_sides.ensures.names c.in-Ok-add_sides.ensures.forms)

pub returns-in-Err-add_sides-clause-made : goal.returns-in-Err-add_sides-clause-made
returns-in-Err-add_sides-clause-made c = λ seen cs made.
    let kept = made-ok seen cs c.args.self.now c.in-Ok.is made in
    rw c.into.ensures (unmade-now c.add_sides.result _ _ cs c.args.constraint.now _ _ c.in-Err-add_sides.is (ap (λ (l : Limits). largest l) c.add_sides.ensures.limits) c.add_sides.ensures.overflow kept.fit)

pub returns-then-not-fits-clause-made : goal.returns-then-not-fits-clause-made
returns-then-not-fits-clause-made c = λ seen cs made all. false≢true (c.if-not-fits.ensures.1 (fit-last _ cs c.args.constraint.now all))

pub returns-else-not-fits-clause-made : goal.returns-else-not-fits-clause-made
returns-else-not-fits-clause-made c = λ seen cs made.
    unmade-more c.args.self.now.made seen _ cs c.args.constraint.now c.args.self.now (λ h. cc (h, c.in-Err.is)) made (c.if-not-fits.ensures.0 refl)
