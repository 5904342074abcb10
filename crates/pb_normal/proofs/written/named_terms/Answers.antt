use Rattle.pb_normal.proofs.Common.{◌≡◌, arith, pos, to_z, fits_signed_from_abs, to_z_pos, w128}
use Rattle.pb_normal.proofs.lemmas.{names.WrittenForms.terms_push, terms.Merging.total-read, terms.Merging.no_entry}
use Rattle.pb_normal.proofs.written.named_terms.Goals as goal

pub overflow_cast-t : goal.overflow_cast-t
overflow_cast-t c =
    let one = total-read c.args.terms.now c.terms.i no_entry _ (omega arith) (c.get-t.ensures.read no_entry) in
    fits_signed_from_abs _ _ (omega (arith, c.requires.small))

pub terms-preserved : goal.terms-preserved
terms-preserved c =
    let t = c.get-t.result in
    let one = total-read c.args.terms.now c.terms.i no_entry t (omega arith) (c.get-t.ensures.read no_entry) in
    let cast : to_z w128 t.coefficient ≡ pos t.coefficient = to_z_pos w128 _ (omega (arith, c.requires.small)) in
    rw (c.in_ok-push.ensures.items, cast, c.in_ok-name.ensures.text, c.get-t.ensures.read no_entry) (terms_push c.args.names.now c.args.terms.now c.terms.i no_entry c.terms.out.items c.text_of.result.now (omega arith) (rw (c.get-t.ensures.read no_entry) at c.text_of.ensures) c.terms.invariant)

pub text_of-requires : goal.text_of-requires
text_of-requires c = rw (c.get-t.ensures.read no_entry) (c.requires.named c.terms.i no_entry (omega arith))
