use Rattle.pb_normal.proofs.Common.{◌≡◌, arith, pos, to_z, fits_signed_from_abs, ints, to_z_pos, take-append-drop, slice_get-get_or, w128}
use Rattle.pb_normal.proofs.lemmas.terms.Merging.{total-read, positive-read}
use Rattle.pb_normal.proofs.form.Normal.term.Goals as goal

pub overflow_cast-result : goal.overflow_cast-result
overflow_cast-result c =
    let read = rw c.terms.ensures.terms at (c.get-t.ensures.read c.get-t.result) in
    let one = total-read c.args.self.now.terms c.args.index c.get-t.result c.get-t.result c.requires read in
    fits_signed_from_abs _ _ (omega (arith, one, c.terms.ensures.normal.size_in))

pub returns : goal.returns
returns c =
    let t = c.get-t.result in
    let terms = c.args.self.now.terms in
    let read = rw c.terms.ensures.terms at (c.get-t.ensures.read t) in
    let normal = c.terms.ensures.normal in
    let same : to_z w128 t.coefficient ≡ pos t.coefficient = to_z_pos w128 _ (omega (arith, normal.size_in, total-read terms c.args.index t t c.requires read)) in
    let ordered = rw (← take-append-drop c.args.index terms) at normal.ordered in
    let found = rw (← read) at (slice_get-get_or terms c.args.index t c.requires) in
    rw same record {
      is = found;
      positive = omega (arith, ints, positive-read 0 _ terms c.args.index t t ordered c.requires read);
    }
