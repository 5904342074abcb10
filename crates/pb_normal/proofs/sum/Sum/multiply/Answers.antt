use Rattle.pb_normal.proofs.{Common.◌<◌, Common.rules, Common.kind_form, lemmas.rules.Scales.IsNormal-multiplied, lemmas.rules.Scales.IsWithin-multiplied}
use Rattle.pb_normal.proofs.sum.Sum.multiply.Goals as goal

pub scaled-requires : goal.scaled-requires
scaled-requires c =
    let h : 0 < c.unsigned_abs-k.result = search rules in
    let within = IsWithin-multiplied c.largest.result c.unsigned_abs-k.result (kind_form c.self.inside.kind) (rw c.size.ensures.size at c.if-size-most.false) (rw c.degree.ensures.degree at c.if-degree-most.false) in
    record { fits = rw (← c.self.view_is) (IsNormal-multiplied c.largest.result c.unsigned_abs-k.result _ h c.largest.ensures.room c.size.ensures.normal within) }
