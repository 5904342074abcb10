use Rattle.pb_normal.proofs.Common.{◌∙◌, ap, arith, length, length-map, List, Entry, with_coefficient}
use Rattle.pb_normal.proofs.lemmas.terms.Counts.{total-units, IsCountOf-ones, IsNormal-ones}
use Rattle.pb_normal.proofs.form.Normal.from_literals.Goals as goal

pub collected-requires : goal.collected-requires
collected-requires c = rw (c.as_mut_slice.ensures.value, c.in_ok-raw.ensures, total-units) (omega arith)

pub of-requires : goal.of-requires
of-requires c =
    let long = ap (λ (xs : List Entry). length xs) c.in_ok-counted.ensures ∙ length-map c.in_ok-once.once (λ (t : Entry). with_coefficient t 1) in
    record { normal = rw (c.in_ok-terms.ensures.same, c.wide.ensures.same) (IsNormal-ones _ _ _ c.in_ok-once.ensures.rising c.in_ok-counted.ensures (omega (arith, long, c.in_ok-counted.counted.ok.0)) c.requires.small) }

pub returns-clause-normal : goal.returns-clause-normal
returns-clause-normal c =
    let long = ap (λ (xs : List Entry). length xs) c.in_ok-counted.ensures ∙ length-map c.in_ok-once.once (λ (t : Entry). with_coefficient t 1) in
    rw (c.in_ok-form.ensures.same, c.in_ok-terms.ensures.same, c.wide.ensures.same) (IsNormal-ones _ _ _ c.in_ok-once.ensures.rising c.in_ok-counted.ensures (omega (arith, long, c.in_ok-counted.counted.ok.0)) c.requires.small)

pub returns-clause-count : goal.returns-clause-count
returns-clause-count c =
    rw (c.in_ok-form.ensures.same, c.in_ok-terms.ensures.same, c.wide.ensures.same) (IsCountOf-ones _ _ _ _ _ c.requires.apart c.in_ok-once.ensures.rising (rw (c.as_mut_slice.ensures.value, c.in_ok-raw.ensures) at c.in_ok-once.ensures.adds) c.in_ok-counted.ensures)
