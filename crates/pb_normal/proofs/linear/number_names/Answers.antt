use Rattle.pb_normal.proofs.Common.{◌∙◌, ap, arith, sym, take-map, with_names, AfterPrefix, names_of, Term}
use Rattle.pb_normal.proofs.lemmas.names.Numbering.{names-read, OnErr-always}
use Rattle.pb_normal.proofs.linear.number_names.Goals as goal

pub loop-term-preserved : goal.loop-term-preserved
loop-term-preserved c =
    names-read c.args.names.now _ _ c.args.terms.now c.loop-term.term-index c.term-item.result (omega arith) c.term-item.is c.loop-term.invariant (rw c.as_str.ensures at c.in_ok-number.ensures.names)

pub returns-in_err-number-clause-err : goal.returns-in_err-number-clause-err
returns-in_err-number-clause-err c =
    let same = c.in_err-number.ensures.err ∙ c.loop-term.invariant ∙ ap (with_names c.args.names.now) (sym (take-map (λ (t : Term). t.literal.name) c.loop-term.term-index c.args.terms.now)) in
    let after : AfterPrefix c.args.names.now (names_of c.args.terms.now) c.number.new.self = (c.loop-term.term-index, same) in
    OnErr-always _ _ after
