use Rattle.pb_normal.proofs.Common.{◌∙◌, ◌≡◌, ap, arith, false, get_or, List, sym, Entry, ext_get_or}
use Rattle.pb_normal.proofs.lemmas.terms.Merging.{no_entry}
use Rattle.pb_normal.proofs.terms.Terms.is_same.Goals as goal

pub returns-then-not-are_same-clause-no : goal.returns-then-not-are_same-clause-no
returns-then-not-are_same-clause-no c = λ _ e.
    let differ : c.are_same.result ≡ false = cc in
    c.are_same.ensures.no differ (c.get-left.ensures.read no_entry ∙ ap (λ (xs : List Entry). get_or xs c.terms.i no_entry) e ∙ sym (c.get-right.ensures.read no_entry))

pub returns-clause-yes : goal.returns-clause-yes
returns-clause-yes c = λ _.
    ext_get_or no_entry c.args.self.now c.args.other.now c.terms.invariant.0
    (λ k lt. c.terms.invariant.1 k no_entry (omega (arith, lt, c.terms-test.false, c.len-i-end.ensures.length)))
