use Rattle.pb_propagate.proofs.Common.{stored_terms, ◌∷◌, ◌≡◌, [], ap, arith, get_or, length, List, sym}
use Rattle.pb_propagate.proofs.store.units.only_literal.Goals as goal

single : {X : Type 0} (xs : List X) (x : X) → length xs ≡ 1 → x ≡ get_or xs 0 x → xs ≡ x ∷ []
single [] x one is = absurd (omega (arith, one))
single (y ∷ []) x one is = ap (λ z. z ∷ []) (sym is)
single (y ∷ z ∷ zs) x one is = absurd (omega (arith, one))

pub returns-clause-some : goal.returns-clause-some
returns-clause-some c =
    let t = c.term.result in
    (t.coefficient, single (stored_terms c.args.kept.now) t (omega (arith, c.len.ensures, c.if-len-ne1.false)) (c.term.ensures t))
