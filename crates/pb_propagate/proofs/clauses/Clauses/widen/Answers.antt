use Rattle.pb_propagate.proofs.Common.{◌∙◌, ap, arith, length, length-append, Listed, List, refl}
use Rattle.pb_propagate.proofs.lemmas.clauses.Stores.{lists-push, rest-same}
use Rattle.pb_propagate.proofs.clauses.Clauses.widen.Goals as goal

pub returns-clause-rest : goal.returns-clause-rest
returns-clause-rest c =
    let r = c.requires.rest in let one = c.add.ensures in let two = c.add-2.ensures in let three = c.add-3.ensures in let four = c.add-4.ensures in
    rest-same c.args.self.now (record { blocks = c.args.self.now.blocks; lists = c.add-4.new.self }) r (λ s. refl) (λ e. refl)
    (λ l. lists-push _ four l ∙ (lists-push _ three l ∙ (lists-push _ two l ∙ lists-push _ one l))) (λ s. refl) r.stored.pairs
    (omega (arith, ap length one, ap length two, ap length three, ap length four, length-append {A = List Listed})) r.sizes
