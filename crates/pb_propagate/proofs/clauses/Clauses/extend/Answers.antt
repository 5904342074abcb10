use Rattle.pb_propagate.proofs.Common.{List, Watch, arith, length-append, refl, Search, ℕ}
use Rattle.pb_propagate.proofs.lemmas.{clauses.Stores.rest-same, store.Gets.push-default}
use Rattle.pb_propagate.proofs.clauses.Clauses.extend.Goals as goal

pub returns-clause-rest : goal.returns-clause-rest
returns-clause-rest c =
    let e = c.in_ok-extend.ensures in let r = c.requires.rest in
    rest-same c.args.self.now (record { blocks = c.extend.new.self; lists = c.args.self.now.lists }) r (λ s. rw (e.literals, push-default) refl)
    (λ k. rw (e.watches, push-default, push-default) refl) (λ l. refl) (λ s. rw (e.searches, push-default) refl)
    (rw (e.watches, e.literals) (omega (arith, r.stored.pairs, length-append {A = Watch}, length-append {A = List ℕ})))
    (omega arith) (rw (e.searches, e.literals) (omega (arith, r.sizes, length-append {A = Search}, length-append {A = List ℕ})))
