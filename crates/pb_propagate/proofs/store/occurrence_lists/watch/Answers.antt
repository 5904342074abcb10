use Rattle.pb_propagate.proofs.Common.{ℕ, ◌<◌, length, List, subst, sym, All, group_by}
use Rattle.pb_propagate.proofs.lemmas.clauses.Shapes.{codes-inside}
use Rattle.pb_propagate.proofs.store.occurrence_lists.watch.Goals as goal

pub fill-requires-clause-inside : goal.fill-requires-clause-inside
fill-requires-clause-inside c =
    subst (λ (xs : List ℕ). All (λ x. x < length c.args.clauses.now.lists) xs) (sym c.requires.codes) (codes-inside (group_by (length c.args.form.terms)) c.args.form.terms c.args.store.now.variables (length c.args.clauses.now.lists) c.requires.widths c.requires.inside)
