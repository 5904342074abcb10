use Rattle.pb_propagate.proofs.lemmas.clauses.Listed.{entry-watch, last-watch, list-long, removed-fewer}
use Rattle.pb_propagate.proofs.Common.{arith, entries_at, refl, ◌∙◌}
use Rattle.pb_propagate.proofs.clauses.lists.remove_entry.Goals as goal

pub returns-in-None-clause-none : goal.returns-in-None-clause-none
returns-in-None-clause-none c =
    rw c.in-None.is at c.swap_remove-removed.ensures.none ∙ list-long c.args.lists.now (entries_at c.args.lists.now c.args.literal) c.args.literal refl

pub returns-in-Some-clause-some : goal.returns-in-Some-clause-some
returns-in-Some-clause-some c =
    let end = rw c.in-Some.is at c.swap_remove-removed.ensures.some in
    last-watch c.args.lists.now c.args.literal c.args.index c.in-Some.entry end.0 (end.1 c.in-Some.entry)

pub returns-in-None-clause-fewer : goal.returns-in-None-clause-fewer
returns-in-None-clause-fewer c = rw c.swap_remove-removed.ensures.lists (removed-fewer c.args.lists.now c.args.literal c.args.index c.swap_remove-removed.result.item c.requires.literal)

pub returns-in-Some-clause-fewer : goal.returns-in-Some-clause-fewer
returns-in-Some-clause-fewer c = rw c.swap_remove-removed.ensures.lists (removed-fewer c.args.lists.now c.args.literal c.args.index c.swap_remove-removed.result.item c.requires.literal)

pub returns-in-None-clause-watch : goal.returns-in-None-clause-watch
returns-in-None-clause-watch c =
    let es = entries_at c.args.lists.now c.args.literal in let item = c.swap_remove-removed.result.item in
    entry-watch c.args.lists.now es c.args.literal c.args.index item refl (omega (arith, c.requires.index, list-long c.args.lists.now es c.args.literal refl)) (c.swap_remove-removed.ensures.item item)

pub returns-in-Some-clause-watch : goal.returns-in-Some-clause-watch
returns-in-Some-clause-watch c =
    let es = entries_at c.args.lists.now c.args.literal in let item = c.swap_remove-removed.result.item in
    entry-watch c.args.lists.now es c.args.literal c.args.index item refl (omega (arith, c.requires.index, list-long c.args.lists.now es c.args.literal refl)) (c.swap_remove-removed.ensures.item item)
