use Rattle.pb_propagate.proofs.{Common.◌/◌, Common.◌∙◌, Common.HasTrue, Common.rules, Common.sym, lemmas.clauses.Visited.running-small}
use Rattle.pb_propagate.proofs.Common.{◌≡◌, arith, length, list_at, watch_lists}
use Rattle.std.proofs.lemmas.Option.{slice_get_past}
use Rattle.pb_propagate.proofs.lemmas.clauses.{Listed.list-long, Walks.served-true}
use Rattle.pb_propagate.proofs.clauses.visiting.pass_true.Goals as goal

pub satisfies-requires : goal.satisfies-requires
satisfies-requires c = running-small _ _ c.requires.running (c.requires.running.blocked c.read_entry-entry.result c.read_entry-entry.ensures.listed)

pub entries-preserved : goal.entries-preserved
entries-preserved c =
    let lists = c.args.clauses.now.lists in let literal = c.args.literal in
    let long : length c.list-list.result.now ≡ length (list_at (watch_lists lists) literal) = list-long lists c.list-list.result.now literal c.list-list.ensures in
    let i = c.entries.invariant in let entry = c.read_entry-entry.result in let at = c.read_entry-entry.ensures in
    let met : HasTrue c.args.assignment.now.values.items c.args.clauses.now.blocks.literals (entry.watch / 2) =
    (entry.blocker, c.requires.running.blocked entry at.listed, sym c.satisfies.ensures ∙ c.if-not-satisfies.false) in
    search (rules, served-true, met, at.item, c.requires.running.stored.linked, i.served, long)

pub returns-clause-watch : goal.returns-clause-watch
returns-clause-watch c =
    let lists = c.args.clauses.now.lists in let literal = c.args.literal in
    slice_get_past (list_at (watch_lists lists) literal) c.entries.index (omega (arith, c.entries-test.false, list-long lists c.list-list.result.now literal c.list-list.ensures))
