use Rattle.pb_propagate.proofs.Common.{get_or, Listed}
use Rattle.pb_propagate.proofs.lemmas.clauses.Listed.{entry-listed, entry-watch}
use Rattle.std.proofs.lemmas.List.{get_or_default}
use Rattle.pb_propagate.proofs.clauses.visiting.read_entry.Goals as goal

pub returns-clause-item : goal.returns-clause-item
returns-clause-item c =
    let none : Listed = record { watch = 0; blocker = 0 } in
    let x = get_or c.args.list.now c.args.index none in
    entry-watch c.args.lists.now c.args.list.now c.args.literal c.args.index x c.requires.list c.requires.index (get_or_default c.args.list.now c.args.index none x c.requires.index)

pub returns-clause-listed : goal.returns-clause-listed
returns-clause-listed c =
    let none : Listed = record { watch = 0; blocker = 0 } in
    let x = get_or c.args.list.now c.args.index none in
    entry-listed c.args.lists.now c.args.list.now c.args.literal c.args.index x c.requires.list c.requires.index (get_or_default c.args.list.now c.args.index none x c.requires.index)
