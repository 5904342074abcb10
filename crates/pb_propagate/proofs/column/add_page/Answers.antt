use Rattle.pb_propagate.proofs.lemmas.Columns.{more_values}
use Rattle.pb_propagate.proofs.column.add_page.Goals as goal

pub returns-clause-values : goal.returns-clause-values
returns-clause-values g c =
    let items = c.args.items.now in
    rw (c.in_ok-push.ensures.items, c.reserve.ensures.items) (more_values g.T.Zero.zero c.args.pages.now.items items.items items.cap c.requires.pages items.small)
