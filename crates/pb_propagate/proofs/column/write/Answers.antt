use Rattle.pb_propagate.proofs.lemmas.Columns.{one_write, read_start}
use Rattle.pb_propagate.proofs.column.write.Goals as goal

pub returns-clause-values : goal.returns-clause-values
returns-clause-values g c =
    let items = c.args.items.now in let pages = c.args.pages.now.items in let start = c.index-start.result.now in
    one_write g.T.Zero.zero pages items.items items.cap c.args.index start c.args.value c.requires.pages items.small (read_start pages c.args.index start c.requires.inside c.index-start.ensures) c.if-start.false
