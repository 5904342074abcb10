use Rattle.std.proofs.Common.{◌∙◌, ◌/◌, refl}
use Rattle.pb_propagate.proofs.lemmas.Columns.{no_write, stored_write}
use Rattle.pb_propagate.specs.engine.Columns.{start_of}
use Rattle.pb_propagate.proofs.column.store.Goals as goal

pub returns-then-is_zero-clause-values : goal.returns-then-is_zero-clause-values
returns-then-is_zero-clause-values g c =
    let items = c.args.items.now in let pages = c.args.pages.now.items in
    rw (c.is_zero.ensures.yes c.if-is_zero.true) (no_write g.T.Zero.zero pages items.items items.cap c.args.index (start_of pages (c.args.index / 64)) c.requires.pages items.small refl c.requires.absent)

pub returns-clause-values : goal.returns-clause-values
returns-clause-values g c =
    let items = c.args.items.now in let pages = c.args.pages.now.items in let start = c.len-start.result in
    stored_write g.T.Zero.zero pages items.items c.fill.new.items.items items.cap c.args.index start c.args.value c.requires.pages items.small c.requires.inside c.requires.absent c.fill.ensures.items (c.len-start.ensures ∙ items.ok.0)
