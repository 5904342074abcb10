use Rattle.std.proofs.Common.{arith, get_or, ◌∙◌, ◌/◌, sym}
use Rattle.pb_propagate.proofs.lemmas.Columns.{empty_value, no_write, one_write, slice_start, start_within, stored_value_at}
use Rattle.pb_propagate.proofs.column.clear.Goals as goal

pub returns-then-start-clause-was : goal.returns-then-start-clause-was
returns-then-start-clause-was g c =
    let items = c.args.items.now in let pages = c.args.pages.now in
    c.zero.ensures ∙ sym (empty_value g.T.Zero.zero pages items.items items.cap c.requires.pages items.small c.args.index (sym (slice_start pages c.args.index c.requires.inside) ∙ c.if-start.true))

pub returns-then-start-clause-values : goal.returns-then-start-clause-values
returns-then-start-clause-values g c =
    let items = c.args.items.now in let pages = c.args.pages.now in let start = get_or pages (c.args.index / 64) 0 in
    no_write g.T.Zero.zero pages items.items items.cap c.args.index start c.requires.pages items.small (slice_start pages c.args.index c.requires.inside) c.if-start.true

pub returns-clause-values : goal.returns-clause-values
returns-clause-values g c =
    let items = c.args.items.now in let pages = c.args.pages.now in let start = get_or pages (c.args.index / 64) 0 in
    rw (c.replace.ensures.after ∙ c.zero-2.ensures) (one_write g.T.Zero.zero pages items.items items.cap c.args.index start g.T.Zero.zero c.requires.pages items.small (slice_start pages c.args.index c.requires.inside) c.if-start.false)

pub returns-clause-was : goal.returns-clause-was
returns-clause-was g c =
    let items = c.args.items.now in let pages = c.args.pages.now in let start = get_or pages (c.args.index / 64) 0 in
    let begins = slice_start pages c.args.index c.requires.inside in
    c.replace.ensures.value ∙ stored_value_at g.T.Zero.zero pages items.items c.args.index start c.index_mut.result.now begins (omega (arith, start_within pages _ items.cap c.args.index start c.requires.pages begins c.if-start.false)) c.index_mut.ensures.value
