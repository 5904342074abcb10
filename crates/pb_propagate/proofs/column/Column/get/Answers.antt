use Rattle.std.proofs.Common.{◌∙◌, arith}
use Rattle.pb_propagate.proofs.lemmas.Columns.{has_page, read_empty, read_start, read_stored, start_within}
use Rattle.pb_propagate.proofs.column.Column.get.Goals as goal

pub index-start-requires : goal.index-start-requires
index-start-requires g c =
    let l = c.self.inside in
    omega (arith, has_page g.T.Zero.zero l.pages.items l.items.items l.count c.args.index c.self.view_is c.self.invariant.1 c.requires, l.pages.ok.0)

pub returns-then-start : goal.returns-then-start
returns-then-start g c =
    let l = c.self.inside in let i = c.args.index in let start = c.index-start.result.now in
    let inside = has_page g.T.Zero.zero l.pages.items l.items.items l.count i c.self.view_is c.self.invariant.1 c.requires in
    λ e. c.zero.ensures ∙ read_empty g.T.Zero.zero l.pages.items l.items.items l.items.cap l.count i start c.self.invariant.0 l.items.small c.self.view_is c.requires (read_start l.pages.items i start inside c.index-start.ensures) c.if-start.true e

pub overflow_add-start : goal.overflow_add-start
overflow_add-start g c =
    let l = c.self.inside in let i = c.args.index in let start = c.index-start.result.now in
    let inside = has_page g.T.Zero.zero l.pages.items l.items.items l.count i c.self.view_is c.self.invariant.1 c.requires in
    let begins = read_start l.pages.items i start inside c.index-start.ensures in
    omega (arith, start_within l.pages.items _ l.items.cap i start c.self.invariant.0 begins c.if-start.false, l.items.ok.0, l.items.ok.1, l.items.small)

pub index-requires : goal.index-requires
index-requires g c =
    let l = c.self.inside in let i = c.args.index in let start = c.index-start.result.now in
    let inside = has_page g.T.Zero.zero l.pages.items l.items.items l.count i c.self.view_is c.self.invariant.1 c.requires in
    let begins = read_start l.pages.items i start inside c.index-start.ensures in
    omega (arith, start_within l.pages.items _ l.items.cap i start c.self.invariant.0 begins c.if-start.false, l.items.ok.0)

pub returns : goal.returns
returns g c =
    let l = c.self.inside in let i = c.args.index in let start = c.index-start.result.now in
    let inside = has_page g.T.Zero.zero l.pages.items l.items.items l.count i c.self.view_is c.self.invariant.1 c.requires in
    let begins = read_start l.pages.items i start inside c.index-start.ensures in
    read_stored g.T.Zero.zero l.pages.items l.items.items l.count i start c.index.result.now c.self.view_is c.requires begins (start_within l.pages.items _ l.items.cap i start c.self.invariant.0 begins c.if-start.false) c.index.ensures
