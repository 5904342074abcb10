use Rattle.pb_propagate.specs.engine.Parts.{no_span}
use Rattle.pb_propagate.proofs.lemmas.Spans.{read_nothing, read_part}
use Rattle.pb_propagate.proofs.parts.Parts.get.Goals as goal

pub returns-in-Some : goal.returns-in-Some
returns-in-Some c =
    let p = c.self.inside in
    let found = (rw c.deref.ensures.value at c.in-Some.ensures.lookup).3 in
    read_part p.spans.items p.exponents.items p.count c.args.list _ c.index.result.now c.self.invariant c.self.view_is c.requires found.0 (found.1 no_span) c.index.ensures c.room_of.ensures

pub returns-in-None : goal.returns-in-None
returns-in-None c =
    let p = c.self.inside in
    read_nothing p.spans.items p.exponents.items p.count c.args.list c.self.invariant c.self.view_is c.requires ((rw c.deref.ensures.value at c.in-None.ensures.lookup).3)
