use Rattle.pb_propagate.proofs.Common.{◌∙◌, sym}
use Rattle.pb_propagate.proofs.lemmas.clauses.Visited.{other-watched, running-small, running-blocked, visited-stays}
use Rattle.pb_propagate.proofs.clauses.visiting.visit_clause.Goals as goal

pub satisfies-requires : goal.satisfies-requires
satisfies-requires c = rw (c.visit_watch-other.ensures.item, c.opposite.ensures)
    (running-small _ _ c.requires.running (other-watched c.requires.running _ (c.requires.running.stored.linked.named _ _ _ c.requires.item).live))

pub returns-then-satisfies-clause-watch : goal.returns-then-satisfies-clause-watch
returns-then-satisfies-clause-watch c =
    let here = rw (← c.opposite.ensures, ← c.visit_watch-other.ensures.item) at (other-watched c.requires.running _
    (c.requires.running.stored.linked.named _ _ _ c.requires.item).live) in
    let run = running-blocked c.args.clauses.now c.args.assignment.now.values.items _ c.block.new.lists c.requires.running c.block.ensures.watches c.block.ensures.more here in
    visited-stays c.args.clauses.now c.args.assignment.now.values.items c.args.literal c.args.index c.args.watch c.visit_watch-other.result c.block.new.lists run c.block.ensures.watches c.requires.item here (sym c.satisfies.ensures ∙ c.if-satisfies.true)
