use Rattle.pb_propagate.proofs.{Common.get_or-set_same, Common.inl, Common.inr, Common.rules, lemmas.clauses.Listed.sits-within}
use Rattle.pb_propagate.proofs.clauses.visiting.shift.Goals as goal

pub put_in-requires-clause-watch : goal.put_in-requires-clause-watch
put_in-requires-clause-watch c = search (rules, sits-within, c.requires.linked.named, c.requires.item, c.take_out.ensures.sizes.0)

pub put_in-requires-clause-small : goal.put_in-requires-clause-small
put_in-requires-clause-small c = c.requires.linked.small c.args.watch (c.requires.linked.named c.args.watch c.args.literal c.args.index c.requires.item).live

pub returns-clause-more : goal.returns-clause-more
returns-clause-more c = λ x there. elim (c.in_ok-put_in.ensures.more x there) [
  | inl is ↦ inl is
  | inr old ↦ inr (c.take_out.ensures.fewer x old)
]

pub returns-clause-moved : goal.returns-clause-moved
returns-clause-moved c = search (rules, sits-within, c.requires.linked.named, c.requires.item, c.in_ok-put_in.ensures.watches, get_or-set_same, c.take_out.ensures.sizes.0)
