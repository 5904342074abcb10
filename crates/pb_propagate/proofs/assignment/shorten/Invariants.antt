use Rattle.pb_propagate.proofs.{Common.length, Common.AreMarked, lemmas.root.Rooted.IsCut}
use Rattle.pb_propagate.proofs.assignment.shorten.Given as goal

abbrev pub decreases-list : goal.decreases-list
decreases-list l = length l.list.items

abbrev pub invariant-list : goal.invariant-list
invariant-list l = record {
  cut : IsCut l.initial.values.items l.initial.list.items l.count l.values.items l.list.items;
  marked : AreMarked l.values.items l.failed.items;
}
