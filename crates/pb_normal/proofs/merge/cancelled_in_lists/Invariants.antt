use Rattle.pb_normal.proofs.{Common.◌+◌, Common.◌-◌, Common.length, Common.List, Common.Entry, lemmas.terms.Merging.Merging}
use Rattle.pb_normal.proofs.merge.cancelled_in_lists.Given as goal

abbrev pub invariant-merge : goal.invariant-merge
invariant-merge g l = (out : List Entry) × Merging (g.L.Listed.entries l.left) (g.R.Listed.entries l.right) l.i l.j out l.cancelled

abbrev pub decreases-merge : goal.decreases-merge
decreases-merge g l = (length (g.L.Listed.entries l.left) - l.i) + (length (g.R.Listed.entries l.right) - l.j)
