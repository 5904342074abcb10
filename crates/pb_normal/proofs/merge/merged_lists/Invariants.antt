use Rattle.pb_normal.proofs.{Common.◌+◌, Common.◌-◌, Common.length, lemmas.terms.Merging.Merging}
use Rattle.pb_normal.proofs.merge.merged_lists.Given as goal

abbrev pub invariant-merge : goal.invariant-merge
invariant-merge g l = Merging (g.L.Listed.entries l.left) (g.R.Listed.entries l.right) l.i l.j l.out.items l.cancelled

abbrev pub decreases-merge : goal.decreases-merge
decreases-merge g l = (length (g.L.Listed.entries l.left) - l.i) + (length (g.R.Listed.entries l.right) - l.j)
