use Rattle.pb_normal.proofs.{lemmas.terms.Totals.size-Adds, merge.merged_lists.Goals.in-Some+in_ok-push-3, merge.merged_lists.Goals.in_default}
use Rattle.pb_normal.proofs.Common.{append-nil, arith}
use Rattle.pb_normal.proofs.lemmas.terms.Merging.{Merging-left, Merging-right, Merging-combined, Merging-end, Merging-fits, total-read, positive-read, no_entry}
use Rattle.pb_normal.proofs.merge.merged_lists.Goals as goal

pub merge-preserved-then-x-y : goal.merge-preserved-then-x-y
merge-preserved-then-x-y g c =
    rw c.in_ok-push.ensures.items (Merging-left _ _ _ _ _ _ no_entry _ c.at-y.result c.merge.invariant (omega arith) (omega arith) (c.at-x.ensures no_entry) (c.at-y.ensures no_entry) (omega arith))

pub merge-preserved-then-y-x : goal.merge-preserved-then-y-x
merge-preserved-then-y-x g c =
    rw c.in_ok-push-2.ensures.items (Merging-right _ _ _ _ _ _ no_entry c.at-x.result _ c.merge.invariant (omega arith) (omega arith) (c.at-x.ensures no_entry) (c.at-y.ensures no_entry) (omega arith))

pub combined-sum-requires : goal.combined-sum-requires
combined-sum-requires g c = record {
  same_variable = omega arith;
  left_positive = positive-read 0 _ (g.L.Listed.entries c.args.left.now) c.merge.i no_entry _ c.merge.invariant.left_rising (omega arith) (c.at-x.ensures no_entry);
  fits = omega (arith, total-read (g.L.Listed.entries c.args.left.now) c.merge.i no_entry _ (omega arith) (c.at-x.ensures no_entry), total-read (g.R.Listed.entries c.args.right.now) c.merge.j no_entry _ (omega arith) (c.at-y.ensures no_entry));
}

pub overflow_add-cancelled : goal.overflow_add-cancelled
overflow_add-cancelled g c =
    let x = total-read (g.L.Listed.entries c.args.left.now) c.merge.i no_entry _ (omega arith) (c.at-x.ensures no_entry) in
    let y = total-read (g.R.Listed.entries c.args.right.now) c.merge.j no_entry _ (omega arith) (c.at-y.ensures no_entry) in
    omega (arith, Merging-fits _ _ _ _ _ _ _ c.merge.invariant c.requires.left_size c.requires.right_size, size-Adds _ _ _ _ c.combined-sum.ensures.adds)

pub merge-preserved : goal.merge-preserved
merge-preserved g c =
    let both = Merging-combined _ _ _ _ _ _ no_entry c.at-x.result c.at-y.result _ _ c.merge.invariant (omega arith) (omega arith) (c.at-x.ensures no_entry) (c.at-y.ensures no_entry) (omega arith) c.combined-sum.ensures.adds c.combined-sum.ensures.entry in
    elim c.match-sum.branch [
      | in-Some+in_ok-push-3 w ↦ rw (w.out-is, w.in_ok-push-3.ensures.items) (rw w.in-Some.is at both)
      | in_default w ↦ rw w.out-is (rw (w.in_default.is, append-nil) at both)
    ]

pub returns-clause-adds : goal.returns-clause-adds
returns-clause-adds g c = simp (c.in_ok-append_rest-2.ensures, c.in_ok-append_rest.ensures) (Merging-end _ _ _ _ _ _ c.merge.invariant)
