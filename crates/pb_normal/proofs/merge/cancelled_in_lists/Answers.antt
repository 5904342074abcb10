use Rattle.pb_normal.proofs.Common.{arith, inl, inr}
use Rattle.pb_normal.proofs.lemmas.terms.{Merging.positive-read, Merging.no_entry, Totals.size-Adds}
use Rattle.pb_normal.proofs.lemmas.terms.Merging.{Merging-left, Merging-right, Merging-combined, Merging-end, Merging-end_rising, Merging-fits, total-read}
use Rattle.pb_normal.proofs.merge.cancelled_in_lists.Goals as goal

pub merge-preserved-then-l-r : goal.merge-preserved-then-l-r
merge-preserved-then-l-r g c =
    (_, Merging-left _ _ _ _ _ _ no_entry c.at-l.result c.at-r.result c.merge.invariant.1 (omega arith) (omega arith) (c.at-l.ensures no_entry) (c.at-r.ensures no_entry) (omega arith))

pub merge-preserved-then-r-l : goal.merge-preserved-then-r-l
merge-preserved-then-r-l g c =
    (_, Merging-right _ _ _ _ _ _ no_entry c.at-l.result c.at-r.result c.merge.invariant.1 (omega arith) (omega arith) (c.at-l.ensures no_entry) (c.at-r.ensures no_entry) (omega arith))

pub combined-gone-requires : goal.combined-gone-requires
combined-gone-requires g c = record {
  same_variable = omega arith;
  left_positive = positive-read 0 _ (g.L.Listed.entries c.args.left.now) c.merge.i no_entry _ c.merge.invariant.1.left_rising (omega arith) (c.at-l.ensures no_entry);
  fits = omega (arith, total-read (g.L.Listed.entries c.args.left.now) c.merge.i no_entry _ (omega arith) (c.at-l.ensures no_entry), total-read (g.R.Listed.entries c.args.right.now) c.merge.j no_entry _ (omega arith) (c.at-r.ensures no_entry));
}

pub overflow_add-cancelled : goal.overflow_add-cancelled
overflow_add-cancelled g c =
    let x = total-read (g.L.Listed.entries c.args.left.now) c.merge.i no_entry _ (omega arith) (c.at-l.ensures no_entry) in
    let y = total-read (g.R.Listed.entries c.args.right.now) c.merge.j no_entry _ (omega arith) (c.at-r.ensures no_entry) in
    omega (arith, Merging-fits _ _ _ _ _ _ _ c.merge.invariant.1 c.requires.left_size c.requires.right_size, size-Adds _ _ _ _ c.combined-gone.ensures.adds)

pub merge-preserved : goal.merge-preserved
merge-preserved g c =
    (_, Merging-combined _ _ _ _ _ _ no_entry c.at-l.result c.at-r.result _ _ c.merge.invariant.1 (omega arith) (omega arith) (c.at-l.ensures no_entry) (c.at-r.ensures no_entry) (omega arith) c.combined-gone.ensures.adds c.combined-gone.ensures.entry)

pub returns-else-j-count : goal.returns-else-j-count
returns-else-j-count g c = (_, Merging-end_rising _ _ _ _ _ _ c.merge.invariant.1 (inr (omega arith)), Merging-end _ _ _ _ _ _ c.merge.invariant.1)

pub returns-after-merge : goal.returns-after-merge
returns-after-merge g c = (_, Merging-end_rising _ _ _ _ _ _ c.merge.invariant.1 (inl (omega arith)), Merging-end _ _ _ _ _ _ c.merge.invariant.1)
