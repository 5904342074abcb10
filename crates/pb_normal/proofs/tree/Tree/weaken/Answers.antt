use Rattle.pb_normal.proofs.{Common.arith, lemmas.terms.Maps.IsNormal-weakened}
use Rattle.pb_normal.proofs.tree.Tree.weaken.Goals as goal

pub invariant_of-result : goal.invariant_of-result
invariant_of-result c = record {
  keyed = c.take_out-dropped.ensures.keyed;
  size_is = omega (arith, c.take_out-dropped.ensures.size, c.self.invariant.size_is);
  normal = rw (c.take_out-dropped.ensures.weakened, c.saturating_sub.ensures, c.take_out-dropped.ensures.dropped) (IsNormal-weakened c.args.variable _ c.self.invariant.normal);
}
