use Rattle.pb_sums.proofs.Common.{ℕ, ◌++◌, ◌∙◌, [], ap, append_assoc, List, refl, subst, sym, part_wrote, writes_nothing, Wrote, Term}
use Rattle.pb_sums.proofs.lemmas.values.Written.{further_none, further-append}
use Rattle.pb_sums.proofs.write.write_further.Goals as goal

pub loop-rest-init : goal.loop-rest-init
loop-rest-init g c = (
  [],
  refl,
  subst (λ (z : List ℕ). Wrote g.S.Sink.contents g.S.Sink.faults c.args.out.now z c.args.out.now) (sym further_none) (writes_nothing g.S.Sink.contents g.S.Sink.faults c.args.out.now),
)

pub loop-rest-preserved : goal.loop-rest-preserved
loop-rest-preserved g c =
    let prefix = c.loop-rest.invariant.0 in let batch = c.split_at.result.0.now in
    let following = c.split_at.result.1.now in (
      prefix ++ batch,
      c.loop-rest.invariant.1 ∙ (ap (λ (z : List Term). prefix ++ z) c.split_at.ensures.by_index.0 ∙ sym (append_assoc prefix batch following)),
      part_wrote g.S.Sink.contents g.S.Sink.faults _ _ _ _ _ _ (further-append prefix batch) c.loop-rest.invariant.2 c.in_ok-write_batch.ensures,
    )
