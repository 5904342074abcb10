use Rattle.pb_proof.proofs.Common.{ℕ, [], ap, ◌++◌, ◌∙◌, ◌≡◌, append_assoc, List, refl, subst, sym, part_broke, part_then, part_wrote, writes_nothing, Wrote}
use Rattle.pb_proof.proofs.{Common.listed_bytes, lemmas.Texts.listed_none, lemmas.Texts.listed-append}
use Rattle.pb_proof.proofs.write.list.write_further.Goals as goal

pub loop-rest-init : goal.loop-rest-init
loop-rest-init g c = (
  [],
  refl,
  subst (λ (z : List ℕ). Wrote g.S.Sink.contents g.S.Sink.faults c.args.out.now z c.args.out.now) (sym (listed_none g.T.ListItem.line)) (writes_nothing g.S.Sink.contents g.S.Sink.faults c.args.out.now),
)

pub returns-in_err-write_batch : goal.returns-in_err-write_batch
returns-in_err-write_batch g c =
    let prefix = c.loop-rest.invariant.0 in let batch = c.split_at.result.0.now in
    let following = c.split_at.result.1.now in
    let rest : listed_bytes g.T.ListItem.line c.loop-rest.rest.now ≡ listed_bytes g.T.ListItem.line batch ++ listed_bytes g.T.ListItem.line following = ap (listed_bytes g.T.ListItem.line) c.split_at.ensures.by_index.0 ∙ listed-append g.T.ListItem.line batch following in
    part_then g.S.Sink.contents g.S.Sink.faults _ _ _ _ _ _ _ (ap (listed_bytes g.T.ListItem.line) c.loop-rest.invariant.1 ∙ listed-append g.T.ListItem.line prefix c.loop-rest.rest.now) c.loop-rest.invariant.2
    (part_broke g.S.Sink.contents g.S.Sink.faults _ _ _ _ _ _ rest c.from_residual.ensures.0 c.in_err-write_batch.ensures)

pub loop-rest-preserved : goal.loop-rest-preserved
loop-rest-preserved g c =
    let prefix = c.loop-rest.invariant.0 in let batch = c.split_at.result.0.now in
    let following = c.split_at.result.1.now in (
      prefix ++ batch,
      c.loop-rest.invariant.1 ∙ (ap (λ (z : List g.row.T.Denot). prefix ++ z) c.split_at.ensures.by_index.0 ∙ sym (append_assoc prefix batch following)),
      part_wrote g.S.Sink.contents g.S.Sink.faults _ _ _ _ _ _ (listed-append g.T.ListItem.line prefix batch) c.loop-rest.invariant.2 c.in_ok-write_batch.ensures,
    )
