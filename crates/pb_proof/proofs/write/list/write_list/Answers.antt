use Rattle.pb_proof.proofs.Common.{ℕ, ◌++◌, ◌≡◌, append_assoc, List, part_broke, part_then, listed_bytes, arith}
use Rattle.pb_proof.proofs.lemmas.Texts.{listed-append}
use Rattle.pb_proof.proofs.write.list.write_list.Goals as goal

-- a text, and items in two parts
parts : {A : Type 0} (line : A → List ℕ) (lead : List ℕ) (all batch rest : List A) → all ≡ batch ++ rest
    → lead ++ listed_bytes line all ≡ (lead ++ listed_bytes line batch) ++ listed_bytes line rest
parts line lead all batch rest e = grind (arith, listed-append, append_assoc)

pub returns-in_err-write_batch : goal.returns-in_err-write_batch
returns-in_err-write_batch g c =
    part_broke g.S.Sink.contents g.S.Sink.faults _ _ _ _ _ _
    (parts g.T.ListItem.line c.args.lead.now c.args.items.now c.split_at.result.0.now c.split_at.result.1.now c.split_at.ensures.by_index.0) c.from_residual.ensures.0 c.in_err-write_batch.ensures

pub returns : goal.returns
returns g c =
    part_then g.S.Sink.contents g.S.Sink.faults _ _ _ _ _ _ _
    (parts g.T.ListItem.line c.args.lead.now c.args.items.now c.split_at.result.0.now c.split_at.result.1.now c.split_at.ensures.by_index.0) c.in_ok-write_batch.ensures c.write_further.ensures
