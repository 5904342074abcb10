use Rattle.pb_proof.proofs.Common.{ℕ, ◌++◌, ◌∙◌, ◌∷◌, ap, append_assoc, arith, drop, length, List, sym, listed_bytes}
use Rattle.pb_proof.proofs.lemmas.Texts.{listed_past, listed_from}
use Rattle.pb_proof.proofs.write.list.put_items.Goals as goal

pub loop-left-init : goal.loop-left-init
loop-left-init g c = (omega arith, ap (λ (z : List ℕ). z ++ c.args.piece.now) (sym (listed_past g.T.ListItem.line c.args.items.now (length c.args.items.now) (omega arith))))

pub loop-left-preserved : goal.loop-left-preserved
loop-left-preserved g c =
    let l = c.loop-left in
    let x = c.index-items-left.result in (
      omega arith,
      c.if-put_next.ensures
          ∙ (ap (λ (z : List ℕ). (32 ∷ g.T.ListItem.line x) ++ z) l.invariant.1
          ∙ (sym (append_assoc (32 ∷ g.T.ListItem.line x) (listed_bytes g.T.ListItem.line (drop l.left c.args.items.now)) c.args.piece.now)
          ∙ ap (λ (z : List ℕ). z ++ c.args.piece.now) (sym (listed_from g.T.ListItem.line c.args.items.now l.left x c.loop-left-test.true l.invariant.0 c.index-items-left.is)))),
    )
