use Rattle.pb_proof.proofs.Common.{ℕ, ◌++◌, ◌∙◌, ◌∷◌, ◌≡◌, [], ap, List, subst, Writes, F, Header, statement_bytes}
use Rattle.pb_proof.proofs.write.write_head.Goals as goal

pub returns : goal.returns
returns g c =
    let second : c.put_f.new.piece ≡ statement_bytes (F c.args.count) ++ (10 ∷ []) =
    c.put_f.ensures.text ∙ ap (λ (z : List ℕ). statement_bytes (F c.args.count) ++ z) (c.put.ensures ∙ ap (λ (z : List ℕ). 10 ∷ z) c.new-piece.ensures) in
    subst (λ (z : List ℕ). Writes g.S.Sink.contents g.S.Sink.faults c.args.out.now z c.write_bytes.result c.write_bytes.new.out)
    (c.as_bytes.ensures ∙ (c.put_text.ensures ∙ ap (λ (z : List ℕ). (statement_bytes Header ++ (10 ∷ [])) ++ z) second)) c.write_bytes.ensures
