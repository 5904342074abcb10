use Rattle.pb_proof.proofs.Common.{ℕ, Literal, Conclude, bound_bytes, id_shown_bytes, listed_bytes, literal_line, statement_bytes, bounds_word, conclusion_word}
use Rattle.pb_proof.proofs.Common.{◌++◌, ◌∙◌, ◌∷◌, ◌≡◌, [], ap, List, Option, Some, subst, sym, Writes, Bounds}
use Rattle.pb_proof.proofs.lemmas.Texts.{bounds_then}
use Rattle.pb_proof.proofs.write.write_bounds.Goals as goal

pub returns-in-Some : goal.returns-in-Some
returns-in-Some g c =
    let l = bound_bytes c.args.lower in
    let i = id_shown_bytes c.args.id in
    let u = bound_bytes c.args.upper in
    let ls = c.as_slice.result.now in
    let lead : c.as_bytes-in-Some.result.now ≡ conclusion_word ++ (32 ∷ (bounds_word ++ (32 ∷ (l ++ (i ++ (32 ∷ (u ++ (32 ∷ 58 ∷ [])))))))) =
    c.as_bytes-in-Some.ensures
    ∙ (c.put_bounds-in-Some.ensures
    ∙ ap (λ (z : List ℕ). conclusion_word ++ (32 ∷ (bounds_word ++ (32 ∷ (l ++ (i ++ (32 ∷ (u ++ z)))))))) (c.put_text.ensures ∙ ap (λ (z : List ℕ). 32 ∷ 58 ∷ z) c.new-piece.ensures)) in
    subst (λ (z : List ℕ). Writes g.S.Sink.contents g.S.Sink.faults c.args.out.now z c.write_list.result c.write_list.new.out)
    (ap (λ (z : List ℕ). z ++ listed_bytes literal_line ls) lead
    ∙ (bounds_then l i u (32 ∷ 58 ∷ []) (listed_bytes literal_line ls)
    ∙ ap (λ (s : Option (List Literal)). statement_bytes (Conclude (Bounds c.args.lower c.args.id c.args.upper s))) (sym (c.in-Some.is ∙ ap Some (sym c.as_slice.ensures)))))
    c.write_list.ensures
