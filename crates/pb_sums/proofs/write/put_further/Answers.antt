use Rattle.pb_sums.proofs.Common.{ℕ, ◌++◌, ◌∙◌, ◌∷◌, ap, append_assoc, arith, drop, List, sym, further_bytes, term_bytes}
use Rattle.pb_sums.proofs.lemmas.values.Written.{further_from}
use Rattle.pb_sums.proofs.write.put_further.Goals as goal

pub loop-left-preserved : goal.loop-left-preserved
loop-left-preserved c =
    let l = c.loop-left in
    let x = c.index-terms-left.result in (
      omega arith,
      c.if-put_further_term.ensures
          ∙ (ap (λ (z : List ℕ). (32 ∷ term_bytes x) ++ z) l.invariant.1
          ∙ (sym (append_assoc (32 ∷ term_bytes x) (further_bytes (drop l.left c.args.terms.now)) c.args.piece.now)
          ∙ ap (λ (z : List ℕ). z ++ c.args.piece.now) (sym (further_from c.args.terms.now l.left x c.loop-left-test.true l.invariant.0 c.index-terms-left.is)))),
    )
