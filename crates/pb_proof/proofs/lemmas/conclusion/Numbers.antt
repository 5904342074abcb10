-- Bounds fit, and a conclusion of which nothing is shown.
use Rattle.pb_proof.proofs.Common.{ℤ, ◌≡◌, ◌∙◌, ◌^◌, [], arith, Conclusion, largest, Limits, List, Literal, Option, same_Some, Some, sym, top_of}
use Rattle.pb_proof.specs.declared.line.conclusion.Concluding.{Concluding}
use Rattle.pb_proof.specs.declared.line.conclusion.Showing.{Showing}
use Rattle.pb_lines.specs.declared.Sign.{Sign}
use Rattle.pb_lines.specs.declared.Word.{Word}
use Rattle.pb_lines.specs.contract.Grammar.{IsNumber}
use Rattle.pb_proof.specs.engine.line.Conclusion.{conclusion_grammar, conclusion_words, number, value}
use Rattle.pb_proof.specs.engine.line.Ids.{IsBelow}
use Rattle.{pb_text.proofs.lemmas.numbers.Numbers.largest_small, std.specs.Prelude.IsSome}

pub bound_below : (limits : Limits) (c : Concluding) (w : Word) → ((sign : Sign) → number (largest limits) (top_of limits) c sign ≡ Some (largest limits))
    → IsNumber (conclusion_grammar (largest limits) (top_of limits)) (conclusion_words c []) (Some w) → IsBelow (2 ^ 127) w
bound_below limits c (Word.Number sign n) f (most, e, l) = let g : largest limits ≡ most = same_Some _ _ (sym (f sign) ∙ e) in omega (arith, largest_small limits, g, l)
bound_below limits c _ f n = tt

pub no_claim : (c : Concluding) (ls : List Literal) → IsSome (value c ls) → ((id : Option ℤ) → c ≡ Concluding.Unsat id → ⊥) → ((x : Showing) → c ≡ Concluding.Shows x → ⊥) → ((x : Showing) → c ≡ Concluding.Shown x → ⊥)
    → Some Conclusion.NoClaim ≡ value c ls
no_claim c ls h f g k = grind (arith, c, f, g, k)

pub words_same : (c d : Concluding) (ls ms : List Literal) → c ≡ d → ls ≡ ms → conclusion_words c ls ≡ conclusion_words d ms
words_same c d ls ms e f = cc
