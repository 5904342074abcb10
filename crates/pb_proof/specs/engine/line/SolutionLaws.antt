-- The grammar of literals satisfies the laws of grammars.
use Rattle.pb_proof.specs.declared.line.solution.SolutionWords.{SolutionWords}
use Rattle.pb_lines.specs.declared.Word.{Word}
use Rattle.pb_lines.specs.contract.Laws.{IsCounted, IsGrammar, most_units}
use Rattle.pb_proof.specs.engine.line.Literals.{units}
use Rattle.pb_proof.specs.engine.line.Solution.{AllGood, solution_grammar, solution_last}
use Rattle.{pb_sums.specs.declared.Literal.Literal, pb_text.specs.meaning.Languages.unmarked}
use Rattle.std.proofs.Common.{arith, refl, ℕ, ◌+◌, ◌≡◌, ◌≤◌, ◌<◌, ◌^◌, List, [], ◌∷◌, ◌++◌, length, Some}

-- what is stored grows by a literal and its name
pub units_append : (ls : List Literal) (l : Literal) → units (ls ++ l ∷ []) ≡ units ls + (1 + length l.name)
units_append [] l = omega arith
units_append (x ∷ ls) l = omega (arith, units_append ls l)

module _ (limit top : ℕ) where
  grows : (s k : SolutionWords) (w : Word) (name : List ℕ) → (solution_grammar limit top).next s w name ≡ Some k → units k.literals ≤ units s.literals + most_units w name
  grows s k w name e = grind (arith, units_append)

  pub solution_lawful : limit < 2 ^ 127 → top < 2 ^ 63 → 0 < top → IsGrammar solution_grammar limit top (AllGood limit top)
  solution_lawful l t some = record {
    begins = tt;
    goes = λ s k w name g n e. tt;
    colons = λ s k g e. tt;
    leads = λ s g. (unmarked 10 ∷ [], s.literals, solution_last limit top, (refl, refl));
    number = λ s sign most g e. cc;
    literal = λ s e negated name. refl;
    digits = λ s sign n name other. refl;
    mark = λ s b name other. refl;
    capital = λ s b c name e. cc;
  }

  pub solution_counted : IsCounted (solution_grammar limit top)
  solution_counted = record { empty = refl; grows = grows; same = λ s k e. cc }
