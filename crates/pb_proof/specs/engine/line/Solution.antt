-- The grammar of the literals after `soli` or `solx`.
use Rattle.pb_proof.specs.declared.line.solution.SolutionWords.{SolutionWords}
use Rattle.pb_lines.specs.declared.Word.{Word}
use Rattle.pb_lines.specs.contract.Grammar.{Grammar}
use Rattle.pb_proof.specs.engine.line.Literals.{is_literal, literal, units}
use Rattle.pb_lines.specs.engine.Words.{words_automaton, words_first, words_last, WordsState}
use Rattle.{pb_sums.specs.declared.Literal.Literal, pb_text.specs.contract.Automaton.Automaton}
use Rattle.std.specs.Prelude.{ℕ, true, List, [], ◌∷◌, ◌++◌, Option, None, Some}

abbrev pub solution_words : List Literal → SolutionWords
solution_words ls = record { literals = ls }

abbrev pub solution_next : SolutionWords → Word → List ℕ → Option SolutionWords
solution_next s (Word.Literal negated) name = Some (solution_words (s.literals ++ literal negated name ∷ []))
solution_next s w name = None

abbrev pub solution_grammar : ℕ → ℕ → Grammar SolutionWords (List Literal)
solution_grammar limit top = record {
  first = solution_words [];
  number = λ s sign. None;
  literal = λ s. true;
  capital = λ s b. None;
  next = solution_next;
  colon = λ s. None;
  value = λ s. Some s.literals;
  adds = λ s w. is_literal w;
  kept = λ s. units s.literals;
}

abbrev pub AllGood : ℕ → ℕ → SolutionWords → Type 0
AllGood limit top s = Unit {0}

abbrev pub solution_automaton : Automaton (WordsState SolutionWords) (List Literal)
solution_automaton = words_automaton solution_grammar

abbrev pub solution_first : ℕ → ℕ → WordsState SolutionWords
solution_first limit top = words_first solution_grammar limit top

abbrev pub solution_last : ℕ → ℕ → WordsState SolutionWords
solution_last limit top = words_last solution_grammar limit top
