-- The grammar of the words after `f`: a number, or none.
use Rattle.pb_proof.specs.declared.line.formula.FormulaWords.{FormulaWords}
use Rattle.pb_lines.specs.declared.Sign.{Sign}
use Rattle.pb_lines.specs.declared.Word.{Word}
use Rattle.pb_lines.specs.contract.Grammar.{Grammar}
use Rattle.pb_lines.specs.engine.Words.{words_automaton, words_first, words_last, WordsState}
use Rattle.pb_text.specs.contract.Automaton.{Automaton}
use Rattle.std.specs.Prelude.{ℕ, false, Option, None, Some}

abbrev pub formula_words : Option ℕ → FormulaWords
formula_words count = record { count = count }

-- the largest number that may come
abbrev pub formula_most : ℕ → Option ℕ → Sign → Option ℕ
formula_most top None Sign.Nothing = Some top
formula_most top _ _ = None

abbrev pub formula_next : Option ℕ → Word → Option FormulaWords
formula_next None (Word.Number Sign.Nothing n) = Some (formula_words (Some n))
formula_next _ _ = None

abbrev pub formula_grammar : ℕ → ℕ → Grammar FormulaWords (Option ℕ)
formula_grammar limit top = record {
  first = formula_words None;
  number = λ s sign. formula_most top s.count sign;
  literal = λ s. false;
  capital = λ s b. None;
  next = λ s w name. formula_next s.count w;
  colon = λ s. None;
  value = λ s. Some s.count;
  adds = λ s w. false;
  kept = λ s. 0;
}

abbrev pub AllGood : ℕ → ℕ → FormulaWords → Type 0
AllGood limit top s = Unit {0}

abbrev pub formula_automaton : Automaton (WordsState FormulaWords) (Option ℕ)
formula_automaton = words_automaton formula_grammar

abbrev pub formula_first : ℕ → ℕ → WordsState FormulaWords
formula_first limit top = words_first formula_grammar limit top

abbrev pub formula_last : ℕ → ℕ → WordsState FormulaWords
formula_last limit top = words_last formula_grammar limit top
