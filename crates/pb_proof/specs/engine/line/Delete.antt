-- The grammar of the ids after `del id`.
use Rattle.pb_proof.specs.declared.line.{delete.DeleteWords.DeleteWords}
use Rattle.pb_lines.specs.contract.Grammar.{Grammar}
use Rattle.pb_proof.specs.engine.line.Ids.{id_most, id_of}
use Rattle.pb_lines.specs.engine.Words.{words_automaton, words_first, words_last, WordsState}
use Rattle.pb_text.specs.contract.Automaton.{Automaton}
use Rattle.std.specs.Prelude.{ℕ, ℤ, false, is_some, List, [], ◌∷◌, ◌++◌, length, Option, None, Some, option_map}

abbrev pub delete_words : List ℤ → DeleteWords
delete_words ids = record { ids = ids }

-- at least one id
abbrev pub delete_value : List ℤ → Option (List ℤ)
delete_value [] = None
delete_value (id ∷ ids) = Some (id ∷ ids)

abbrev pub delete_grammar : ℕ → ℕ → Grammar DeleteWords (List ℤ)
delete_grammar limit top = record {
  first = delete_words [];
  number = λ s sign. id_most top sign;
  literal = λ s. false;
  capital = λ s b. None;
  next = λ s w name. option_map (λ id. delete_words (s.ids ++ id ∷ [])) (id_of w);
  colon = λ s. None;
  value = λ s. delete_value s.ids;
  adds = λ s w. is_some (id_of w);
  kept = λ s. length s.ids;
}

abbrev pub AllGood : ℕ → ℕ → DeleteWords → Type 0
AllGood limit top s = Unit {0}

abbrev pub delete_automaton : Automaton (WordsState DeleteWords) (List ℤ)
delete_automaton = words_automaton delete_grammar

abbrev pub delete_first : ℕ → ℕ → WordsState DeleteWords
delete_first limit top = words_first delete_grammar limit top

abbrev pub delete_last : ℕ → ℕ → WordsState DeleteWords
delete_last limit top = words_last delete_grammar limit top
