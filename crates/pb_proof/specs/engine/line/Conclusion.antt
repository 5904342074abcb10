-- The grammar of the words after `conclusion`.
use Rattle.pb_proof.specs.declared.{conclusion.Bound.Bound, conclusion.Conclusion.Conclusion}
use Rattle.pb_proof.specs.declared.line.conclusion.{Concluding.Concluding, ConclusionWords.ConclusionWords, Showing.Showing}
use Rattle.pb_lines.specs.declared.Capital.{Capital}
use Rattle.pb_lines.specs.declared.Sign.{Sign}
use Rattle.pb_lines.specs.declared.Word.{Word}
use Rattle.pb_lines.specs.contract.Grammar.{Grammar}
use Rattle.pb_proof.specs.engine.line.Literals.{is_literal, units, with_literal}
use Rattle.pb_lines.specs.engine.Words.{words_automaton, words_first, words_last, WordsState}
use Rattle.{pb_sums.specs.declared.Literal.Literal, pb_text.specs.contract.Automaton.Automaton, pb_text.specs.meaning.Numbers.signed}
use Rattle.pb_proof.specs.engine.line.Ids.{is_minus, id_of, id_most}
use Rattle.std.specs.Prelude.{ℕ, Bool, true, false, cond, ◌&&◌, List, [], Option, None, Some, option_map, is_some, nat_eq}

-- the bound that a word is
abbrev pub bound_of : Word → Option Bound
bound_of (Word.Number sign n) = Some (Bound.Finite (signed (is_minus sign) n))
bound_of (Word.Capital Capital.Infinity) = Some Bound.Infinite
bound_of _ = None

-- What the words so far are with one more, if it may come.
abbrev pub first_word : Word → Option Concluding
first_word (Word.Capital Capital.NoClaim) = Some Concluding.NoClaim
first_word (Word.Capital Capital.Unsat) = Some (Concluding.Unsat None)
first_word (Word.Capital Capital.Sat) = Some (Concluding.Shows Showing.Sat)
first_word (Word.Capital Capital.Bounds) = Some Concluding.Bounded
first_word _ = None

abbrev pub with_word : Concluding → Word → Option Concluding
with_word Concluding.Start w = first_word w
with_word Concluding.UnsatBy w = option_map (λ id. Concluding.Unsat (Some id)) (id_of w)
with_word (Concluding.LowerBy lower) w = option_map (λ id. Concluding.Lower lower (Some id)) (id_of w)
with_word Concluding.Bounded w = option_map (λ lower. Concluding.Lower lower None) (bound_of w)
with_word (Concluding.Lower lower id) w = option_map (λ upper. Concluding.Shows (Showing.Bounds lower id upper)) (bound_of w)
with_word (Concluding.Shown x) w = cond (is_literal w) (Some (Concluding.Shown x)) None
with_word _ w = None

abbrev pub with_colon : Concluding → Option Concluding
with_colon (Concluding.Unsat None) = Some Concluding.UnsatBy
with_colon (Concluding.Lower lower None) = Some (Concluding.LowerBy lower)
with_colon (Concluding.Shows x) = Some (Concluding.Shown x)
with_colon _ = None

-- the conclusion, with the literals that are given for it
abbrev pub showing_value : Showing → Option (List Literal) → Conclusion
showing_value Showing.Sat shown = Conclusion.Sat shown
showing_value (Showing.Bounds lower id upper) shown = Conclusion.Bounds lower id upper shown

abbrev pub value : Concluding → List Literal → Option Conclusion
value Concluding.NoClaim ls = Some Conclusion.NoClaim
value (Concluding.Unsat id) ls = Some (Conclusion.Unsat id)
value (Concluding.Shows x) ls = Some (showing_value x None)
value (Concluding.Shown x) ls = Some (showing_value x (Some ls))
value _ ls = None

abbrev pub ends : Concluding → Bool
ends c = is_some (value c [])

-- What may come next.
abbrev pub number : ℕ → ℕ → Concluding → Sign → Option ℕ
number limit top Concluding.UnsatBy sign = id_most top sign
number limit top (Concluding.LowerBy lower) sign = id_most top sign
number limit top Concluding.Bounded sign = Some limit
number limit top (Concluding.Lower lower id) sign = Some limit
number limit top _ sign = None

abbrev pub takes_literal : Concluding → Bool
takes_literal (Concluding.Shown x) = true
takes_literal _ = false

abbrev pub first_capital : ℕ → Option Capital
first_capital b =
    cond (nat_eq b 78) (Some Capital.NoClaim)
    (cond (nat_eq b 85) (Some Capital.Unsat)
    (cond (nat_eq b 83) (Some Capital.Sat) (cond (nat_eq b 66) (Some Capital.Bounds) None)))

abbrev pub capital : Concluding → ℕ → Option Capital
capital Concluding.Start b = first_capital b
capital Concluding.Bounded b = cond (nat_eq b 73) (Some Capital.Infinity) None
capital (Concluding.Lower lower id) b = cond (nat_eq b 73) (Some Capital.Infinity) None
capital _ b = None

abbrev pub conclusion_words : Concluding → List Literal → ConclusionWords
conclusion_words c ls = record { concluding = c; literals = ls }

abbrev pub conclusion_grammar : ℕ → ℕ → Grammar ConclusionWords Conclusion
conclusion_grammar limit top = record {
  first = conclusion_words Concluding.Start [];
  number = λ s sign. number limit top s.concluding sign;
  literal = λ s. takes_literal s.concluding;
  capital = λ s b. capital s.concluding b;
  next = λ s w name. option_map (λ c. conclusion_words c (with_literal s.literals w name)) (with_word s.concluding w);
  colon = λ s. option_map (λ c. conclusion_words c s.literals) (with_colon s.concluding);
  value = λ s. value s.concluding s.literals;
  adds = λ s w. takes_literal s.concluding && is_literal w;
  kept = λ s. units s.literals;
}

abbrev pub AllGood : ℕ → ℕ → ConclusionWords → Type 0
AllGood limit top s = Unit {0}

abbrev pub conclusion_automaton : Automaton (WordsState ConclusionWords) Conclusion
conclusion_automaton = words_automaton conclusion_grammar

abbrev pub conclusion_first : ℕ → ℕ → WordsState ConclusionWords
conclusion_first limit top = words_first conclusion_grammar limit top

abbrev pub conclusion_last : ℕ → ℕ → WordsState ConclusionWords
conclusion_last limit top = words_last conclusion_grammar limit top
