-- What the machine for a number reads.
use Rattle.pb_proof.proofs.Common.{ℕ, ◌≡◌, ◌≤◌, ◌↔◌, ◌<◌, ◌^◌, [], false, List, None, Option, refl, same_Some, Some, subst, sym, ◌⋅◌, nil_first, Blanks1, Count, Digits, Empty, Language, Letter, LineEnd}
use Rattle.pb_proof.proofs.Common.{reads_after, ReadsStatement, IsOfOne, IsState, SpellsCount, formula_automaton, formula_first, formula_last}
use Rattle.pb_lines.proofs.lemmas.Spelling.{IsSpelled}
use Rattle.pb_lines.proofs.lemmas.Theorems.{words_first_in_order, words_is_state, words_of_one, words_reads}
use Rattle.pb_lines.proofs.lemmas.Walks.{ends_line, first_after, further, number_led}
use Rattle.pb_proof.specs.declared.line.formula.FormulaWords.{FormulaWords}
use Rattle.pb_lines.specs.declared.Sign.{Sign}
use Rattle.pb_lines.specs.declared.Word.{Word}
use Rattle.pb_proof.specs.engine.line.FormulaLaws.{formula_counted, formula_lawful}
use Rattle.pb_lines.specs.contract.Grammar.{IsNumber}
use Rattle.pb_lines.specs.engine.Words.{IsWordsInOrder, WordsState}
use Rattle.pb_lines.specs.engine.WordTexts.{Lead, WordText}
use Rattle.pb_proof.specs.engine.line.Formula.{AllGood, formula_grammar, formula_next, formula_words}
use Rattle.pb_lines.specs.contract.Grammar.{following}
use Rattle.pb_lines.proofs.lemmas.Asks.{MayAsk, in_name, at_end, at_mark, words_asked}
use Rattle.pb_proof.proofs.Common.{true, Walks, false≢true}
use Rattle.std.specs.Prelude.{is_some, option_map}

-- nothing, or a number with blanks before it
abbrev Text : ℕ → Option ℕ → Language
Text top None = Empty
Text top (Some n) = Blanks1 ⋅ Count top n

module _ (limit top : ℕ) where
  abbrev After : FormulaWords → Language
  After s = Text top s.count

  worded : (count : Option ℕ) (k : FormulaWords) (w : Word) (name : List ℕ) (p : List Letter) → IsNumber (formula_grammar limit top) (formula_words count) (Some w)
      → (formula_grammar limit top).next (formula_words count) w name ≡ Some k → (Text top count ⋅ Lead false ⋅ WordText w name) p → After k p
  worded None k (Word.Number Sign.Nothing n) name p (most, f, l) e (ab, c, g, h, i) =
      let same : top ≡ most = same_Some _ _ f in
      subst (λ x. After x p) (same_Some _ _ e)
      (ab, c, g, nil_first Blanks1 ab h, (subst (λ x. n ≤ x) (sym same) l, nil_first (Digits n) c i))
  worded _ k _ name p f e h = cc

  pub formula_spelled : IsSpelled (formula_grammar limit top) (λ s. false) After (SpellsCount limit top)
  formula_spelled = record {
    first = refl;
    apart = refl;
    word = λ s k w name p n e h. (worded s.count k w name p n e h, refl);
    colon = λ s k p e h. cc;
    capital = λ s b c e. cc;
    whole = λ s e p i h. subst (λ x. SpellsCount limit top x p) (same_Some _ _ i) (whole s.count p h);
  }
    where
      whole : (count : Option ℕ) (p : List Letter) → (Text top count ⋅ LineEnd) p → SpellsCount limit top count p
      whole None p h = nil_first LineEnd p h
      whole (Some n) p h = h

  pub formula_each : (count : Option ℕ) (t : List Letter) → SpellsCount limit top count t → ReadsStatement formula_automaton (formula_first limit top) t count (formula_last limit top)
  formula_each None t h = ends_line formula_grammar limit top (formula_words None) (formula_first limit top) None t (first_after formula_grammar limit top) refl h
  formula_each (Some n) t (a, b, e, h, k) =
      let (mid, w, i) = further formula_grammar limit top (formula_words None) (formula_words (Some n)) (formula_first limit top) (Count top n) a (first_after formula_grammar limit top)
      (λ u q. number_led formula_grammar limit top (formula_words None) (formula_words (Some n)) Sign.Nothing n u (top, refl, q.0) (λ name. refl) ([], u, refl, refl, q.1)) h in
      subst (λ x. ReadsStatement formula_automaton (formula_first limit top) x (Some n) (formula_last limit top)) (sym e)
      (reads_after formula_automaton a b (formula_first limit top) mid (formula_last limit top) (Some n) w (ends_line formula_grammar limit top (formula_words (Some n)) mid (Some n) b i refl k))

pub formula_of_one : IsOfOne formula_automaton (IsWordsInOrder formula_grammar AllGood) (λ i. formula_last i.limit i.top)
formula_of_one = words_of_one formula_grammar AllGood formula_lawful formula_counted

-- A new machine reads exactly the text after `f`.
pub formula_reads : (limit top : ℕ) (text : List Letter) (e : Option ℕ) (after : WordsState FormulaWords) →
    ReadsStatement formula_automaton (formula_first limit top) text e after ↔ (SpellsCount limit top e text × (after ≡ formula_last limit top))
formula_reads limit top text e after =
    words_reads formula_grammar AllGood formula_lawful formula_counted (λ limit top s. false) After SpellsCount formula_spelled limit top text e after (formula_each limit top e text)

pub formula_is_state : (i : WordsState FormulaWords) → IsWordsInOrder formula_grammar AllGood i → IsState formula_automaton i
formula_is_state = words_is_state formula_grammar AllGood formula_lawful formula_counted

pub formula_first_in_order : (limit top : ℕ) → limit < 2 ^ 127 → top < 2 ^ 63 → 0 < top → IsWordsInOrder formula_grammar AllGood (formula_first limit top)
formula_first_in_order = words_first_in_order formula_grammar AllGood formula_lawful formula_counted

-- It allocates nothing.
no_ask : (limit top : ℕ) (s : FormulaWords) (t : List Letter) (b : ℕ) → MayAsk formula_grammar (λ limit top s. false) After SpellsCount formula_spelled limit top s t b → ⊥
no_ask limit top s t b (in_name h e) = unmarked_count s.count e
  where
    unmarked_count : (count : Option ℕ) → is_some (option_map (following (formula_grammar limit top)) (formula_next count (Word.Mark b))) ≡ true → ⊥
    unmarked_count None e = false≢true e
    unmarked_count (Some n) e = false≢true e
no_ask limit top s t b (at_end w name a l h e) = false≢true a
no_ask limit top s t b (at_mark a h d l) = false≢true a

pub formula_silent : (limit top : ℕ) (t : List Letter) (i : WordsState FormulaWords) (b : ℕ) → Walks formula_automaton (formula_first limit top) t i → formula_automaton.asks i b ≡ true → ⊥
formula_silent limit top t i b w h = no_ask i.limit i.top i.words t b (words_asked formula_grammar (λ limit top s. false) After SpellsCount formula_spelled limit top t i b w h)
