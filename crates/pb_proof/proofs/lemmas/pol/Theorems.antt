-- The laws of the machine for postfix words.
use Rattle.pb_proof.proofs.Common.{ℕ, ◌<◌, ◌^◌, ◌≡◌, ◌↔◌, ◌∙◌, ◌∷◌, [], ap, arith, inl, inr, sym, refl, subst, true, false, List}
use Rattle.pb_proof.proofs.Common.{◌⋅◌, Byte, Digits, Language, Letter, IsState, IsTrue, IsOfOne, ReadsStatement, Walks, bytes, bytes-append, regroup⁻¹, asks_after, at_name, false≢true, nat_tests}
use Rattle.pb_proof.proofs.Common.{AsksLiteral, AsksWord, is_digit, is_letter, is_name_byte, SpellsWords, PolWord, PolState, pol_automaton, pol_first, pol_last, pol_grammar, adds_word}
use Rattle.pb_lines.proofs.lemmas.TextEnds.{joined_end, literal_end}
use Rattle.pb_proof.proofs.lemmas.line.TextEnds.{number_end}
use Rattle.pb_proof.proofs.lemmas.pol.Moves.{one_of}
use Rattle.pb_proof.proofs.lemmas.pol.Reads.{reads_each}
use Rattle.pb_proof.proofs.lemmas.pol.Spelling.{After, spelled}
use Rattle.pb_lines.proofs.lemmas.Asks.{Gap, MayAsk, IsLettered, in_name, at_end, at_mark, words_asked}
use Rattle.pb_lines.proofs.lemmas.Theorems as words
use Rattle.pb_lines.specs.declared.Word.{Word}
use Rattle.pb_proof.specs.engine.line.PolLaws.{Anyhow, pol_counted, pol_lawful}
use Rattle.pb_lines.specs.engine.WordTexts.{SignText, WordText}
use Rattle.pb_lines.specs.engine.Words.{IsWordsInOrder, WordsState, ends_word}

abbrev pub IsPolInOrder : WordsState PolState → Type 0
IsPolInOrder = IsWordsInOrder pol_grammar Anyhow

pub of_one : IsOfOne pol_automaton IsPolInOrder (λ i. pol_last i.limit i.top)
of_one = words.words_of_one pol_grammar Anyhow (λ limit top l t some. pol_lawful limit top some) pol_counted

-- What a new machine reads is a line of words, and then it has ended.
pub pol_reads : (limit top : ℕ) (text : List Letter) (e : List PolWord) (after : WordsState PolState)
    → ReadsStatement pol_automaton (pol_first limit top) text e after ↔ (SpellsWords limit top e text × (after ≡ pol_last limit top))
pol_reads limit top text e after =
    words.words_reads pol_grammar Anyhow (λ limit top l t some. pol_lawful limit top some) pol_counted (λ limit top s. false) After SpellsWords spelled limit top text e after (reads_each limit top e text)

-- A state in order satisfies `IsState`.
pub pol_is_state : (s : WordsState PolState) → IsPolInOrder s → IsState pol_automaton s
pol_is_state = words.words_is_state pol_grammar Anyhow (λ limit top l t some. pol_lawful limit top some) pol_counted

-- The first state is in order.
pub pol_first_in_order : (limit top : ℕ) → limit < 2 ^ 127 → top < 2 ^ 63 → 0 < top → IsPolInOrder (pol_first limit top)
pol_first_in_order = words.words_first_in_order pol_grammar Anyhow (λ limit top l t some. pol_lawful limit top some) pol_counted

-- Where the machine may allocate.
end_byte : (b : ℕ) → ends_word b ≡ true → (is_digit b ≡ false) × (is_name_byte b ≡ false)
end_byte b e = (grind (arith, nat_tests), grind (arith, nat_tests))

module _ (limit top : ℕ) (s : PolState) (t : List Letter) (b : ℕ) where
  abbrev Gaps : Language
  Gaps = Gap pol_grammar (λ limit top s. false) After SpellsWords spelled limit top s

  ends : (w : Word) (name : List ℕ) → adds_word w ≡ true → IsLettered w → (Gaps ⋅ WordText w name) t → ends_word b ≡ true → AsksWord (bytes t) b
  ends (Word.Number sign n) name a l h e = inr (inl (number_end (Gaps ⋅ SignText sign) n t b (regroup⁻¹ Gaps (SignText sign) (Digits n) t h) (end_byte b e).0))
  ends (Word.Literal negated) name a l (x, y, g, u, (is, v)) e = inl (at_name (bytes t) name b (literal_end Gaps negated name t (x, y, g, u, v)) is)
  ends (Word.Mark c) name a l (x, y, g, u, v) e =
      one_of (λ d. IsTrue (is_letter d) → Byte d y → AsksWord (bytes t) b) c 43 115 a (λ f k. absurd (false≢true f))
      (λ f k. inr (inr (inr (joined_end x y t (115 ∷ []) g ([], ap bytes k), (end_byte b e).1)))) l v
  ends (Word.Capital c) name a l h e = absurd (false≢true a)

  asks_word : MayAsk pol_grammar (λ limit top s. false) After SpellsWords spelled limit top s t b → AsksWord (bytes t) b
  asks_word (in_name (x, y, g, u, v) n) = inl (subst (λ (z : List ℕ). AsksLiteral z b) (sym (ap bytes g ∙ bytes-append x y)) (asks_after (bytes x) (bytes y) b v))
  asks_word (at_end w name a l h e) = ends w name a l h e
  asks_word (at_mark a h d l) = one_of (λ c. (c ≡ b) → is_letter c ≡ false → AsksWord (bytes t) b) b 43 115 a (λ e f. inr (inr (inl (sym e)))) (λ e f. absurd (false≢true (sym f))) refl l

pub pol_asked : (limit top : ℕ) (t : List Letter) (s : WordsState PolState) (b : ℕ) → Walks pol_automaton (pol_first limit top) t s → pol_automaton.asks s b ≡ true → AsksWord (bytes t) b
pol_asked limit top t s b w h = asks_word s.limit s.top s.words t b (words_asked pol_grammar (λ limit top s. false) After SpellsWords spelled limit top t s b w h)
