-- What the machine for ids reads.
use Rattle.pb_proof.proofs.Common.{cond, ℕ, ℤ, ◌≡◌, ◌≤◌, ◌↔◌, ◌<◌, ◌^◌, ◌∷◌, ◌++◌, arith, [], false, Bool, true, List, None, refl, same_Some, Some, subst, sym, nat_eq, false≢true}
use Rattle.pb_proof.proofs.Common.{◌⋅◌, regroup⁻¹, after_it, Blanks1, Digits, Language, Letter, LineEnd, Listed, SpellsId, SpellsIds, signed, bytes, EndsNumber}
use Rattle.pb_proof.proofs.Common.{reads_after, ReadsStatement, Walks, IsOfOne, IsState, delete_automaton, delete_first, delete_last}
use Rattle.pb_proof.proofs.lemmas.Listed.{listed_append, listed_walks}
use Rattle.pb_lines.proofs.lemmas.Ends.{not_zero}
use Rattle.pb_proof.proofs.lemmas.line.TextEnds.{number_end}
use Rattle.pb_proof.proofs.lemmas.Ids.{id_text, ends_dark}
use Rattle.pb_lines.proofs.lemmas.Asks.{MayAsk, in_name, at_end, at_mark, words_asked}
use Rattle.pb_lines.proofs.lemmas.Spelling.{IsSpelled}
use Rattle.pb_lines.proofs.lemmas.Theorems.{words_first_in_order, words_is_state, words_of_one, words_reads}
use Rattle.pb_lines.proofs.lemmas.Walks.{ends_line, first_after, further, gap, IsAfter, Led as Reach, number_led}
use Rattle.pb_proof.specs.declared.line.delete.DeleteWords.{DeleteWords}
use Rattle.pb_lines.specs.declared.Sign.{Sign}
use Rattle.pb_lines.specs.declared.Word.{Word}
use Rattle.pb_proof.specs.engine.line.DeleteLaws.{delete_counted, delete_lawful}
use Rattle.pb_lines.specs.contract.Grammar.{IsNumber}
use Rattle.pb_proof.specs.engine.line.Ids.{id_most, is_minus}
use Rattle.pb_proof.specs.engine.line.Delete.{AllGood, delete_grammar, delete_value, delete_words}
use Rattle.pb_lines.specs.engine.Words.{IsWordsInOrder, WordsState}
use Rattle.pb_lines.specs.engine.WordTexts.{Lead, SignText, WordText}
use Rattle.std.specs.Prelude.{option_map}

module _ (limit top : ℕ) where
  -- the ids, with blanks before each
  abbrev Row : DeleteWords → Language
  Row s = Listed (SpellsId top) s.ids

  worded : (s k : DeleteWords) (w : Word) (name : List ℕ) (p : List Letter) → IsNumber (delete_grammar limit top) s (Some w) → (delete_grammar limit top).next s w name ≡ Some k
      → (Row s ⋅ Lead false ⋅ WordText w name) p → Row k p
  worded s k (Word.Number sign n) name p (most, f, l) e h = by_zero (nat_eq n 0) refl e
    where
      by_zero : (z : Bool) → nat_eq n 0 ≡ z → option_map (λ id. delete_words (s.ids ++ id ∷ [])) (cond z None (Some (signed (is_minus sign) n))) ≡ Some k → Row k p
      by_zero true z i = cc
      by_zero false z i =
          subst (λ x. Row x p) (same_Some _ _ i)
          (listed_append (SpellsId top) s.ids (signed (is_minus sign) n) p (after_it (Row s ⋅ Blanks1) (WordText (Word.Number sign n) name) (SpellsId top (signed (is_minus sign) n)) p (λ q j. id_text top sign n most q z f l j) h))
  worded s k _ name p f e h = cc

  some_value : (ids e : List ℤ) (p : List Letter) → delete_value ids ≡ Some e → (Listed (SpellsId top) ids ⋅ LineEnd) p → SpellsIds limit top e p
  some_value [] e p i h = cc
  some_value (x ∷ ids) e p i h = subst (λ y. SpellsIds limit top y p) (same_Some _ _ i) (omega arith, h)

  pub delete_spelled : IsSpelled (delete_grammar limit top) (λ s. false) Row (SpellsIds limit top)
  delete_spelled = record {
    first = refl;
    apart = refl;
    word = λ s k w name p n e h. (worded s k w name p n e h, refl);
    colon = λ s k p e h. cc;
    capital = λ s b c e. cc;
    whole = λ s e p i h. some_value s.ids e p i h;
  }

  -- the machine reads each row of ids
  abbrev Follows : List ℤ → WordsState DeleteWords → Type 0
  Follows ids i = IsAfter delete_grammar limit top (delete_words ids) i

  sign_led : (ids : List ℤ) (sign : Sign) (n : ℕ) (u : List Letter) → 0 < n → id_most top sign ≡ Some top → n ≤ top → WordText (Word.Number sign n) [] u
      → Reach delete_grammar limit top (gap delete_grammar limit top (delete_words ids)) (delete_words (ids ++ signed (is_minus sign) n ∷ [])) u
  sign_led ids sign n u z e l h =
      number_led delete_grammar limit top (delete_words ids) (delete_words (ids ++ signed (is_minus sign) n ∷ [])) sign n u (top, e, l) (λ name. rw (not_zero n z) refl) h

  id_led : (ids : List ℤ) (id : ℤ) (u : List Letter) → SpellsId top id u → Reach delete_grammar limit top (gap delete_grammar limit top (delete_words ids)) (delete_words (ids ++ id ∷ [])) u
  id_led ids id u (true, n, z, l, e, h) = rw e (sign_led ids Sign.Minus n u z refl l h)
  id_led ids id u (false, n, z, l, e, h) = rw e (sign_led ids Sign.Nothing n u z refl l h)

  one_more : (ids : List ℤ) (id : ℤ) (i : WordsState DeleteWords) (t : List Letter) → Follows ids i → (Blanks1 ⋅ SpellsId top id) t
      → (next : WordsState DeleteWords) × Walks delete_automaton i t next × Follows (ids ++ id ∷ []) next
  one_more ids id i t h k = further delete_grammar limit top (delete_words ids) (delete_words (ids ++ id ∷ [])) i (SpellsId top id) t h (λ u q. id_led ids id u q) k

  pub delete_each : (ids : List ℤ) (t : List Letter) → SpellsIds limit top ids t → ReadsStatement delete_automaton (delete_first limit top) t ids (delete_last limit top)
  delete_each [] t h = absurd (omega (arith, h.0))
  delete_each (id ∷ ids) t (z, (a, b, e, p, q)) =
      let (mid, w, i) = listed_walks (SpellsId top) delete_automaton Follows one_more [] (id ∷ ids) (delete_first limit top) a (first_after delete_grammar limit top) p in
      subst (λ x. ReadsStatement delete_automaton (delete_first limit top) x (id ∷ ids) (delete_last limit top)) (sym e)
      (reads_after delete_automaton a b (delete_first limit top) mid (delete_last limit top) (id ∷ ids) w (ends_line delete_grammar limit top (delete_words (id ∷ ids)) mid (id ∷ ids) b i refl q))

pub delete_of_one : IsOfOne delete_automaton (IsWordsInOrder delete_grammar AllGood) (λ i. delete_last i.limit i.top)
delete_of_one = words_of_one delete_grammar AllGood delete_lawful delete_counted

-- A new machine reads exactly the ids.
pub delete_reads : (limit top : ℕ) (text : List Letter) (e : List ℤ) (after : WordsState DeleteWords) →
    ReadsStatement delete_automaton (delete_first limit top) text e after ↔ (SpellsIds limit top e text × (after ≡ delete_last limit top))
delete_reads limit top text e after =
    words_reads delete_grammar AllGood delete_lawful delete_counted (λ limit top s. false) Row SpellsIds delete_spelled limit top text e after (delete_each limit top e text)

pub delete_is_state : (i : WordsState DeleteWords) → IsWordsInOrder delete_grammar AllGood i → IsState delete_automaton i
delete_is_state = words_is_state delete_grammar AllGood delete_lawful delete_counted

pub delete_first_in_order : (limit top : ℕ) → limit < 2 ^ 127 → top < 2 ^ 63 → 0 < top → IsWordsInOrder delete_grammar AllGood (delete_first limit top)
delete_first_in_order = words_first_in_order delete_grammar AllGood delete_lawful delete_counted

-- It may allocate at a byte that ends an id.
may_ask : (limit top : ℕ) (s : DeleteWords) (t : List Letter) (b : ℕ) → MayAsk delete_grammar (λ limit top s. false) Row SpellsIds delete_spelled limit top s t b → EndsNumber (bytes t) b
may_ask limit top s t b (in_name h e) = absurd (false≢true e)
may_ask limit top s t b (at_end (Word.Number sign n) name a l h e) = number_end (Row limit top s ⋅ Blanks1 ⋅ SignText sign) n t b (regroup⁻¹ (Row limit top s ⋅ Blanks1) (SignText sign) (Digits n) t h) (ends_dark b e)
may_ask limit top s t b (at_end _ name a l h e) = absurd (false≢true a)
may_ask limit top s t b (at_mark a h d l) = absurd (false≢true a)

pub delete_asked : (limit top : ℕ) (t : List Letter) (i : WordsState DeleteWords) (b : ℕ) → Walks delete_automaton (delete_first limit top) t i → delete_automaton.asks i b ≡ true → EndsNumber (bytes t) b
delete_asked limit top t i b w h = may_ask i.limit i.top i.words t b (words_asked delete_grammar (λ limit top s. false) Row SpellsIds delete_spelled limit top t i b w h)
