-- The grammar of ids satisfies the laws of grammars.
use Rattle.pb_proof.specs.declared.line.delete.DeleteWords.{DeleteWords}
use Rattle.pb_lines.specs.declared.part.Part.{Part}
use Rattle.pb_lines.specs.declared.Word.{Word}
use Rattle.pb_lines.specs.declared.Sign.{Sign}
use Rattle.pb_lines.specs.contract.Laws.{IsCounted, IsGrammar, most_units}
use Rattle.pb_lines.specs.engine.Words.{words_at, WordsState}
use Rattle.pb_proof.specs.engine.line.Ids.{id_most}
use Rattle.pb_proof.specs.engine.line.Delete.{AllGood, delete_automaton, delete_grammar, delete_last, delete_value}
use Rattle.pb_text.specs.{contract.Automaton.Go, contract.Automaton.ReadsStatement, meaning.Languages.digit, meaning.Languages.unmarked, meaning.Spelling.Letter}
use Rattle.std.proofs.Common.{arith, refl, true, false, ℕ, ℤ, pos, ◌+◌, ◌≡◌, ◌≤◌, ◌<◌, ◌^◌, inl, List, [], ◌∷◌, ◌++◌, length, length-append, nat_eq, Some}
use Rattle.std.proofs.lemmas.Bool.{le-leb, Decides.nat_tests}
use Rattle.std.specs.Prelude.{is_some}

not_zero : (n : ℕ) → 0 < n → nat_eq n 0 ≡ false
not_zero n h = grind (arith, nat_tests)

some_most : (top : ℕ) (sign : Sign) (most : ℕ) → 0 < top → id_most top sign ≡ Some most → 0 < most
some_most top sign most h e = grind (arith, sign)

-- a further id is at least one
pub value_append : (ids : List ℤ) (id : ℤ) → delete_value (ids ++ id ∷ []) ≡ Some (ids ++ id ∷ [])
value_append [] id = refl
value_append (x ∷ ids) id = refl

module _ (limit top : ℕ) where
  comes : (s : DeleteWords) (sign : Sign) (n : ℕ) (name : List ℕ) → 0 < n → is_some ((delete_grammar limit top).next s (Word.Number sign n) name) ≡ true
  comes s sign n name h = rw (not_zero n h) refl

  -- an id and the line feed
  one_step : (s : DeleteWords) → 0 < top → delete_automaton.step (words_at delete_grammar limit top s [] Part.Gap) 49 ≡ Go (words_at delete_grammar limit top s [] (Part.Number Sign.Nothing 1))
  one_step s h = rw (le-leb 1 top (omega (arith, h))) refl

  leads : (s : DeleteWords) → 0 < top → (text : List Letter) × (e : List ℤ) × (after : WordsState DeleteWords) × ReadsStatement delete_automaton (words_at delete_grammar limit top s [] Part.Gap) text e after
  leads s h = (
    digit 1 ∷ unmarked 10 ∷ [],
    s.ids ++ pos 1 ∷ [],
    delete_last limit top,
    (words_at delete_grammar limit top s [] (Part.Number Sign.Nothing 1), one_step s h, refl, refl, (rw (value_append s.ids (pos 1)) refl, refl)),
  )

  grows : (s k : DeleteWords) (w : Word) (name : List ℕ) → (delete_grammar limit top).next s w name ≡ Some k → length k.ids ≤ length s.ids + most_units w name
  grows s k w name e = grind (arith, w, length-append)

  pub delete_lawful : limit < 2 ^ 127 → top < 2 ^ 63 → 0 < top → IsGrammar delete_grammar limit top (AllGood limit top)
  delete_lawful l t some = record {
    begins = tt;
    goes = λ s k w name g n e. tt;
    colons = λ s k g e. tt;
    leads = λ s g. leads s some;
    number = λ s sign most g e. (inl (some_most top sign most some e), λ n name h i. comes s sign n name h);
    literal = λ s e negated name. cc;
    digits = λ s sign n name other. refl;
    mark = λ s b name other. refl;
    capital = λ s b c name e. cc;
  }

  pub delete_counted : IsCounted (delete_grammar limit top)
  delete_counted = record { empty = refl; grows = grows; same = λ s k e. cc }
