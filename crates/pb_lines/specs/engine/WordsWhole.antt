-- Words of a line at the start of a text.
use Rattle.pb_lines.specs.declared.part.Part.{Part}
use Rattle.pb_lines.specs.declared.word.Sign.{Sign}
use Rattle.pb_lines.specs.declared.word.Word.{Word}
use Rattle.pb_lines.specs.contract.Grammar.{Grammar, IsNumber}
use Rattle.pb_lines.specs.engine.Words.{words_at, words_automaton, words_first, words_gap, words_last, WordsState}
use Rattle.pb_text.proofs.lemmas.machine.Walking.{Walks}
use Rattle.pb_text.specs.{contract.Automaton.Automaton, contract.Automaton.Go, contract.Automaton.End, contract.Automaton.Runs}
use Rattle.pb_text.specs.meaning.{Classes.is_blank, Spelling.bytes, Spelling.Letter}
use Rattle.std.specs.Prelude.{◌≡◌, ◌⊎◌, ℕ, List, [], ◌∷◌, IsTrue, Some}

module _ {S E : Type 0} (grammar : ℕ → ℕ → Grammar S E) (limit top : ℕ) where
  abbrev m : Automaton (WordsState S) E
  m = words_automaton grammar

  -- The words of the state are s, and the last one is complete.
  pub record IsAfter (s : S) (i : WordsState S) : Type 0 where
    pub blank : (b : ℕ) → IsTrue (is_blank b) → m.step i b ≡ Go (words_gap grammar limit top s)
    pub semicolon : (e : E) → (grammar limit top).value s ≡ Some e → m.step i 59 ≡ Go (words_at grammar limit top s [] Part.Closing)
    pub feed : (e : E) → (grammar limit top).value s ≡ Some e → m.step i 10 ≡ End e (words_last grammar limit top)
    pub colon : (k : S) → (grammar limit top).colon s ≡ Some k → m.step i 58 ≡ Go (words_gap grammar limit top k)

  -- A part of a line leads to these words.
  abbrev pub Led : WordsState S → S → List Letter → Type 0
  Led i k t = (next : WordsState S) × Walks m i t next × IsAfter k next

  -- The text is this word: after a blank, it leads to the words with it, if it may come.
  pub record IsWordAt (s : S) (text : List ℕ) (w : Word) (name : List ℕ) : Type 0 where
    pub number : IsNumber (grammar limit top) s (Some w)
    pub leads : (k : S) → (grammar limit top).next s w name ≡ Some k → (t : List Letter) × (bytes t ≡ text) × Led (words_gap grammar limit top s) k t

  -- The text is all of a line after its first word but the line feed, and the line has this event.
  abbrev pub IsLine : List ℕ → E → Type 0
  IsLine text e = (mid : WordsState S) × Runs m (words_first grammar limit top) text mid × (m.step mid 10 ≡ End e (words_last grammar limit top))

abbrev pub sign_bytes : Sign → List ℕ
sign_bytes Sign.Nothing = []
sign_bytes Sign.Plus = 43 ∷ []
sign_bytes Sign.Minus = 45 ∷ []

-- `;`, or nothing
abbrev pub IsClosing : List ℕ → Type 0
IsClosing text = (text ≡ []) ⊎ (text ≡ 59 ∷ [])
