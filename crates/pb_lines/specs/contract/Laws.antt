-- What a grammar of words has to satisfy, so that a machine reads its lines.
use Rattle.pb_lines.specs.declared.part.Part.{Part}
use Rattle.pb_lines.specs.declared.word.Sign.{Sign}
use Rattle.pb_lines.specs.declared.word.Word.{Word}
use Rattle.pb_lines.specs.declared.word.Capital.{Capital}
use Rattle.pb_lines.specs.contract.Grammar.{Grammar, IsNumber}
use Rattle.pb_lines.specs.engine.Words.{words_at, words_automaton, WordsState}
use Rattle.pb_text.specs.{contract.Automaton.ReadsStatement, meaning.Spelling.Letter}
use Rattle.std.specs.Prelude.{◌≡◌, ℕ, ◌⊎◌, ◌+◌, ◌<◌, ◌≤◌, Bool, true, List, [], length, Some, is_some}

-- how much a word may add: one, and the bytes of its name
abbrev pub most_units : Word → List ℕ → ℕ
most_units (Word.Literal negated) name = 1 + length name
most_units w name = 1

-- What is stored grows with the text.
pub record IsCounted {S E : Type 0} (g : Grammar S E) : Type 0 where
  pub empty : g.kept g.first ≡ 0
  pub grows : (s k : S) (w : Word) (name : List ℕ) → g.next s w name ≡ Some k → g.kept k ≤ g.kept s + most_units w name
  pub same : (s k : S) → g.colon s ≡ Some k → g.kept k ≤ g.kept s

module _ {S E : Type 0} (grammar : ℕ → ℕ → Grammar S E) where
  -- Good holds of the words on the way.
  pub record IsGrammar (limit top : ℕ) (Good : S → Type 0) : Type 0 where
    pub begins : Good (grammar limit top).first
    pub goes : (s k : S) (w : Word) (name : List ℕ) → Good s → IsNumber (grammar limit top) s (Some w) → (grammar limit top).next s w name ≡ Some k → Good k
    pub colons : (s k : S) → Good s → (grammar limit top).colon s ≡ Some k → Good k
    -- Some text completes the line.
    pub leads : (s : S) → Good s → (text : List Letter) × (e : E) × (after : WordsState S) ×
        ReadsStatement (words_automaton grammar) (words_at grammar limit top s [] Part.Gap) text e after
    -- What may come next may also be the next word, or one more digit makes it that.
    pub number : (s : S) (sign : Sign) (most : ℕ) → Good s → (grammar limit top).number s sign ≡ Some most
        → ((0 < most) ⊎ ((name : List ℕ) → is_some ((grammar limit top).next s (Word.Number sign 0) name) ≡ true))
        × ((n : ℕ) (name : List ℕ) → 0 < n → n ≤ most → is_some ((grammar limit top).next s (Word.Number sign n) name) ≡ true)
    pub literal : (s : S) → (grammar limit top).literal s ≡ true → (negated : Bool) (name : List ℕ) → is_some ((grammar limit top).next s (Word.Literal negated) name) ≡ true
    -- A number or a mark has no name.
    pub digits : (s : S) (sign : Sign) (n : ℕ) (name other : List ℕ) → (grammar limit top).next s (Word.Number sign n) name ≡ (grammar limit top).next s (Word.Number sign n) other
    pub mark : (s : S) (b : ℕ) (name other : List ℕ) → (grammar limit top).next s (Word.Mark b) name ≡ (grammar limit top).next s (Word.Mark b) other
    pub capital : (s : S) (b : ℕ) (c : Capital) (name : List ℕ) → (grammar limit top).capital s b ≡ Some c → is_some ((grammar limit top).next s (Word.Capital c) name) ≡ true
