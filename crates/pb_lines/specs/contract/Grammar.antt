-- Grammars of lines that are made of words.
use Rattle.pb_lines.specs.declared.word.Capital.{Capital}
use Rattle.pb_lines.specs.declared.word.Follow.{Follow}
use Rattle.pb_lines.specs.declared.word.Sign.{Sign}
use Rattle.pb_lines.specs.declared.word.Word.{Word}
use Rattle.std.specs.Prelude.{◌≡◌, ℕ, ◌≤◌, Bool, false, List, Option, Some, None, option_map, is_some}

-- The words so far are a value of S, and a whole line is an event of E.
pub record Grammar (S E : Type 0) : Type 0 where
  -- no word
  pub first : S
  -- the largest number that may come next with this sign, if one may come
  pub number : S → Sign → Option ℕ
  -- a literal may come next
  pub literal : S → Bool
  -- the word in capital letters that may come next and begins with this byte
  pub capital : S → ℕ → Option Capital
  -- the words with one more, if it may come; the bytes are the name of a literal
  pub next : S → Word → List ℕ → Option S
  -- the words and a `:`, if it may come
  pub colon : S → Option S
  -- the event, if the line may end
  pub value : S → Option E
  -- one more word may allocate
  pub adds : S → Word → Bool
  -- how much is stored
  pub kept : S → ℕ

module _ {S E : Type 0} (g : Grammar S E) where
  -- the words with one more, if there is one
  abbrev pub with_word : S → Option Word → List ℕ → Option S
  with_word s None name = Some s
  with_word s (Some w) name = g.next s w name

  -- one more word may allocate, if there is one
  abbrev pub adds_word : S → Option Word → Bool
  adds_word s None = false
  adds_word s (Some w) = g.adds s w

  -- what may follow these words
  abbrev pub following : S → Follow
  following s = record { end = is_some (g.value s); colon = is_some (g.colon s) }

  abbrev pub follow : S → Option Word → List ℕ → Option Follow
  follow s w name = option_map following (with_word s w name)

  -- a number is one that may come
  abbrev pub IsNumber : S → Option Word → Type 0
  IsNumber s (Some (Word.Number sign n)) = (most : ℕ) × (g.number s sign ≡ Some most) × (n ≤ most)
  IsNumber s _ = Unit {0}
