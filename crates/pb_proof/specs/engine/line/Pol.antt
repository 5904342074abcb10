-- Lines of postfix words: which words may come, and what they do.
use Rattle.pb_proof.specs.declared.line.pol.held.Held.{Held}
use Rattle.pb_lines.specs.declared.Sign.{Sign}
use Rattle.pb_lines.specs.declared.Word.{Word}
use Rattle.pb_proof.specs.declared.word.PolWord.{PolWord}
use Rattle.pb_lines.specs.contract.Grammar.{Grammar}
use Rattle.pb_lines.specs.engine.Words.{words_automaton, words_first, words_last, WordsState}
use Rattle.pb_text.specs.contract.Automaton.{Automaton}
use Rattle.std.specs.Prelude.{ℕ, zero, suc, ◌+◌, ◌-◌, max, Bool, true, false, cond, ◌&&◌, ◌||◌, List, [], ◌∷◌, ◌++◌, length, pos, neg_ℤ, nat_eq, nat_le, Option, Some, None}

-- the words, how many expressions they are, and what the last word may still become
pub record PolState : Type 0 where
  pub words : List PolWord
  pub depth : ℕ
  pub held : Held

abbrev pub pol_at : List PolWord → ℕ → Held → PolState
pol_at ws d h = record { words = ws; depth = d; held = h }

abbrev pub no_words : PolState
no_words = pol_at [] 0 Held.Nothing

-- The numbers and literals that may come.
-- no operator is missing after the last word
abbrev pub is_free : Held → Bool
is_free Held.Large = false
is_free _ = true

-- the largest value that digits may have: that of an id or, with an expression before it, of a factor
abbrev pub bound : ℕ → ℕ → ℕ → ℕ
bound limit top zero = top
bound limit top (suc depth) = max limit top

abbrev pub most : ℕ → ℕ → ℕ → Sign → Option ℕ
most limit top depth Sign.Nothing = Some (bound limit top depth)
most limit top depth Sign.Minus = Some top
most limit top depth Sign.Plus = None

-- a number with an expression before it may be a factor, if it is within the limit
abbrev pub held_number : ℕ → ℕ → ℕ → Held
held_number limit zero n = Held.Nothing
held_number limit (suc depth) n = cond (nat_le n limit) Held.Number Held.Nothing

-- a name with an expression before it may be a variable to weaken
abbrev pub held_name : Bool → ℕ → Held
held_name false (suc depth) = Held.Name
held_name _ _ = Held.Nothing

-- a number or a literal is one expression more
abbrev pub with_operand : PolState → PolWord → Held → PolState
with_operand s w h = pol_at (s.words ++ w ∷ []) (suc s.depth) h

-- an id, or a factor that is too large for one
abbrev pub with_number : ℕ → ℕ → PolState → Sign → ℕ → PolState
with_number limit top s Sign.Minus n = with_operand s (PolWord.Id (neg_ℤ (pos n))) Held.Nothing
with_number limit top s _ n =
    cond (nat_le n top) (with_operand s (PolWord.Id (pos n)) (held_number limit s.depth n)) (with_operand s (PolWord.Multiply (pos n)) Held.Large)

-- The operators.
-- one that takes the number or the name before it
abbrev pub turns : Held → ℕ → Bool
turns Held.Nothing b = false
turns Held.Name b = nat_eq b 119
turns _ b = nat_eq b 42 || nat_eq b 100

abbrev pub turned : ℕ → PolWord → PolWord
turned b (PolWord.Id z) = cond (nat_eq b 42) (PolWord.Multiply z) (PolWord.Divide z)
turned b (PolWord.Multiply k) = cond (nat_eq b 42) (PolWord.Multiply k) (PolWord.Divide k)
turned b (PolWord.Axiom l) = PolWord.Weaken l.name
turned b w = w

-- the words with the last one changed
abbrev pub with_last : (PolWord → PolWord) → List PolWord → List PolWord
with_last f [] = []
with_last f (w ∷ []) = f w ∷ []
with_last f (w ∷ v ∷ ws) = w ∷ with_last f (v ∷ ws)

-- `+` and `s` need expressions before them
abbrev pub sums : PolState → ℕ → Bool
sums s b = is_free s.held && nat_eq b 43 && nat_le 2 s.depth

abbrev pub saturates : PolState → ℕ → Bool
saturates s b = is_free s.held && nat_eq b 115 && nat_le 1 s.depth

abbrev pub with_mark : PolState → ℕ → Option PolState
with_mark s b =
    cond (turns s.held b) (Some (pol_at (with_last (turned b) s.words) (s.depth - 1) Held.Nothing))
    (cond (sums s b) (Some (pol_at (s.words ++ PolWord.Add ∷ []) (s.depth - 1) Held.Nothing))
    (cond (saturates s b) (Some (pol_at (s.words ++ PolWord.Saturate ∷ []) s.depth Held.Nothing)) None))

abbrev pub with_pol_word : ℕ → ℕ → PolState → Word → List ℕ → Option PolState
with_pol_word limit top s (Word.Number sign n) name = cond (nat_eq n 0) None (Some (with_number limit top s sign n))
with_pol_word limit top s (Word.Literal negated) name =
    cond (is_free s.held) (Some (with_operand s (PolWord.Axiom (record { negated = negated; name = name })) (held_name negated s.depth))) None
with_pol_word limit top s (Word.Mark b) name = with_mark s b
with_pol_word limit top s (Word.Capital c) name = None

-- What is stored.
-- one for the word, plus the number of bytes of its name
abbrev pub word_units : PolWord → ℕ
word_units (PolWord.Axiom literal) = 1 + length literal.name
word_units (PolWord.Weaken name) = 1 + length name
word_units _ = 1

-- the sum over all words
abbrev pub units : List PolWord → ℕ
units [] = 0
units (w ∷ ws) = word_units w + units ws

-- the words that may allocate: those that add a word to the list
abbrev pub adds_word : Word → Bool
adds_word (Word.Mark b) = nat_eq b 43 || nat_eq b 115
adds_word (Word.Capital c) = false
adds_word _ = true

abbrev pub pol_grammar : ℕ → ℕ → Grammar PolState (List PolWord)
pol_grammar limit top = record {
  first = no_words;
  number = λ s sign. cond (is_free s.held) (most limit top s.depth sign) None;
  literal = λ s. is_free s.held;
  capital = λ s b. None;
  next = with_pol_word limit top;
  colon = λ s. None;
  value = λ s. cond (nat_eq s.depth 1) (Some s.words) None;
  adds = λ s w. adds_word w;
  kept = λ s. units s.words;
}

-- the automaton of the machine, and its states before the words and after them
abbrev pub pol_automaton : Automaton (WordsState PolState) (List PolWord)
pol_automaton = words_automaton pol_grammar

abbrev pub pol_first : ℕ → ℕ → WordsState PolState
pol_first = words_first pol_grammar

abbrev pub pol_last : ℕ → ℕ → WordsState PolState
pol_last = words_last pol_grammar
