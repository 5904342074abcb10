-- A machine for lines that are made of words.
use Rattle.pb_lines.specs.declared.word.Capital.{Capital}
use Rattle.pb_lines.specs.declared.word.Follow.{Follow}
use Rattle.pb_lines.specs.declared.word.Sign.{Sign}
use Rattle.pb_lines.specs.declared.word.Word.{Word}
use Rattle.pb_lines.specs.declared.part.Part.{Part}
use Rattle.pb_lines.specs.declared.part.Step.{Step}
use Rattle.pb_lines.specs.contract.Grammar.{Grammar, with_word, adds_word, follow, IsNumber}
use Rattle.pb_text.specs.{contract.Automaton.Automaton, contract.Automaton.Next, contract.Automaton.Go, contract.Automaton.End, contract.Automaton.Refuse}
use Rattle.pb_text.specs.meaning.Classes.{is_blank, is_digit, is_letter, is_name_byte}
use Rattle.std.specs.Prelude.{◌≡◌, ℕ, ◌+◌, ◌-◌, ◌*◌, ◌^◌, ◌<◌, ◌≤◌, min, Bool, true, false, cond, ◌&&◌, ◌||◌, List, [], ◌∷◌, ◌++◌, length, slice_index_or, nat_eq, nat_le, nat_lt, Option, Some, None, is_some, codes}

abbrev pub capital_bytes : Capital → List ℕ
capital_bytes Capital.NoClaim = codes "NONE"
capital_bytes Capital.Unsat = codes "UNSAT"
capital_bytes Capital.Sat = codes "SAT"
capital_bytes Capital.Bounds = codes "BOUNDS"
capital_bytes Capital.Infinity = codes "INF"

-- What the machine does with a byte.
-- a further digit
abbrev pub number_step : Option ℕ → Sign → ℕ → ℕ → Step
number_step None sign n b = Step.Stop
number_step (Some most) sign n b =
    cond (is_digit b && nat_le (10 * n + (b - 48)) most) (Step.To (Part.Number sign (10 * n + (b - 48)))) Step.Stop

-- a further byte of a word in capital letters
abbrev pub capital_step : Capital → ℕ → ℕ → Step
capital_step c k b =
    cond (nat_lt k (length (capital_bytes c)) && nat_eq (slice_index_or (capital_bytes c) k 0) b) (Step.To (Part.Capital c (k + 1))) Step.Stop

-- a byte that ends a word
abbrev pub end_word : Option Word → ℕ → Step
end_word w b =
    cond (nat_eq b 10) (Step.Finish w)
    (cond (nat_eq b 59) (Step.Close w) (cond (nat_eq b 58) (Step.Colon w) (Step.End w Part.Gap)))

abbrev pub end_step : Part → ℕ → Step
end_step Part.Start b = end_word None b
end_step Part.Gap b = end_word None b
end_step Part.Symbol b = end_word None b
end_step (Part.Number sign n) b = end_word (Some (Word.Number sign n)) b
end_step (Part.Letter c) b = end_word (Some (Word.Mark c)) b
end_step (Part.Name negated) b = end_word (Some (Word.Literal negated)) b
end_step (Part.Capital c k) b = cond (nat_eq k (length (capital_bytes c))) (end_word (Some (Word.Capital c)) b) Step.Stop
end_step _ b = Step.Stop

-- a byte after the `;`
abbrev pub closing_step : ℕ → Step
closing_step b = cond (is_blank b) (Step.To Part.Closing) (cond (nat_eq b 10) (Step.Finish None) Step.Stop)

-- a blank, a line feed, `;` or `:`
abbrev pub ends_word : ℕ → Bool
ends_word b = is_blank b || nat_eq b 10 || nat_eq b 59 || nat_eq b 58

module _ {S E : Type 0} (g : Grammar S E) where
  -- a byte that is a word, or the sign of a number
  abbrev pub signed_or : Option ℕ → Sign → ℕ → Step
  signed_or (Some most) sign b = Step.To (Part.Sign sign)
  signed_or None sign b = Step.End (Some (Word.Mark b)) Part.Symbol

  abbrev pub mark_step : S → ℕ → Step
  mark_step s b =
      cond (nat_eq b 43) (signed_or (g.number s Sign.Plus) Sign.Plus b)
      (cond (nat_eq b 45) (signed_or (g.number s Sign.Minus) Sign.Minus b) (Step.End (Some (Word.Mark b)) Part.Symbol))

  -- a letter that begins a word
  abbrev pub capital_or : Option Capital → Bool → ℕ → Step
  capital_or (Some c) named b = Step.To (Part.Capital c 1)
  capital_or None named b = cond named (Step.Add (Part.Letter b)) Step.Stop

  abbrev pub letter_step : S → List ℕ → ℕ → Step
  letter_step s name b = capital_or (g.capital s b) (g.literal s || is_some (follow g s (Some (Word.Mark b)) name)) b

  -- the first byte of a word
  abbrev pub begin_step : S → List ℕ → ℕ → Step
  begin_step s name b =
      cond (is_digit b) (number_step (g.number s Sign.Nothing) Sign.Nothing 0 b)
      (cond (is_letter b) (letter_step s name b)
      (cond (nat_eq b 126 && g.literal s) (Step.To Part.Tilde) (mark_step s b)))

  -- a further byte of a word
  abbrev pub inner_step : S → List ℕ → Part → ℕ → Step
  inner_step s name Part.Gap b = begin_step s name b
  inner_step s name (Part.Sign sign) b = number_step (g.number s sign) sign 0 b
  inner_step s name (Part.Number sign n) b = number_step (g.number s sign) sign n b
  inner_step s name Part.Tilde b = cond (is_letter b) (Step.Add Part.First) Step.Stop
  inner_step s name Part.First b = cond (is_name_byte b) (Step.Add (Part.Name true)) Step.Stop
  inner_step s name (Part.Letter c) b = cond (g.literal s && is_name_byte b) (Step.Add (Part.Name false)) Step.Stop
  inner_step s name (Part.Name negated) b = cond (is_name_byte b) (Step.Add (Part.Name negated)) Step.Stop
  inner_step s name (Part.Capital c k) b = capital_step c k b
  inner_step s name _ b = Step.Stop

  abbrev pub step_of : S → List ℕ → Part → ℕ → Step
  step_of s name Part.Closing b = closing_step b
  step_of s name Part.Done b = Step.Stop
  step_of s name p b = cond (ends_word b) (end_step p b) (inner_step s name p b)

-- the word that a step ends, if it ends one, or none
abbrev pub ended : Step → Option (Option Word)
ended (Step.End w p) = Some w
ended (Step.Close w) = Some w
ended (Step.Colon w) = Some w
ended (Step.Finish w) = Some w
ended _ = None

-- a step that ends a word may be taken, given what may follow
abbrev pub may_come : Step → Follow → Bool
may_come (Step.End w p) f = true
may_come (Step.Finish w) f = f.end
may_come (Step.Close w) f = f.end
may_come (Step.Colon w) f = f.colon
may_come _ f = false

-- What is being read may come, or is the end of a line.
module _ {S E : Type 0} (g : Grammar S E) where
  abbrev pub PartFits : S → List ℕ → Part → Type 0
  PartFits s name Part.Gap = name ≡ []
  PartFits s name (Part.Sign sign) = (most : ℕ) × (g.number s sign ≡ Some most)
  PartFits s name (Part.Number sign n) = IsNumber g s (Some (Word.Number sign n))
  PartFits s name Part.Tilde = g.literal s ≡ true
  PartFits s name Part.First = g.literal s ≡ true
  PartFits s name (Part.Letter b) = (g.literal s || is_some (follow g s (Some (Word.Mark b)) [])) ≡ true
  PartFits s name (Part.Name negated) = g.literal s ≡ true
  PartFits s name (Part.Capital c k) = (k ≤ length (capital_bytes c)) × ((other : List ℕ) → is_some (g.next s (Word.Capital c) other) ≡ true)
  PartFits s name Part.Closing = is_some (g.value s) ≡ true
  PartFits s name _ = Unit {0}

-- the limits, the words that are complete, the name that is being read, and what was read last
pub record WordsState (S : Type 0) : Type 0 where
  pub limit : ℕ
  pub top : ℕ
  pub words : S
  pub name : List ℕ
  pub part : Part

-- A step with what it leads to, if there is that.
abbrev pub if_some : {A S E : Type 0} → Option A → (A → Next S E) → Next S E
if_some None f = Refuse
if_some (Some x) f = f x

abbrev pub is_midway : Part → Bool
is_midway Part.Start = false
is_midway Part.Done = false
is_midway _ = true

abbrev pub is_done : Part → Bool
is_done Part.Done = true
is_done _ = false

abbrev pub is_number : Part → Bool
is_number (Part.Number sign n) = true
is_number _ = false

-- a literal counts as stored from the first byte of its name on
abbrev pub in_hand : Part → ℕ
in_hand Part.First = 1
in_hand (Part.Letter b) = 1
in_hand (Part.Name negated) = 1
in_hand _ = 0

-- one unit at the byte before a word, so that the first byte of a name may also add its literal
abbrev pub ready : Part → ℕ
ready Part.Gap = 1
ready (Part.Sign sign) = 1
ready (Part.Number sign n) = 1
ready Part.Tilde = 1
ready (Part.Capital c k) = 1
ready _ = 0

module _ {S E : Type 0} (grammar : ℕ → ℕ → Grammar S E) where
  abbrev pub words_at : ℕ → ℕ → S → List ℕ → Part → WordsState S
  words_at limit top s name p = record { limit = limit; top = top; words = s; name = name; part = p }

  -- at blanks after these words
  abbrev pub words_gap : ℕ → ℕ → S → WordsState S
  words_gap limit top s = words_at limit top s [] Part.Gap

  -- before the words, and after the line
  abbrev pub words_first : ℕ → ℕ → WordsState S
  words_first limit top = words_at limit top (grammar limit top).first [] Part.Start

  abbrev pub words_last : ℕ → ℕ → WordsState S
  words_last limit top = words_at limit top (grammar limit top).first [] Part.Done

  module _ (i : WordsState S) where
    abbrev g : Grammar S E
    g = grammar i.limit i.top

    abbrev pub act : ℕ → Step → Next (WordsState S) E
    act b (Step.To p) = Go (words_at i.limit i.top i.words i.name p)
    act b (Step.Add p) = Go (words_at i.limit i.top i.words (i.name ++ b ∷ []) p)
    act b (Step.End w p) = if_some (with_word g i.words w i.name) (λ s. Go (words_at i.limit i.top s [] p))
    act b (Step.Close w) = if_some (with_word g i.words w i.name) (λ s. if_some (g.value s) (λ e. Go (words_at i.limit i.top s [] Part.Closing)))
    act b (Step.Colon w) = if_some (with_word g i.words w i.name) (λ s. if_some (g.colon s) (λ t. Go (words_at i.limit i.top t [] Part.Gap)))
    act b (Step.Finish w) = if_some (with_word g i.words w i.name) (λ s. if_some (g.value s) (λ e. End e (words_last i.limit i.top)))
    act b Step.Stop = Refuse

    abbrev pub step_at : ℕ → Step
    step_at b = step_of g i.words i.name i.part b

    -- whether the machine may allocate: at a byte of a name, or at the end of a word
    abbrev pub asks : Step → Bool
    asks (Step.Add p) = true
    asks (Step.End w p) = adds_word g i.words w
    asks (Step.Close w) = adds_word g i.words w
    asks (Step.Colon w) = adds_word g i.words w
    asks (Step.Finish w) = adds_word g i.words w
    asks _ = false

    abbrev pub all_units : ℕ
    all_units = g.kept i.words + in_hand i.part + length i.name

  abbrev pub words_automaton : Automaton (WordsState S) E
  words_automaton = record {
    step = λ i b. act i b (step_at i b);
    done = λ i. is_done i.part;
    begun = λ i. is_midway i.part;
    in_number = λ i. is_number i.part;
    asks = λ i b. asks i (step_at i b);
    kept = λ i. min (all_units i) (2 ^ 64 - 1);
    spent = λ i. all_units i + ready i.part;
  }

  -- The invariant of a machine; Good is that of the words.
  pub record IsWordsInOrder (Good : ℕ → ℕ → S → Type 0) (i : WordsState S) : Type 0 where
    pub limit : i.limit < 2 ^ 127
    pub top : i.top < 2 ^ 63
    pub some : 0 < i.top
    pub good : Good i.limit i.top i.words
    pub fits : PartFits (grammar i.limit i.top) i.words i.name i.part
    pub empty : is_midway i.part ≡ false → (i.words ≡ (grammar i.limit i.top).first) × (i.name ≡ [])
    pub nameless : in_hand i.part ≡ 0 → i.name ≡ []
