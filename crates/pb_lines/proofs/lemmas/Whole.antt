-- Words of a line that are read at once. Offered to other crates.
use Rattle.pb_lines.proofs.Common.{ℕ, zero, suc, ◌+◌, ◌<◌, ◌≤◌, ◌^◌, ◌≡◌, ◌∙◌, ◌++◌, ◌∷◌, [], Bool, true, false, List, Option, Some, None, ap, arith, refl, sym, subst, inl, inr, IsTrue, length, length-take-le, take, get_or, value_from}
use Rattle.pb_lines.proofs.Common.{AreDigits, Digits, IsName, Letter, is_letter, unmarked, plain, bytes, bytes-append, bytes-plain, literal_bytes, all_rest, prefix_parts, text_after, append-nil}
use Rattle.pb_lines.proofs.Common.{Automaton, Go, IsState, Runs, Walks, runs_more, runs_on, IsClosing, IsLine, IsWordAt}
use Rattle.pb_lines.proofs.lemmas.Ends.{digits_text, text_run}
use Rattle.pb_lines.proofs.lemmas.Theorems.{words_is_state, words_of_one}
use Rattle.pb_lines.proofs.lemmas.Walks.{IsAfter, by_step, first_after, letter_led, literal_led, number_led, symbol_led}
use Rattle.pb_lines.specs.declared.part.Part.{Part}
use Rattle.pb_lines.specs.declared.part.Step.{Step}
use Rattle.pb_lines.specs.declared.word.Follow.{Follow}
use Rattle.pb_lines.specs.declared.word.Sign.{Sign}
use Rattle.pb_lines.specs.declared.word.Word.{Word}
use Rattle.pb_lines.specs.contract.Grammar.{follow, following, Grammar}
use Rattle.pb_lines.specs.contract.Laws.{IsCounted, IsGrammar}
use Rattle.pb_lines.specs.engine.WordsWhole.{sign_bytes}
use Rattle.pb_lines.specs.engine.WordTexts.{SignText}
use Rattle.pb_lines.specs.engine.Words.{WordsState, IsWordsInOrder, words_at, words_automaton, words_first, words_gap, step_of}
use Rattle.pb_text.proofs.lemmas.text.Spans.{runs_further}
use Rattle.std.specs.Prelude.{IsSome, is_some, option_map}
use Rattle.std.proofs.lemmas.List.{get_or-drop}

pub mapped_some : {A B : Type 0} (f : A → B) (x : Option A) → is_some (option_map f x) ≡ is_some x
mapped_some f None = refl
mapped_some f (Some x) = refl

pub none_given : {A : Type 0} (x y : Option A) → is_some x ≡ false → x ≡ y → y ≡ None
none_given None y e f = sym f
none_given (Some x) y e f = cc

-- a line that may end has a value
pub may_end : {S E : Type 0} (g : Grammar S E) (s : S) (f : Follow) (name : List ℕ) → Some f ≡ follow g s None name → f.end ≡ true → IsSome (g.value s)
may_end g s f name e h = let q : f ≡ following g s = cc in sym (ap (λ y. y.end) q) ∙ h

pub some_taken : (text : List ℕ) (n : ℕ) → n ≤ length text → (n ≡ 0 → ⊥) → take n text ≡ [] → ⊥
some_taken text n h some e = let l : length (take n text) ≡ n = length-take-le n text h in some (sym l ∙ ap length e)

-- a byte of the rest of a text
pub far_byte : (text : List ℕ) (i n : ℕ) → get_or (text_after i text) n 0 ≡ get_or text (i + n) 0
far_byte text i n = ap (λ (x : List ℕ). get_or x n 0) (all_rest text i) ∙ get_or-drop i text n 0

pub first_byte : (text : List ℕ) → 0 < length text → take 1 text ≡ get_or text 0 0 ∷ []
first_byte [] h = absurd (let no : ⊥ = omega (arith, h) in no)
first_byte (b ∷ text) h = refl

-- the text of a sign
sign_text : (sign : Sign) → (a : List Letter) × SignText sign a × (bytes a ≡ sign_bytes sign)
sign_text Sign.Nothing = ([], refl, refl)
sign_text Sign.Plus = (unmarked 43 ∷ [], refl, refl)
sign_text Sign.Minus = (unmarked 45 ∷ [], refl, refl)

-- Words.
module _ {S E : Type 0} (grammar : ℕ → ℕ → Grammar S E) (limit top : ℕ) (s : S) where
  abbrev g : Grammar S E
  g = grammar limit top

  module _ (Good : S → Type 0) (laws : IsGrammar grammar limit top Good) where
    pub number_word : (text name : List ℕ) (sign : Sign) (i n v most : ℕ) → g.number s sign ≡ Some most → v ≤ most → take i text ≡ sign_bytes sign → AreDigits (take n (text_after i text))
        → n ≤ length (text_after i text) → (n ≡ 0 → ⊥) → v ≡ value_from 0 (take n (text_after i text)) → IsWordAt grammar limit top s (take (i + n) text) (Word.Number sign v) name
    number_word text name sign i n v most e l signs all fits some same =
        let digits : List ℕ = take n (text_after i text) in
        let (t, d, b) = digits_text digits all (some_taken (text_after i text) n fits some) in
        let (a, c, f) = sign_text sign in record {
          number = (most, e, l);
          leads = λ k h. (
            a ++ t,
            bytes-append a t ∙ (ap (λ x. x ++ bytes t) (f ∙ sym signs) ∙ (ap (λ x. take i text ++ x) b ∙ sym (prefix_parts text i n))),
            number_led grammar limit top s k sign v (a ++ t) (most, e, l) (λ other. laws.digits s sign v other name ∙ h) (a, t, refl, c, subst (λ m. Digits m t) (sym same) d),
          );
        }

    pub letter_word : (b : ℕ) (name : List ℕ) → IsTrue (is_letter b) → g.capital s b ≡ None → IsWordAt grammar limit top s (b ∷ []) (Word.Mark b) name
    letter_word b name l e = record {
      number = tt;
      leads = λ k h. (unmarked b ∷ [], refl, letter_led grammar limit top s k b (unmarked b ∷ []) l e (λ other. laws.mark s b other name ∙ h) refl);
    }

    symbol_word : (b : ℕ) (name : List ℕ) → step_of g s [] Part.Gap b ≡ Step.End (Some (Word.Mark b)) Part.Symbol → IsWordAt grammar limit top s (b ∷ []) (Word.Mark b) name
    symbol_word b name e = record {
      number = tt;
      leads = λ k h. (unmarked b ∷ [], refl, symbol_led grammar limit top s k b (unmarked b ∷ []) e (λ other. laws.mark s b other name ∙ h) refl);
    }

    pub star_word : (b : ℕ) (name : List ℕ) → b ≡ 42 → IsWordAt grammar limit top s (b ∷ []) (Word.Mark b) name
    star_word b name e = symbol_word b name (rw e refl)

    pub plus_word : (b : ℕ) (name : List ℕ) → b ≡ 43 → g.number s Sign.Plus ≡ None → IsWordAt grammar limit top s (b ∷ []) (Word.Mark b) name
    plus_word b name e f = symbol_word b name (rw (e, f) refl)

  -- the first byte of the name of a literal that is not negated
  first_of_name : (text name : List ℕ) (n : ℕ) → take n text ≡ name → IsName name → get_or name 0 0 ≡ get_or text 0 0
  first_of_name text [] n e h = absurd h
  first_of_name [] (a ∷ name) zero e h = cc
  first_of_name [] (a ∷ name) (suc n) e h = cc
  first_of_name (b ∷ text) (a ∷ name) zero e h = cc
  first_of_name (b ∷ text) (a ∷ name) (suc n) e h = cc

  pub literal_word : (text name : List ℕ) (n : ℕ) (negated : Bool) → g.literal s ≡ true → g.capital s (get_or text 0 0) ≡ None → IsName name → take n text ≡ literal_bytes negated name
      → IsWordAt grammar limit top s (take n text) (Word.Literal negated) name
  literal_word text name n negated l c h e = record {
    number = tt;
    leads = λ k f.
        (plain (literal_bytes negated name), bytes-plain (literal_bytes negated name) ∙ sym e, literal_led grammar limit top s k negated name (plain (literal_bytes negated name)) (record { literal = l; plain = λ z. opened negated z e }) f (h, refl));
  }
    where
      opened : (z : Bool) → z ≡ false → take n text ≡ literal_bytes z name → g.capital s (get_or name 0 0) ≡ None
      opened true z i = cc
      opened false z i = ap (g.capital s) (first_of_name text name n i h) ∙ c

-- What the machine has read.
module _ {S E : Type 0} (grammar : ℕ → ℕ → Grammar S E) (Good : ℕ → ℕ → S → Type 0)
    (lawful : (limit top : ℕ) → limit < 2 ^ 127 → top < 2 ^ 63 → 0 < top → IsGrammar grammar limit top (Good limit top))
    (counted : (limit top : ℕ) → IsCounted (grammar limit top)) (limit top : ℕ) where
  abbrev m : Automaton (WordsState S) E
  m = words_automaton grammar

  abbrev gap : S → WordsState S
  gap s = words_gap grammar limit top s

  abbrev Ordered : WordsState S → Type 0
  Ordered i = IsWordsInOrder grammar Good i

  ordered : (i next : WordsState S) (b : ℕ) → Ordered i → m.step i b ≡ Go next → Ordered next
  ordered i next b h e = (words_of_one grammar Good lawful counted).keeps i next b h e

  walks_ordered : (t : List Letter) (i next : WordsState S) → Ordered i → Walks m i t next → Ordered next
  walks_ordered [] i next h w = subst Ordered (sym w) h
  walks_ordered (l ∷ t) i next h (mid, e, b, n, w) = walks_ordered t mid next (ordered i mid l.byte h e) w

  state : (i : WordsState S) → Ordered i → IsState m i
  state i h = words_is_state grammar Good lawful counted i h

  -- after a text, the words are k, and the last one is complete
  pub record HasRead (i : WordsState S) (text : List ℕ) (k : S) : Type 0 where
    pub next : WordsState S
    pub runs : Runs m i text next
    pub after : IsAfter grammar limit top k next
    pub order : Ordered next

  word_read : (s k : S) (text name : List ℕ) (w : Word) → Ordered (gap s) → IsWordAt grammar limit top s text w name → (grammar limit top).next s w name ≡ Some k → HasRead (gap s) text k
  word_read s k text name w h x e =
      let (t, b, (next, walk, after)) = x.leads k e in
      record { next = next; runs = text_run m Ordered _ (words_of_one grammar Good lawful counted) t text (gap s) next b h walk; after = after; order = walks_ordered t (gap s) next h walk }

  -- one more word after others, and a space after it
  pub word_taken : (old : WordsState S) (s k : S) (text name : List ℕ) (w : Word) (i n : ℕ) → Ordered (gap s) → Runs m old (take i text) (gap s) → IsWordAt grammar limit top s (take n (text_after i text)) w name
      → (grammar limit top).next s w name ≡ Some k → i + n < length text → get_or text (i + n) 0 ≡ 32
      → Runs m old (take (i + n + 1) text) (gap k) × Ordered (gap k)
  word_taken old s k text name w i n h r x e inside space =
      let read = word_read s k (take n (text_after i text)) name w h x e in
      let blank : m.step read.next 32 ≡ Go (gap k) = read.after.blank 32 refl in
      let last = ordered read.next (gap k) 32 read.order blank in (
        runs_on m old text (i + n) read.next (gap k) inside (runs_further m old text i n (gap s) read.next r read.runs) (subst (λ b. m.step read.next b ≡ Go (gap k)) (sym space) blank) (state (gap k) last),
        last,
      )

  -- no word yet
  pub none_read : Ordered (words_first grammar limit top) → HasRead (words_first grammar limit top) [] (grammar limit top).first
  none_read h = record { next = words_first grammar limit top; runs = refl; after = first_after grammar limit top; order = h }

  -- a space and one more word
  pub more_read : (old : WordsState S) (s k : S) (text name : List ℕ) (w : Word) (i n : ℕ) → HasRead old (take i text) s → i < length text → get_or text i 0 ≡ 32
      → IsWordAt grammar limit top s (take n (text_after (i + 1) text)) w name → (grammar limit top).next s w name ≡ Some k → HasRead old (take (i + 1 + n) text) k
  more_read old s k text name w i n read inside space x e =
      let blank : m.step read.next 32 ≡ Go (gap s) = read.after.blank 32 refl in
      let order = ordered read.next (gap s) 32 read.order blank in
      let word = word_read s k (take n (text_after (i + 1) text)) name w order x e in
      let runs = runs_on m old text i read.next (gap s) inside read.runs (subst (λ b. m.step read.next b ≡ Go (gap s)) (sym space) blank) (state (gap s) order) in
      record { next = word.next; runs = runs_further m old text (i + 1) n (gap s) word.next runs word.runs; after = word.after; order = word.order }

  -- the end of a line
  pub line_ends : (text closing : List ℕ) (k : S) (e : E) → HasRead (words_first grammar limit top) text k → (grammar limit top).value k ≡ Some e → IsClosing closing → IsLine grammar limit top (text ++ closing) e
  line_ends text closing k e read v (inl none) =
      subst (λ x. IsLine grammar limit top x e) (sym (append-nil text) ∙ ap (λ z. text ++ z) (sym none)) (read.next, read.runs, read.after.feed e v)
  line_ends text closing k e read v (inr semicolon) =
      let closed : WordsState S = words_at grammar limit top k [] Part.Closing in
      let go : m.step read.next 59 ≡ Go closed = read.after.semicolon e v in
      subst (λ x. IsLine grammar limit top x e) (ap (λ z. text ++ z) (sym semicolon)) (
        closed,
        runs_more m (words_first grammar limit top) text read.next 59 closed read.runs go (state closed (ordered read.next closed 59 read.order go)),
        by_step grammar limit top k [] Part.Closing 10 (Step.Finish None) refl ∙ rw v refl,
      )
