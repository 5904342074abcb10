-- The laws of a machine for words, and what it reads. Offered to other crates.
use Rattle.pb_lines.proofs.Common.{arith, ℕ, ◌+◌, ◌*◌, ◌-◌, ◌^◌, ◌<◌, ◌≤◌, ◌≡◌, ◌∙◌, ◌||◌, ◌↔◌, ◌++◌, ◌∷◌, [], Bool, true, false, cond, List, Option, Some, None, refl, sym, subst, IsTrue, length, inl, inr, min-le_left, length-append}
use Rattle.pb_lines.proofs.Common.{Automaton, Next, Go, End, Refuse, IsOfOne, IsState, is_state, ReadsOn, reads_before, ReadsStatement, Letter, Language, unmarked, never, one_state}
use Rattle.std.proofs.lemmas.Bool.{ltb-true}
use Rattle.pb_lines.proofs.Common.{letter_name, zero, suc, map, drop, length-drop, reads_after, leb-true, and_parts, is_digit, is_letter, is_name_byte, nat_eq, nat_le}
use Rattle.pb_lines.specs.declared.part.Part.{Part}
use Rattle.pb_lines.specs.declared.part.Step.{Step}
use Rattle.pb_lines.specs.declared.word.Sign.{Sign}
use Rattle.pb_lines.specs.declared.word.Word.{Word}
use Rattle.pb_lines.specs.declared.word.Capital.{Capital}
use Rattle.pb_lines.specs.contract.Grammar.{Grammar, IsNumber, with_word, follow}
use Rattle.pb_lines.specs.contract.Laws.{IsGrammar, IsCounted}
use Rattle.pb_lines.specs.engine.Words.{WordsState, IsWordsInOrder, PartFits, words_at, words_automaton, words_first, words_last, act, if_some, is_midway, is_done, is_number, in_hand, ready, step_of, step_at, all_units}
use Rattle.pb_lines.specs.engine.Words.{number_step, capital_bytes, end_word, end_step, inner_step, begin_step, capital_or, signed_or}
use Rattle.pb_lines.proofs.lemmas.Ends.{reads_exactly}
use Rattle.pb_lines.proofs.lemmas.Spelling.{IsSpelled, Prefix, WholeLine, keeps_prefix}
use Rattle.pb_lines.proofs.lemmas.Walks as walks
use Rattle.std.specs.Prelude.{is_some, option_map, nat_lt, slice_index_or}

-- lengths of words in capital letters
one_capital : (c : Capital) → 1 ≤ length (capital_bytes c)
one_capital c = grind (arith, c)

further_capital : (c : Capital) (k : ℕ) → k < length (capital_bytes c) → k + 1 ≤ length (capital_bytes c)
further_capital c k h = omega (arith, h)

-- a word that is paid for by what was ready before it
abbrev pub Paid : Part → Option Word → Type 0
Paid p None = Unit {0}
Paid p (Some w) = 1 ≤ in_hand p + ready p

one_nil : {A : Type 0} (n : ℕ) → n ≡ 1 → n ≡ 0 → A
one_nil n e f = absurd (omega (arith, e, f))

some : (n : ℕ) → n ≡ 1 → n ≤ 1
some n e = omega (arith, e)

-- What a step leads to is midway and, if what is being read fits, fits too. What may be stored grows by one at most.
module _ {S E : Type 0} (g : Grammar S E) (s : S) (name : List ℕ) (b : ℕ) where
  pub data IsSane (F : Type 0) (p : Part) : Step → Type 0 where
    to : (q : Part) → in_hand p ≡ 0 → is_midway q ≡ true → in_hand q + ready q ≤ 1 → (F → PartFits g s name q) → IsSane F p (Step.To q)
    add : (q : Part) → IsTrue (is_name_byte b) → is_midway q ≡ true → in_hand q ≡ 1 → ready q ≡ 0 → 1 ≤ in_hand p + ready p → (F → PartFits g s (name ++ b ∷ []) q) → IsSane F p (Step.Add q)
    ends : (w : Option Word) (q : Part) → is_midway q ≡ true → in_hand q + ready q ≤ 1 → ((k : S) → PartFits g k [] q) → Paid p w → (F → IsNumber g s w) → IsSane F p (Step.End w q)
    closes : (w : Option Word) → Paid p w → (F → IsNumber g s w) → IsSane F p (Step.Close w)
    colons : (w : Option Word) → Paid p w → (F → IsNumber g s w) → IsSane F p (Step.Colon w)
    finishes : (w : Option Word) → (F → IsNumber g s w) → IsSane F p (Step.Finish w)
    stops : IsSane F p Step.Stop

  module _ (F : Type 0) where
    sane_if : (p : Part) (c : Bool) (x y : Step) → (c ≡ true → IsSane F p x) → IsSane F p y → IsSane F p (cond c x y)
    sane_if p true x y h k = h refl
    sane_if p false x y h k = k

    number_sane : (p : Part) (most : Option ℕ) (sign : Sign) (n : ℕ) → in_hand p ≡ 0 → g.number s sign ≡ most → IsSane F p (number_step most sign n b)
    number_sane p None sign n z e = stops
    number_sane p (Some most) sign n z e =
        sane_if p _ _ _ (λ t. to (Part.Number sign (10 * n + (b - 48))) z refl (some 1 refl)
        (λ _. (most, e, leb-true (10 * n + (b - 48)) most (and_parts (is_digit b) (nat_le (10 * n + (b - 48)) most) t).1))) stops

    ended_sane : (p : Part) (w : Option Word) → Paid p w → (F → IsNumber g s w) → IsSane F p (end_word w b)
    ended_sane p w h f = sane_if p _ _ _ (λ _. finishes w f) (sane_if p _ _ _ (λ _. closes w h f) (sane_if p _ _ _ (λ _. colons w h f) (ends w Part.Gap refl (some 1 refl) (λ k. refl) h f)))

    end_sane : (p : Part) → (F → PartFits g s name p) → IsSane F p (end_step p b)
    end_sane Part.Start f = ended_sane Part.Start None tt (λ _. tt)
    end_sane Part.Gap f = ended_sane Part.Gap None tt (λ _. tt)
    end_sane Part.Symbol f = ended_sane Part.Symbol None tt (λ _. tt)
    end_sane (Part.Number sign n) f = ended_sane (Part.Number sign n) (Some (Word.Number sign n)) (some 1 refl) f
    end_sane (Part.Letter c) f = ended_sane (Part.Letter c) (Some (Word.Mark c)) (some 1 refl) (λ _. tt)
    end_sane (Part.Name negated) f = ended_sane (Part.Name negated) (Some (Word.Literal negated)) (some 1 refl) (λ _. tt)
    end_sane (Part.Capital c k) f = sane_if (Part.Capital c k) _ _ _ (λ _. ended_sane (Part.Capital c k) (Some (Word.Capital c)) (some 1 refl) (λ _. tt)) stops
    end_sane _ f = stops

    marked_sane : IsSane F Part.Gap (Step.End (Some (Word.Mark b)) Part.Symbol)
    marked_sane = ends (Some (Word.Mark b)) Part.Symbol refl (omega arith) (λ k. tt) (some 1 refl) (λ _. tt)

    signed_sane : (most : Option ℕ) (sign : Sign) → g.number s sign ≡ most → IsSane F Part.Gap (signed_or g most sign b)
    signed_sane None sign e = marked_sane
    signed_sane (Some most) sign e = to (Part.Sign sign) refl refl (some 1 refl) (λ _. (most, e))

    module _ (named : F → name ≡ []) (capitals : F → (c : Capital) → g.capital s b ≡ Some c → (other : List ℕ) → is_some (g.next s (Word.Capital c) other) ≡ true) where
      capital_sane : (c : Option Capital) (t : Bool) → IsTrue (is_letter b) → g.capital s b ≡ c → (F → t ≡ true → PartFits g s (name ++ b ∷ []) (Part.Letter b)) → IsSane F Part.Gap (capital_or g c t b)
      capital_sane (Some c) t u e f = to (Part.Capital c 1) refl refl (some 1 refl) (λ h. (one_capital c, capitals h c e))
      capital_sane None true u e f = add (Part.Letter b) (letter_name b u) refl refl refl (some 1 refl) (λ h. f h refl)
      capital_sane None false u e f = stops

      begin_sane : IsSane F Part.Gap (begin_step g s name b)
      begin_sane =
          sane_if Part.Gap _ _ _ (λ _. number_sane Part.Gap (g.number s Sign.Nothing) Sign.Nothing 0 refl refl)
          (sane_if Part.Gap _ _ _
          (λ u. capital_sane (g.capital s b) (g.literal s || is_some (follow g s (Some (Word.Mark b)) name)) u refl
          (λ h t. subst (λ x. (g.literal s || is_some (follow g s (Some (Word.Mark b)) x)) ≡ true) (named h) t))
          (sane_if Part.Gap _ _ _ (λ t. to Part.Tilde refl refl (some 1 refl) (λ _. (and_parts (nat_eq b 126) (g.literal s) t).1))
          (sane_if Part.Gap _ _ _ (λ _. signed_sane (g.number s Sign.Plus) Sign.Plus refl)
          (sane_if Part.Gap _ _ _ (λ _. signed_sane (g.number s Sign.Minus) Sign.Minus refl) marked_sane))))

    inner_sane : (p : Part) → (p ≡ Part.Gap → IsSane F Part.Gap (begin_step g s name b)) → (F → PartFits g s name p) → IsSane F p (inner_step g s name p b)
    inner_sane Part.Gap h f = h refl
    inner_sane (Part.Sign sign) h f = number_sane (Part.Sign sign) (g.number s sign) sign 0 refl refl
    inner_sane (Part.Number sign n) h f = number_sane (Part.Number sign n) (g.number s sign) sign n refl refl
    inner_sane Part.Tilde h f = sane_if Part.Tilde _ _ _ (λ u. add Part.First (letter_name b u) refl refl refl (some 1 refl) f) stops
    inner_sane Part.First h f = sane_if Part.First _ _ _ (λ u. add (Part.Name true) u refl refl refl (some 1 refl) f) stops
    inner_sane (Part.Letter c) h f = sane_if (Part.Letter c) _ _ _ (λ t. add (Part.Name false) (and_parts (g.literal s) (is_name_byte b) t).1 refl refl refl (some 1 refl) (λ _. (and_parts (g.literal s) (is_name_byte b) t).0)) stops
    inner_sane (Part.Name negated) h f = sane_if (Part.Name negated) _ _ _ (λ u. add (Part.Name negated) u refl refl refl (some 1 refl) f) stops
    inner_sane (Part.Capital c k) h f =
        sane_if (Part.Capital c k) _ _ _ (λ t. to (Part.Capital c (k + 1)) refl refl (some 1 refl)
        (λ i. (further_capital c k (ltb-true k (length (capital_bytes c)) (and_parts (nat_lt k (length (capital_bytes c))) (nat_eq (slice_index_or (capital_bytes c) k 0) b) t).0), (f i).1))) stops
    inner_sane _ h f = stops

    step_sane : (p : Part) → (F → PartFits g s name p) → (F → (c : Capital) → g.capital s b ≡ Some c → (other : List ℕ) → is_some (g.next s (Word.Capital c) other) ≡ true) → IsSane F p (step_of g s name p b)
    step_sane Part.Closing f h = sane_if Part.Closing _ _ _ (λ _. to Part.Closing refl refl (omega arith) f) (sane_if Part.Closing _ _ _ (λ _. finishes None (λ _. tt)) stops)
    step_sane Part.Done f h = stops
    step_sane Part.Start f h = sane_if Part.Start _ _ _ (λ _. end_sane Part.Start f) stops
    step_sane Part.Gap f h = sane_if Part.Gap _ _ _ (λ _. end_sane Part.Gap f) (begin_sane f h)
    step_sane Part.Symbol f h = sane_if Part.Symbol _ _ _ (λ _. end_sane Part.Symbol f) stops
    step_sane (Part.Sign sign) f h = sane_if (Part.Sign sign) _ _ _ (λ _. stops) (inner_sane (Part.Sign sign) (λ e. cc) f)
    step_sane (Part.Number sign n) f h = sane_if (Part.Number sign n) _ _ _ (λ _. end_sane (Part.Number sign n) f) (inner_sane (Part.Number sign n) (λ e. cc) f)
    step_sane Part.Tilde f h = sane_if Part.Tilde _ _ _ (λ _. stops) (inner_sane Part.Tilde (λ e. cc) f)
    step_sane Part.First f h = sane_if Part.First _ _ _ (λ _. stops) (inner_sane Part.First (λ e. cc) f)
    step_sane (Part.Letter c) f h = sane_if (Part.Letter c) _ _ _ (λ _. end_sane (Part.Letter c) f) (inner_sane (Part.Letter c) (λ e. cc) f)
    step_sane (Part.Name negated) f h = sane_if (Part.Name negated) _ _ _ (λ _. end_sane (Part.Name negated) f) (inner_sane (Part.Name negated) (λ e. cc) f)
    step_sane (Part.Capital c k) f h = sane_if (Part.Capital c k) _ _ _ (λ _. end_sane (Part.Capital c k) f) (inner_sane (Part.Capital c k) (λ e. cc) f)

-- where an outcome comes from
some_go : {A S E : Type 0} (x : Option A) (f : A → Next S E) (next : S) → if_some x f ≡ Go next → (a : A) × (x ≡ Some a) × (f a ≡ Go next)
some_go None f next e = cc
some_go (Some a) f next e = (a, refl, e)

some_end : {A S E : Type 0} (x : Option A) (f : A → Next S E) (e : E) (next : S) → if_some x f ≡ End e next → (a : A) × (x ≡ Some a) × (f a ≡ End e next)
some_end None f e next h = cc
some_end (Some a) f e next h = (a, refl, h)

module _ {S E : Type 0} (grammar : ℕ → ℕ → Grammar S E) (counted : (limit top : ℕ) → IsCounted (grammar limit top)) where
  abbrev m : Automaton (WordsState S) E
  m = words_automaton grammar

  abbrev units : WordsState S → ℕ
  units i = (grammar i.limit i.top).kept i.words

  worded : (i : WordsState S) (w : Option Word) (k : S) → Paid i.part w → with_word (grammar i.limit i.top) i.words w i.name ≡ Some k
      → (grammar i.limit i.top).kept k ≤ units i + in_hand i.part + length i.name + ready i.part
  worded i None k h e = let f : i.words ≡ k = cc in rw (sym f) (omega arith)
  worded i (Some (Word.Literal negated)) k h e = omega (arith, h, (counted i.limit i.top).grows i.words k (Word.Literal negated) i.name e)
  worded i (Some (Word.Number sign n)) k h e = omega (arith, h, (counted i.limit i.top).grows i.words k (Word.Number sign n) i.name e)
  worded i (Some (Word.Mark b)) k h e = omega (arith, h, (counted i.limit i.top).grows i.words k (Word.Mark b) i.name e)
  worded i (Some (Word.Capital c)) k h e = omega (arith, h, (counted i.limit i.top).grows i.words k (Word.Capital c) i.name e)

  -- what is known of a machine whose words satisfy Good
  module _ (Good : ℕ → ℕ → S → Type 0) where
    abbrev pub Fits : WordsState S → Type 0
    Fits i = IsGrammar grammar i.limit i.top (Good i.limit i.top) × PartFits (grammar i.limit i.top) i.words i.name i.part

    -- What a step that continues leads to.
    record Steps (i next : WordsState S) : Type 0 where
      limit : next.limit ≡ i.limit
      top : next.top ≡ i.top
      midway : is_midway next.part ≡ true
      grows : m.spent next ≤ m.spent i + 1
      nameless : (in_hand i.part ≡ 0 → i.name ≡ []) → in_hand next.part ≡ 0 → next.name ≡ []
      fits : Fits i → PartFits (grammar next.limit next.top) next.words next.name next.part
      good : Fits i → Good i.limit i.top i.words → Good next.limit next.top next.words

    good_word : (i : WordsState S) (w : Option Word) (k : S) → with_word (grammar i.limit i.top) i.words w i.name ≡ Some k → (Fits i → IsNumber (grammar i.limit i.top) i.words w)
        → Fits i → Good i.limit i.top i.words → Good i.limit i.top k
    good_word i None k e f h o = subst (Good i.limit i.top) (let j : i.words ≡ k = cc in j) o
    good_word i (Some w) k e f h o = h.0.goes i.words k w i.name o (f h) e

    abbrev pub Sane : WordsState S → ℕ → Step → Type 0
    Sane i b st = IsSane (grammar i.limit i.top) i.words i.name b (Fits i) i.part st

    acted : (i next : WordsState S) (b : ℕ) (st : Step) → Sane i b st → act grammar i b st ≡ Go next → Steps i next
    acted i next b _ (to q z h k f) e =
        let j : next ≡ words_at grammar i.limit i.top i.words i.name q = sym (one_state _ next e) in
        rw j (record { limit = refl; top = refl; midway = h; grows = omega (arith, z, k); nameless = λ o _. o z; fits = f; good = λ _ o. o })
    acted i next b _ (add q u h k z l f) e =
        let j : next ≡ words_at grammar i.limit i.top i.words (i.name ++ b ∷ []) q = sym (one_state _ next e) in
        rw j (record { limit = refl; top = refl; midway = h; grows = omega (arith, k, z, l, length-append i.name (b ∷ [])); nameless = λ o y. one_nil (in_hand q) k y; fits = f; good = λ _ o. o })
    acted i next b _ (ends w q h k d l f) e =
        let (s, u, v) = some_go (with_word (grammar i.limit i.top) i.words w i.name) _ next e in
        let j : next ≡ words_at grammar i.limit i.top s [] q = sym (one_state _ next v) in
        rw j (record { limit = refl; top = refl; midway = h; grows = omega (arith, k, worded i w s l u); nameless = λ _ _. refl; fits = λ _. d s; good = good_word i w s u f })
    acted i next b _ (closes w l f) e =
        let (s, u, v) = some_go (with_word (grammar i.limit i.top) i.words w i.name) _ next e in
        let (z, n, o) = some_go ((grammar i.limit i.top).value s) _ next v in
        let j : next ≡ words_at grammar i.limit i.top s [] Part.Closing = sym (one_state _ next o) in
        rw j (record { limit = refl; top = refl; midway = refl; grows = omega (arith, worded i w s l u); nameless = λ _ _. refl; fits = λ _. rw n refl; good = good_word i w s u f })
    acted i next b _ (colons w l f) e =
        let (s, u, v) = some_go (with_word (grammar i.limit i.top) i.words w i.name) _ next e in
        let (z, n, o) = some_go ((grammar i.limit i.top).colon s) _ next v in
        let j : next ≡ words_at grammar i.limit i.top z [] Part.Gap = sym (one_state _ next o) in
        rw j (record {
          limit = refl;
          top = refl;
          midway = refl;
          grows = omega (arith, worded i w s l u, (counted i.limit i.top).same s z n);
          nameless = λ _ _. refl;
          fits = λ _. refl;
          good = λ h t. h.0.colons s z (good_word i w s u f h t) n;
        })
    acted i next b _ (finishes w f) e =
        let (s, u, v) = some_go (with_word (grammar i.limit i.top) i.words w i.name) _ next e in
        let (z, n, o) = some_go ((grammar i.limit i.top).value s) _ next v in cc
    acted i next b _ stops e = cc

    pub sane : (i : WordsState S) (b : ℕ) → Sane i b (step_at grammar i b)
    sane i b = step_sane (grammar i.limit i.top) i.words i.name b (Fits i) i.part (λ h. h.1) (λ h c e other. h.0.capital i.words b c other e)

    continues : (i next : WordsState S) (b : ℕ) → m.step i b ≡ Go next → Steps i next
    continues i next b e = acted i next b (step_at grammar i b) (sane i b) e

    ended : (i next : WordsState S) (b : ℕ) (st : Step) (e : E) → act grammar i b st ≡ End e next → next ≡ words_last grammar i.limit i.top
    ended i next b (Step.Finish w) e h =
        let (s, u, v) = some_end (with_word (grammar i.limit i.top) i.words w i.name) _ e next h in
        let (z, n, o) = some_end ((grammar i.limit i.top).value s) _ e next v in cc
    ended i next b (Step.End w p) e h = let (s, u, v) = some_end (with_word (grammar i.limit i.top) i.words w i.name) _ e next h in cc
    ended i next b (Step.Close w) e h =
        let (s, u, v) = some_end (with_word (grammar i.limit i.top) i.words w i.name) _ e next h in
        let (z, n, o) = some_end ((grammar i.limit i.top).value s) _ e next v in cc
    ended i next b (Step.Colon w) e h =
        let (s, u, v) = some_end (with_word (grammar i.limit i.top) i.words w i.name) _ e next h in
        let (z, n, o) = some_end ((grammar i.limit i.top).colon s) _ e next v in cc
    ended i next b _ e h = cc

-- what may follow a word that may come
followed : {A B : Type 0} (x : Option A) (f : A → B) → is_some (option_map f x) ≡ true → is_some x ≡ true
followed None f e = e
followed (Some a) f e = refl

-- some text completes the line
module _ {S E : Type 0} (grammar : ℕ → ℕ → Grammar S E) (limit top : ℕ) (Good : S → Type 0) (laws : IsGrammar grammar limit top Good) where
  abbrev g : Grammar S E
  g = grammar limit top

  abbrev On : S → List ℕ → Part → Type 0
  On s name p = ReadsOn (words_automaton grammar) (words_at grammar limit top s name p)

  blank_on : (s : S) (i : WordsState S) → walks.IsAfter grammar limit top s i → Good s → ReadsOn (words_automaton grammar) i
  blank_on s i h o = reads_before (words_automaton grammar) i (walks.gap grammar limit top s) 32 (h.blank 32 refl) refl (laws.leads s o)

  -- a word that is complete
  word_on : (s : S) (w : Word) (name : List ℕ) (i : WordsState S) (x : Option S) → g.next s w name ≡ x → is_some x ≡ true → IsNumber g s (Some w) → Good s
      → ((k : S) → g.next s w name ≡ Some k → walks.IsAfter grammar limit top k i) → ReadsOn (words_automaton grammar) i
  word_on s w name i None e h n o f = cc
  word_on s w name i (Some k) e h n o f = blank_on k i (f k e) (laws.goes s k w name o n e)

  number_on : (s : S) (sign : Sign) (n : ℕ) → Good s → IsNumber g s (Some (Word.Number sign n)) → is_some (g.next s (Word.Number sign n) []) ≡ true → On s [] (Part.Number sign n)
  number_on s sign n o i h = word_on s (Word.Number sign n) [] (words_at grammar limit top s [] (Part.Number sign n)) (g.next s (Word.Number sign n) []) refl h i o (λ k e. walks.number_after grammar limit top s k sign n e)

  -- from a state that takes a first digit
  digit_on : (s : S) (sign : Sign) (p : Part) (most : ℕ) → Good s → g.number s sign ≡ Some most
      → ((d : ℕ) → d < 10 → d ≤ most → (words_automaton grammar).step (words_at grammar limit top s [] p) (48 + d) ≡ Go (words_at grammar limit top s [] (Part.Number sign d))) → On s [] p
  digit_on s sign p most o e f = elim (laws.number s sign most o e).0 [
    | inl h ↦ reads_before (words_automaton grammar) (words_at grammar limit top s [] p) (words_at grammar limit top s [] (Part.Number sign 1)) 49 (f 1 (omega arith) h) refl
        (number_on s sign 1 o (most, e, h) ((laws.number s sign most o e).1 1 [] (omega arith) h))
    | inr h ↦ reads_before (words_automaton grammar) (words_at grammar limit top s [] p) (words_at grammar limit top s [] (Part.Number sign 0)) 48 (f 0 (omega arith) (omega arith)) refl
        (number_on s sign 0 o (most, e, omega arith) (h []))
  ]

  -- a first digit, and a further one
  first_fits : (s : S) (sign : Sign) (p : Part) (most : ℕ) → g.number s sign ≡ Some most
      → ((d : ℕ) → d < 10 → step_of g s [] p (48 + d) ≡ number_step (g.number s sign) sign 0 (48 + d))
      → (d : ℕ) → d < 10 → d ≤ most → (words_automaton grammar).step (words_at grammar limit top s [] p) (48 + d) ≡ Go (words_at grammar limit top s [] (Part.Number sign d))
  first_fits s sign p most e f d h l = walks.by_step grammar limit top s [] p (48 + d) (Step.To (Part.Number sign d)) (f d h ∙ rw e (walks.fits grammar limit top most sign 0 d d h (omega arith) l))

  -- 0, to which one more digit may have to be added
  zero_on : (s : S) (sign : Sign) (most : ℕ) → Good s → g.number s sign ≡ Some most → On s [] (Part.Number sign 0)
  zero_on s sign most o e = elim (laws.number s sign most o e).0 [
    | inl h ↦ digit_on s sign (Part.Number sign 0) most o e (first_fits s sign (Part.Number sign 0) most e (λ d i. rw (walks.digit_goes d i).0 refl))
    | inr h ↦ number_on s sign 0 o (most, e, omega arith) (h [])
  ]

  -- names
  name_on : (s : S) (negated : Bool) (name : List ℕ) → Good s → g.literal s ≡ true → On s name (Part.Name negated)
  name_on s negated name o h = word_on s (Word.Literal negated) name (words_at grammar limit top s name (Part.Name negated)) (g.next s (Word.Literal negated) name) refl (laws.literal s h negated name) tt o
      (λ k e. walks.name_after grammar limit top s k negated name e)

  more_on : (s : S) (name : List ℕ) (p : Part) (negated : Bool) → Good s → g.literal s ≡ true → step_of g s name p 97 ≡ Step.Add (Part.Name negated) → On s name p
  more_on s name p negated o h e = reads_before (words_automaton grammar) (words_at grammar limit top s name p) (words_at grammar limit top s (name ++ 97 ∷ []) (Part.Name negated)) 97
      (walks.by_step grammar limit top s name p 97 (Step.Add (Part.Name negated)) e) refl (name_on s negated (name ++ 97 ∷ []) o h)

  letter_on : (s : S) (b : ℕ) (name : List ℕ) (l : Bool) → Good s → g.literal s ≡ l → (l || is_some (follow g s (Some (Word.Mark b)) [])) ≡ true → On s name (Part.Letter b)
  letter_on s b name true o e h = more_on s name (Part.Letter b) false o e (rw e refl)
  letter_on s b name false o e h =
      word_on s (Word.Mark b) name (words_at grammar limit top s name (Part.Letter b)) (g.next s (Word.Mark b) name) refl (subst (λ x. is_some x ≡ true) (laws.mark s b [] name) (followed (g.next s (Word.Mark b) []) _ h)) tt o
      (λ k f. walks.letter_after grammar limit top s k b name f)

  -- words in capital letters
  capital_on : (s : S) (c : Capital) (k : ℕ) → Good s → k ≤ length (capital_bytes c) → ((other : List ℕ) → is_some (g.next s (Word.Capital c) other) ≡ true) → On s [] (Part.Capital c k)
  capital_on s c k o l h =
      let whole : On s [] (Part.Capital c (length (capital_bytes c))) =
      word_on s (Word.Capital c) [] (words_at grammar limit top s [] (Part.Capital c (length (capital_bytes c)))) (g.next s (Word.Capital c) []) refl (h []) tt o (λ j e. walks.capital_after grammar limit top s j c e) in
      let (text, e, after, r) = whole in
      let w = walks.capital_walks grammar limit top s c k (drop k (capital_bytes c)) refl (let n : length (drop k (capital_bytes c)) ≡ length (capital_bytes c) - k = length-drop k (capital_bytes c) in let t : k + length (drop k (capital_bytes c)) ≡ length (capital_bytes c) = omega (arith, n, l) in t) in
      (map unmarked (drop k (capital_bytes c)) ++ text, e, after, reads_after (words_automaton grammar) (map unmarked (drop k (capital_bytes c))) text _ _ after e w r)

  closing_on : (s : S) (x : Option E) → g.value s ≡ x → is_some x ≡ true → On s [] Part.Closing
  closing_on s None e h = cc
  closing_on s (Some v) e h = (unmarked 10 ∷ [], v, words_last grammar limit top, (walks.by_step grammar limit top s [] Part.Closing 10 (Step.Finish None) refl ∙ rw e refl, refl))

  goes_on : (s : S) (name : List ℕ) (p : Part) → Good s → PartFits g s name p → (in_hand p ≡ 0 → name ≡ []) → (is_midway p ≡ false → s ≡ g.first) → is_done p ≡ false → On s name p
  goes_on s name Part.Start o f z b d = rw (b refl, z refl) (blank_on g.first (words_first grammar limit top) (walks.first_after grammar limit top) (subst Good (b refl) o))
  goes_on s name Part.Gap o f z b d = rw f (laws.leads s o)
  goes_on s name Part.Symbol o f z b d = rw (z refl) (blank_on s (words_at grammar limit top s [] Part.Symbol) (walks.symbol_after grammar limit top s) o)
  goes_on s name (Part.Sign sign) o (most, e) z b d = rw (z refl) (digit_on s sign (Part.Sign sign) most o e (first_fits s sign (Part.Sign sign) most e (λ d i. rw (walks.digit_goes d i).0 refl)))
  goes_on s name (Part.Number sign zero) o (most, e, l) z b d = rw (z refl) (zero_on s sign most o e)
  goes_on s name (Part.Number sign (suc n)) o (most, e, l) z b d = rw (z refl) (number_on s sign (suc n) o (most, e, l) ((laws.number s sign most o e).1 (suc n) [] (omega arith) l))
  goes_on s name Part.Tilde o f z b d = reads_before (words_automaton grammar) (words_at grammar limit top s name Part.Tilde) (words_at grammar limit top s (name ++ 97 ∷ []) Part.First) 97 refl refl
      (more_on s (name ++ 97 ∷ []) Part.First true o f refl)
  goes_on s name Part.First o f z b d = more_on s name Part.First true o f refl
  goes_on s name (Part.Letter c) o f z b d = letter_on s c name (g.literal s) o refl f
  goes_on s name (Part.Name negated) o f z b d = name_on s negated name o f
  goes_on s name (Part.Capital c k) o f z b d = rw (z refl) (capital_on s c k o f.0 f.1)
  goes_on s name Part.Closing o f z b d = rw (z refl) (closing_on s (g.value s) refl f)
  goes_on s name Part.Done o f z b d = cc

-- The laws of the machine.
module _ {S E : Type 0} (grammar : ℕ → ℕ → Grammar S E) (Good : ℕ → ℕ → S → Type 0)
    (lawful : (limit top : ℕ) → limit < 2 ^ 127 → top < 2 ^ 63 → 0 < top → IsGrammar grammar limit top (Good limit top))
    (counted : (limit top : ℕ) → IsCounted (grammar limit top)) where
  abbrev pub Ordered : WordsState S → Type 0
  Ordered i = IsWordsInOrder grammar Good i

  pub laws_of : (i : WordsState S) → Ordered i → IsGrammar grammar i.limit i.top (Good i.limit i.top)
  laws_of i h = lawful i.limit i.top h.limit h.top h.some

  in_order : (i next : WordsState S) → Ordered i → Steps grammar counted Good i next → Ordered next
  in_order i next h s = record {
    limit = subst (λ n. n < 2 ^ 127) (sym s.limit) h.limit;
    top = subst (λ n. n < 2 ^ 63) (sym s.top) h.top;
    some = subst (λ n. 0 < n) (sym s.top) h.some;
    good = s.good (laws_of i h, h.fits) h.good;
    fits = s.fits (laws_of i h, h.fits);
    empty = λ e. never (is_midway next.part) s.midway e;
    nameless = s.nameless h.nameless;
  }

  midway_begun : (p : Part) → is_midway p ≡ true → is_done p ≡ false
  midway_begun p h = grind (arith, p)

  done_stops : (i : WordsState S) (b : ℕ) → is_done i.part ≡ true → (words_automaton grammar).step i b ≡ Refuse
  done_stops i b h = grind (arith, i.part)

  number_midway : (p : Part) → is_midway p ≡ false → is_number p ≡ false
  number_midway p h = grind (arith, p)

  pub words_of_one : IsOfOne (words_automaton grammar) Ordered (λ i. words_last grammar i.limit i.top)
  words_of_one = record {
    keeps = λ i next b h e. in_order i next h (continues grammar counted Good i next b e);
    begins = λ i next b e. (continues grammar counted Good i next b e).midway;
    owes = λ i h. midway_begun i.part h;
    leads = λ i next b e. let s = continues grammar counted Good i next b e in rw (s.limit, s.top) refl;
    ends = λ i next b e h. ended grammar counted Good i next b (step_at grammar i b) e h;
    done = λ i. refl;
    stops = λ i h b. done_stops i b h;
    goes_on = λ i h d. goes_on grammar i.limit i.top (Good i.limit i.top) (laws_of i h) i.words i.name i.part h.good h.fits h.nameless (λ e. (h.empty e).0) d;
    plain = λ i h. number_midway i.part h;
    grows = λ i next b e. (continues grammar counted Good i next b e).grows;
    bounds = λ i. omega (arith, min-le_left (all_units grammar i) (2 ^ 64 - 1));
  }

  idle_units : (p : Part) (n : ℕ) → is_midway p ≡ false → n ≡ 0 → n + in_hand p + 0 + ready p ≡ 0
  idle_units p n e h = grind (arith, p, h)

  pub words_is_state : (i : WordsState S) → Ordered i → IsState (words_automaton grammar) i
  words_is_state i h = is_state _ _ _ words_of_one i h (λ e. let z = h.empty e in
      let s : all_units grammar i + ready i.part ≡ 0 = rw (z.0, z.1) (idle_units i.part ((grammar i.limit i.top).kept (grammar i.limit i.top).first) e (counted i.limit i.top).empty) in s)

  -- A new machine is in order.
  pub words_first_in_order : (limit top : ℕ) → limit < 2 ^ 127 → top < 2 ^ 63 → 0 < top → Ordered (words_first grammar limit top)
  words_first_in_order limit top l t o = record { limit = l; top = t; some = o; good = (lawful limit top l t o).begins; fits = tt; empty = λ e. (refl, refl); nameless = λ e. refl }

  -- A new machine reads exactly the lines of Whole, if it reads each.
  pub words_reads : (joined : ℕ → ℕ → S → Bool) (After : ℕ → ℕ → S → Language) (Whole : ℕ → ℕ → E → Language)
      (spelled : (limit top : ℕ) → IsSpelled (grammar limit top) (joined limit top) (After limit top) (Whole limit top)) (limit top : ℕ) (text : List Letter) (e : E) (after : WordsState S)
      → (Whole limit top e text → ReadsStatement (words_automaton grammar) (words_first grammar limit top) text e (words_last grammar limit top))
      → ReadsStatement (words_automaton grammar) (words_first grammar limit top) text e after ↔ (Whole limit top e text × (after ≡ words_last grammar limit top))
  words_reads joined After Whole spelled limit top text e after each =
      reads_exactly _ _ _ words_of_one (Prefix grammar joined After Whole spelled) (WholeLine grammar joined After Whole spelled) (keeps_prefix grammar joined After Whole spelled)
      (words_first grammar limit top) text e after (refl, refl) each
