-- A machine for words on its way through the words of a line. Offered to other crates.
use Rattle.pb_lines.proofs.Common.{arith, ℕ, ◌+◌, ◌*◌, ◌-◌, ◌<◌, ◌≤◌, ◌≡◌, ◌∙◌, ◌++◌, ◌∷◌, [], Bool, true, false, List, Option, Some, None, refl, ap, sym, subst, IsTrue, length, map, nat_eq, le-leb}
use Rattle.pb_lines.proofs.Common.{◌⋅◌, Blanks0, Blanks1, Byte, Digits, Language, LineEnd, Each, Letter, unmarked, is_blank, is_digit, is_letter, is_name_byte, append-nil, append_assoc}
use Rattle.pb_lines.proofs.Common.{nil_first, or-true, Automaton, Next, false_from_ne_true, eqb-true, nat_tests, Go, Walks, walks_then, ReadsStatement, digits_lead, TakesDigits, digit_byte, letter_name}
use Rattle.pb_lines.proofs.lemmas.Ends.{TakesBlanks, Feeds, closing_feeds, blanks1_lead, blanks0_lead, line_reads}
use Rattle.pb_lines.specs.declared.part.Part.{Part}
use Rattle.pb_lines.specs.declared.part.Step.{Step}
use Rattle.pb_lines.specs.declared.word.Sign.{Sign}
use Rattle.pb_lines.specs.declared.word.Word.{Word}
use Rattle.pb_lines.specs.declared.word.Capital.{Capital}
use Rattle.pb_lines.specs.contract.Grammar.{Grammar, IsNumber, with_word}
use Rattle.pb_lines.specs.engine.WordTexts.{SignText, WordText}
use Rattle.pb_lines.specs.engine.Words.{WordsState, words_at, words_automaton, words_first, words_last, capital_bytes, ends_word, step_of, number_step, end_word, act}
use Rattle.pb_lines.specs.engine.WordsWhole as whole
use Rattle.std.specs.Prelude.{drop, get_or, slice_index_or}
use Rattle.std.proofs.lemmas.{Bool.lt-ltb, Bool.eq-eqb, List.drop_more}

-- tests of bytes
blank_ends : (b : ℕ) → IsTrue (is_blank b) → ends_word b ≡ true
blank_ends b h = rw h refl

blank_word : (w : Option Word) (b : ℕ) → IsTrue (is_blank b) → end_word w b ≡ Step.End w Part.Gap
blank_word w b h = grind (arith)

digit_value : (n d : ℕ) → 10 * n + (48 + d - 48) ≡ 10 * n + d
digit_value n d = omega arith

pub digit_goes : (d : ℕ) → d < 10 → (ends_word (48 + d) ≡ false) × (is_digit (48 + d) ≡ true)
digit_goes d h = grind (arith, digit_byte)

no_byte : (c b : ℕ) → is_name_byte c ≡ false → IsTrue (is_name_byte b) → nat_eq b c ≡ false
no_byte c b f h = false_from_ne_true (nat_eq b c) (λ e. let i : b ≡ c = eqb-true b c e in let j : is_name_byte c ≡ true = subst (λ x. is_name_byte x ≡ true) i h in cc)

name_unblank : (b : ℕ) → IsTrue (is_name_byte b) → is_blank b ≡ false
name_unblank b h = rw (no_byte 32 b refl h, no_byte 9 b refl h, no_byte 13 b refl h) refl

pub name_goes : (b : ℕ) → IsTrue (is_name_byte b) → ends_word b ≡ false
name_goes b h = rw (name_unblank b h, no_byte 10 b refl h, no_byte 59 b refl h, no_byte 58 b refl h) refl

pub letter_digit : (b : ℕ) → IsTrue (is_letter b) → is_digit b ≡ false
letter_digit b h = grind (arith, nat_tests)

-- words in capital letters
first_letter : (c : Capital) (b : ℕ) (bs : List ℕ) → capital_bytes c ≡ b ∷ bs → IsTrue (is_letter b)
first_letter c b bs e = grind (arith, c)

in_capitals : (c : Capital) (k : ℕ) → k < length (capital_bytes c) → IsTrue (is_letter (slice_index_or (capital_bytes c) k 0))
in_capitals c k l = grind (arith, c)

drop_next : (xs : List ℕ) (k b : ℕ) (bs : List ℕ) → k < length xs → drop k xs ≡ b ∷ bs → (slice_index_or xs k 0 ≡ b) × (drop (k + 1) xs ≡ bs)
drop_next xs k b bs l e = let f : slice_index_or xs k 0 ∷ drop (k + 1) xs ≡ b ∷ bs = sym (drop_more xs k 0 l) ∙ e in (cc, cc)

module _ {S E : Type 0} (grammar : ℕ → ℕ → Grammar S E) (limit top : ℕ) where
  abbrev m : Automaton (WordsState S) E
  m = words_automaton grammar

  abbrev g : Grammar S E
  g = grammar limit top

  abbrev pub at : S → List ℕ → Part → WordsState S
  at s name p = words_at grammar limit top s name p

  abbrev pub gap : S → WordsState S
  gap s = at s [] Part.Gap

  -- The words of the state are s, and the last one is complete.
  abbrev pub IsAfter : S → WordsState S → Type 0
  IsAfter = whole.IsAfter grammar limit top

  abbrev acted : S → List ℕ → Part → ℕ → Step → Next (WordsState S) E
  acted s name p b st = act grammar (at s name p) b st

  pub by_step : (s : S) (name : List ℕ) (p : Part) (b : ℕ) (st : Step) → step_of g s name p b ≡ st → m.step (at s name p) b ≡ acted s name p b st
  by_step s name p b st e = ap (acted s name p b) e

  -- After a part that is a word, or after none, there are the words with it.
  word_after : (s k : S) (name : List ℕ) (p : Part) (w : Option Word) → ((b : ℕ) → ends_word b ≡ true → step_of g s name p b ≡ end_word w b)
      → with_word g s w name ≡ Some k → IsAfter k (at s name p)
  word_after s k name p w f e = record {
    blank = λ b h. ap (acted s name p b) (f b (blank_ends b h) ∙ blank_word w b h) ∙ rw e refl;
    semicolon = λ v h. ap (acted s name p 59) (f 59 refl) ∙ rw (e, h) refl;
    feed = λ v h. ap (acted s name p 10) (f 10 refl) ∙ rw (e, h) refl;
    colon = λ j h. ap (acted s name p 58) (f 58 refl) ∙ rw (e, h) refl;
  }

  pub first_after : IsAfter g.first (words_first grammar limit top)
  first_after = word_after g.first g.first [] Part.Start None (λ b h. rw h refl) refl

  pub gap_after : (s : S) → IsAfter s (gap s)
  gap_after s = word_after s s [] Part.Gap None (λ b h. rw h refl) refl

  pub symbol_after : (s : S) → IsAfter s (at s [] Part.Symbol)
  symbol_after s = word_after s s [] Part.Symbol None (λ b h. rw h refl) refl

  pub number_after : (s k : S) (sign : Sign) (n : ℕ) → g.next s (Word.Number sign n) [] ≡ Some k → IsAfter k (at s [] (Part.Number sign n))
  number_after s k sign n e = word_after s k [] (Part.Number sign n) (Some (Word.Number sign n)) (λ b h. rw h refl) e

  pub letter_after : (s k : S) (b : ℕ) (name : List ℕ) → g.next s (Word.Mark b) name ≡ Some k → IsAfter k (at s name (Part.Letter b))
  letter_after s k b name e = word_after s k name (Part.Letter b) (Some (Word.Mark b)) (λ c h. rw h refl) e

  pub name_after : (s k : S) (negated : Bool) (name : List ℕ) → g.next s (Word.Literal negated) name ≡ Some k → IsAfter k (at s name (Part.Name negated))
  name_after s k negated name e = word_after s k name (Part.Name negated) (Some (Word.Literal negated)) (λ b h. rw h refl) e

  pub capital_after : (s k : S) (c : Capital) → g.next s (Word.Capital c) [] ≡ Some k → IsAfter k (at s [] (Part.Capital c (length (capital_bytes c))))
  capital_after s k c e = word_after s k [] (Part.Capital c (length (capital_bytes c))) (Some (Word.Capital c)) (λ b h. grind (arith, c)) e

  -- ---- numbers
  pub fits : (most : ℕ) (sign : Sign) (n d v : ℕ) → d < 10 → 10 * n + d ≡ v → v ≤ most → number_step (Some most) sign n (48 + d) ≡ Step.To (Part.Number sign v)
  fits most sign n d v h e l = rw ((digit_goes d h).1, digit_value n d ∙ e, le-leb v most l) refl

  takes_digits : (s : S) (sign : Sign) (most : ℕ) → g.number s sign ≡ Some most → TakesDigits m (λ n. at s [] (Part.Number sign n)) most
  takes_digits s sign most e = record {
    more = λ n d h l. by_step s [] (Part.Number sign n) (48 + d) (Step.To (Part.Number sign (10 * n + d))) (rw ((digit_goes d h).0, e) (fits most sign n d (10 * n + d) h refl l));
    begun = λ n. refl;
    number = λ n. refl;
  }

  pub digits_walk : (s : S) (sign : Sign) (p : Part) (most n : ℕ) (t : List Letter) → g.number s sign ≡ Some most
      → ((d : ℕ) → d < 10 → step_of g s [] p (48 + d) ≡ number_step (g.number s sign) sign 0 (48 + d)) → n ≤ most → Digits n t → Walks m (at s [] p) t (at s [] (Part.Number sign n))
  digits_walk s sign p most n t e f l h =
      digits_lead m (λ v. at s [] (Part.Number sign v)) most (takes_digits s sign most e) (at s [] p)
      (λ d i j. by_step s [] p (48 + d) (Step.To (Part.Number sign d)) (f d i ∙ rw e (fits most sign 0 d d i (omega arith) j))) n l t h

  sign_walk : (s : S) (sign : Sign) (b most n : ℕ) (a c : List Letter) → g.number s sign ≡ Some most → m.step (gap s) b ≡ Go (at s [] (Part.Sign sign)) → a ≡ unmarked b ∷ [] → n ≤ most → Digits n c
      → Walks m (gap s) (a ++ c) (at s [] (Part.Number sign n))
  sign_walk s sign b most n a c e f i l h =
      rw i (at s [] (Part.Sign sign), f, refl, refl, digits_walk s sign (Part.Sign sign) most n c e (λ d k. rw (digit_goes d k).0 refl) l h)

  number_walks : (s : S) (sign : Sign) (most n : ℕ) (t : List Letter) → g.number s sign ≡ Some most → n ≤ most → (SignText sign ⋅ Digits n) t → Walks m (gap s) t (at s [] (Part.Number sign n))
  number_walks s Sign.Nothing most n t e l h =
      digits_walk s Sign.Nothing Part.Gap most n t e (λ d k. rw ((digit_goes d k).0, (digit_goes d k).1) refl) l (nil_first (Digits n) t h)
  number_walks s Sign.Plus most n t e l (a, c, j, i, h) = rw j (sign_walk s Sign.Plus 43 most n a c e (rw e refl) i l h)
  number_walks s Sign.Minus most n t e l (a, c, j, i, h) = rw j (sign_walk s Sign.Minus 45 most n a c e (rw e refl) i l h)

  -- ---- literals
  names_walk : (s : S) (negated : Bool) (name bs : List ℕ) → Each (λ b. IsTrue (is_name_byte b)) bs → Walks m (at s name (Part.Name negated)) (map unmarked bs) (at s (name ++ bs) (Part.Name negated))
  names_walk s negated name [] h = ap (λ y. at s y (Part.Name negated)) (append-nil name)
  names_walk s negated name (b ∷ bs) h = (
    at s (name ++ b ∷ []) (Part.Name negated),
    by_step s name (Part.Name negated) b (Step.Add (Part.Name negated)) (rw (name_goes b h.0, h.0) refl),
    refl,
    refl,
    subst (λ y. Walks m (at s (name ++ b ∷ []) (Part.Name negated)) (map unmarked bs) (at s y (Part.Name negated))) (append_assoc name (b ∷ []) bs) (names_walk s negated (name ++ b ∷ []) bs h.1),
  )

  second_walks : (s : S) (p : Part) (negated : Bool) (a b : ℕ) (bs : List ℕ) → m.step (at s (a ∷ []) p) b ≡ Go (at s (a ∷ b ∷ []) (Part.Name negated)) → Each (λ b. IsTrue (is_name_byte b)) bs
      → Walks m (at s (a ∷ []) p) (map unmarked (b ∷ bs)) (at s (a ∷ b ∷ bs) (Part.Name negated))
  second_walks s p negated a b bs e h = (at s (a ∷ b ∷ []) (Part.Name negated), e, refl, refl, names_walk s negated (a ∷ b ∷ []) bs h)

  -- A literal may come, and no word in capital letters that begins with its first letter.
  pub record Opens (s : S) (negated : Bool) (name : List ℕ) : Type 0 where
    pub literal : g.literal s ≡ true
    pub plain : negated ≡ false → g.capital s (get_or name 0 0) ≡ None

  literal_walks : (s : S) (negated : Bool) (name : List ℕ) (t : List Letter) → Opens s negated name → WordText (Word.Literal negated) name t → Walks m (gap s) t (at s name (Part.Name negated))
  literal_walks s true (a ∷ b ∷ bs) t o h =
      rw h.1 (
        at s [] Part.Tilde,
        by_step s [] Part.Gap 126 (Step.To Part.Tilde) (rw o.literal refl),
        refl,
        refl,
        (
          at s (a ∷ []) Part.First,
          by_step s [] Part.Tilde a (Step.Add Part.First) (rw (name_goes a (letter_name a h.0.0), h.0.0) refl),
          refl,
          refl,
          second_walks s Part.First true a b bs (by_step s (a ∷ []) Part.First b (Step.Add (Part.Name true)) (rw (name_goes b h.0.1.0, h.0.1.0) refl)) h.0.1.1,
        ),
      )
  literal_walks s false (a ∷ b ∷ bs) t o h =
      rw h.1 (
        at s (a ∷ []) (Part.Letter a),
        by_step s [] Part.Gap a (Step.Add (Part.Letter a)) (rw (name_goes a (letter_name a h.0.0), letter_digit a h.0.0, h.0.0, o.plain refl, o.literal) refl),
        refl,
        refl,
        second_walks s (Part.Letter a) false a b bs (by_step s (a ∷ []) (Part.Letter a) b (Step.Add (Part.Name false)) (rw (name_goes b h.0.1.0, o.literal, h.0.1.0) refl)) h.0.1.1,
      )
  literal_walks s negated _ t o h = absurd h.0

  -- ---- words in capital letters
  capital_goes : (s : S) (c : Capital) (k : ℕ) → k < length (capital_bytes c) → m.step (at s [] (Part.Capital c k)) (slice_index_or (capital_bytes c) k 0) ≡ Go (at s [] (Part.Capital c (k + 1)))
  capital_goes s c k l = by_step s [] (Part.Capital c k) (slice_index_or (capital_bytes c) k 0) (Step.To (Part.Capital c (k + 1)))
      (rw (name_goes (slice_index_or (capital_bytes c) k 0) (letter_name (slice_index_or (capital_bytes c) k 0) (in_capitals c k l)), lt-ltb k (length (capital_bytes c)) l, eq-eqb (slice_index_or (capital_bytes c) k 0) (slice_index_or (capital_bytes c) k 0) refl) refl)

  pub capital_walks : (s : S) (c : Capital) (k : ℕ) (bs : List ℕ) → drop k (capital_bytes c) ≡ bs → k + length bs ≡ length (capital_bytes c)
      → Walks m (at s [] (Part.Capital c k)) (map unmarked bs) (at s [] (Part.Capital c (length (capital_bytes c))))
  capital_walks s c k [] e l = ap (λ y. at s [] (Part.Capital c y)) (let f : length (capital_bytes c) ≡ k = omega (arith, l) in f)
  capital_walks s c k (b ∷ bs) e l =
      let (i, j) = drop_next (capital_bytes c) k b bs (omega (arith, l)) e in
      (at s [] (Part.Capital c (k + 1)), subst (λ y. m.step (at s [] (Part.Capital c k)) y ≡ Go (at s [] (Part.Capital c (k + 1)))) i (capital_goes s c k (omega (arith, l))), refl, refl, capital_walks s c (k + 1) bs j (omega (arith, l)))

  -- ---- a word, from the gap before it
  -- a part of a line leads to the words
  abbrev pub Led : WordsState S → S → List Letter → Type 0
  Led = whole.Led grammar limit top

  -- A word that may come, whatever name is stored.
  abbrev pub Comes : S → Word → S → Type 0
  Comes s w k = (name : List ℕ) → g.next s w name ≡ Some k

  pub number_led : (s k : S) (sign : Sign) (n : ℕ) (t : List Letter) → IsNumber g s (Some (Word.Number sign n)) → Comes s (Word.Number sign n) k → WordText (Word.Number sign n) [] t → Led (gap s) k t
  number_led s k sign n t (most, e, l) f h = (at s [] (Part.Number sign n), number_walks s sign most n t e l h, number_after s k sign n (f []))

  pub literal_led : (s k : S) (negated : Bool) (name : List ℕ) (t : List Letter) → Opens s negated name → g.next s (Word.Literal negated) name ≡ Some k → WordText (Word.Literal negated) name t → Led (gap s) k t
  literal_led s k negated name t o e h = (at s name (Part.Name negated), literal_walks s negated name t o h, name_after s k negated name e)

  pub capital_led : (s k : S) (b : ℕ) (bs : List ℕ) (c : Capital) (t : List Letter) → g.capital s b ≡ Some c → capital_bytes c ≡ b ∷ bs → Comes s (Word.Capital c) k → WordText (Word.Capital c) [] t → Led (gap s) k t
  capital_led s k b bs c t e f h i = (
    at s [] (Part.Capital c (length (capital_bytes c))),
    rw (i, f) (
      at s [] (Part.Capital c 1),
      by_step s [] Part.Gap b (Step.To (Part.Capital c 1)) (rw (name_goes b (letter_name b (first_letter c b bs f)), letter_digit b (first_letter c b bs f), first_letter c b bs f, e) refl),
      refl,
      refl,
      subst (λ y. Walks m (at s [] (Part.Capital c 1)) (map unmarked bs) (at s [] (Part.Capital c (length y)))) f (capital_walks s c 1 bs (ap (drop 1) f) (let z : length (capital_bytes c) ≡ length (b ∷ bs) = ap length f in let u : 1 + length bs ≡ length (capital_bytes c) = omega (arith, z) in u)),
    ),
    capital_after s k c (h []),
  )

  -- a letter that is a word
  pub letter_led : (s k : S) (b : ℕ) (t : List Letter) → IsTrue (is_letter b) → g.capital s b ≡ None → Comes s (Word.Mark b) k → Byte b t → Led (gap s) k t
  letter_led s k b t l e f h = (
    at s (b ∷ []) (Part.Letter b),
    rw h (
      at s (b ∷ []) (Part.Letter b),
      by_step s [] Part.Gap b (Step.Add (Part.Letter b)) (rw (name_goes b (letter_name b l), letter_digit b l, l, e, f [], or-true (g.literal s)) refl),
      refl,
      refl,
      refl,
    ),
    letter_after s k b (b ∷ []) (f (b ∷ [])),
  )

  -- another mark
  pub symbol_led : (s k : S) (b : ℕ) (t : List Letter) → step_of g s [] Part.Gap b ≡ Step.End (Some (Word.Mark b)) Part.Symbol → Comes s (Word.Mark b) k → Byte b t → Led (gap s) k t
  symbol_led s k b t e f h = (
    at k [] Part.Symbol,
    rw h (at k [] Part.Symbol, by_step s [] Part.Gap b (Step.End (Some (Word.Mark b)) Part.Symbol) e ∙ rw (f []) refl, refl, refl, refl),
    symbol_after k,
  )

  -- ---- from the end of a word on
  takes_blanks : (s : S) (i : WordsState S) → IsAfter s i → TakesBlanks m i (gap s)
  takes_blanks s i h = record { enters = h.blank; stays = (gap_after s).blank; begun = refl; plain = refl }

  -- blank+ before a word, and blank* after a `:`
  pub further : (s k : S) (i : WordsState S) (P : Language) (t : List Letter) → IsAfter s i → ((u : List Letter) → P u → Led (gap s) k u) → (Blanks1 ⋅ P) t → Led i k t
  further s k i P t h f (a, b, e, p, q) =
      let (next, w, r) = f b q in
      (next, rw e (walks_then m a b i (gap s) next (blanks1_lead m i (gap s) (takes_blanks s i h) a p) w), r)

  pub joined : (s k : S) (P : Language) (t : List Letter) → ((u : List Letter) → P u → Led (gap s) k u) → (Blanks0 ⋅ P) t → Led (gap s) k t
  joined s k P t f (a, b, e, p, q) =
      let (next, w, r) = f b q in
      (next, rw e (walks_then m a b (gap s) (gap s) next (blanks0_lead m (gap s) (takes_blanks s (gap s) (gap_after s)) a p) w), r)

  -- blank* and a `:`
  pub colon_walks : (s k : S) (i : WordsState S) (t : List Letter) → IsAfter s i → g.colon s ≡ Some k → (Blanks0 ⋅ Byte 58) t → Walks m i t (gap k)
  colon_walks s k i t h e (a, b, f, ([], p, j), q) = rw (f, j, q) (gap k, h.colon k e, refl, refl, refl)
  colon_walks s k i t h e (a, b, f, (c ∷ cs, p, j), q) =
      rw (f, q) (walks_then m a (unmarked 58 ∷ []) i (gap s) (gap k) (blanks1_lead m i (gap s) (takes_blanks s i h) a (c, cs, p.0, p.1, j))
      (gap k, (gap_after s).colon k e, refl, refl, refl))

  -- the end of the line
  in_closing : (s : S) (e : E) → g.value s ≡ Some e → Feeds m (at s [] Part.Closing) (at s [] Part.Closing) e (words_last grammar limit top)
  in_closing s e h =
      closing_feeds m (at s [] Part.Closing) (words_last grammar limit top) e
      (λ b i. by_step s [] Part.Closing b (Step.To Part.Closing) (rw i refl)) refl refl
      (by_step s [] Part.Closing 10 (Step.Finish None) refl ∙ rw h refl)

  pub ends_line : (s : S) (i : WordsState S) (e : E) (t : List Letter) → IsAfter s i → g.value s ≡ Some e → LineEnd t → ReadsStatement m i t e (words_last grammar limit top)
  ends_line s i e t h f k =
      line_reads m i (gap s) (at s [] Part.Closing) (words_last grammar limit top) e
      (record {
        feeds = record { blanks = takes_blanks s i h; ends = h.feed e f; ends_gap = (gap_after s).feed e f };
        finishes = h.semicolon e f;
        closes_gap = (gap_after s).semicolon e f;
        last = in_closing s e f;
      }) t k
