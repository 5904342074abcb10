-- What a machine for words has read in each of its states. Offered to other crates.
use Rattle.pb_lines.proofs.Common.{arith, ℕ, ◌+◌, ◌*◌, ◌-◌, ◌≤◌, ◌≡◌, ◌∙◌, ◌||◌, ◌&&◌, ◌<◌, and_parts, leb-true, digit_of, cond_both, eqb-true, ◌++◌, ◌∷◌, [], Bool, true, false, cond, List, Option, Some, None, refl, ap, sym, subst, IsTrue, length, take, nat_le, nat_eq}
use Rattle.pb_lines.proofs.Common.{◌⋅◌, Blanks0, Byte, Bytes, Digits, Empty, Language, LineEnd, Letter, unmarked, is_blank, is_digit, is_letter, is_name_byte}
use Rattle.pb_lines.proofs.Common.{FirstOf, LiteralOf, Next, Keeps, On, grown, next, none_yet, after_it, as_digit, as_unmarked, digits-grown, digits-one}
use Rattle.pb_lines.specs.declared.part.Part.{Part}
use Rattle.pb_lines.specs.declared.part.Step.{Step}
use Rattle.pb_lines.specs.declared.word.Sign.{Sign}
use Rattle.pb_lines.specs.declared.word.Word.{Word}
use Rattle.pb_lines.specs.declared.word.Capital.{Capital}
use Rattle.pb_lines.specs.contract.Grammar.{Grammar, IsNumber, with_word, follow}
use Rattle.pb_lines.specs.engine.Words.{WordsState, words_at, words_automaton, act, step_of, capital_bytes, if_some, end_word, ends_word, number_step, signed_or, mark_step, capital_or, letter_step, begin_step, capital_step, inner_step, end_step, closing_step}
use Rattle.pb_lines.specs.engine.WordTexts.{SignText, WordText, Lead}
use Rattle.pb_lines.proofs.lemmas.Ends as ends
use Rattle.pb_lines.proofs.lemmas.Literals.{first_grown, more_grown}
use Rattle.std.specs.Prelude.{is_some, nat_lt, slice_index_or}
use Rattle.std.proofs.lemmas.Bool.{ltb-true}
use Rattle.pb_lines.proofs.Common.{word_grown, word_whole}

-- a byte that ends a word and is none of three
left_blank : (a b c d : Bool) → (a || b || c || d) ≡ true → b ≡ false → c ≡ false → d ≡ false → IsTrue a
left_blank a b c d e f g h = grind arith

-- the next digit of a number that is at most the largest
digit_parts : (b v most : ℕ) → (is_digit b && nat_le v most) ≡ true → ((b ≡ 48 + (b - 48)) × (b - 48 < 10)) × (v ≤ most)
digit_parts b v most e = let (i, k) = and_parts (is_digit b) (nat_le v most) e in (digit_of b i, leb-true v most k)

-- a word in capital letters begins with the byte
abbrev pub FirstByte : Capital → ℕ → Type 0
FirstByte c b = take 1 (capital_bytes c) ≡ b ∷ []

first_text : (c : Capital) (l : Letter) → l.numeral ≡ false → FirstByte c l.byte → Bytes (take 1 (capital_bytes c)) (l ∷ [])
first_text c l n e = rw e (ap (λ y. y ∷ []) (as_unmarked l l.byte n refl))

plus_text : (b : ℕ) → b ≡ 43 → SignText Sign.Plus (unmarked b ∷ [])
plus_text b e = ap (λ y. unmarked y ∷ []) e

minus_text : (b : ℕ) → b ≡ 45 → SignText Sign.Minus (unmarked b ∷ [])
minus_text b e = ap (λ y. unmarked y ∷ []) e

module _ {S E : Type 0} (g : Grammar S E) where
  -- After gives the texts that lead to the words, and `joined` says whether a `:` is the last byte.
  pub record IsSpelled (joined : S → Bool) (After : S → Language) (Whole : E → Language) : Type 0 where
    pub first : After g.first []
    pub apart : joined g.first ≡ false
    pub word : (s k : S) (w : Word) (name : List ℕ) (p : List Letter) → IsNumber g s (Some w) → g.next s w name ≡ Some k
        → (After s ⋅ Lead (joined s) ⋅ WordText w name) p → After k p × (joined k ≡ false)
    pub colon : (s k : S) (p : List Letter) → g.colon s ≡ Some k → (After s ⋅ (Blanks0 ⋅ Byte 58)) p → After k p × (joined k ≡ true)
    pub capital : (s : S) (b : ℕ) (c : Capital) → g.capital s b ≡ Some c → FirstByte c b
    pub whole : (s : S) (e : E) (p : List Letter) → g.value s ≡ Some e → (After s ⋅ LineEnd) p → Whole e p

module _ {S E : Type 0} (grammar : ℕ → ℕ → Grammar S E) (joined : ℕ → ℕ → S → Bool) (After : ℕ → ℕ → S → Language) (Whole : ℕ → ℕ → E → Language)
    (spelled : (limit top : ℕ) → IsSpelled (grammar limit top) (joined limit top) (After limit top) (Whole limit top)) where
  module _ (limit top : ℕ) where
    abbrev g : Grammar S E
    g = grammar limit top

    -- what comes before a word that follows these
    abbrev pub Before : S → Language
    Before s = After limit top s ⋅ Lead (joined limit top s)

    abbrev pub prefix : Part → S → List ℕ → Language
    prefix Part.Start s name = λ t. (s ≡ g.first) × Empty t
    prefix Part.Gap s name = λ t. (name ≡ []) × Before s t
    prefix Part.Symbol s name = λ t. (joined limit top s ≡ false) × After limit top s t
    prefix (Part.Sign sign) s name = Before s ⋅ SignText sign
    prefix (Part.Number sign n) s name = λ t. IsNumber g s (Some (Word.Number sign n)) × (Before s ⋅ (SignText sign ⋅ Digits n)) t
    prefix Part.Tilde s name = λ t. (name ≡ []) × (g.literal s ≡ true) × (Before s ⋅ Byte 126) t
    prefix Part.First s name = λ t. (g.literal s ≡ true) × (Before s ⋅ FirstOf true name) t
    prefix (Part.Letter b) s name = λ t. (name ≡ b ∷ []) × ((g.literal s || is_some (follow g s (Some (Word.Mark b)) [])) ≡ true) × (Before s ⋅ FirstOf false name) t
    prefix (Part.Name negated) s name = λ t. (g.literal s ≡ true) × (Before s ⋅ LiteralOf negated name) t
    prefix (Part.Capital c k) s name = Before s ⋅ Bytes (take k (capital_bytes c))
    prefix Part.Closing s name = ends.Closing (After limit top s)
    prefix Part.Done s name = λ t. ⊥

    -- What a word leads to.
    abbrev Leads : S → Option Word → List ℕ → List Letter → Type 0
    Leads s w name p = (k : S) → with_word g s w name ≡ Some k
        → ends.Gapped (After limit top k) p × ((l : Letter) → IsTrue (is_blank l.byte) → l.numeral ≡ false → Before k (p ++ l ∷ []))

    -- blanks after a word, and further ones
    blanks_after : (k : S) (p : List Letter) → joined limit top k ≡ false → After limit top k p → (l : Letter) → IsTrue (is_blank l.byte) → l.numeral ≡ false → Before k (p ++ l ∷ [])
    blanks_after k p j a l b n = rw j (ends.blanks_begin (After limit top k) l p b n a)

    blanks_more : (j : Bool) (k : S) (p : List Letter) → (After limit top k ⋅ Lead j) p → (l : Letter) → IsTrue (is_blank l.byte) → l.numeral ≡ false → (After limit top k ⋅ Lead j) (p ++ l ∷ [])
    blanks_more true k p a l b n = ends.blank_more (After limit top k) l p b n a
    blanks_more false k p a l b n = ends.blanks_go_on (After limit top k) l p b n a

    some_gap : (j : Bool) (k : S) (p : List Letter) → (After limit top k ⋅ Lead j) p → ends.Gapped (After limit top k) p
    some_gap true k p a = a
    some_gap false k p a = ends.gapped_some (After limit top k) p a

    worded : (s : S) (w : Word) (name : List ℕ) (p : List Letter) → IsNumber g s (Some w) → (Before s ⋅ WordText w name) p → Leads s (Some w) name p
    worded s w name p i h k e =
        let r = (spelled limit top).word s k w name p i e h in
        (ends.gapped (After limit top k) p r.0, blanks_after k p r.1 r.0)

    unworded : (s : S) (name : List ℕ) (p : List Letter) → Before s p → Leads s None name p
    unworded s name p h k e = subst (λ x. ends.Gapped (After limit top x) p × ((l : Letter) → IsTrue (is_blank l.byte) → l.numeral ≡ false → Before x (p ++ l ∷ []))) (let f : s ≡ k = cc in f)
        (some_gap (joined limit top s) s p h, blanks_more (joined limit top s) s p h)

    -- nothing yet, a mark, and a letter
    started : (s : S) (name : List ℕ) (p : List Letter) → prefix Part.Start s name p → Leads s None name p
    started s name p h k e =
        let f : k ≡ g.first = cc in
        rw (f, h.1) (ends.gapped (After limit top g.first) [] (spelled limit top).first, blanks_after g.first [] (spelled limit top).apart (spelled limit top).first)

    marked : (s : S) (name : List ℕ) (p : List Letter) → joined limit top s ≡ false → After limit top s p → Leads s None name p
    marked s name p j h k e = let f : k ≡ s = cc in rw f (ends.gapped (After limit top s) p h, blanks_after s p j h)

    pub lettered : (s : S) (name : List ℕ) (p : List Letter) (b : ℕ) → prefix (Part.Letter b) s name p → (Before s ⋅ Byte b) p
    lettered s name p b h = after_it (Before s) (FirstOf false name) (Byte b) p (λ r i. i.1 ∙ rw h.0 refl) h.2

    abbrev here : S → List ℕ → Part → WordsState S
    here s name p = words_at grammar limit top s name p

  abbrev pub Prefix : WordsState S → Language
  Prefix i = prefix i.limit i.top i.part i.words i.name

  abbrev pub WholeLine : E → WordsState S → Language
  WholeLine e i = Whole i.limit i.top e

  abbrev OnNext : Next (WordsState S) E → Letter → Language
  OnNext = On (words_automaton grammar) Prefix WholeLine

  -- an outcome for each value that there may be
  on_some : {A : Type 0} (x : Option A) (f : A → Next (WordsState S) E) (l : Letter) (p : List Letter) → ((a : A) → x ≡ Some a → OnNext (f a) l p) → OnNext (if_some x f) l p
  on_some None f l p h = tt
  on_some (Some a) f l p h = h a refl

  module _ (limit top : ℕ) (s : S) (name : List ℕ) (part : Part) (l : Letter) (q : List Letter) where
    abbrev Acts : Step → Type 0
    Acts m = OnNext (act grammar (here limit top s name part) l.byte m) l (q ++ l ∷ [])

    with_colon : (k : S) → l.byte ≡ 58 → l.numeral ≡ false → ends.Gapped (After limit top k) q → (After limit top k ⋅ (Blanks0 ⋅ Byte 58)) (q ++ l ∷ [])
    with_colon k b n h =
        grown (After limit top k) Blanks0 (Blanks0 ⋅ Byte 58) q l (λ r i. next Blanks0 (Byte 58) r l i (ap (λ y. y ∷ []) (as_unmarked l 58 n b))) h

    finish_sound : (w : Option Word) → l.byte ≡ 10 → Leads limit top s w name q → Acts (Step.Finish w)
    finish_sound w b h =
        on_some (with_word (grammar limit top) s w name) _ l _ (λ k e. on_some ((grammar limit top).value k) _ l _
        (λ v i n. (spelled limit top).whole k v (q ++ l ∷ []) i (ends.line_after_blanks (After limit top k) l q b n (h k e).0)))

    close_sound : (w : Option Word) → l.byte ≡ 59 → Leads limit top s w name q → Acts (Step.Close w)
    close_sound w b h =
        on_some (with_word (grammar limit top) s w name) _ l _ (λ k e. on_some ((grammar limit top).value k) _ l _
        (λ v i _ n. ends.semicolon_after_blanks (After limit top k) l q b n (h k e).0))

    colon_sound : (w : Option Word) → l.byte ≡ 58 → Leads limit top s w name q → Acts (Step.Colon w)
    colon_sound w b h =
        on_some (with_word (grammar limit top) s w name) _ l _ (λ k e. on_some ((grammar limit top).colon k) _ l _
        (λ j i _ n. let r = (spelled limit top).colon k j (q ++ l ∷ []) i (with_colon k b n (h k e).0) in
        (refl, rw r.1 (none_yet (After limit top j) Blanks0 (q ++ l ∷ []) ([], tt, refl) r.0))))

    blank_sound : (w : Option Word) → IsTrue (is_blank l.byte) → Leads limit top s w name q → Acts (Step.End w Part.Gap)
    blank_sound w b h = on_some (with_word (grammar limit top) s w name) _ l _ (λ k e _ n. (refl, (h k e).1 l b n))

    -- a byte that ends a word
    end_sound : (w : Option Word) → ends_word l.byte ≡ true → Leads limit top s w name q → Acts (end_word w l.byte)
    end_sound w e h =
        cond_both (nat_eq l.byte 10) _ _ Acts (λ f. finish_sound w (eqb-true l.byte 10 f) h) (λ f.
        cond_both (nat_eq l.byte 59) _ _ Acts (λ g. close_sound w (eqb-true l.byte 59 g) h) (λ g.
        cond_both (nat_eq l.byte 58) _ _ Acts (λ i. colon_sound w (eqb-true l.byte 58 i) h) (λ i.
        blank_sound w (left_blank (is_blank l.byte) (nat_eq l.byte 10) (nat_eq l.byte 59) (nat_eq l.byte 58) e f g i) h)))

    -- a further digit of a number
    number_sound : (most : Option ℕ) (sign : Sign) (n : ℕ) → (grammar limit top).number s sign ≡ most
        → ((d : ℕ) → l.byte ≡ 48 + d → d < 10 → l.numeral ≡ true → (Before limit top s ⋅ (SignText sign ⋅ Digits (10 * n + d))) (q ++ l ∷ []))
        → Acts (number_step most sign n l.byte)
    number_sound None sign n e h = tt
    number_sound (Some most) sign n e h =
        cond_both (is_digit l.byte && nat_le (10 * n + (l.byte - 48)) most) _ _ Acts
        (λ f _ m. let (i, k) = digit_parts l.byte (10 * n + (l.byte - 48)) most f in
        ((most, e, k), h (l.byte - 48) i.0 i.1 m))
        (λ f. tt)

    -- the first digit of a number, and a further one
    first_digit : (sign : Sign) → (Before limit top s ⋅ SignText sign) q → (d : ℕ) → l.byte ≡ 48 + d → d < 10 → l.numeral ≡ true
        → (Before limit top s ⋅ (SignText sign ⋅ Digits (10 * 0 + d))) (q ++ l ∷ [])
    first_digit sign h d e k m =
        grown (Before limit top s) (SignText sign) (SignText sign ⋅ Digits (10 * 0 + d)) q l
        (λ r i. next (SignText sign) (Digits (10 * 0 + d)) r l i (digits-one d l (as_digit l d e m) k)) h

    more_digits : (sign : Sign) (n : ℕ) → (Before limit top s ⋅ (SignText sign ⋅ Digits n)) q → (d : ℕ) → l.byte ≡ 48 + d → d < 10 → l.numeral ≡ true
        → (Before limit top s ⋅ (SignText sign ⋅ Digits (10 * n + d))) (q ++ l ∷ [])
    more_digits sign n h d e k m =
        grown (Before limit top s) (SignText sign ⋅ Digits n) (SignText sign ⋅ Digits (10 * n + d)) q l
        (λ r i. grown (SignText sign) (Digits n) (Digits (10 * n + d)) r l (λ t j. digits-grown n d l (as_digit l d e m) k t j) i) h

    -- one byte, as the first one of a word
    one_byte : (P : Language) (b : ℕ) → l.byte ≡ b → l.numeral ≡ false → P q → (P ⋅ Byte b) (q ++ l ∷ [])
    one_byte P b e n h = next P (Byte b) q l h (ap (λ y. y ∷ []) (as_unmarked l b n e))

    -- a mark that is no letter
    mark_sound : (b : ℕ) → l.byte ≡ b → Before limit top s q → Acts (Step.End (Some (Word.Mark b)) Part.Symbol)
    mark_sound b e h =
        on_some ((grammar limit top).next s (Word.Mark b) name) _ l _ (λ k i _ n.
        let r = (spelled limit top).word s k (Word.Mark b) name (q ++ l ∷ []) tt i (one_byte (Before limit top s) b e n h) in (r.1, r.0))

    signed_sound : (most : Option ℕ) (sign : Sign) (b : ℕ) → l.byte ≡ b → SignText sign (unmarked b ∷ []) → Before limit top s q → Acts (signed_or (grammar limit top) most sign b)
    signed_sound None sign b e i h = mark_sound b e h
    signed_sound (Some most) sign b e i h = λ _ n. next (Before limit top s) (SignText sign) q l h (subst (λ y. SignText sign (y ∷ [])) (sym (as_unmarked l b n e)) i)

    signs_sound : Before limit top s q → Acts (mark_step (grammar limit top) s l.byte)
    signs_sound h =
        cond_both (nat_eq l.byte 43) _ _ Acts (λ e. signed_sound ((grammar limit top).number s Sign.Plus) Sign.Plus l.byte refl (plus_text l.byte (eqb-true l.byte 43 e)) h)
        (λ _. cond_both (nat_eq l.byte 45) _ _ Acts (λ e. signed_sound ((grammar limit top).number s Sign.Minus) Sign.Minus l.byte refl (minus_text l.byte (eqb-true l.byte 45 e)) h)
        (λ _. mark_sound l.byte refl h))

    -- a letter that begins a word
    capital_sound : (c : Option Capital) (named : Bool) → (named ≡ true → ((grammar limit top).literal s || is_some (follow (grammar limit top) s (Some (Word.Mark l.byte)) [])) ≡ true) → ((d : Capital) → c ≡ Some d → FirstByte d l.byte) → name ≡ [] → IsTrue (is_letter l.byte) → Before limit top s q → Acts (capital_or (grammar limit top) c named l.byte)
    capital_sound (Some c) named t f z i h = λ _ n. next (Before limit top s) (Bytes (take 1 (capital_bytes c))) q l h (first_text c l n (f c refl))
    capital_sound None true t f z i h = λ _ n. (
      ap (λ y. y ++ l.byte ∷ []) z,
      t refl,
      next (Before limit top s) (FirstOf false (name ++ l.byte ∷ [])) q l h (rw z (i, ap (λ y. y ∷ []) (as_unmarked l l.byte n refl))),
    )
    capital_sound None false t f z i h = tt

    letter_sound : name ≡ [] → IsTrue (is_letter l.byte) → Before limit top s q → Acts (letter_step (grammar limit top) s name l.byte)
    letter_sound z i h =
        capital_sound ((grammar limit top).capital s l.byte) ((grammar limit top).literal s || is_some (follow (grammar limit top) s (Some (Word.Mark l.byte)) name))
        (λ t. subst (λ x. ((grammar limit top).literal s || is_some (follow (grammar limit top) s (Some (Word.Mark l.byte)) x)) ≡ true) z t)
        (λ d e. (spelled limit top).capital s l.byte d e) z i h

    -- the first byte of a word
    begin_sound : name ≡ [] → Before limit top s q → Acts (begin_step (grammar limit top) s name l.byte)
    begin_sound z h =
        cond_both (is_digit l.byte) _ _ Acts
        (λ _. number_sound ((grammar limit top).number s Sign.Nothing) Sign.Nothing 0 refl (first_digit Sign.Nothing (none_yet (Before limit top s) Empty q refl h)))
        (λ _. cond_both (is_letter l.byte) _ _ Acts (λ i. letter_sound z i h)
        (λ _. cond_both (nat_eq l.byte 126 && (grammar limit top).literal s) _ _ Acts
        (λ e _ n. (z, (and_parts (nat_eq l.byte 126) ((grammar limit top).literal s) e).1, one_byte (Before limit top s) 126 (eqb-true l.byte 126 (and_parts (nat_eq l.byte 126) ((grammar limit top).literal s) e).0) n h)) (λ _. signs_sound h)))

    -- bytes of a name
    tilde_sound : (Before limit top s ⋅ Byte 126) q → name ≡ [] → IsTrue (is_letter l.byte) → l.numeral ≡ false → (Before limit top s ⋅ FirstOf true (name ++ l.byte ∷ [])) (q ++ l ∷ [])
    tilde_sound h z i n =
        rw z (grown (Before limit top s) (Byte 126) (FirstOf true (l.byte ∷ [])) q l
        (λ r e. (i, ap (λ y. y ++ l ∷ []) e ∙ ap (λ y. unmarked 126 ∷ y ∷ []) (as_unmarked l l.byte n refl))) h)

    -- a further byte of a word in capital letters
    capital_more : (c : Capital) (k : ℕ) → (Before limit top s ⋅ Bytes (take k (capital_bytes c))) q → Acts (capital_step c k l.byte)
    capital_more c k h =
        cond_both (nat_lt k (length (capital_bytes c)) && nat_eq (slice_index_or (capital_bytes c) k 0) l.byte) _ _ Acts
        (λ e _ n. let (i, j) = and_parts (nat_lt k (length (capital_bytes c))) (nat_eq (slice_index_or (capital_bytes c) k 0) l.byte) e in
        grown (Before limit top s) (Bytes (take k (capital_bytes c))) (Bytes (take (k + 1) (capital_bytes c))) q l
        (λ r b. word_grown (capital_bytes c) k l (ltb-true k (length (capital_bytes c)) i) n (sym (eqb-true _ _ j)) r b) h) (λ _. tt)

  -- a step from each part
  module _ (limit top : ℕ) (s : S) (name : List ℕ) (l : Letter) (q : List Letter) where
    inner_sound : (p : Part) → prefix limit top p s name q → Acts limit top s name p l q (inner_step (grammar limit top) s name p l.byte)
    inner_sound Part.Gap h = begin_sound limit top s name Part.Gap l q h.0 h.1
    inner_sound (Part.Sign sign) h = number_sound limit top s name (Part.Sign sign) l q ((grammar limit top).number s sign) sign 0 refl (first_digit limit top s name (Part.Sign sign) l q sign h)
    inner_sound (Part.Number sign n) h = number_sound limit top s name (Part.Number sign n) l q ((grammar limit top).number s sign) sign n refl (more_digits limit top s name (Part.Number sign n) l q sign n h.1)
    inner_sound Part.Tilde h = cond_both (is_letter l.byte) _ _ (Acts limit top s name Part.Tilde l q) (λ i _ n. (h.1, tilde_sound limit top s name Part.Tilde l q h.2 h.0 i n)) (λ _. tt)
    inner_sound Part.First h = cond_both (is_name_byte l.byte) _ _ (Acts limit top s name Part.First l q) (λ i _ n. (h.0, first_grown (Before limit top s) true name l.byte l q (as_unmarked l l.byte n refl) i h.1)) (λ _. tt)
    inner_sound (Part.Letter b) h =
        cond_both ((grammar limit top).literal s && is_name_byte l.byte) _ _ (Acts limit top s name (Part.Letter b) l q)
        (λ i _ n. let k = and_parts ((grammar limit top).literal s) (is_name_byte l.byte) i in (k.0, first_grown (Before limit top s) false name l.byte l q (as_unmarked l l.byte n refl) k.1 h.2)) (λ _. tt)
    inner_sound (Part.Name negated) h = cond_both (is_name_byte l.byte) _ _ (Acts limit top s name (Part.Name negated) l q) (λ i _ n. (h.0, more_grown (Before limit top s) negated name l.byte l q (as_unmarked l l.byte n refl) i h.1)) (λ _. tt)
    inner_sound (Part.Capital c k) h = capital_more limit top s name (Part.Capital c k) l q c k h
    inner_sound _ h = tt

    ends_sound : (p : Part) → ends_word l.byte ≡ true → prefix limit top p s name q → Acts limit top s name p l q (end_step p l.byte)
    ends_sound Part.Start e h = end_sound limit top s name Part.Start l q None e (started limit top s name q h)
    ends_sound Part.Gap e h = end_sound limit top s name Part.Gap l q None e (unworded limit top s name q h.1)
    ends_sound Part.Symbol e h = end_sound limit top s name Part.Symbol l q None e (marked limit top s name q h.0 h.1)
    ends_sound (Part.Number sign n) e h = end_sound limit top s name (Part.Number sign n) l q (Some (Word.Number sign n)) e (worded limit top s (Word.Number sign n) name q h.0 h.1)
    ends_sound (Part.Letter b) e h = end_sound limit top s name (Part.Letter b) l q (Some (Word.Mark b)) e (worded limit top s (Word.Mark b) name q tt (lettered limit top s name q b h))
    ends_sound (Part.Name negated) e h = end_sound limit top s name (Part.Name negated) l q (Some (Word.Literal negated)) e (worded limit top s (Word.Literal negated) name q tt h.1)
    ends_sound (Part.Capital c k) e h =
        cond_both (nat_eq k (length (capital_bytes c))) _ _ (Acts limit top s name (Part.Capital c k) l q)
        (λ i. end_sound limit top s name (Part.Capital c k) l q (Some (Word.Capital c)) e
        (worded limit top s (Word.Capital c) name q tt
        (after_it (Before limit top s) (Bytes (take k (capital_bytes c))) (Bytes (capital_bytes c)) q (λ r b. word_whole (capital_bytes c) k r (eqb-true k (length (capital_bytes c)) i) b) h)))
        (λ _. tt)
    ends_sound _ e h = tt

    closing_sound : prefix limit top Part.Closing s name q → Acts limit top s name Part.Closing l q (closing_step l.byte)
    closing_sound h =
        cond_both (is_blank l.byte) _ _ (Acts limit top s name Part.Closing l q) (λ b _ n. ends.blank_closing (After limit top s) l q b n h)
        (λ _. cond_both (nat_eq l.byte 10) _ _ (Acts limit top s name Part.Closing l q)
        (λ e. on_some ((grammar limit top).value s) _ l _ (λ v i n. (spelled limit top).whole s v (q ++ l ∷ []) i (ends.line_closing (After limit top s) l q (eqb-true l.byte 10 e) n h))) (λ _. tt))

    either : (p : Part) → prefix limit top p s name q → Acts limit top s name p l q (cond (ends_word l.byte) (end_step p l.byte) (inner_step (grammar limit top) s name p l.byte))
    either p h = cond_both (ends_word l.byte) _ _ (Acts limit top s name p l q) (λ e. ends_sound p e h) (λ _. inner_sound p h)

    sound : (p : Part) → prefix limit top p s name q → Acts limit top s name p l q (step_of (grammar limit top) s name p l.byte)
    sound Part.Closing h = closing_sound h
    sound Part.Done h = tt
    sound Part.Start h = either Part.Start h
    sound Part.Gap h = either Part.Gap h
    sound Part.Symbol h = either Part.Symbol h
    sound (Part.Sign sign) h = either (Part.Sign sign) h
    sound (Part.Number sign n) h = either (Part.Number sign n) h
    sound Part.Tilde h = either Part.Tilde h
    sound Part.First h = either Part.First h
    sound (Part.Letter b) h = either (Part.Letter b) h
    sound (Part.Name negated) h = either (Part.Name negated) h
    sound (Part.Capital c k) h = either (Part.Capital c k) h

  pub keeps_prefix : Keeps (words_automaton grammar) Prefix WholeLine
  keeps_prefix i l p h = sound i.limit i.top i.words i.name l p i.part h
