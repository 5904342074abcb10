-- Where a machine for words may allocate. Offered to other crates.
use Rattle.pb_lines.proofs.Common.{ℕ, ◌+◌, ◌*◌, ◌-◌, ◌≡◌, ◌&&◌, ◌||◌, ◌∷◌, [], Bool, true, false, cond, cond_both, List, Option, Some, None, refl, subst, IsTrue, inl, and_parts, false≢true}
use Rattle.pb_lines.proofs.Common.{◌⋅◌, Byte, Language, Letter, bytes, Walks, prefixes_of, is_blank, is_digit, is_letter, is_name_byte, nat_eq, nat_le, after_it, none_yet}
use Rattle.pb_lines.proofs.Common.{Bytes, length, take, word_whole, eqb-true, AsksLiteral, ends_nothing, first_further, at_name, FirstOf, LiteralOf}
use Rattle.pb_lines.specs.declared.part.Part.{Part}
use Rattle.pb_lines.specs.declared.part.Step.{Step}
use Rattle.pb_lines.specs.declared.word.Sign.{Sign}
use Rattle.pb_lines.specs.declared.word.Word.{Word}
use Rattle.pb_lines.specs.declared.word.Capital.{Capital}
use Rattle.pb_lines.specs.contract.Grammar.{Grammar, follow}
use Rattle.pb_lines.specs.engine.WordTexts.{WordText}
use Rattle.pb_lines.specs.engine.Words.{WordsState, words_at, words_automaton, words_first, asks, capital_bytes, number_step, end_word, end_step, inner_step, begin_step, capital_or, signed_or, ends_word, step_of}
use Rattle.pb_lines.proofs.lemmas.Spelling.{IsSpelled, Before, prefix, Prefix, WholeLine, keeps_prefix, lettered}
use Rattle.pb_lines.proofs.lemmas.TextEnds.{literal_end}
use Rattle.std.specs.Prelude.{is_some, nat_lt, slice_index_or}

-- a mark that ends at a byte after it is a letter
abbrev pub IsLettered : Word → Type 0
IsLettered (Word.Mark c) = IsTrue (is_letter c)
IsLettered w = Unit {0}

module _ {S E : Type 0} (grammar : ℕ → ℕ → Grammar S E) (joined : ℕ → ℕ → S → Bool) (After : ℕ → ℕ → S → Language) (Whole : ℕ → ℕ → E → Language)
    (spelled : (limit top : ℕ) → IsSpelled (grammar limit top) (joined limit top) (After limit top) (Whole limit top)) (limit top : ℕ) where
  abbrev g : Grammar S E
  g = grammar limit top

  abbrev pub Gap : S → Language
  Gap s = Before grammar joined After Whole spelled limit top s

  -- The next byte is in a name, or comes after one. It ends a word that is stored. Or it is a word that is stored.
  pub data MayAsk (s : S) (t : List Letter) (b : ℕ) : Type 0 where
    in_name : (Gap s ⋅ (λ x. AsksLiteral (bytes x) b)) t → (g.literal s || is_some (follow g s (Some (Word.Mark b)) [])) ≡ true → MayAsk s t b
    at_end : (w : Word) (name : List ℕ) → g.adds s w ≡ true → IsLettered w → (Gap s ⋅ WordText w name) t → ends_word b ≡ true → MayAsk s t b
    at_mark : g.adds s (Word.Mark b) ≡ true → Gap s t → is_digit b ≡ false → is_letter b ≡ false → MayAsk s t b

  module _ (s : S) (name : List ℕ) (p : Part) (t : List Letter) (b : ℕ) where
    abbrev Asked : Step → Type 0
    Asked m = asks grammar (words_at grammar limit top s name p) m ≡ true → MayAsk s t b

    number_asked : (most : Option ℕ) (sign : Sign) (n : ℕ) → Asked (number_step most sign n b)
    number_asked None sign n = λ h. absurd (false≢true h)
    number_asked (Some most) sign n = cond_both (is_digit b && nat_le (10 * n + (b - 48)) most) _ _ Asked (λ _ h. absurd (false≢true h)) (λ _ h. absurd (false≢true h))

    -- the end of a word, and of none
    word_asked : (w : Word) (other : List ℕ) → IsLettered w → (Gap s ⋅ WordText w other) t → ends_word b ≡ true → Asked (end_word (Some w) b)
    word_asked w other l h e =
        let f : g.adds s w ≡ true → MayAsk s t b = λ a. at_end w other a l h e in
        cond_both (nat_eq b 10) _ _ Asked (λ _. f) (λ _. cond_both (nat_eq b 59) _ _ Asked (λ _. f) (λ _. cond_both (nat_eq b 58) _ _ Asked (λ _. f) (λ _. f)))

    none_asked : Asked (end_word None b)
    none_asked =
        let f : false ≡ true → MayAsk s t b = λ h. absurd (false≢true h) in
        cond_both (nat_eq b 10) _ _ Asked (λ _. f) (λ _. cond_both (nat_eq b 59) _ _ Asked (λ _. f) (λ _. cond_both (nat_eq b 58) _ _ Asked (λ _. f) (λ _. f)))

    marked_asked : is_digit b ≡ false → is_letter b ≡ false → Gap s t → Asked (Step.End (Some (Word.Mark b)) Part.Symbol)
    marked_asked d l h = λ a. at_mark a h d l

    signed_asked : (most : Option ℕ) (sign : Sign) → is_digit b ≡ false → is_letter b ≡ false → Gap s t → Asked (signed_or g most sign b)
    signed_asked None sign d l h = marked_asked d l h
    signed_asked (Some most) sign d l h = λ a. absurd (false≢true a)

    -- a letter after the gap
    letter_asked : IsTrue (is_letter b) → Gap s t → (c : Option Capital) (named : Bool) → (named ≡ true → (g.literal s || is_some (follow g s (Some (Word.Mark b)) [])) ≡ true) → Asked (capital_or g c named b)
    letter_asked l h (Some c) named f = λ a. absurd (false≢true a)
    letter_asked l h None true f = λ _. in_name (none_yet (Gap s) (λ x. AsksLiteral (bytes x) b) t (inl ([], ends_nothing [], (l, tt))) h) (f refl)
    letter_asked l h None false f = λ a. absurd (false≢true a)

    begin_asked : name ≡ [] → Gap s t → Asked (begin_step g s name b)
    begin_asked z h =
        cond_both (is_digit b) _ _ Asked (λ _. number_asked (g.number s Sign.Nothing) Sign.Nothing 0)
        (λ d. cond_both (is_letter b) _ _ Asked
        (λ l. letter_asked l h (g.capital s b) (g.literal s || is_some (follow g s (Some (Word.Mark b)) name)) (λ e. subst (λ x. (g.literal s || is_some (follow g s (Some (Word.Mark b)) x)) ≡ true) z e))
        (λ l. cond_both (nat_eq b 126 && g.literal s) _ _ Asked (λ _ a. absurd (false≢true a))
        (λ _. cond_both (nat_eq b 43) _ _ Asked (λ _. signed_asked (g.number s Sign.Plus) Sign.Plus d l h)
        (λ _. cond_both (nat_eq b 45) _ _ Asked (λ _. signed_asked (g.number s Sign.Minus) Sign.Minus d l h) (λ _. marked_asked d l h)))))

    named_literal : g.literal s ≡ true → (g.literal s || is_some (follow g s (Some (Word.Mark b)) [])) ≡ true
    named_literal e = rw e refl

  module _ (s : S) (name : List ℕ) (t : List Letter) (b : ℕ) where
    abbrev Known : Part → Type 0
    Known p = prefix grammar joined After Whole spelled limit top p s name t

    -- a further byte of a name
    first_asked : (negated : Bool) → g.literal s ≡ true → IsTrue (is_name_byte b) → (Gap s ⋅ FirstOf negated name) t → MayAsk s t b
    first_asked negated e i h =
        in_name (after_it (Gap s) (FirstOf negated name) (λ x. AsksLiteral (bytes x) b) t
        (λ q k. inl (name, literal_end (λ x. x ≡ []) negated name q ([], q, refl, refl, k.1), first_further name b k.0 i)) h) (rw e refl)

    inner_asked : (p : Part) → Known p → Asked s name p t b (inner_step g s name p b)
    inner_asked Part.Gap h = begin_asked s name Part.Gap t b h.0 h.1
    inner_asked (Part.Sign sign) h = number_asked s name (Part.Sign sign) t b (g.number s sign) sign 0
    inner_asked (Part.Number sign n) h = number_asked s name (Part.Number sign n) t b (g.number s sign) sign n
    inner_asked Part.Tilde h =
        cond_both (is_letter b) _ _ (Asked s name Part.Tilde t b)
        (λ l _. in_name (after_it (Gap s) (Byte 126) (λ x. AsksLiteral (bytes x) b) t (λ q k. inl ([], ends_nothing (bytes q), (l, tt))) h.2) (named_literal s name Part.Tilde t b h.1)) (λ _ a. absurd (false≢true a))
    inner_asked Part.First h = cond_both (is_name_byte b) _ _ (Asked s name Part.First t b) (λ i _. first_asked true h.0 i h.1) (λ _ a. absurd (false≢true a))
    inner_asked (Part.Letter c) h =
        cond_both (g.literal s && is_name_byte b) _ _ (Asked s name (Part.Letter c) t b)
        (λ i _. let k = and_parts (g.literal s) (is_name_byte b) i in first_asked false k.0 k.1 h.2) (λ _ a. absurd (false≢true a))
    inner_asked (Part.Name negated) h =
        cond_both (is_name_byte b) _ _ (Asked s name (Part.Name negated) t b)
        (λ i _. in_name (after_it (Gap s) (LiteralOf negated name) (λ x. AsksLiteral (bytes x) b) t
        (λ q k. at_name (bytes q) name b (literal_end (λ x. x ≡ []) negated name q ([], q, refl, refl, k.1)) k.0) h.1) (named_literal s name (Part.Name negated) t b h.0)) (λ _ a. absurd (false≢true a))
    inner_asked (Part.Capital c k) h = cond_both (nat_lt k (length (capital_bytes c)) && nat_eq (slice_index_or (capital_bytes c) k 0) b) _ _ (Asked s name (Part.Capital c k) t b) (λ _ a. absurd (false≢true a)) (λ _ a. absurd (false≢true a))
    inner_asked _ h = λ a. absurd (false≢true a)

    letter_of : (c : ℕ) → Known (Part.Letter c) → IsTrue (is_letter c)
    letter_of c (e, f, (a, d, g, x, y)) = let i : FirstOf false (c ∷ []) d = subst (λ n. FirstOf false n d) e y in i.0

    end_asked : (p : Part) → ends_word b ≡ true → Known p → Asked s name p t b (end_step p b)
    end_asked Part.Start e h = none_asked s name Part.Start t b
    end_asked Part.Gap e h = none_asked s name Part.Gap t b
    end_asked Part.Symbol e h = none_asked s name Part.Symbol t b
    end_asked (Part.Number sign n) e h = word_asked s name (Part.Number sign n) t b (Word.Number sign n) name tt h.1 e
    end_asked (Part.Letter c) e h = word_asked s name (Part.Letter c) t b (Word.Mark c) name (letter_of c h) (lettered grammar joined After Whole spelled limit top s name t c h) e
    end_asked (Part.Name negated) e h = word_asked s name (Part.Name negated) t b (Word.Literal negated) name tt h.1 e
    end_asked (Part.Capital c k) e h =
        cond_both (nat_eq k (length (capital_bytes c))) _ _ (Asked s name (Part.Capital c k) t b)
        (λ i. word_asked s name (Part.Capital c k) t b (Word.Capital c) name tt
        (after_it (Gap s) (Bytes (take k (capital_bytes c))) (Bytes (capital_bytes c)) t (λ r j. word_whole (capital_bytes c) k r (eqb-true k (length (capital_bytes c)) i) j) h) e) (λ _ a. absurd (false≢true a))
    end_asked _ e h = λ a. absurd (false≢true a)

    either : (p : Part) → Known p → Asked s name p t b (cond (ends_word b) (end_step p b) (inner_step g s name p b))
    either p h = cond_both (ends_word b) _ _ (Asked s name p t b) (λ e. end_asked p e h) (λ _. inner_asked p h)

    asked_at : (p : Part) → Known p → Asked s name p t b (step_of g s name p b)
    asked_at Part.Closing h = cond_both (is_blank b) _ _ (Asked s name Part.Closing t b) (λ _ a. absurd (false≢true a)) (λ _. cond_both (nat_eq b 10) _ _ (Asked s name Part.Closing t b) (λ _ a. absurd (false≢true a)) (λ _ a. absurd (false≢true a)))
    asked_at Part.Done h = absurd h
    asked_at Part.Start h = either Part.Start h
    asked_at Part.Gap h = either Part.Gap h
    asked_at Part.Symbol h = either Part.Symbol h
    asked_at (Part.Sign sign) h = either (Part.Sign sign) h
    asked_at (Part.Number sign n) h = either (Part.Number sign n) h
    asked_at Part.Tilde h = either Part.Tilde h
    asked_at Part.First h = either Part.First h
    asked_at (Part.Letter c) h = either (Part.Letter c) h
    asked_at (Part.Name negated) h = either (Part.Name negated) h
    asked_at (Part.Capital c k) h = either (Part.Capital c k) h

-- It asks only there.
pub words_asked : {S E : Type 0} (grammar : ℕ → ℕ → Grammar S E) (joined : ℕ → ℕ → S → Bool) (After : ℕ → ℕ → S → Language) (Whole : ℕ → ℕ → E → Language)
    (spelled : (limit top : ℕ) → IsSpelled (grammar limit top) (joined limit top) (After limit top) (Whole limit top)) (limit top : ℕ) (t : List Letter) (i : WordsState S) (b : ℕ)
    → Walks (words_automaton grammar) (words_first grammar limit top) t i → (words_automaton grammar).asks i b ≡ true → MayAsk grammar joined After Whole spelled i.limit i.top i.words t b
words_asked grammar joined After Whole spelled limit top t i b w h =
    asked_at grammar joined After Whole spelled i.limit i.top i.words i.name t b i.part
    (prefixes_of (words_automaton grammar) (Prefix grammar joined After Whole spelled) (WholeLine grammar joined After Whole spelled) (keeps_prefix grammar joined After Whole spelled) t (words_first grammar limit top) [] i w (refl, refl)) h
