-- Words with blanks between them, byte by byte.
use Rattle.pb_proof.proofs.Common.{ℕ, ◌&&◌, ◌++◌, ◌<◌, ◌∙◌, ◌∷◌, ◌≡◌, [], ap, append-nil, append_assoc, arith, Bool, false, length, List, nat_eq, not, refl}
use Rattle.pb_proof.proofs.Common.{subst, sym, true, and_parts, eqb-true, not-true, after_it, grown, none_yet, regroup, regroup⁻¹, is_blank, ◌⋅◌, Blanks1, Byte}
use Rattle.pb_proof.proofs.Common.{Bytes, Empty, Language, unmarked, Letter, plain, Keyword, meets, sol_word, words_of, conclusion_word, del_word, end_word}
use Rattle.pb_proof.proofs.Common.{f_word, id_word, none_word, output_word, pol_word, proof_word, pseudo_word, rup_word, two_word, version_word}
use Rattle.pb_lines.proofs.lemmas.Ends.{first_blank, further_blank, nil_last}
use Rattle.pb_proof.specs.declared.machine.phase.Keyword.TheVariants.{Header, Formula, Pol, Rup, Solution, Delete, Output, Conclusion, End}

abbrev pub chooses : Bool → Language → Language → Language
chooses true P Q = P
chooses false P Q = Q

-- a byte of words, or one or more blanks for a space
abbrev pub One : ℕ → Language
One c = chooses (nat_eq c 32) Blanks1 (Byte c)

abbrev pub Spaced : List ℕ → Language
Spaced [] = Empty
Spaced (c ∷ cs) = One c ⋅ Spaced cs

-- a letter that matches a byte of the words
pub one_met : (c : ℕ) (l : Letter) → meets c l.byte ≡ true → l.numeral ≡ false → One c (l ∷ [])
one_met c l h n = grind (arith, l.byte, first_blank, eqb-true)

-- more of the words
pub spaced_then : (cs ds : List ℕ) (p q : List Letter) → Spaced cs p → Spaced ds q → Spaced (cs ++ ds) (p ++ q)
spaced_then [] ds p q h k = subst (λ x. Spaced ds (x ++ q)) (sym h) k
spaced_then (c ∷ cs) ds p q (a, b, e, h, i) k = (a, b ++ q, ap (λ x. x ++ q) e ∙ append_assoc a b q, h, spaced_then cs ds b q i k)

pub spaced_more : (cs : List ℕ) (c : ℕ) (p : List Letter) (l : Letter) → Spaced cs p → One c (l ∷ []) → Spaced (cs ++ c ∷ []) (p ++ l ∷ [])
spaced_more cs c p l h k = spaced_then cs (c ∷ []) p (l ∷ []) h (l ∷ [], [], refl, k, refl)

-- one more blank after a space
pub spaced_blank : (cs : List ℕ) (p : List Letter) (l : Letter) → is_blank l.byte ≡ true → l.numeral ≡ false → Spaced (cs ++ 32 ∷ []) p → Spaced (cs ++ 32 ∷ []) (p ++ l ∷ [])
spaced_blank [] p l h n k = none_yet Blanks1 Empty (p ++ l ∷ []) refl (further_blank l p h n (nil_last Blanks1 p k))
spaced_blank (c ∷ cs) p l h n k = grown (One c) (Spaced (cs ++ 32 ∷ [])) (Spaced (cs ++ 32 ∷ [])) p l (λ q i. spaced_blank cs q l h n i) k

-- Words without spaces, and words with a space before each.
abbrev pub is_plain : List ℕ → Bool
is_plain [] = true
is_plain (c ∷ w) = not (nat_eq c 32) && is_plain w

abbrev pub are_plain : List (List ℕ) → Bool
are_plain [] = true
are_plain (w ∷ ws) = is_plain w && are_plain ws

abbrev pub led : List (List ℕ) → List ℕ
led [] = []
led (w ∷ ws) = 32 ∷ (w ++ led ws)

-- a text of P, and then the words with blanks before each
abbrev pub Words : Language → List (List ℕ) → Language
Words P [] = P
Words P (w ∷ ws) = Words (P ⋅ Blanks1 ⋅ Bytes w) ws

plain_only : (w more : List ℕ) → is_plain w ≡ true → (t : List Letter) → Spaced (w ++ more) t → (Bytes w ⋅ Spaced more) t
plain_only [] more h t k = ([], t, refl, refl, k)
plain_only (c ∷ w) more h t (a, b, e, i, j) =
    let g = and_parts (not (nat_eq c 32)) (is_plain w) h in
    let first : a ≡ unmarked c ∷ [] = subst (λ x. chooses x Blanks1 (Byte c) a) (not-true (nat_eq c 32) g.0) i in
    let (p, q, f, u, v) = plain_only w more g.1 b j in
    (unmarked c ∷ p, q, e ∙ (ap (λ x. x ++ b) first ∙ ap (λ x. unmarked c ∷ x) f), ap (λ x. unmarked c ∷ x) u, v)

plain_each : (w more : List ℕ) → is_plain w ≡ true → (t : List Letter) → (Bytes w ⋅ Spaced more) t → Spaced (w ++ more) t
plain_each [] more h t (a, b, e, i, j) = subst (Spaced more) (sym (e ∙ ap (λ x. x ++ b) i)) j
plain_each (c ∷ w) more h t (a, b, e, i, j) =
    let g = and_parts (not (nat_eq c 32)) (is_plain w) h in (
      unmarked c ∷ [],
      plain w ++ b,
      e ∙ ap (λ x. x ++ b) i,
      subst (λ x. chooses x Blanks1 (Byte c) (unmarked c ∷ [])) (sym (not-true (nat_eq c 32) g.0)) refl,
      plain_each w more g.1 (plain w ++ b) (plain w, b, refl, refl, j),
    )

led_only : (P : Language) (ws : List (List ℕ)) → are_plain ws ≡ true → (t : List Letter) → (P ⋅ Spaced (led ws)) t → Words P ws t
led_only P [] h t k = nil_last P t k
led_only P (w ∷ ws) h t k =
    let g = and_parts (is_plain w) (are_plain ws) h in
    led_only (P ⋅ Blanks1 ⋅ Bytes w) ws g.1 t
    (regroup⁻¹ (P ⋅ Blanks1) (Bytes w) (Spaced (led ws)) t
    (after_it (P ⋅ Blanks1) (Spaced (w ++ led ws)) (Bytes w ⋅ Spaced (led ws)) t (plain_only w (led ws) g.0)
    (regroup⁻¹ P Blanks1 (Spaced (w ++ led ws)) t k)))

led_each : (P : Language) (ws : List (List ℕ)) → are_plain ws ≡ true → (t : List Letter) → Words P ws t → (P ⋅ Spaced (led ws)) t
led_each P [] h t k = (t, [], sym (append-nil t), k, refl)
led_each P (w ∷ ws) h t k =
    let g = and_parts (is_plain w) (are_plain ws) h in
    regroup P Blanks1 (Spaced (w ++ led ws)) t
    (after_it (P ⋅ Blanks1) (Bytes w ⋅ Spaced (led ws)) (Spaced (w ++ led ws)) t (plain_each w (led ws) g.0)
    (regroup (P ⋅ Blanks1) (Bytes w) (Spaced (led ws)) t
    (led_each (P ⋅ Blanks1 ⋅ Bytes w) ws g.1 t k)))

-- The words that a statement begins with.
abbrev pub first_word : Keyword → List ℕ
first_word Header = pseudo_word
first_word Formula = f_word
first_word Pol = pol_word
first_word Rup = rup_word
first_word Solution = sol_word
first_word Delete = del_word
first_word Output = output_word
first_word Conclusion = conclusion_word
first_word End = end_word

-- each of them has at least one byte
pub some_byte : (f : Keyword) → 0 < length (words_of f)
some_byte f = grind arith

abbrev pub more_words : Keyword → List (List ℕ)
more_words Header = proof_word ∷ version_word ∷ two_word ∷ []
more_words Delete = id_word ∷ []
more_words Output = none_word ∷ []
more_words End = pseudo_word ∷ proof_word ∷ []
more_words _ = []

abbrev pub KeywordWords : Keyword → Language
KeywordWords f = Words (Bytes (first_word f)) (more_words f)

same_words : (f : Keyword) → (words_of f ≡ first_word f ++ led (more_words f)) × (is_plain (first_word f) ≡ true) × (are_plain (more_words f) ≡ true)
same_words f = grind arith

pub keyword_only : (f : Keyword) (t : List Letter) → Spaced (words_of f) t → KeywordWords f t
keyword_only f t h = grind (arith, same_words, led_only, plain_only)

pub keyword_each : (f : Keyword) (t : List Letter) → KeywordWords f t → Spaced (words_of f) t
keyword_each f t h = grind (arith, same_words, plain_each, led_each)
