-- What the machine reads as a header is a header.
use Rattle.pb_opb.proofs.Common.{ℕ, ◌&&◌, ◌*◌, ◌++◌, ◌+◌, ◌-◌, ◌<◌, ◌∙◌, ◌∷◌, ◌≡◌, ◌≤◌, [], ap, arith, false, IsTrue, length, List, nat_eq, nat_le, refl, subst}
use Rattle.pb_opb.proofs.Common.{sym, take, true, slice_index, and_parts, cond_both, eqb-true, leb-true, Keeps, On, reported, digits-grown, digits-one}
use Rattle.pb_opb.proofs.Common.{after_it, grown, many-grown, next, none_yet, some-grown, some-one, as_unmarked, bytes_grown, further, some_digit, word_grown}
use Rattle.pb_opb.proofs.Common.{word_whole, ReadsStatement, is_blank, is_digit, ◌⋅◌, Blanks0, Blanks1, Byte, Bytes, digit, Language, unmarked, Count, Digits}
use Rattle.pb_opb.proofs.Common.{Letter, plain, OpbEvent, Header, Action, To, Field, Constraints, Variables, Phase, after_count, transition, word_of, act}
use Rattle.pb_opb.proofs.Common.{begin, is_in_number, opb, OpbState, constraint_word, IsTail, SpellsHeader, variable_word}
use Rattle.pb_opb.proofs.lemmas.machine.Stands.{one_byte, tail_grown, idle}
use Rattle.std.proofs.lemmas.Grind.{common_steps}

abbrev IsBlank : ℕ → Type 0
IsBlank b = IsTrue (is_blank b)

-- the text before a field's word, and that text with the word and the count
abbrev pub Whole : ℕ → Field → ℕ → Language → Language
Whole top f n P = P ⋅ Bytes (word_of f) ⋅ Blanks0 ⋅ Count top n

abbrev pub Before : ℕ → ℕ → Field → Language
Before top v Variables = Byte 42 ⋅ Blanks0
Before top v Constraints = Whole top Variables v (Byte 42 ⋅ Blanks0) ⋅ Blanks1

-- What has been read, by phase.
abbrev pub prefix : OpbState → Phase → Language
prefix s Phase.Start = λ p. p ≡ []
prefix s (Phase.BeforeWord f) = Before s.top s.variables f
prefix s (Phase.Word f k) = λ p. (k < length (word_of f)) × (Before s.top s.variables f ⋅ Bytes (take k (word_of f))) p
prefix s (Phase.BeforeCount f) = Before s.top s.variables f ⋅ Bytes (word_of f) ⋅ Blanks0
prefix s (Phase.Count f n) = λ p. (n ≤ s.top) × (Before s.top s.variables f ⋅ Bytes (word_of f) ⋅ Blanks0 ⋅ Digits n) p
prefix s Phase.Tail = λ p.
    IsTail s.text × (s.text ≡ [] → ⊥) × (Whole s.top Constraints s.remaining (Before s.top s.variables Constraints) ⋅ Bytes s.text) p
prefix s _ = λ p. ⊥

before_grown : (top v : ℕ) (f : Field) (l : Letter) (p : List Letter) → l.numeral ≡ false → is_blank l.byte ≡ true → Before top v f p → Before top v f (p ++ l ∷ [])
before_grown top v Variables l p n e h = grown (Byte 42) Blanks0 Blanks0 p l (many-grown IsBlank l.byte l (as_unmarked l l.byte n refl) e) h
before_grown top v Constraints l p n e h =
    grown (Whole top Variables v (Byte 42 ⋅ Blanks0)) Blanks1 Blanks1 p l (some-grown IsBlank l.byte l (as_unmarked l l.byte n refl) e) h

hash : (f : Field) → plain (take 1 (word_of f)) ≡ unmarked 35 ∷ []
hash f = grind arith

counted : (top n : ℕ) (P : Language) (p : List Letter) → n ≤ top → (P ⋅ Digits n) p → (P ⋅ Count top n) p
counted top n P p l h = after_it P (Digits n) (Count top n) p (λ q r. (l, r)) h

module _ (limit top : ℕ) where
  abbrev pub Known : OpbState → Type 0
  Known s = (s.limit ≡ limit) × (s.top ≡ top)

  abbrev pub Prefix : OpbState → Language
  Prefix s = λ p. Known s × prefix s s.phase p

  abbrev pub Reported : OpbEvent → OpbState → Language
  Reported (Header v n tail) after = λ p. Known after × IsTail tail × SpellsHeader after.top v n tail p × (after ≡ idle after.limit after.top v true n)
  Reported _ after = λ p. ⊥

  module _ (s : OpbState) (l : Letter) (p : List Letter) (k : Known s) where
    -- what holds after a move
    abbrev After : Action → Type 0
    After m = On opb Prefix Reported (act s l.byte m) l (p ++ l ∷ [])

    at_start : p ≡ [] → After (transition s.top Phase.Start l.byte)
    at_start h = cond_both (nat_eq l.byte 42) _ _ After
        (λ e w n. (k, none_yet (Byte 42) Blanks0 (p ++ l ∷ []) ([], tt, refl) (ap (λ x. x ++ l ∷ []) h ∙ one_byte l 42 n e)))
        (λ e. tt)

    before_word : (f : Field) → Before s.top s.variables f p → After (transition s.top (Phase.BeforeWord f) l.byte)
    before_word f h = cond_both (is_blank l.byte) _ _ After
        (λ e w n. (k, before_grown s.top s.variables f l p n e h))
        (λ _. cond_both (nat_eq l.byte 35) _ _ After
        (λ e w n. (k, (grind arith, next (Before s.top s.variables f) (Bytes (take 1 (word_of f))) p l h (one_byte l 35 n e ∙ sym (hash f)))))
        (λ _. tt))

    in_word : (f : Field) (j : ℕ) → j < length (word_of f) → (Before s.top s.variables f ⋅ Bytes (take j (word_of f))) p
        → After (transition s.top (Phase.Word f j) l.byte)
    in_word f j i h = cond_both (nat_eq l.byte (slice_index (word_of f) j)) _ _ After
        (λ e. cond_both (nat_eq (j + 1) (length (word_of f))) (Phase.BeforeCount f) (Phase.Word f (j + 1)) (λ q. After (To q))
        (λ g w n. (
          k,
          none_yet (P ⋅ Bytes (word_of f)) Blanks0 (p ++ l ∷ []) ([], tt, refl)
              (after_it P (Bytes (take (j + 1) (word_of f))) (Bytes (word_of f)) (p ++ l ∷ []) (λ q. word_whole (word_of f) (j + 1) q (eqb-true (j + 1) (length (word_of f)) g)) (longer n e)),
        ))
        (λ g w n. (k, (further j (length (word_of f)) i g, longer n e))))
        (λ _. tt)
      where
        P : Language
        P = Before s.top s.variables f

        longer : l.numeral ≡ false → nat_eq l.byte (slice_index (word_of f) j) ≡ true → (P ⋅ Bytes (take (j + 1) (word_of f))) (p ++ l ∷ [])
        longer n e = grown P (Bytes (take j (word_of f))) (Bytes (take (j + 1) (word_of f))) p l (word_grown (word_of f) j l i n (eqb-true l.byte (slice_index (word_of f) j) e)) h

    before_count : (f : Field) → (Before s.top s.variables f ⋅ Bytes (word_of f) ⋅ Blanks0) p → After (transition s.top (Phase.BeforeCount f) l.byte)
    before_count f h = cond_both (is_blank l.byte) _ _ After
        (λ e w n. (k, grown (Before s.top s.variables f ⋅ Bytes (word_of f)) Blanks0 Blanks0 p l (many-grown IsBlank l.byte l (as_unmarked l l.byte n refl) e) h))
        (λ _. cond_both (is_digit l.byte && nat_le (10 * 0 + (l.byte - 48)) s.top) _ _ After
        (λ e w n.
        let g : (is_digit l.byte ≡ true) × (nat_le (10 * 0 + (l.byte - 48)) s.top ≡ true) = and_parts (is_digit l.byte) (nat_le (10 * 0 + (l.byte - 48)) s.top) e in
        let d : (l ≡ digit (l.byte - 48)) × (l.byte - 48 < 10) = some_digit l n g.0 in
        (k, (leb-true (10 * 0 + (l.byte - 48)) s.top g.1, next (Before s.top s.variables f ⋅ Bytes (word_of f) ⋅ Blanks0) (Digits (10 * 0 + (l.byte - 48))) p l h (digits-one (l.byte - 48) l d.0 d.1))))
        (λ _. tt))

    following : (f : Field) (n : ℕ) → n ≤ s.top → (Before s.top s.variables f ⋅ Bytes (word_of f) ⋅ Blanks0 ⋅ Digits n) p → After (after_count f n l.byte)
    following Variables n i h = cond_both (is_blank l.byte) _ _ After
        (λ e w m. (
          k,
          next (Whole s.top Variables n (Byte 42 ⋅ Blanks0)) Blanks1 p l (counted s.top n (Byte 42 ⋅ Blanks0 ⋅ Bytes variable_word ⋅ Blanks0) p i h)
              (some-one IsBlank l.byte l (as_unmarked l l.byte m refl) e),
        ))
        (λ _. tt)
    following Constraints n i h =
        let C : Language = Whole s.top Constraints n (Before s.top s.variables Constraints) in
        let c : C p = counted s.top n (Before s.top s.variables Constraints ⋅ Bytes constraint_word ⋅ Blanks0) p i h in
        cond_both (nat_eq l.byte 10) _ _ After
        (λ e m. (k, tt, next (C ⋅ Bytes []) (Byte 10) p l (none_yet C (Bytes []) p refl c) (one_byte l 10 m e), refl))
        (λ _. cond_both (is_blank l.byte) _ _ After
        (λ e w m. (k, ((e, tt), (λ x. cc), next C (Bytes (l.byte ∷ [])) p l c (ap (λ x. x ∷ []) (as_unmarked l l.byte m refl)))))
        (λ _. tt))

    in_count : (f : Field) (n : ℕ) → n ≤ s.top → (Before s.top s.variables f ⋅ Bytes (word_of f) ⋅ Blanks0 ⋅ Digits n) p
        → After (transition s.top (Phase.Count f n) l.byte)
    in_count f n i h = cond_both (is_digit l.byte) _ _ After
        (λ _. cond_both (is_digit l.byte && nat_le (10 * n + (l.byte - 48)) s.top) _ _ After
        (λ e w m.
        let g : (is_digit l.byte ≡ true) × (nat_le (10 * n + (l.byte - 48)) s.top ≡ true) = and_parts (is_digit l.byte) (nat_le (10 * n + (l.byte - 48)) s.top) e in
        let d : (l ≡ digit (l.byte - 48)) × (l.byte - 48 < 10) = some_digit l m g.0 in (
          k,
          (
            leb-true (10 * n + (l.byte - 48)) s.top g.1,
            grown (Before s.top s.variables f ⋅ Bytes (word_of f) ⋅ Blanks0) (Digits n) (Digits (10 * n + (l.byte - 48))) p l (digits-grown n (l.byte - 48) l d.0 d.1) h,
          ),
        ))
        (λ _. tt))
        (λ _. following f n i h)

    in_tail : s.phase ≡ Phase.Tail → IsTail s.text → (s.text ≡ [] → ⊥)
        → (Whole s.top Constraints s.remaining (Before s.top s.variables Constraints) ⋅ Bytes s.text) p
        → After (transition s.top Phase.Tail l.byte)
    in_tail at h some c = cond_both (nat_eq l.byte 10) _ _ After
        (λ e m. (k, h, next (C ⋅ Bytes s.text) (Byte 10) p l c (one_byte l 10 m e), refl))
        (λ e w m. (
          k,
          subst (λ q. prefix new q (p ++ l ∷ [])) (sym at) (
            tail_grown s.text l.byte e some h,
            (λ x. grind (arith, common_steps, ap length x)),
            grown C (Bytes s.text) (Bytes (s.text ++ l.byte ∷ [])) p l (bytes_grown s.text l.byte l (m ∙ ap (λ q. is_in_number new q) at) refl) c,
          ),
        ))
      where
        C : Language
        C = Whole s.top Constraints s.remaining (Before s.top s.variables Constraints)

        new : OpbState
        new = record s { text = s.text ++ l.byte ∷ [] }

    sound : (q : Phase) → s.phase ≡ q → prefix s q p → After (transition s.top q l.byte)
    sound Phase.Start e h = at_start h
    sound (Phase.BeforeWord f) e h = before_word f h
    sound (Phase.Word f j) e h = in_word f j h.0 h.1
    sound (Phase.BeforeCount f) e h = before_count f h
    sound (Phase.Count f n) e h = in_count f n h.0 h.1
    sound Phase.Tail e h = in_tail e h.0 h.1 h.2
    sound _ e h = absurd h

  pub keeps : Keeps opb Prefix Reported
  keeps s l p f = sound s l p f.0 s.phase refl f.1

  -- a header and what follows it
  abbrev pub IsHeader : OpbEvent → OpbState → Language
  IsHeader (Header v n tail) after = λ t. IsTail tail × SpellsHeader top v n tail t × (after ≡ idle limit top v true n)
  IsHeader _ after = λ t. ⊥

  to_limits : (t : List Letter) (e : OpbEvent) (after : OpbState) → Reported e after t → IsHeader e after t
  to_limits t (Header v n tail) after (k, h, spells, same) = (
    h,
    subst (λ x. SpellsHeader x v n tail t) k.1 spells,
    same ∙ (ap (λ x. idle x after.top v true n) k.0 ∙ ap (λ x. idle limit x v true n) k.1),
  )
  to_limits t e after h = absurd h

  pub header_only : (t : List Letter) (e : OpbEvent) (after : OpbState) → ReadsStatement opb (begin limit top) t e after → IsHeader e after t
  header_only t e after r = to_limits t e after (reported opb Prefix Reported keeps t (begin limit top) [] e after r ((refl, refl), refl))
