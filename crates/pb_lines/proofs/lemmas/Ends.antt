-- Bytes of lines, and the ends of lines. Offered to other crates.
use Rattle.pb_lines.proofs.Common.{ℕ, ◌+◌, ◌<◌, ◌≡◌, ◌∙◌, ◌∷◌, [], ap, inl, inr, sym, next, End, Go, ◌⋅◌, Byte, Each, Feed, ◌↔◌, ◌*◌, ◌-◌, Runs}
use Rattle.pb_lines.proofs.Common.{arith, nat_eq, longer, regroup, Blanks0, Blanks1, Language, unmarked, Letter, LineEnd, IsOfOne, reported, digit_of, is_state}
use Rattle.pb_lines.proofs.Common.{false, refl, rules, ◌++◌, List, subst, true, Leads, Walks, grown, Bytes, Empty, Keeps, Digits, bytes, digit, never}
use Rattle.pb_lines.proofs.Common.{IsTrue, nat_tests, append-nil, many-grown, some-grown, reads_last, value_from, digits-one}
use Rattle.pb_lines.proofs.Common.{is_blank, after_it, none_yet, some-many, some-one, Automaton, AreDigits}
use Rattle.pb_lines.proofs.Common.{append_assoc, reads_after, as_unmarked, ReadsStatement, bytes-append, digits-grown}

-- tests of numbers
pub positive : (n : ℕ) → nat_eq n 0 ≡ false → 0 < n
positive n e = grind (arith, nat_tests)

pub not_zero : (n : ℕ) → 0 < n → nat_eq n 0 ≡ false
not_zero n h = grind (arith, nat_tests)

-- How a machine reads the end of a line, and what it has read at a position where a line may end.

module _ {S E : Type 0} (m : Automaton S E) where
  -- A blank leads from `s` to `gap`, and further blanks stay there.
  pub record TakesBlanks (s gap : S) : Type 0 where
    pub enters : (b : ℕ) → IsTrue (is_blank b) → m.step s b ≡ Go gap
    pub stays : (b : ℕ) → IsTrue (is_blank b) → m.step gap b ≡ Go gap
    pub begun : m.begun gap ≡ true
    pub plain : m.in_number gap ≡ false

  pub blanks_stay : (s gap : S) → TakesBlanks s gap → (bs : List ℕ) → Each (λ b. IsTrue (is_blank b)) bs → (t : List Letter) → Bytes bs t → Walks m gap t gap
  blanks_stay s gap h [] i t e = subst (λ x. Walks m gap x gap) (sym e) refl
  blanks_stay s gap h (b ∷ bs) i t e =
      subst (λ x. Walks m gap x gap) (sym e) (gap, h.stays b i.0, h.begun, sym h.plain, blanks_stay s gap h bs i.1 _ refl)

  -- blank+ leads from `s` to `gap`
  pub blanks1_lead : (s gap : S) → TakesBlanks s gap → Leads m s Blanks1 gap
  blanks1_lead s gap h t g = grind (arith, blanks_stay)

  -- and blank* leads from `gap` to itself
  pub blanks0_lead : (gap : S) → TakesBlanks gap gap → Leads m gap Blanks0 gap
  blanks0_lead gap h t (bs, i, e) = blanks_stay gap gap h bs i t e

  -- A line feed, with or without blanks before it, ends the line with an event.
  pub record Feeds (s gap : S) (e : E) (after : S) : Type 0 where
    pub blanks : TakesBlanks s gap
    pub ends : m.step s 10 ≡ End e after
    pub ends_gap : m.step gap 10 ≡ End e after

  pub closing_feeds : (closing after : S) (e : E) → ((b : ℕ) → IsTrue (is_blank b) → m.step closing b ≡ Go closing) → m.begun closing ≡ true → m.in_number closing ≡ false
      → m.step closing 10 ≡ End e after → Feeds closing closing e after
  closing_feeds closing after e f g h i = record { blanks = record { enters = f; stays = f; begun = g; plain = h }; ends = i; ends_gap = i }

  -- blank*, and the text after it, which either state reads
  pub after_blanks : (s gap after : S) (e : E) (t u : List Letter) → TakesBlanks s gap → Blanks0 t → ReadsStatement m s u e after → ReadsStatement m gap u e after → ReadsStatement m s (t ++ u) e after
  after_blanks s gap after e t u h ([], i, f) r q = subst (λ x. ReadsStatement m s (x ++ u) e after) (sym f) r
  after_blanks s gap after e t u h (b ∷ bs, i, f) r q = reads_after m t u s gap after e (blanks1_lead s gap h t (b, bs, i.0, i.1, f)) q

  pub feed_reads : (s gap after : S) (e : E) → Feeds s gap e after → (t : List Letter) → Feed t → ReadsStatement m s t e after
  feed_reads s gap after e h t g = grind (arith, after_blanks)

  -- A line may end: at a line feed, or at a `;` that leads to the last state. Blanks may come before either.
  pub record MayEnd (s gap closing : S) (e : E) (after : S) : Type 0 where
    pub feeds : Feeds s gap e after
    pub finishes : m.step s 59 ≡ Go closing
    pub closes_gap : m.step gap 59 ≡ Go closing
    pub last : Feeds closing closing e after

  semicolon_reads : (s closing after : S) (e : E) (a b : List Letter) → m.step s 59 ≡ Go closing → Feeds closing closing e after → Byte 59 a → Feed b → ReadsStatement m s (a ++ b) e after
  semicolon_reads s closing after e a b g h f r = grind (arith, longer, feed_reads)

  pub line_reads : (s gap closing after : S) (e : E) → MayEnd s gap closing e after → (t : List Letter) → LineEnd t → ReadsStatement m s t e after
  line_reads s gap closing after e h t (inl f) = feed_reads s gap after e h.feeds t f
  line_reads s gap closing after e h t (inr k) =
      let (a, b, g, i, (c, d, j, p, q)) = regroup Blanks0 (Byte 59) Feed t k in
      rw (g ∙ ap (λ x. a ++ x) j)
      (after_blanks s gap after e a (c ++ d) h.feeds.blanks i
      (semicolon_reads s closing after e c d h.finishes h.last p q) (semicolon_reads gap closing after e c d h.closes_gap h.last p q))

-- What has been read where a line may end, after a text of P: blanks, and then a `;` and blanks.
abbrev pub Gapped : Language → Language
Gapped P = P ⋅ Blanks0

abbrev pub Closing : Language → Language
Closing P = P ⋅ (Blanks0 ⋅ Byte 59 ⋅ Blanks0)

-- a line feed alone
pub fed : Feed (unmarked 10 ∷ [])
fed = ([], unmarked 10 ∷ [], refl, ([], tt, refl), refl)

pub ended : LineEnd (unmarked 10 ∷ [])
ended = inl fed

-- nothing after a text
pub nil_last : (P : Language) (p : List Letter) → (P ⋅ Empty) p → P p
nil_last P p (a, b, e, h, k) = subst P (sym (e ∙ (ap (λ x. a ++ x) k ∙ append-nil a))) h

-- no blank yet, or some blanks
pub gapped : (P : Language) (p : List Letter) → P p → Gapped P p
gapped P p h = none_yet P Blanks0 p ([], tt, refl) h

pub gapped_some : (P : Language) (p : List Letter) → (P ⋅ Blanks1) p → Gapped P p
gapped_some P p h = after_it P Blanks1 Blanks0 p (some-many (λ b. IsTrue (is_blank b))) h

-- the first blank, and a further one
module _ (l : Letter) (p : List Letter) where
  pub first_blank : IsTrue (is_blank l.byte) → l.numeral ≡ false → p ≡ [] → Blanks1 (p ++ l ∷ [])
  first_blank h n e = subst (λ x. Blanks1 (x ++ l ∷ [])) (sym e) (some-one (λ b. IsTrue (is_blank b)) l.byte l (as_unmarked l l.byte n refl) h)

  pub further_blank : IsTrue (is_blank l.byte) → l.numeral ≡ false → Blanks1 p → Blanks1 (p ++ l ∷ [])
  further_blank h n k = some-grown (λ b. IsTrue (is_blank b)) l.byte l (as_unmarked l l.byte n refl) h p k

module _ (P : Language) (l : Letter) (p : List Letter) where
  pub blanks_begin : IsTrue (is_blank l.byte) → l.numeral ≡ false → P p → (P ⋅ Blanks1) (p ++ l ∷ [])
  blanks_begin h n k = next P Blanks1 p l k (first_blank l [] h n refl)

  pub blanks_go_on : IsTrue (is_blank l.byte) → l.numeral ≡ false → (P ⋅ Blanks1) p → (P ⋅ Blanks1) (p ++ l ∷ [])
  blanks_go_on h n k = grown P Blanks1 Blanks1 p l (λ q i. further_blank l q h n i) k

  blank0 : IsTrue (is_blank l.byte) → l.numeral ≡ false → (q : List Letter) → Blanks0 q → Blanks0 (q ++ l ∷ [])
  blank0 h n q k = many-grown (λ b. IsTrue (is_blank b)) l.byte l (as_unmarked l l.byte n refl) h q k

  pub blank_more : IsTrue (is_blank l.byte) → l.numeral ≡ false → Gapped P p → Gapped P (p ++ l ∷ [])
  blank_more h n k = grown P Blanks0 Blanks0 p l (blank0 h n) k

  pub semicolon_after_blanks : l.byte ≡ 59 → l.numeral ≡ false → Gapped P p → Closing P (p ++ l ∷ [])
  semicolon_after_blanks h n k = search (rules, grown, gapped, next, as_unmarked)

  pub blank_closing : IsTrue (is_blank l.byte) → l.numeral ≡ false → Closing P p → Closing P (p ++ l ∷ [])
  blank_closing h n k = search (rules, grown, blank0)

  feed : l.byte ≡ 10 → l.numeral ≡ false → (q : List Letter) → Blanks0 q → Feed (q ++ l ∷ [])
  feed h n q k = next Blanks0 (Byte 10) q l k (ap (λ x. x ∷ []) (as_unmarked l 10 n h))

  pub feed_after_blanks : l.byte ≡ 10 → l.numeral ≡ false → Gapped P p → (P ⋅ Feed) (p ++ l ∷ [])
  feed_after_blanks h n k = grown P Blanks0 Feed p l (feed h n) k

  pub line_after_blanks : l.byte ≡ 10 → l.numeral ≡ false → Gapped P p → (P ⋅ LineEnd) (p ++ l ∷ [])
  line_after_blanks h n k = after_it P Feed LineEnd (p ++ l ∷ []) (λ q i. inl i) (feed_after_blanks h n k)

  pub line_closing : l.byte ≡ 10 → l.numeral ≡ false → Closing P p → (P ⋅ LineEnd) (p ++ l ∷ [])
  line_closing h n k = grown P (Blanks0 ⋅ Byte 59 ⋅ Blanks0) LineEnd p l (λ q i. inr (grown (Blanks0 ⋅ Byte 59) Blanks0 Feed q l (feed h n) i)) k

-- Bytes that are digits are a text of digits.
digits_more : (text : List ℕ) (n : ℕ) (q : List Letter) → Digits n q → AreDigits text → (t : List Letter) × Digits (value_from n text) t × (bytes t ≡ bytes q ++ text)
digits_more [] n q h all = (q, h, sym (append-nil (bytes q)))
digits_more (b ∷ text) n q h all =
    let l : Letter = digit (b - 48) in
    let (e, k) = digit_of b all.0 in
    let (t, g, i) = digits_more text (10 * n + (b - 48)) (q ++ l ∷ []) (digits-grown n (b - 48) l refl k q h) all.1 in (
      t,
      g,
      i ∙ (ap (λ (x : List ℕ). x ++ text) (bytes-append q (l ∷ []))
          ∙ (append_assoc (bytes q) ((48 + (b - 48)) ∷ []) text ∙ ap (λ (c : ℕ). bytes q ++ c ∷ text) (sym e))),
    )

pub digits_text : (text : List ℕ) → AreDigits text → (text ≡ [] → ⊥) → (t : List Letter) × Digits (value_from 0 text) t × (bytes t ≡ text)
digits_text [] all some = absurd (some refl)
digits_text (b ∷ text) all some =
    let (e, k) = digit_of b all.0 in
    let (t, g, i) = digits_more text (10 * 0 + (b - 48)) (digit (b - 48) ∷ []) (digits-one (b - 48) (digit (b - 48)) refl k) all.1 in
    (t, g, i ∙ ap (λ (c : ℕ). c ∷ text) (sym e))

-- Letters that lead a machine of one text from a state to another are a run of it.
module _ {S E : Type 0} (m : Automaton S E) (Good : S → Type 0) (last : S → S) (h : IsOfOne m Good last) where
  walks_run : (t : List Letter) (s new : S) → Good s → Walks m s t new → Runs m s (bytes t) new
  walks_run [] s new g w = w
  walks_run (l ∷ t) s new g (mid, e, i, n, w) =
      let k : Good mid = h.keeps s mid l.byte g e in
      (mid, e, is_state m Good last h mid k (λ o. never (m.begun mid) i o), walks_run t mid new k w)

  pub text_run : (t : List Letter) (text : List ℕ) (s new : S) → bytes t ≡ text → Good s → Walks m s t new → Runs m s text new
  text_run t text s new e g w = subst (λ (x : List ℕ). Runs m s x new) e (walks_run t s new g w)

-- A machine of one text reads exactly a language, if each text that it reads is one of it, and it reads each.

module _ {S E : Type 0} (m : Automaton S E) (Good : S → Type 0) (last : S → S) (h : IsOfOne m Good last) (Prefix : S → Language) (Whole : E → S → Language) where
  pub reads_exactly : Keeps m Prefix Whole → (s : S) (text : List Letter) (e : E) (after : S) → Prefix s [] → (Whole e (last s) text → ReadsStatement m s text e (last s))
      → ReadsStatement m s text e after ↔ (Whole e (last s) text × (after ≡ last s))
  reads_exactly keeps s text e after f each = (
    (λ r. let i : after ≡ last s = reads_last m Good last h text s e after r in
        (subst (λ x. Whole e x text) i (reported m Prefix Whole keeps text s [] e after r f), i)),
    (λ k. subst (λ x. ReadsStatement m s text e x) (sym k.1) (each k.0)),
  )
