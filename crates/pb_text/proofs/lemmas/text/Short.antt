-- The bytes of a text that belong to statements. Offered to other crates.
use Rattle.pb_text.proofs.Common.{ℕ, ◌++◌, ◌-◌, ◌<◌, ◌∙◌, ◌∷◌, ◌≡◌, ◌≤◌, [], ap, arith, Bool, cond, inl, inr, le-leb, length, length-append, List, None, Option}
use Rattle.pb_text.proofs.Common.{refl, Some, EndBy, Place, Spanned, end_of, AreShort, byte_limit, open_bytes, Overruns, bytes, Item, spans_since, ◌+◌, ◌==◌}
use Rattle.pb_text.proofs.Common.{count_by, not, zero-add, reverse-append, place_next}
use Rattle.{pb_text.specs.meaning.Spelling.place_after, std.proofs.lemmas.List.Sums.sum_by-append, std.specs.List.suffix_len, std.specs.List.prefix_len}

pub place_after-offset : (text : List ℕ) → (place_after text).offset ≡ length text
unfolding place_after
place_after-offset text = refl

pub end_limit : (longest : ℕ) (q : Option Place) → end_of longest q ≤ byte_limit
end_limit longest q = grind arith

pub gap_longer : (before gap : List ℕ) → length before ≤ (place_after (before ++ gap)).offset
gap_longer before gap = omega (arith, place_after-offset (before ++ gap), length-append before gap)

module _ {E : Type 0} (longest : ℕ) where
  pub AreShort-append : (n : ℕ) (a b : List (Spanned E)) → AreShort longest n a → AreShort longest n b → AreShort longest n (a ++ b)
  AreShort-append n [] b h k = k
  AreShort-append n (m ∷ a) b h k = (h.0, AreShort-append n a b h.1 k)

  -- statements that have ended have none of the bytes that follow
  pub AreShort-grown : (n k : ℕ) (spans : List (Spanned E)) → EndBy n spans → n ≤ k → AreShort longest n spans → AreShort longest k spans
  AreShort-grown n k [] e le h = tt
  AreShort-grown n k (m ∷ spans) e le h = (omega (arith, e.0, h.0), AreShort-grown n k spans e.1 le h.1)

  later_short : (n : ℕ) (before : List ℕ) (later : List (Item E)) → n ≤ length before → AreShort longest n (spans_since None before later)
  later_short n before [] le = tt
  later_short n before (i ∷ rest) le = (omega (arith, gap_longer before i.gap), later_short n (before ++ (i.gap ++ bytes i.text)) rest (omega (arith, length-append before (i.gap ++ bytes i.text))))

  pub since_short : (first : Option Place) (before : List ℕ) (later : List (Item E)) → length before ≤ end_of longest first → AreShort longest (length before) (spans_since first before later)
  since_short None before later le = later_short (length before) before later (omega arith)
  since_short (Some p) before [] le = tt
  since_short (Some p) before (i ∷ rest) le = (omega arith, later_short (length before) (before ++ (i.gap ++ bytes i.text)) rest (omega (arith, length-append before (i.gap ++ bytes i.text))))

  pub Overruns-append : (n : ℕ) (a b : List (Spanned E)) → Overruns longest n b → Overruns longest n (a ++ b)
  Overruns-append n [] b h = h
  Overruns-append n (m ∷ a) b h = inr (Overruns-append n a b h)

  pub Overruns-split : (n : ℕ) (a b : List (Spanned E)) → EndBy n a → Overruns longest n (a ++ b) → Overruns longest n b
  Overruns-split n [] b e h = h
  Overruns-split n (m ∷ a) b e (inl h) = absurd (omega (arith, e.0, h.1))
  Overruns-split n (m ∷ a) b e (inr h) = Overruns-split n a b e.1 h

  later_fits : 0 < longest → (n : ℕ) (before : List ℕ) (later : List (Item E)) → n ≤ length before → Overruns longest n (spans_since None before later) → ⊥
  later_fits some n before [] le h = h
  later_fits some n before (i ∷ rest) le (inl h) = omega (arith, gap_longer before i.gap, h.0)
  later_fits some n before (i ∷ rest) le (inr h) = later_fits some n (before ++ (i.gap ++ bytes i.text)) rest (omega (arith, length-append before (i.gap ++ bytes i.text))) h

  pub since_fits : 0 < longest → (first : Option Place) (before : List ℕ) (later : List (Item E)) → length before < end_of longest first → Overruns longest (length before) (spans_since first before later) → ⊥
  since_fits some None before later lt h = later_fits some (length before) before later (omega arith) h
  since_fits some (Some p) before [] lt h = h
  since_fits some (Some p) before (i ∷ rest) lt (inl h) = omega (arith, h.0)
  since_fits some (Some p) before (i ∷ rest) lt (inr h) = later_fits some (length before) (before ++ (i.gap ++ bytes i.text)) rest (omega (arith, length-append before (i.gap ++ bytes i.text))) h

-- the bytes of the statement that has begun
abbrev pub begun_bytes : ℕ → Option Place → ℕ
begun_bytes n None = 0
begun_bytes n (Some first) = n - first.offset

pub open-ended : {E : Type 0} (n : ℕ) (a b : List (Spanned E)) → EndBy n a → open_bytes n (a ++ b) ≡ open_bytes n b
open-ended n [] b e = refl
open-ended n (m ∷ a) b e = ap (λ (t : Bool). cond t (open_bytes n (a ++ b)) (n - m.first.offset)) (le-leb m.past.offset n e.0) ∙ open-ended n a b e.1

abbrev is_feed : ℕ → Bool
is_feed b = b == 10

lines_snoc : (text : List ℕ) (b : ℕ) → count_by is_feed (text ++ b ∷ []) ≡ count_by is_feed text + cond (is_feed b) 1 0
lines_snoc text b = sum_by-append (λ x. cond (is_feed x) 1 0) text (b ∷ []) ∙ ap (λ (k : ℕ). count_by is_feed text + k) (zero-add (cond (is_feed b) 1 0))

suffix_snoc : (text : List ℕ) (b : ℕ) → suffix_len (λ x. not (is_feed x)) (text ++ b ∷ []) ≡ cond (not (is_feed b)) (1 + suffix_len (λ x. not (is_feed x)) text) 0
suffix_snoc text b = ap (prefix_len (λ x. not (is_feed x))) (reverse-append text (b ∷ []))

by_feed : (feed : Bool) (lines column offset : ℕ) → (let p : Place = record { line = 1 + (lines + cond feed 1 0); column = 1 + cond (not feed) (1 + column) 0; offset = offset + 1 } in p)
    ≡ cond feed (record { line = 1 + lines + 1; column = 1; offset = offset + 1 }) (record { line = 1 + lines; column = 1 + column + 1; offset = offset + 1 })
by_feed feed lines column offset = grind arith

pub place_after-snoc : (text : List ℕ) (b : ℕ) → place_after (text ++ b ∷ []) ≡ place_next (place_after text) b
unfolding place_after
place_after-snoc text b =
    rw (lines_snoc text b, suffix_snoc text b, length-append text (b ∷ [])) (by_feed (is_feed b) (count_by is_feed text) (suffix_len (λ x. not (is_feed x)) text) (length text))
