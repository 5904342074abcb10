-- White space and comments, byte by byte. Offered to other crates.
use Rattle.pb_text.proofs.Common.{ℕ, ◌&&◌, ◌++◌, ◌+◌, ◌<◌, ◌^◌, ◌||◌, ◌∙◌, ◌∷◌, ◌≡◌, ◌≢◌, ◌≤◌, [], ap, append-nil, append_assoc, ap₂, arith, below_more, Bool}
use Rattle.pb_text.proofs.Common.{eqb-true, false, get_or, IsTrue, length, length-append, List, nat_eq, not, refl, subst, sym, take, true, slice_index}
use Rattle.pb_text.proofs.Common.{get_or-append_seam, take-append_seam, get_or_append_left, reverse-append, take-append-le, Place, Comment, has_star}
use Rattle.pb_text.proofs.Common.{in_comment, IsBlank, IsInLine, Nothing, OpenComment, passes, White, is_white, place_next}
use Rattle.pb_text.proofs.lemmas.{machine.Running.next_bounds, text.Booleans.by_or, text.ByteTests.white_each, text.Languages.each-append}
use Rattle.std.proofs.{Common.reverse, Math.Bool.or-true}

-- whether a text ends in a comment, with one more byte
pub in_comment-snoc : (text : List ℕ) (b : ℕ) → in_comment (text ++ b ∷ []) ≡ (not (nat_eq b 10) && (nat_eq b 42 || in_comment text))
in_comment-snoc text b = ap has_star (reverse-append text (b ∷ []))

-- each byte is white space, begins a comment, or is in a comment
abbrev pub PassesAll : List ℕ → Type 0
PassesAll text = (i : ℕ) → i < length text → IsTrue (passes (take i text) (slice_index text i))

-- a byte in such a text
pub passes_at : (before more : List ℕ) (b : ℕ) → PassesAll (before ++ b ∷ more) → IsTrue (passes before b)
passes_at before more b h =
    subst IsTrue (ap₂ passes (take-append_seam before (b ∷ more)) (get_or-append_seam before b more 0)) (h (length before) (omega (arith, length-append before (b ∷ more))))

-- such a text with one more byte that passes
PassesAll-snoc : (text : List ℕ) (b : ℕ) → PassesAll text → IsTrue (passes text b) → PassesAll (text ++ b ∷ [])
PassesAll-snoc text b blank h i lt = below_more (λ (k : ℕ). IsTrue (passes (take k (text ++ b ∷ [])) (get_or (text ++ b ∷ []) k 0))) (length text) before last i (omega (arith, length-append text (b ∷ [])))
  where
    before : (k : ℕ) → k < length text → IsTrue (passes (take k (text ++ b ∷ [])) (get_or (text ++ b ∷ []) k 0))
    before k lt = subst IsTrue (ap₂ passes (sym (take-append-le k text (b ∷ []) (omega arith))) (sym (get_or_append_left text (b ∷ []) 0 k lt))) (blank k lt)

    last : IsTrue (passes (take (length text) (text ++ b ∷ [])) (get_or (text ++ b ∷ []) (length text) 0))
    last = subst IsTrue (ap₂ passes (sym (take-append_seam text (b ∷ []))) (sym (get_or-append_seam text b [] 0))) h

-- the same byte by byte, after other bytes
abbrev PassesFrom : List ℕ → List ℕ → Type 0
PassesFrom before [] = Unit {0}
PassesFrom before (b ∷ rest) = IsTrue (passes before b) × PassesFrom (before ++ b ∷ []) rest

all_from : (text before : List ℕ) → PassesAll before → PassesFrom before text → PassesAll (before ++ text)
all_from [] before h p = subst PassesAll (sym (append-nil before)) h
all_from (b ∷ rest) before h p =
    subst PassesAll (append_assoc before (b ∷ []) rest) (all_from rest (before ++ b ∷ []) (PassesAll-snoc before b h p.0) p.1)

-- ---- a blank text passes byte by byte, wherever it begins
stays : (before : List ℕ) (b : ℕ) → IsTrue (not (nat_eq b 10)) → in_comment before ≡ true → in_comment (before ++ b ∷ []) ≡ true
stays before b n c = in_comment-snoc before b ∙ (ap₂ (λ x y. x && (nat_eq b 42 || y)) n c ∙ or-true (nat_eq b 42))

within_passes : (before : List ℕ) (b : ℕ) → in_comment before ≡ true → IsTrue (passes before b)
within_passes before b c = ap (λ x. (is_white b || nat_eq b 42) || x) c ∙ or-true (is_white b || nat_eq b 42)

white_passes : (before : List ℕ) (b : ℕ) → IsTrue (is_white b) → IsTrue (passes before b)
white_passes before b w = ap (λ x. (x || nat_eq b 42) || in_comment before) w

line_from : (line rest : List ℕ) → IsInLine line → ((k : List ℕ) → PassesFrom k rest) → (before : List ℕ) → in_comment before ≡ true → PassesFrom before (line ++ 10 ∷ rest)
line_from [] rest l h before c = (white_passes before 10 refl, h (before ++ 10 ∷ []))
line_from (b ∷ line) rest (n, l) h before c = (within_passes before b c, line_from line rest l h (before ++ b ∷ []) (stays before b n c))

open_from : (line : List ℕ) → IsInLine line → (before : List ℕ) → in_comment before ≡ true → PassesFrom before line
open_from [] l before c = tt
open_from (b ∷ line) (n, l) before c = (within_passes before b c, open_from line l (before ++ b ∷ []) (stays before b n c))

blank_from : (text : List ℕ) → IsBlank text → (before : List ℕ) → PassesFrom before text
blank_from _ Nothing before = tt
blank_from _ (White b rest w h) before = (white_passes before b w, blank_from rest h (before ++ b ∷ []))
blank_from _ (Comment line rest l h) before = (refl, line_from line rest l (blank_from rest h) (before ++ 42 ∷ []) (in_comment-snoc before 42))
blank_from _ (OpenComment line l) before = (refl, open_from line l (before ++ 42 ∷ []) (in_comment-snoc before 42))

pub blank_passes : (text : List ℕ) → IsBlank text → PassesAll text
blank_passes text h = all_from text [] (λ i lt. absurd (omega arith)) (blank_from text h [])

-- ---- a blank text with one more byte that passes
star_append : (xs ys : List ℕ) → has_star ys ≡ false → has_star (xs ++ ys) ≡ has_star xs
star_append [] ys h = h
star_append (x ∷ xs) ys h = ap (λ s. not (nat_eq x 10) && (nat_eq x 42 || s)) (star_append xs ys h)

-- white space, or a whole comment, before a text does not change whether it ends in a comment
after_white : (b : ℕ) (rest : List ℕ) → IsTrue (is_white b) → in_comment (b ∷ rest) ≡ in_comment rest
after_white b rest w =
    ap has_star (reverse-append (b ∷ []) rest)
    ∙ star_append (reverse rest) (b ∷ []) (white_each (λ x. (not (nat_eq x 10) && (nat_eq x 42 || false)) ≡ false) refl refl refl refl b w)

after_line : (line rest : List ℕ) → in_comment (42 ∷ (line ++ 10 ∷ rest)) ≡ in_comment rest
after_line line rest =
    ap in_comment (sym (append_assoc (42 ∷ line) (10 ∷ []) rest)) ∙ (ap has_star (reverse-append ((42 ∷ line) ++ 10 ∷ []) rest)
    ∙ star_append (reverse rest) (reverse ((42 ∷ line) ++ 10 ∷ [])) (ap has_star (reverse-append (42 ∷ line) (10 ∷ []))))

pub IsBlank-snoc : (text : List ℕ) (b : ℕ) → IsBlank text → IsTrue (passes text b) → IsBlank (text ++ b ∷ [])
IsBlank-snoc _ b Nothing p =
    by_or (is_white b) (nat_eq b 42) (by_or (is_white b || nat_eq b 42) false p (λ h. h) (λ h. cc h)) (λ w. White b [] w Nothing)
    (λ e. subst (λ x. IsBlank (x ∷ [])) (sym (eqb-true b 42 e)) (OpenComment [] tt))
IsBlank-snoc _ b (White c rest w h) p =
    White c (rest ++ b ∷ []) w (IsBlank-snoc rest b h (subst (λ x. IsTrue ((is_white b || nat_eq b 42) || x)) (after_white c rest w) p))
IsBlank-snoc _ b (Comment line rest l h) p =
    subst (λ x. IsBlank (42 ∷ x)) (sym (append_assoc line (10 ∷ rest) (b ∷ [])))
    (Comment line (rest ++ b ∷ []) l (IsBlank-snoc rest b h (subst (λ x. IsTrue ((is_white b || nat_eq b 42) || x)) (after_line line rest) p)))
IsBlank-snoc _ b (OpenComment line l) p = by_feed (nat_eq b 10) refl
  where
    by_feed : (x : Bool) → nat_eq b 10 ≡ x → IsBlank (42 ∷ (line ++ b ∷ []))
    by_feed true e = subst (λ x. IsBlank (42 ∷ (line ++ x ∷ []))) (sym (eqb-true b 10 e)) (Comment line [] l Nothing)
    by_feed false e = OpenComment (line ++ b ∷ []) (each-append (λ x. IsTrue (not (nat_eq x 10))) line b l (ap not e))

-- the next position stays within the bounds
pub next_within : (p : Place) (b : ℕ) (q : Place) → q ≡ place_next p b → p.offset ≤ 2 ^ 40 → p.offset ≢ 2 ^ 40 → p.line ≤ p.offset + (2 ^ 40 + 1) → p.column ≤ p.offset + (2 ^ 40 + 1)
    → (q.offset ≤ 2 ^ 40) × (q.line ≤ q.offset + (2 ^ 40 + 1)) × (q.column ≤ q.offset + (2 ^ 40 + 1)) × (q.offset ≡ p.offset + 1)
next_within p b q e le ne line column = grind (arith, next_bounds, q.offset, p.offset)
