-- The letters of bytes, and words that grow letter by letter. Offered to other crates.
use Rattle.pb_text.proofs.Common.{ℕ, ◌++◌, ◌+◌, ◌-◌, ◌<◌, ◌∙◌, ◌∷◌, ◌≡◌, [], add-one, ap, arith, false, length, List, nat_eq, refl, subst, sym, take, true}
use Rattle.pb_text.proofs.Common.{slice_index, take-suc, nat_tests, take_all, is_digit, Bytes, digit, unmarked, Letter, plain}
use Rattle.pb_text.proofs.lemmas.text.{ByteTests.digit_of, Languages.map-append}

pub as_unmarked : (l : Letter) (b : ℕ) → l.numeral ≡ false → l.byte ≡ b → l ≡ unmarked b
as_unmarked l b m e = rw (sym m, sym e) refl

-- a letter that is a digit of a number
pub as_digit : (l : Letter) (d : ℕ) → l.byte ≡ 48 + d → l.numeral ≡ true → l ≡ digit d
as_digit l d e m = rw (sym e, sym m) refl

pub some_digit : (l : Letter) → l.numeral ≡ true → is_digit l.byte ≡ true → (l ≡ digit (l.byte - 48)) × (l.byte - 48 < 10)
some_digit l m h = grind (arith, l.byte, digit_of, as_digit)

-- bytes, and one more
pub bytes_one_more : (bs : List ℕ) (b : ℕ) (l : Letter) → l ≡ unmarked b → (q : List Letter) → Bytes bs q → Bytes (bs ++ b ∷ []) (q ++ l ∷ [])
bytes_one_more bs b l e q h = ap (λ x. x ++ l ∷ []) h ∙ (ap (λ x. plain bs ++ x ∷ []) e ∙ map-append unmarked bs b)

pub bytes_grown : (bs : List ℕ) (b : ℕ) (l : Letter) → l.numeral ≡ false → l.byte ≡ b → (q : List Letter) → Bytes bs q → Bytes (bs ++ b ∷ []) (q ++ l ∷ [])
bytes_grown bs b l m e q h = bytes_one_more bs b l (as_unmarked l b m e) q h

-- a prefix of a word, and its next byte
pub word_grown : (w : List ℕ) (j : ℕ) (l : Letter) → j < length w → l.numeral ≡ false → l.byte ≡ slice_index w j → (q : List Letter)
    → Bytes (take j w) q → Bytes (take (j + 1) w) (q ++ l ∷ [])
word_grown w j l h m e q r =
    subst (λ x. Bytes x (q ++ l ∷ [])) (sym (take-suc w j 0 h) ∙ ap (λ k. take k w) (sym (add-one j))) (bytes_grown (take j w) (slice_index w j) l m e q r)

pub word_whole : (w : List ℕ) (j : ℕ) (q : List Letter) → j ≡ length w → Bytes (take j w) q → Bytes w q
word_whole w j q h r = subst (λ x. Bytes x q) (take_all j w (omega arith)) r

-- an index in a word that is not the last one, and the next index
pub further : (k size : ℕ) → k < size → nat_eq (k + 1) size ≡ false → k + 1 < size
further k size h e = grind (arith, nat_tests)
