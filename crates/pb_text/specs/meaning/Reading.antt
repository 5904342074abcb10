-- What a read of a text must give: the spans, the bytes used and the result. It depends only on the text and its format.
use Rattle.pb_text.specs.declared.place.{Place.Place, Spanned.Spanned, Stop.Stop, Why.Why}
use Rattle.pb_text.specs.declared.place.Why.TheVariants.{Byte, TooLarge, Ended, TooLong, Read, Memory}
use Rattle.pb_text.specs.meaning.Classes.{is_digit}
use Rattle.pb_text.specs.meaning.Spelling.{Letter, Item, letters_of, bytes_of, spans_of, place_after}
use Rattle.std.specs.Prelude.{◌≡◌, ◌≢◌, ◌⊎◌, ℕ, ◌+◌, ◌-◌, ◌≤◌, ◌<◌, ◌^◌, min, List, [], ◌∷◌, ◌++◌, length, take, filter, nat_le, Bool, true, false, IsTrue, cond, Option, None, Some, Result, Ok, Err}

abbrev pub IsPrefix : List ℕ → List ℕ → Type 0
IsPrefix prefix text = (rest : List ℕ) × (text ≡ prefix ++ rest)

-- the last letter is a digit of a number
abbrev pub last_numeral : List Letter → Bool
last_numeral [] = false
last_numeral (l ∷ []) = l.numeral
last_numeral (l ∷ m ∷ ls) = last_numeral (m ∷ ls)

-- the spans that end within the first n bytes
abbrev pub ended_within : {E : Type 0} → ℕ → List (Spanned E) → List (Spanned E)
ended_within n spans = filter (λ m. nat_le m.past.offset n) spans

-- how many of the first n bytes belong to a statement that ends after them
abbrev pub open_bytes : {E : Type 0} → ℕ → List (Spanned E) → ℕ
open_bytes n [] = 0
open_bytes n (m ∷ spans) = cond (nat_le m.past.offset n) (open_bytes n spans) (n - m.first.offset)

-- no statement has more than longest of the first n bytes
abbrev pub AreShort : {E : Type 0} → ℕ → ℕ → List (Spanned E) → Type 0
AreShort longest n [] = Unit {0}
AreShort longest n (m ∷ spans) = (min m.past.offset n ≤ m.first.offset + longest) × AreShort longest n spans

-- some statement has longest of the first n bytes, and ends after them
abbrev pub Overruns : {E : Type 0} → ℕ → ℕ → List (Spanned E) → Type 0
Overruns longest n [] = ⊥
Overruns longest n (m ∷ spans) = ((m.first.offset + longest ≡ n) × (n < m.past.offset)) ⊎ Overruns longest n spans

-- the most bytes that are read of one input
abbrev pub byte_limit : ℕ
byte_limit = 2 ^ 40

module _ {E : Type 0} (format : List (Item E) → Type 0) where
  -- some text of the format begins with this prefix
  abbrev pub Viable : List ℕ → Type 0
  Viable prefix = (items : List (Item E)) × format items × IsPrefix prefix (bytes_of items)

  -- the spans that end within the prefix, in any text that begins with it
  abbrev pub AreSeen : List ℕ → List (Spanned E) → Type 0
  AreSeen prefix spans =
      (items : List (Item E)) → format items → IsPrefix prefix (bytes_of items) → ended_within (length prefix) (spans_of items) ≡ spans

  -- In all texts that begin with the same prefix, the spans that end within it are the same.
  abbrev pub HasFixedSpans : Type 0
  HasFixedSpans =
      (prefix : List ℕ) (items items' : List (Item E)) → format items → format items' → IsPrefix prefix (bytes_of items) → IsPrefix prefix (bytes_of items')
      → ended_within (length prefix) (spans_of items) ≡ ended_within (length prefix) (spans_of items')

  -- no prefix of the text is a text of the format
  abbrev pub HasNoSpelling : List ℕ → Type 0
  HasNoSpelling text = (items : List (Item E)) → format items → IsPrefix (bytes_of items) text → ⊥

  -- the prefix ends with a digit of a number, in any text that begins with it
  abbrev pub EndsInNumber : List ℕ → Type 0
  EndsInNumber prefix =
      (items : List (Item E)) → format items → IsPrefix prefix (bytes_of items) → IsTrue (last_numeral (take (length prefix) (letters_of items)))

  -- n bytes of the prefix belong to a statement that it does not end, in any text that begins with it
  abbrev pub HasOpen : List ℕ → ℕ → Type 0
  HasOpen prefix n =
      (items : List (Item E)) → format items → IsPrefix prefix (bytes_of items) → open_bytes (length prefix) (spans_of items) ≡ n

module _ {E : Type 0} (format : List (Item E) → Type 0) (longest : ℕ) where
  -- no statement has more than longest bytes in the prefix, in any text that begins with it
  abbrev pub IsShort : List ℕ → Type 0
  IsShort prefix = (items : List (Item E)) → format items → IsPrefix prefix (bytes_of items) → AreShort longest (length prefix) (spans_of items)

  -- The next byte is past the limit: the limit on all bytes, or that on the bytes of a statement.
  abbrev pub IsFull : List ℕ → Type 0
  IsFull prefix =
      (length prefix ≡ byte_limit)
      ⊎ ((items : List (Item E)) → format items → IsPrefix prefix (bytes_of items) → Overruns longest (length prefix) (spans_of items))

  -- The bytes used can be completed to a text and do not yet contain a whole one. These are the spans so far.
  pub record IsUnderWay (used : List ℕ) (spans : List (Spanned E)) : Type 0 where
    pub viable : Viable format used
    pub seen : AreSeen format used spans
    pub unfinished : HasNoSpelling format used
    pub within : length used ≤ byte_limit
    pub short : IsShort used

  -- The byte after the used bytes is the first bad one.
  pub record IsBad (used : List ℕ) (b : ℕ) : Type 0 where
    pub refused : Viable format (used ++ b ∷ []) → ⊥
    pub room : IsFull used → ⊥

  -- what a stop after the used bytes says, if these bytes are left
  abbrev pub Explains : List ℕ → List ℕ → Why → Type 0
  Explains used left (Byte b) =
      (more : List ℕ) × (left ≡ b ∷ more) × IsBad used b × (IsTrue (is_digit b) → EndsInNumber format used → ⊥)
  Explains used left TooLarge =
      (b : ℕ) × (more : List ℕ) × (left ≡ b ∷ more) × IsBad used b × IsTrue (is_digit b) × EndsInNumber format used
  Explains used left TooLong = (left ≢ []) × IsFull used
  Explains used left Ended = left ≡ []
  -- the reader failed
  Explains used left Read = Unit {0}
  -- out of memory at a byte that is not bad
  Explains used left Memory = (b : ℕ) × (more : List ℕ) × (left ≡ b ∷ more) × Viable format (used ++ b ∷ []) × (IsFull used → ⊥)

  -- The used bytes are a text of the format with these spans.
  pub record IsSpelled (used : List ℕ) (spans : List (Spanned E)) : Type 0 where
    pub items : List (Item E)
    pub spelled : format items
    pub used_are : bytes_of items ≡ used
    pub spans_are : spans ≡ spans_of items
    pub within : length used ≤ byte_limit
    pub short : AreShort longest (length used) spans

  -- the result after the used bytes
  abbrev pub Answers : List ℕ → List ℕ → List (Spanned E) → Place → Bool → Option Stop → Type 0
  Answers used left spans place true stop = IsSpelled used spans × (stop ≡ None)
  Answers used left spans place false None = IsUnderWay used spans × (left ≡ [])
  Answers used left spans place false (Some s) = IsUnderWay used spans × (s.place ≡ place) × Explains used left s.why

  -- a whole read: these spans, and the position and the result after the used bytes
  pub record Reads (input used : List ℕ) (spans : List (Spanned E)) (place : Place) (done : Bool) (stop : Option Stop) : Type 0 where
    pub left : List ℕ
    pub input_is : input ≡ used ++ left
    pub place_is : place ≡ place_after used
    pub answer : Answers used left spans place done stop

  -- after the end of the input: the used bytes are a text of the format, or the input ended too soon
  abbrev pub EndsAs : List ℕ → List ℕ → List (Spanned E) → Place → Result Unit Stop → Type 0
  EndsAs input used spans place (Ok u) = Reads input used spans place true None
  EndsAs input used spans place (Err s) = Reads input used spans place false (Some s) × (s.why ≡ Ended)
