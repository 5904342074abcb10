-- Names and numbers at the start of a text.
use Rattle.pb_sums.specs.{contract.Canonical.relation_bytes, declared.linear.Relation.Relation, declared.phase.Phase.Phase}
use Rattle.pb_sums.specs.{declared.sum_kind.Part.Part, meaning.Sums.allows}
use Rattle.pb_text.specs.{contract.Digits.HasDigits, meaning.Classes.is_letter, meaning.Classes.is_name_byte, meaning.Languages.Each, meaning.Numbers.signed}
use Rattle.std.specs.Prelude.{◌≡◌, ◌≢◌, ◌⊎◌, ◌<◌, ◌≤◌, ℕ, ℤ, ◌+◌, ◌-◌, Bool, IsTrue, true, false, List, [], ◌∷◌, Option, Some, None, length, take, drop, get_or}

-- a sign, or none
abbrev pub IsSign : Bool → List ℕ → Type 0
IsSign negative [] = negative ≡ false
IsSign false (b ∷ []) = b ≡ 43
IsSign true (b ∷ []) = b ≡ 45
IsSign negative (b ∷ c ∷ text) = ⊥

-- the states in which a number may begin, or its digits, the relation before it, and the sign that was read
abbrev pub begins_number : Phase → Bool
begins_number Phase.Start = true
begins_number (Phase.Signed r negative) = true
begins_number Phase.Between = true
begins_number (Phase.Relation r) = true
begins_number _ = false

abbrev pub role : Phase → Option Relation
role (Phase.Signed r negative) = r
role (Phase.Relation r) = Some r
role _ = None

abbrev pub sign_read : Phase → Option Bool
sign_read (Phase.Signed r negative) = Some negative
sign_read _ = None

-- the state after a number and space
abbrev pub after_number : Option Relation → ℤ → Phase
after_number None z = Phase.Gap z
after_number (Some r) z = Phase.Tail r z

-- a relation may follow terms and space
abbrev pub begins_relation : Phase → Bool
begins_relation Phase.Between = true
begins_relation _ = false

-- The text does not begin with a relation that the part allows.
abbrev pub LacksRelation : Part → List ℕ → Type 0
LacksRelation part text = (r : Relation) → allows part r ≡ true → take (length (relation_bytes r)) text ≢ relation_bytes r

-- the state after a name, if one may begin
abbrev pub after_name : Phase → Option Phase
after_name (Phase.Gap z) = Some (Phase.More z false)
after_name (Phase.Tilde z) = Some (Phase.More z true)
after_name _ = None

-- the state after a space, in the states where one is common
abbrev pub after_space : Phase → Option Phase
after_space (Phase.Digits None negative n) = Some (Phase.Gap (signed negative n))
after_space (Phase.Digits (Some r) negative n) = Some (Phase.Tail r (signed negative n))
after_space (Phase.Gap z) = Some (Phase.Gap z)
after_space (Phase.More z negated) = Some Phase.Between
after_space Phase.Between = Some Phase.Between
after_space (Phase.Relation r) = Some (Phase.Relation r)
after_space (Phase.Tail r z) = Some (Phase.Tail r z)
after_space _ = None

-- the rest of a text, as a slice of it
abbrev pub text_after : ℕ → List ℕ → List ℕ
text_after i text = take (length text - i) (drop i text)

-- The sign at the start of the text has exactly n bytes: none if it was already read.
abbrev pub HasSign : Option Bool → List ℕ → ℕ → Bool → Type 0
HasSign (Some read) text n negative = (n ≡ 0) × (negative ≡ read)
HasSign None text n negative = IsSign negative (take n text) × (n ≡ 0 → 0 < length text → (get_or text 0 0 ≢ 43) × (get_or text 0 0 ≢ 45))

-- The text does not begin with a number and a space after it, or the number is large.
abbrev pub LacksNumber : ℕ → Option Bool → List ℕ → Type 0
LacksNumber limit read text = (i : ℕ) × (negative : Bool) × HasSign read text i negative × (n : ℕ) × (value : ℕ) × HasDigits (text_after i text) n value
    × ((n ≡ 0) ⊎ (limit < value) ⊎ (length text ≤ i + n) ⊎ (get_or text (i + n) 0 ≢ 32))

-- The text begins with exactly n name bytes.
abbrev pub HasNameBytes : List ℕ → ℕ → Type 0
HasNameBytes text n = (n ≤ length text) × Each (λ b. IsTrue (is_name_byte b)) (take n text) × (n < length text → is_name_byte (get_or text n 0) ≡ false)

-- The text does not begin with a literal and a space after it whose name has at least two bytes, or that name is long.
abbrev pub LacksLiteral : List ℕ → Type 0
LacksLiteral text = (i : ℕ) × (i ≤ 1) × (i ≡ 0 → 0 < length text → get_or text 0 0 ≢ 126) × (i ≡ 1 → get_or text 0 0 ≡ 126)
    × (n : ℕ) × HasNameBytes (text_after i text) n × ((n < 2) ⊎ (is_letter (get_or (text_after i text) 0 0) ≡ false) ⊎
    (22 < n) ⊎ (length text ≤ i + n) ⊎ (get_or text (i + n) 0 ≢ 32))
