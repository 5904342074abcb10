-- What the calls return that copy a constraint.
use Rattle.pb_c.specs.declared.constraint.Number.{Number}
use Rattle.{pb_normal.specs.declared.entry.Entry.Entry, pb_normal.specs.meaning.Form.Form, pb_replay.specs.contract.ReplayModel.constraint_in}
use Rattle.pb_pieces.specs.{Terms.bit, Words.high_word, Words.low_word, declared.session.Session.Session}
use Rattle.std.specs.Prelude.{◌≡◌, ◌≢◌, ◌⊎◌, ℕ, ℤ, pos, List, length, map, Option, Some, None}

-- the live constraint with an id, if there is one
abbrev pub form_of : Option Session → ℕ → Option Form
form_of None id = None
form_of (Some s) id = constraint_in s.checker.replay.live id

-- the number of its terms
abbrev pub Sizes : Option Form → ℕ → ℕ → ℕ → Type 0
Sizes None status old new = (status ≡ 2) × (new ≡ old)
Sizes (Some f) status old new = (status ≡ 0) × (new ≡ length f.terms)

-- 1 for a negated term, and the words of its coefficient
abbrev pub sign : Entry → ℕ
sign t = bit t.negated

abbrev pub coefficient_low : Entry → ℕ
coefficient_low t = low_word (pos t.coefficient)

abbrev pub coefficient_high : Entry → ℤ
coefficient_high t = high_word (pos t.coefficient)

-- The arrays are as long as the constraint, and then they are its terms. Otherwise the status is 2.
abbrev pub Copies : Form → ℕ → List ℕ → List ℕ → List ℕ → List ℤ → Number → Type 0
Copies f status numbers negated lows highs degree =
    ((status ≡ 0) × (numbers ≡ map (λ t. t.variable) f.terms) × (negated ≡ map sign f.terms) × (lows ≡ map coefficient_low f.terms)
    × (highs ≡ map coefficient_high f.terms) × (degree ≡ record { low = low_word (pos f.degree); high = high_word (pos f.degree) }))
    ⊎ ((status ≡ 2)
    × ((length numbers ≢ length f.terms) ⊎ (length negated ≢ length f.terms) ⊎ (length lows ≢ length f.terms) ⊎ (length highs ≢ length f.terms)))

abbrev pub CopiesFound : Option Form → ℕ → List ℕ → List ℕ → List ℕ → List ℤ → Number → Type 0
CopiesFound None status numbers negated lows highs degree = status ≡ 2
CopiesFound (Some f) status numbers negated lows highs degree = Copies f status numbers negated lows highs degree
