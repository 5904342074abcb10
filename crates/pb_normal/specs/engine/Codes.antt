-- Codes of literals: twice the variable, and 1 more if the literal is negated
use Rattle.pb_normal.specs.{declared.entry.Entry.Entry, declared.terms.coded_term.CodedTerm.CodedTerm, meaning.Rules.with_coefficient}
use Rattle.std.specs.Prelude.{◌≡◌, ℕ, ◌<◌, ◌/◌, ◌%◌, ◌^◌, ◌==◌}

-- the term of a code alone has coefficient 1
abbrev pub decoded : ℕ → Entry
decoded code = record { variable = code / 2; negated = (code % 2) == 1; coefficient = 1 }

-- the term of a code and a coefficient
abbrev pub weighed : CodedTerm → Entry
weighed t = with_coefficient (decoded t.code) t.coefficient

-- the term has a code that fits in 4 bytes
abbrev pub IsUnit : Entry → Type 0
IsUnit t = (t.coefficient ≡ 1) × (t.variable < 2147483648)

-- the same if the coefficient is stored beside the code, in 8 bytes
abbrev pub IsNarrow : Entry → Type 0
IsNarrow t = (t.coefficient < 2 ^ 64) × (t.variable < 2147483648)
