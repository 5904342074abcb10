-- A written term as a positive coefficient on a literal.
use Rattle.{pb_normal.specs.declared.entry.Entry.Entry, pb_normal.specs.meaning.Names.number_in, pb_sums.specs.declared.linear.Term.Term}
use Rattle.std.specs.Prelude.{ℕ, ◌+◌, ℤ, pos, negsuc, unsigned_abs, Bool, true, false, not, if◌then◌else◌, List, [], ◌∷◌}

abbrev pub is_below_0 : ℤ → Bool
is_below_0 (pos _) = false
is_below_0 (negsuc _) = true

-- a negative coefficient is moved to the opposite literal
abbrev pub entry_of : ℕ → Bool → ℤ → Entry
entry_of variable negated coefficient = record {
  variable = variable;
  negated = if is_below_0 coefficient then not negated else negated;
  coefficient = unsigned_abs coefficient;
}

abbrev pub raw_of : List (List ℕ) → Term → Entry
raw_of names t = entry_of (number_in names t.literal.name) t.literal.negated t.coefficient

-- what the negative coefficients add to the degree
abbrev pub shift : List Term → ℕ
shift [] = 0
shift (t ∷ ts) = (if is_below_0 t.coefficient then unsigned_abs t.coefficient else 0) + shift ts
