-- A list of sums in two columns: a narrow one, and a wide one for the sums that do not fit there.
use Rattle.std.specs.List.{zip}
use Rattle.std.specs.Prelude.{ℕ, ◌-◌, ◌^◌, ◌==◌, if◌then◌else◌, List, map}

-- what the narrow column has where the sum is in the wide one
abbrev pub elsewhere : ℕ
elsewhere = 2 ^ 32 - 1

-- the sum of which the columns have these two values
abbrev pub sum_of : ℕ → ℕ → ℕ
sum_of narrow wide = if narrow == elsewhere then wide else narrow

abbrev pub sums_of : List ℕ → List ℕ → List ℕ
sums_of narrow wide = map (λ p. sum_of p.0 p.1) (zip narrow wide)
