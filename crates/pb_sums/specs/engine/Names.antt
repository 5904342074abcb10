-- The bytes of a name, stored inline or allocated.
use Rattle.pb_sums.specs.declared.name.Kept.{Kept, TheVariants.Short, TheVariants.Long}
use Rattle.std.specs.Prelude.{ℕ, List, string_bytes}

abbrev pub bytes_of : Kept → List ℕ
bytes_of (Short text) = text
bytes_of (Long text) = string_bytes text
