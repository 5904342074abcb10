-- The positions of a form's entries as a list.
use Rattle.pb_propagate.specs.declared.store.spots.Spots.{Spots, TheVariants.Empty, TheVariants.One, TheVariants.Many}
use Rattle.std.specs.Prelude.{ℕ, List, [], ◌∷◌}

abbrev pub spots_in : Spots → List ℕ
spots_in Empty = []
spots_in (One spot) = spot ∷ []
spots_in (Many spots) = spots.value.items
