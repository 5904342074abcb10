-- An instance in flat arrays.
use Rattle.pb_normal.specs.meaning.Names.{HasNames, number_in, with_names}
use Rattle.pb_pieces.specs.{Terms.HoldTerms, declared.flat.Named.Named}
use Rattle.{pb_sums.specs.declared.Term.Term, std.specs.Prelude.◌≡◌, std.specs.Prelude.ℕ, std.specs.Prelude.List, std.specs.Prelude.[], std.specs.Prelude.map}

abbrev pub names_of : List Term → List (List ℕ)
names_of = map (λ t. t.literal.name)

-- The arrays have these terms. The names are numbered in the order of their first appearance.
pub record HoldNamed (terms : List Term) (n : Named) : Type 0 where
  pub names_are : n.names ≡ with_names [] (names_of terms)
  pub named : HasNames n.names (names_of terms)
  pub terms_are : HoldTerms terms (map (λ t. number_in n.names t.literal.name) terms) n.terms
