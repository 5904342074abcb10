-- A form as the engine stores it.
use Rattle.pb_normal.specs.{declared.entry.Entry.Entry, meaning.Form.Form, meaning.Form.IsNormal}
use Rattle.pb_propagate.specs.{declared.term.Rank.Rank, declared.term.Term.Term, engine.engine.Lists.Shape}
use Rattle.std.specs.Prelude.{◌≡◌, ℕ, ◌<◌, false, List, [], ◌∷◌, map, length, slice_index_or, IsPermutation}

abbrev pub entry_of : Term → Entry
entry_of t = record { variable = t.literal.variable; negated = t.literal.negated; coefficient = t.coefficient }

abbrev pub as_term : Entry → Term
as_term e = record { literal = record { variable = e.variable; negated = e.negated }; coefficient = e.coefficient }

abbrev pub entry_at_place : List Entry → ℕ → Entry
entry_at_place es p = slice_index_or es p record { variable = 0; negated = false; coefficient = 0 }

-- the terms at some positions
abbrev pub picked : List Entry → List ℕ → List Term
picked es places = map (λ p. as_term (entry_at_place es p)) places

-- the terms at some positions, or with none given all terms in their order
abbrev pub in_order : List Entry → List ℕ → List Term
in_order es [] = map as_term es
in_order es (p ∷ places) = picked es (p ∷ places)

-- the position is inside the list, and the coefficient is that of its entry
abbrev pub IsPlaced : List Entry → Rank → Type 0
IsPlaced es r = (r.place < length es) × (r.coefficient ≡ (entry_at_place es r.place).coefficient)

-- the same terms, perhaps in another order
pub record IsStoredAs (f : Form) (s : Shape) : Type 0 where
  pub terms : IsPermutation (map entry_of s.terms) f.terms
  pub degree : s.degree ≡ f.degree
  pub normal : IsNormal f
