-- Terms in a map by their variables
use Rattle.pb_normal.specs.{declared.entry.Entry.Entry, engine.Adds.Adds, meaning.Form.Form, meaning.Form.IsNormal, meaning.Form.each, meaning.Form.total}
use Rattle.std.specs.{BTreeMap.BTreeMap, BTreeMap.get, BTreeMap.values, Option.option_to_list, Ordering.nat_cmp}
use Rattle.std.specs.Prelude.{◌≡◌, ℕ, ◌<◌, ◌≤◌, [], ◌∷◌, Option, IfSome, All}

-- the key is the variable of the term, and its coefficient is not 0
abbrev pub IsAtItsKey : ℕ × Entry → Type 0
IsAtItsKey e = (e.0 ≡ e.1.variable) × (0 < e.1.coefficient)

abbrev pub IsKeyed : BTreeMap ℕ Entry → Type 0
IsKeyed m = All IsAtItsKey m.entries

-- the form of the terms of a map
abbrev pub keyed_form : BTreeMap ℕ Entry → ℕ → Form
keyed_form m degree = record { terms = values m; degree = degree }

-- what is kept beside the terms: their size, and that the form is normal
pub record IsKept (m : BTreeMap ℕ Entry) (size degree : ℕ) : Type 0 where
  pub keyed : IsKeyed m
  pub size_is : size ≡ total each (values m)
  pub normal : IsNormal (keyed_form m degree)

-- g is what cancels in the sum of a term and the one on its variable, if the map has one
abbrev pub TermCancels : BTreeMap ℕ Entry → Entry → ℕ → Type 0
TermCancels m t g = (o : Option Entry) × Adds (option_to_list (get nat_cmp m t.variable)) (t ∷ []) (option_to_list o) g
    × IfSome o (λ s. (s.variable ≡ t.variable) × (0 < s.coefficient)) × (g ≤ t.coefficient)
