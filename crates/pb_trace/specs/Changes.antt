-- Forms in a trace, and what adds or deletes them.
use Rattle.pb_normal.specs.{declared.entry.Entry.Entry, meaning.Form.Form, meaning.Written.linear_of}
use Rattle.{pb_sums.specs.contract.Canonical.linear_bytes, pb_trace.specs.declared.write.Style.Style, std.specs.Fmt.signed_decimal, std.specs.Prelude.None}
use Rattle.pb_sums.specs.declared.linear.{Linear.Linear, Relation.TheVariants.AtLeast, Term.Term}
use Rattle.std.specs.Prelude.{◌≡◌, ◌<◌, ℕ, ℤ, pos, ◌-◌, Bool, true, false, List, [], ◌++◌, map, length, All, get_or, slice_get, decimal, codes, Option, Some}

-- the name with a number, or `?` if no name has it
abbrev pub name_shown : List (List ℕ) → ℕ → List ℕ
name_shown names number = get_or names number (codes "?")

abbrev pub term_shown : List (List ℕ) → Entry → Term
term_shown names t = record {
  coefficient = pos t.coefficient;
  literal = record { name = name_shown names t.variable; negated = t.negated };
}

-- a coefficient between `+` and a space
abbrev pub coefficient_bytes : ℤ → List ℕ
coefficient_bytes z = codes "+" ++ (signed_decimal z ++ codes " ")

-- the end of a form
abbrev pub end_bytes : ℤ → List ℕ
end_bytes degree = codes ">= " ++ (signed_decimal degree ++ codes " ;")

-- a form written with the names of its variables
abbrev pub form_shown : List (List ℕ) → Form → Linear
form_shown names f = record { terms = map (term_shown names) f.terms; relation = AtLeast; degree = pos f.degree }

abbrev pub form_bytes : List (List ℕ) → Form → List ℕ
form_bytes names f = linear_bytes (form_shown names f)

-- an id and its form after an arrow, as in ` -> 3: +1 x1 >= 1 ;`
abbrev pub change_bytes : List ℕ → List (List ℕ) → ℕ → Form → List ℕ
change_bytes arrow names id f = arrow ++ (decimal id ++ (codes ": " ++ form_bytes names f))

-- the line of the instance in which a constraint is written, if it is known
abbrev pub origin_bytes : Option ℕ → List ℕ
origin_bytes None = []
origin_bytes (Some line) = codes " (instance line " ++ (decimal line ++ codes ")")

-- an id after an arrow, with its form unless only ids are shown
abbrev pub id_bytes : Bool → List ℕ → List (List ℕ) → ℕ → Form → List ℕ
id_bytes true arrow names id f = arrow ++ decimal id
id_bytes false arrow names id f = change_bytes arrow names id f

-- the same, with the line of the instance
abbrev pub constraint_bytes : Bool → List ℕ → List ℕ → List (List ℕ) → ℕ → Form → List ℕ
constraint_bytes ids lines arrow names id f = id_bytes ids arrow names id f ++ origin_bytes (slice_get lines (id - 1))

abbrev pub constraint_in : Style → List ℕ → List (List ℕ) → ℕ → Form → List ℕ
constraint_in style arrow names id f = constraint_bytes style.ids style.lines.now arrow names id f

-- all variables of a form have names
abbrev pub HasAllNames : List (List ℕ) → Form → Type 0
HasAllNames names f = All (λ t. t.variable < length names) f.terms

-- the text of a form is that of the form as it is written
abbrev pub IsLinearText : List (List ℕ) → Form → Type 0
IsLinearText names f = form_bytes names f ≡ linear_bytes (linear_of names f)
