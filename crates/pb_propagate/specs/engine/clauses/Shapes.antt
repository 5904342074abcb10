-- Clauses among the constraints.
use Rattle.pb_normal.specs.{declared.entry.Entry.Entry, declared.numbered.NumberedLiteral.NumberedLiteral, meaning.Form.Form, meaning.Form.IsNormal}
use Rattle.pb_propagate.specs.{declared.slots.Planned.Planned, declared.store.Store.Store, declared.term.Term.Term, engine.clauses.Links.list_at}
use Rattle.pb_propagate.specs.declared.{clause.Group.Group, clause.Group.TheVariants.Short, clause.Group.TheVariants.Long, clauses.Clauses.Clauses}
use Rattle.pb_propagate.specs.engine.{clauses.Runs.IsPair, engine.Fields.shapes_of, engine.Forms.as_term, engine.Lists.Shape}
use Rattle.std.specs.Prelude.{◌≡◌, ℕ, ◌+◌, ◌*◌, ◌/◌, ◌%◌, ◌^◌, ◌<◌, ◌≤◌, ◌==◌, not, nat_lt, if◌then◌else◌, All, List, [], ◌∷◌, map, length, count_by, slice_index_or}

-- the literal of a code
abbrev pub literal_at : ℕ → NumberedLiteral
literal_at c = record { variable = c / 4; negated = not (c % 2 == 0) }

-- a clause of at most four literals is a short one
abbrev pub group_by : ℕ → Group
group_by count = if nat_lt count 5 then Short else Long

-- where the codes of a variable's literals begin in a group
abbrev pub offset : Group → ℕ
offset Short = 0
offset Long = 2

-- the code of a literal in the clauses of a group
abbrev pub code_in : Group → NumberedLiteral → ℕ
code_in g l = 4 * l.variable + offset g + (if l.negated then 1 else 0)

-- the code of a term's literal in the clauses of a group
abbrev pub code : Group → Entry → ℕ
code g e = code_in g (as_term e).literal

-- the codes of a clause with these terms
abbrev pub codes_of_terms : List Entry → List ℕ
codes_of_terms terms = map (code (group_by (length terms))) terms

abbrev pub one_term : ℕ → Term
one_term c = record { literal = literal_at c; coefficient = 1 }

-- a clause as a constraint
abbrev pub clause_shape : List ℕ → Shape
clause_shape codes = record { terms = map one_term codes; degree = 1 }

abbrev pub slot_shape : Shape → List ℕ → Shape
slot_shape x [] = x
slot_shape x (c ∷ codes) = clause_shape (c ∷ codes)

-- the constraint of each slot: its clause, or if it has none, what the occurrence lists have
abbrev pub joined : List Shape → List (List ℕ) → List Shape
joined [] clauses = []
joined (x ∷ xs) [] = x ∷ xs
joined (x ∷ xs) (codes ∷ clauses) = slot_shape x codes ∷ joined xs clauses

-- no literal occurs twice
abbrev pub AreDifferent : List ℕ → Type 0
AreDifferent codes = (x : ℕ) → count_by (λ y. x == y) codes ≤ 1

-- no constraint is both a clause with watches and in the occurrence lists
pub record AreJoined (shapes : List Shape) (clauses : List (List ℕ)) : Type 0 where
  pub short : length clauses ≤ length shapes
  pub apart : (s : ℕ) (d : Shape) → s < length shapes → 0 < length (list_at clauses s) → ((slice_index_or shapes s d).terms ≡ []) × ((slice_index_or shapes s d).degree ≡ 0)
  pub different : (s : ℕ) → AreDifferent (list_at clauses s)

-- the literals of each slot's clause
abbrev pub clauses_of : Clauses → List (List ℕ)
clauses_of c = c.blocks.literals

-- the constraints of all slots
abbrev pub all_of : Store → Clauses → List Shape
all_of store clauses = joined (shapes_of store.stored.items) (clauses_of clauses)

-- the coefficient is 1, and the codes fit in 4 bytes
pub record IsLight (e : Entry) : Type 0 where
  pub one : e.coefficient ≡ 1
  pub small : e.variable < 2 ^ 30

-- some literal is true, and two literals can be watched
pub record IsClause (f : Form) : Type 0 where
  pub degree : f.degree ≡ 1
  pub two : 2 ≤ length f.terms
  pub light : All IsLight f.terms

-- the form is a clause, with its codes and two positions of literals to watch
pub record IsPlanned (f : Form) (p : Planned) : Type 0 where
  pub clause : IsClause f
  pub normal : IsNormal f
  pub codes : p.codes.items ≡ codes_of_terms f.terms
  pub pair : IsPair p.codes.items p.pair
