-- A clause that is asked about, and what follows if all its literals are false.
use Rattle.pb_normal.specs.declared.{entry.Entry.Entry, numbered.NumberedLiteral.NumberedLiteral}
use Rattle.pb_normal.specs.meaning.{Form.Form, Rules.negation, Rules.opposite}
use Rattle.pb_propagate.specs.declared.{clauses.Clauses.Clauses, rests.Rests.Rests, run.Run.Run, store.Store.Store}
use Rattle.pb_propagate.specs.engine.{clauses.Runs.passed_of, clauses.Shapes.clauses_of, engine.Lists.Shape, engine.Lists.has, engine.Lists.Conflicts}
use Rattle.pb_propagate.specs.engine.engine.{Forms.as_term, Progress.Spends, Progress.seen, Progress.progress, Progress.database, Progress.list_of}
use Rattle.std.specs.Prelude.{◌≡◌, ℕ, ◌+◌, ◌<◌, ◌⊎◌, true, All, List, map, length, sum, sum_by, slice_index_or}

abbrev pub IsOne : Entry → Type 0
IsOne e = e.coefficient ≡ 1

-- some literal is true
pub record IsDisjunction (f : Form) : Type 0 where
  pub degree : f.degree ≡ 1
  pub light : All IsOne f.terms

-- the negation of a clause: each of its literals is false
abbrev pub denial_of : List Entry → Shape
denial_of goal = record { terms = map as_term (map opposite goal); degree = length goal }

-- each literal of the clause is on the list as false
abbrev pub AreDenied : List Entry → List NumberedLiteral → Type 0
AreDenied goal list = (k : ℕ) (d : Entry) → k < length goal → has list (negation (as_term (slice_index_or goal k d)).literal) ≡ true

-- a literal that is to be false is true, or the list has a conflict
abbrev pub IsHit : List Shape → List NumberedLiteral → NumberedLiteral → Type 0
IsHit forms list l = (has list l ≡ true) ⊎ Conflicts forms list

-- The cost of a propagation from a list that is walked, after the literals of a clause were assigned as false. Each of them is a
-- visit.
abbrev pub RunRefutes : Store → Rests → Clauses → ℕ → Run → Run → Type 0
RunRefutes store rests c count old new =
    Spends (database store rests) (seen c (list_of old) (sum (passed_of c))) (count + seen c (list_of new) (sum_by length (clauses_of c))) (progress old) (progress new)
