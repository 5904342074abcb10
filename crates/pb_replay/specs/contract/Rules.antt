-- The rules of a proof, one constructor each: what a statement needs, and the state that it gives. They say the same as `Outcome` of
-- an accepted statement, which also says in which order the tests come and what fails. The law `rules_are_the_outcomes` is that.
use Rattle.pb_normal.specs.declared.{numbered.NumberedLiteral.NumberedLiteral, Side.Side, Side.TheVariants.AtLeast as least, Side.TheVariants.AtMost as most}
use Rattle.pb_normal.specs.meaning.{Constraints.Fits, Form.Form, Form.Holds, Form.IsWithin, Names.number_in, Names.with_names, Written.IsSideOf}
use Rattle.pb_normal.specs.meaning.Rules.{IsSum, IsContradiction, multiplied, divided, saturated, weakened, axiom_on, assignment}
use Rattle.pb_proof.specs.declared.{Bound.Bound, Bound.TheVariants.Finite, Bound.TheVariants.Infinite, Statement.Statement}
use Rattle.pb_proof.specs.declared.Conclusion.{Conclusion, TheVariants.NoClaim, TheVariants.Unsat, TheVariants.Sat, TheVariants.Bounds}
use Rattle.pb_proof.specs.declared.Stage.TheVariants.{Formula, Steps, Concluding, Closing, Complete}
use Rattle.pb_proof.specs.declared.Statement.TheVariants.{Header, F, Pol, Rup, Soli, Solx, Delete, Output, Conclude, End}
use Rattle.{pb_proof.specs.meaning.Order.stage_of, std.specs.Prelude.None, std.specs.Prelude.Ok}
use Rattle.pb_proof.specs.meaning.Postfix.{Tree, Constraint, LiteralAxiom, Sum, Product, Quotient, Saturation, Weakening, words}
use Rattle.pb_propagate.specs.meaning.Propagation.{IsRup, IsCompletion, MeetsConflict, Live}
use Rattle.pb_replay.specs.meaning.{Conclusions.IsShownBy, Conclusions.objective_with, Conclusions.verdict_of, Problem.Problem}
use Rattle.pb_replay.specs.meaning.Replay.{State, Logged, IsLive, Excludes, HasValue, AreValues, Shown, no_form, numbered, place, value}
use Rattle.pb_replay.specs.meaning.Statements.{IsCount, Outcome, mentioned}
use Rattle.pb_sums.specs.declared.{Linear.Linear, Literal.Literal, Term.Term}
use Rattle.std.specs.Prelude.{◌≡◌, ◌↔◌, ℕ, ◌<◌, ◌≤◌, ℤ, pos, unsigned_abs, ◌-ℤ◌, ◌≤ℤ◌, Contains, List, [], ◌∷◌, ◌++◌, length, map, get_or, set, Option, Some}

-- an expression has a form; those of sums and products are within the limit
pub data HasForm (limit : ℕ) (names : List (List ℕ)) (live : List (Option Form)) : Tree → Form → Type 0 where
  constraint : (id : ℤ) (f : Form) → IsLive live id f → HasForm limit names live (Constraint id) f
  literal : (l : Literal) → HasForm limit names live (LiteralAxiom l) (axiom_on (number_in names l.name) l.negated)
  sum : (a b : Tree) (f g r : Form) → HasForm limit names live a f → HasForm limit names live b g → IsSum f g r → IsWithin limit r → HasForm limit names live (Sum a b) r
  product : (a : Tree) (k : ℤ) (f : Form) → HasForm limit names live a f → IsWithin limit (multiplied (unsigned_abs k) f) → HasForm limit names live (Product a k) (multiplied (unsigned_abs k) f)
  quotient : (a : Tree) (k : ℤ) (f : Form) → HasForm limit names live a f → HasForm limit names live (Quotient a k) (divided (unsigned_abs k) f)
  saturation : (a : Tree) (f : Form) → HasForm limit names live a f → HasForm limit names live (Saturation a) (saturated f)
  weakening : (a : Tree) (name : List ℕ) (f : Form) → HasForm limit names live a f → HasForm limit names live (Weakening a name) (weakened (number_in names name) f)

-- the form of one side of a written constraint
pub record IsFormOfSide (limit : ℕ) (names : List (List ℕ)) (side : Side) (linear : Linear) (r : Form) : Type 0 where
  pub fits : Fits limit linear
  pub side_of : IsSideOf names side linear r

-- the given literals propagate, without a conflict, to a solution: each name has a value, and each constraint of the instance holds
pub record IsSolvedBy (v : Problem) (live : List (Option Form)) (names : ℕ) (given : List NumberedLiteral) (g : Logged) : Type 0 where
  pub consistent : MeetsConflict (Live live) given → ⊥
  pub list : List NumberedLiteral
  pub completion : IsCompletion (Live live) given list
  pub total : (k : ℕ) → k < names → HasValue list k
  pub values : AreValues list names g.values
  pub solution : (k : ℕ) → k < length v.loaded → Holds (assignment g.values) (get_or v.loaded k no_form)
  pub value_of : g.value ≡ value v (assignment g.values)

-- the ids are deleted in order
pub data Deletes : List (Option Form) → List ℤ → List (Option Form) → Type 0 where
  none : {live : List (Option Form)} → Deletes live [] live
  one : {live rest : List (Option Form)} (id : ℤ) (ids : List ℤ) (f : Form) → IsLive live id f → Deletes (set live (place (length live) id) None) ids rest → Deletes live (id ∷ ids) rest

-- some live constraint, or the named one, is a contradiction
pub data HasContradiction (live : List (Option Form)) : Option ℤ → Type 0 where
  some : (f : Form) → Live live f → IsContradiction f → HasContradiction live None
  named : (id : ℤ) (f : Form) → IsLive live id f → IsContradiction f → HasContradiction live (Some id)

-- the named constraint, if there is an id
pub data IsNamed (live : List (Option Form)) : Option ℤ → Option Form → Type 0 where
  unnamed : IsNamed live None None
  named_one : (id : ℤ) (f : Form) → IsLive live id f → IsNamed live (Some id) (Some f)

-- a lower bound: no solution is logged and there is a contradiction, or no logged solution is below it and it is shown
pub data IsLower (limit : ℕ) (s : State) (o : List Term) : Bound → Option ℤ → Type 0 where
  infinite : (id : Option ℤ) → s.logged ≡ [] → HasContradiction s.live id → IsLower limit s o Infinite id
  finite : (b : ℤ) (id : Option ℤ) (f : Option Form) (g : Form) → ((k : Logged) → Contains s.logged k → b ≤ℤ k.value) → IsNamed s.live id f → IsFormOfSide limit s.names least (objective_with o b) g → IsShownBy s.live f g → IsLower limit s o (Finite b) id

-- an upper bound: a shown or a logged solution has at most this value
pub data IsUpper (v : Problem) (s : State) : Bound → Option (List Literal) → Type 0 where
  unbounded : (shown : Option (List Literal)) → IsUpper v s Infinite shown
  by_shown : (u : ℤ) (given : List Literal) (g : Logged) → Shown v (numbered s.names given) g → g.value ≤ℤ u → IsUpper v s (Finite u) (Some given)
  by_logged : (u : ℤ) (g : Logged) → Contains s.logged g → g.value ≤ℤ u → IsUpper v s (Finite u) None

-- what a conclusion needs
pub data IsJustified (limit : ℕ) (v : Problem) (s : State) : Conclusion → Type 0 where
  no_claim : IsJustified limit v s NoClaim
  unsat : (id : Option ℤ) → s.logged ≡ [] → HasContradiction s.live id → IsJustified limit v s (Unsat id)
  sat_shown : (given : List Literal) (g : Logged) → Shown v (numbered s.names given) g → IsJustified limit v s (Sat (Some given))
  sat_logged : (g : Logged) → Contains s.logged g → IsJustified limit v s (Sat None)
  bounds : (lower : Bound) (id : Option ℤ) (upper : Bound) (shown : Option (List Literal)) (o : List Term) → v.objective ≡ Some o → IsLower limit s o lower id → IsUpper v s upper shown → IsJustified limit v s (Bounds lower id upper shown)

-- the state with one constraint more, and these solutions logged
abbrev pub with_form : State → List Logged → Form → State
with_form s logged r = record s { live = s.live ++ (Some r ∷ []); logged = logged }

-- the rules, in a state that has the names of the statement
pub data Rule (limit top : ℕ) (v : Problem) (s : State) : Statement → State → Type 0 where
  header : Rule limit top v s Header (record s { next = Formula })
  formula : (count : Option ℕ) → IsCount count (length v.loaded) → length v.loaded ≤ top → Rule limit top v s (F count) (record s { live = map (λ f. Some f) v.loaded; next = Steps })
  pol : (tree : Tree) (r : Form) → HasForm limit s.names s.live tree r → length s.live < top → Rule limit top v s (Pol (words tree)) (with_form s s.logged r)
  rup : (linear : Linear) (r : Form) → IsFormOfSide limit s.names least linear r → IsRup (Live s.live) r → length s.live < top → Rule limit top v s (Rup linear) (with_form s s.logged r)
  soli : (given : List Literal) (o : List Term) (g : Logged) (r : Form) → v.objective ≡ Some o → IsSolvedBy v s.live (length s.names) (numbered s.names given) g → IsFormOfSide limit s.names most (objective_with o (g.value -ℤ pos 1)) r → length s.live < top → Rule limit top v s (Soli given) (with_form s (s.logged ++ (g ∷ [])) r)
  solx : (given : List Literal) (g : Logged) (r : Form) → IsSolvedBy v s.live (length s.names) (numbered s.names given) g → Excludes (numbered s.names given) r → length s.live < top → Rule limit top v s (Solx given) (with_form s (s.logged ++ (g ∷ [])) r)
  delete : (ids : List ℤ) (live : List (Option Form)) → Deletes s.live ids live → Rule limit top v s (Delete ids) (record s { live = live })
  output : Rule limit top v s Output (record s { next = Concluding })
  conclude : (c : Conclusion) → IsJustified limit v s c → Rule limit top v s (Conclude c) (record s { next = Closing; concluded = Some (verdict_of c) })
  end : Rule limit top v s End (record s { next = Complete })

-- a statement comes at its stage, its names appear, and its rule applies
pub record Step (limit top : ℕ) (v : Problem) (s : State) (st : Statement) (t : State) : Type 0 where
  pub stage : s.next ≡ stage_of st
  pub rule : Rule limit top v (record s { names = with_names s.names (mentioned st) }) st t

abbrev pub RulesAreOutcomes : Type 0
RulesAreOutcomes = (limit top : ℕ) (v : Problem) (s t : State) (st : Statement) → Outcome limit top v s st (Ok t) ↔ Step limit top v s st t
