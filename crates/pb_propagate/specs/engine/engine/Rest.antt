-- The engine between two calls.
use Rattle.pb_normal.specs.{declared.numbered.NumberedLiteral.NumberedLiteral, meaning.Form.Form, meaning.Rules.negation}
use Rattle.pb_propagate.specs.{declared.clauses.Clauses.Clauses, declared.store.Store.Store, engine.engine.Fields.shapes_of, engine.engine.Fields.IsSound}
use Rattle.pb_propagate.specs.engine.clauses.{Runs.AreReady, Shapes.AreJoined, Shapes.clauses_of, Shapes.all_of}
use Rattle.pb_propagate.specs.engine.engine.{Forms.IsStoredAs, Lists.Shape, Lists.has, Lists.IsWithin, Lists.Derives, Lists.Conflicts, Lists.IsSettled}
use Rattle.std.specs.Prelude.{◌≡◌, ◌*◌, List, [], ◌∷◌, length, Contains, Option, Some, None, true}

-- a form as it is stored; the slot of a removed form has an empty one
abbrev pub IsSlot : Option Form → Shape → Type 0
IsSlot None x = (x.terms ≡ []) × (x.degree ≡ 0)
IsSlot (Some f) x = IsStoredAs f x

pub data AreSlots : List (Option Form) → List Shape → Type 0 where
  no_slots : AreSlots [] []
  add_slot : {os : List (Option Form)} {xs : List Shape} (o : Option Form) (x : Shape) → IsSlot o x → AreSlots os xs → AreSlots (o ∷ os) (x ∷ xs)

-- the store and the clauses hold the forms, and no search has begun
pub record IsAtRest (store : Store) (clauses : Clauses) (forms : List (Option Form)) : Type 0 where
  pub sound : IsSound store
  pub slots : AreSlots forms (all_of store clauses)
  pub joined : AreJoined (shapes_of store.stored.items) (clauses_of clauses)
  pub ready : AreReady clauses
  pub widths : length clauses.lists ≡ 4 * store.variables
  pub known : length clauses.blocks.literals ≡ length store.stored.items

-- a derivation from the given literals, in any order
pub record IsDerived (shapes : List Shape) (given list : List NumberedLiteral) : Type 0 where
  pub first : List NumberedLiteral
  pub within : IsWithin first given
  pub covers : IsWithin given first
  pub derived : Derives shapes first list

-- a literal and its negation are given, or a derivation from what is given has a conflict
pub data IsRefuted (shapes : List Shape) (given list : List NumberedLiteral) : Type 0 where
  opposite : (l : NumberedLiteral) → has given l ≡ true → has given (negation l) ≡ true → IsRefuted shapes given list
  derived : IsDerived shapes given list → Conflicts shapes list → IsRefuted shapes given list

-- a derivation that cannot be extended, without a conflict
pub record IsEnded (shapes : List Shape) (given list : List NumberedLiteral) : Type 0 where
  pub derived : IsDerived shapes given list
  pub settled : (x : Shape) → Contains shapes x → IsSettled x list
