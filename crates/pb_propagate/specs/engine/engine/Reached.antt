-- A propagation that begins from literals that are forced already, and from given ones.
use Rattle.{pb_normal.specs.declared.numbered.NumberedLiteral.NumberedLiteral, pb_propagate.specs.engine.engine.Rest.IsRefuted}
use Rattle.pb_propagate.specs.engine.engine.{Lists.Shape, Lists.has, Lists.says, Lists.IsWithin, Lists.Derives, Lists.Conflicts, Lists.IsSettled, Rest.IsEnded}
use Rattle.std.specs.Prelude.{◌≡◌, ◌⊎◌, true, Contains, List, Bool, Option}

-- each literal of the list is on one of the others
abbrev pub IsFrom : List NumberedLiteral → List NumberedLiteral → List NumberedLiteral → Type 0
IsFrom a b list = (l : NumberedLiteral) → has list l ≡ true → (has a l ≡ true) ⊎ (has b l ≡ true)

-- a derivation from some of the forced and the given literals
pub record IsReached (forms : List Shape) (forced given list : List NumberedLiteral) : Type 0 where
  pub first : List NumberedLiteral
  pub within : IsFrom forced given first
  pub derived : Derives forms first list

-- one that has come to a conflict
pub record HasClash (forms : List Shape) (forced given : List NumberedLiteral) : Type 0 where
  pub list : List NumberedLiteral
  pub reached : IsReached forms forced given list
  pub conflict : Conflicts forms list

-- one from all of these literals that cannot be extended, and has no conflict
pub record IsCovered (forms : List Shape) (forced given list : List NumberedLiteral) : Type 0 where
  pub reached : IsReached forms forced given list
  pub keeps : IsWithin forced list
  pub covers : IsWithin given list
  pub settled : (x : Shape) → Contains forms x → IsSettled x list

-- The same with the values of the list.
pub record HasEnded (forms : List Shape) (forced given : List NumberedLiteral) (values : List (Option Bool)) : Type 0 where
  pub list : List NumberedLiteral
  pub covered : IsCovered forms forced given list
  pub agrees : (l : NumberedLiteral) → has list l ≡ says values l

-- a derivation from the given literals alone that cannot be extended, with the values of its list
pub record IsMade (forms : List Shape) (given : List NumberedLiteral) (values : List (Option Bool)) : Type 0 where
  pub list : List NumberedLiteral
  pub ended : IsEnded forms given list
  pub agrees : (l : NumberedLiteral) → has list l ≡ says values l

-- a derivation from the given literals alone has a conflict
abbrev pub IsClashed : List Shape → List NumberedLiteral → Type 0
IsClashed forms given = (list : List NumberedLiteral) × IsRefuted forms given list
