-- The literals that a list falsifies, as codes, and how often clauses contain them.
use Rattle.pb_normal.specs.{declared.numbered.NumberedLiteral.NumberedLiteral, meaning.Rules.negation}
use Rattle.pb_propagate.specs.{declared.heads.Heads.Heads, engine.clauses.Shapes.code_in}
use Rattle.pb_propagate.specs.declared.{clause.Group.Group, clause.Group.TheVariants.Short, clause.Group.TheVariants.Long, heads.Ahead.Ahead}
use Rattle.std.specs.Prelude.{◌≡◌, ℕ, ◌+◌, ◌<◌, ◌==◌, ◌||◌, ◌++◌, false, Bool, [], ◌∷◌, List, map, take, length, count_by, sum_by, slice_index_or}

-- the code is on the list
abbrev pub has : List ℕ → ℕ → Bool
has [] x = false
has (y ∷ ys) x = (y == x) || has ys x

-- the occurrences of some codes in clauses
abbrev pub killed : List (List ℕ) → List ℕ → ℕ
killed clauses codes = sum_by (λ xs. count_by (λ x. has codes x) xs) clauses

-- the code, in a group, of the literal that is falsified if this one is true
abbrev pub falsified_code : Group → NumberedLiteral → ℕ
falsified_code g l = code_in g (negation l)

-- the codes that the first literals of the list falsify, as many in each group as the heads say
abbrev pub reached_codes : Heads → List NumberedLiteral → List ℕ
reached_codes h list = map (falsified_code Short) (take h.short list) ++ map (falsified_code Long) (take h.long list)

-- the occurrences, in clauses, of the codes that the heads reach
abbrev pub reached : List (List ℕ) → Heads → List NumberedLiteral → ℕ
reached clauses h list = killed clauses (map (falsified_code Short) (take h.short list)) + killed clauses (map (falsified_code Long) (take h.long list))

-- the heads that reach the first literals in both groups
abbrev pub heads_at : ℕ → Heads
heads_at n = record { short = n; long = n }

-- the occurrences, in clauses, of the codes that a list falsifies
abbrev pub fallen : List (List ℕ) → List NumberedLiteral → ℕ
fallen clauses list = killed clauses (map (falsified_code Short) list) + killed clauses (map (falsified_code Long) list)

abbrev pub head : Group → Heads → ℕ
head Short h = h.short
head Long h = h.long

-- one more literal is walked in the group
abbrev pub advanced : Group → Heads → Heads
advanced Short h = record { short = h.short + 1; long = h.long }
advanced Long h = record { short = h.short; long = h.long + 1 }

-- the code is that of the next literal in one of the groups
pub record IsAhead (heads : Heads) (list : List NumberedLiteral) (a : Ahead) : Type 0 where
  pub group : Group
  pub literal : NumberedLiteral
  pub inside : head group heads < length list
  pub is : literal ≡ slice_index_or list (head group heads) literal
  pub code : a.code ≡ falsified_code group literal
  pub after : a.heads ≡ advanced group heads
