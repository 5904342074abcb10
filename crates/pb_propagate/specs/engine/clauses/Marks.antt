-- How far the literals of a list are walked, and how far they were when each of them was put.
use Rattle.pb_normal.specs.declared.numbered.NumberedLiteral.{NumberedLiteral}
use Rattle.pb_propagate.specs.declared.{clauses.Clauses.Clauses, clauses.lists.Watch.Watch, heads.Heads.Heads, heads.Walked.Walked}
use Rattle.pb_propagate.specs.engine.{clauses.Links.list_at, clauses.Links.watch_at, clauses.Shapes.literal_at, clauses.Walked.reached_codes, engine.Lists.has}
use Rattle.std.specs.Prelude.{◌≡◌, ℕ, ◌/◌, ◌<◌, ◌≤◌, true, Contains, List, length, take, Some, slice_get}

-- the heads are walked: if the negation of one of their literals is watched, its clause has a literal of the list
pub record IsMark (clauses : List (List ℕ)) (watches : List Watch) (list : List NumberedLiteral) (heads : Heads) : Type 0 where
  pub short : heads.short ≤ length list
  pub long : heads.long ≤ length list
  pub done : (e : ℕ) → (watch_at watches e).live ≡ true → Contains (reached_codes heads list) (watch_at watches e).literal →
      (x : ℕ) × Contains (list_at clauses (e / 2)) x × (has list (literal_at x) ≡ true)

-- each mark is walked under the literals before its position
abbrev pub AreMarks : List (List ℕ) → List Watch → List NumberedLiteral → List Heads → Type 0
AreMarks clauses watches list marks = (i : ℕ) (h : Heads) → slice_get marks i ≡ Some h → (i < length list) × IsMark clauses watches (take i list) h

-- how far the clauses are walked under a list, and were under its first literals
pub record IsWalkedTo (c : Clauses) (list : List NumberedLiteral) (w : Walked) : Type 0 where
  pub now : IsMark c.blocks.literals c.blocks.watches list w.heads
  pub marks : AreMarks c.blocks.literals c.blocks.watches list w.marks.items
  pub level : length w.marks.items ≡ length list

-- marks stay, and literals that were walked since have theirs
abbrev pub KeepsMarks : Clauses → Clauses → List NumberedLiteral → List NumberedLiteral → List Heads → List Heads → Type 0
KeepsMarks old new list list' marks marks' = length marks ≡ length list → AreMarks old.blocks.literals old.blocks.watches list marks → (length marks ≤ length marks') × AreMarks new.blocks.literals new.blocks.watches list' marks'
