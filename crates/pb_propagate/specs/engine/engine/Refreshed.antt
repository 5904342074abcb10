-- Forms of the root after literals lost their values.
use Rattle.pb_normal.specs.declared.numbered.NumberedLiteral.{NumberedLiteral}
use Rattle.pb_propagate.specs.declared.{clauses.Clauses.Clauses, engine.root.Root.Root, store.Store.Store}
use Rattle.pb_propagate.specs.engine.{clauses.Shapes.AreJoined, clauses.Shapes.all_of, clauses.Shapes.clauses_of, engine.Links.terms_at, engine.Rest.AreSlots}
use Rattle.pb_propagate.specs.engine.engine.{Counts.IsAbsent, Counts.IsCalm, Counts.weight_in, Fields.forms_of, Fields.shapes_of, Root.IsRootOf, Root.IsSized}
use Rattle.pb_propagate.specs.engine.engine.{Progress.list_of, Progress.reasons_of, Lists.Extends, Lists.IsDue, Lists.Shape, Lists.Weighted, Lists.open_sum}
use Rattle.std.specs.Prelude.{◌≡◌, ℕ, ◌+◌, ◌<◌, ◌⊎◌, List, length, Some, slice_get, slice_index, slice_index_or}

-- the form has its first term as candidate; it waits, or is calm
pub record IsRefreshed (store : Store) (root : Root) (s : ℕ) : Type 0 where
  pub passed : slice_index_or root.run.candidates s 0 ≡ 0
  pub calm : IsAbsent root.waiting.list.items 0 s → (d : Shape) (c : ℕ) → IsCalm (slice_index_or (shapes_of store.stored.items) s d) (slice_index_or root.run.opens s 0) c

-- the form is as it was
pub record IsUntouched (old new : Root) (s : ℕ) : Type 0 where
  pub opened : slice_index_or new.run.opens s 0 ≡ slice_index_or old.run.opens s 0
  pub passed : slice_index_or new.run.candidates s 0 ≡ slice_index_or old.run.candidates s 0
  pub absent : IsAbsent new.waiting.list.items 0 s → IsAbsent old.waiting.list.items 0 s

-- some forms are refreshed, and nothing else has changed
pub record AreRefreshed (store : Store) (old new : Root) : Type 0 where
  pub each : (s : ℕ) → IsUntouched old new s ⊎ IsRefreshed store new s
  pub sized : IsSized store new
  pub assignment : new.run.assignment ≡ old.run.assignment
  pub work : new.run.work ≡ old.run.work
  pub trail : new.run.trail ≡ old.run.trail
  pub next : new.run.next ≡ old.run.next
  pub walked : new.walked ≡ old.walked
  pub opens : old.run.opens ≡ old.rests.opens → new.run.opens ≡ new.rests.opens
  pub starts : old.run.candidates ≡ old.rests.starts → new.run.candidates ≡ new.rests.starts
  pub live : (i s : ℕ) → slice_get new.waiting.list.items i ≡ Some s → (0 < length (terms_at (shapes_of store.stored.items) s)) ⊎ ((j : ℕ) × (slice_get old.waiting.list.items j ≡ Some s))

-- the open sums are those under the list, but for the entries that are still to be added
abbrev pub Lacks : Store → Root → List Weighted → Type 0
Lacks store root rest = (s : ℕ) (d : Shape) → s < length store.stored.items → slice_index root.run.opens s + weight_in s rest ≡ open_sum (list_of root.run) (slice_index_or (shapes_of store.stored.items) s d).terms

-- the root is one of the store's forms and of some clauses
abbrev pub IsSomeRoot : Store → Root → Type 0
IsSomeRoot store root = (clauses : Clauses) × AreJoined (shapes_of store.stored.items) (clauses_of clauses) × AreSlots (forms_of store.stored.items) (all_of store clauses) × IsRootOf store clauses root

-- the list is cut to its first literals, with the same reasons, and the root is still one of its forms
pub record IsShortened (store : Store) (old new : Root) : Type 0 where
  pub sized : IsSized store new
  pub first : Extends (list_of new.run) (list_of old.run)
  pub reasons : new.run.assignment.reasons ≡ old.run.assignment.reasons
  pub rooted : (clauses : Clauses) → AreSlots (forms_of store.stored.items) (all_of store clauses) → IsRootOf store clauses old → IsRootOf store clauses new

-- no more literals are due to the slot, and the root is still one of its forms
pub record IsReleased (store : Store) (slot : ℕ) (old new : Root) : Type 0 where
  pub sized : IsSized store new
  pub fewer : (l : NumberedLiteral) → IsDue slot (list_of new.run) (reasons_of new.run) l → IsDue slot (list_of old.run) (reasons_of old.run) l
  pub rooted : (clauses : Clauses) → AreJoined (shapes_of store.stored.items) (clauses_of clauses) → AreSlots (forms_of store.stored.items) (all_of store clauses) → IsRootOf store clauses old → IsRootOf store clauses new
