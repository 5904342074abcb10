-- The root: a propagation from nothing without a conflict, to which questions return.
use Rattle.pb_normal.specs.{declared.numbered.NumberedLiteral.NumberedLiteral, meaning.Form.Form, meaning.Rules.negation}
use Rattle.pb_propagate.specs.declared.{assignment.Assignment.Assignment, clauses.Clauses.Clauses, engine.conflict.Conflict.Conflict}
use Rattle.pb_propagate.specs.declared.{engine.root.Root.Root, heads.Walked.Walked, rests.Rests.Rests, run.Run.Run, store.Store.Store}
use Rattle.pb_propagate.specs.declared.{store.stored_form.StoredForm.StoredForm, term.Term.Term, waiting.Waiting.Waiting}
use Rattle.pb_propagate.specs.engine.clauses.{Links.list_at, Links.watch_at, Marks.IsWalkedTo}
use Rattle.pb_propagate.specs.engine.clauses.{Shapes.AreJoined, Shapes.clauses_of, Shapes.all_of, Shapes.joined, Truths.false_at, Walked.heads_at}
use Rattle.pb_propagate.specs.engine.clauses.Runs.{AreFree, AreReady, IsRunning, IsSameWatch}
use Rattle.pb_propagate.specs.engine.engine.{Fields.shapes_of, Fields.forms_of, Fields.IsSound, Fields.IsEmpty, Forms.IsStoredAs}
use Rattle.pb_propagate.specs.engine.engine.{Slots.form_at, Slots.numbered, Slots.ArePlaced, Waiting.IsWithout, Counts.AreFound, Counts.IsTidy, Counts.beside}
use Rattle.pb_propagate.specs.engine.engine.Lists.{Shape, Derives, HaveReasons, IsDue, Conflicts, IsSettled, has, open_sum}
use Rattle.pb_propagate.specs.engine.engine.Progress.{RunSpends, RunPays, RunVisitsEach, list_of, values_of}
use Rattle.std.specs.Prelude.{◌≡◌, ℕ, ◌+◌, ◌*◌, ◌/◌, ◌<◌, ◌≤◌, ◌⊎◌, ◌++◌, ◌∷◌, Contains, true, false, List, [], Bool, Option, Some, length, sum_by, slice_get, slice_set, slice_index, slice_index_or}

-- the slot has a form
abbrev pub HasForm : Store → ℕ → Type 0
HasForm store s = (f : Form) × (form_at (forms_of store.stored.items) s ≡ Some f)

-- The state of the forms under the literals that they force. The forms that wait may force more. One form may be left out:
-- none is if `busy` is no form's number.
pub record IsRooted (store : Store) (clauses : Clauses) (run : Run) (rests : Rests) (waiting : Waiting) (walked : Walked) (busy : ℕ) : Type 0 where
  pub values : length run.assignment.values.items ≡ store.variables
  pub opens : run.opens ≡ rests.opens
  pub starts : run.candidates ≡ rests.starts
  pub open_sizes : length run.opens ≡ length store.stored.items
  pub start_sizes : length run.candidates ≡ length store.stored.items
  pub counted : (s : ℕ) (d : Shape) → s < length store.stored.items → (s ≡ busy → ⊥) → slice_index run.opens s ≡ open_sum run.assignment.list.items (slice_index_or (shapes_of store.stored.items) s d).terms
  pub tidy : IsTidy (beside rests waiting.list.items) (shapes_of store.stored.items) run.opens run.candidates run.assignment.list.items [] [] 0 busy
  pub work : run.work.items ≡ []
  pub trail : run.trail.items ≡ []
  pub next : run.next ≡ 0
  pub reasoned : HaveReasons (all_of store clauses) run.assignment.reasons.items [] run.assignment.list.items
  pub walks : IsWalkedTo clauses run.assignment.list.items walked
  pub positions : length waiting.positions ≡ length store.stored.items
  pub live : (i s : ℕ) → slice_get waiting.list.items i ≡ Some s → HasForm store s

-- the same of the program's root, with no form left out
abbrev pub IsRootOf : Store → Clauses → Root → Type 0
IsRootOf store clauses root = IsRooted store clauses root.run root.rests root.waiting root.walked (length store.stored.items)

-- the number of terms of all constraints
abbrev pub terms_of_all : Store → Clauses → ℕ
terms_of_all store clauses = sum_by (λ (f : Shape). length f.terms) (all_of store clauses)

-- each number has the same form
abbrev pub HasSameForms : Store → Store → Type 0
HasSameForms old new = (places : List ℕ) → ArePlaced (forms_of old.stored.items) places → numbered (forms_of new.stored.items) places ≡ numbered (forms_of old.stored.items) places

-- a literal of the clause is not falsified
abbrev pub IsFree : List (Option Bool) → List ℕ → ℕ → Type 0
IsFree values codes x = Contains codes x × (false_at values x ≡ false)

-- the constraint of the slot is not falsified
abbrev pub IsMet : List Shape → ℕ → List NumberedLiteral → Type 0
IsMet forms slot list = (x : Shape) → slice_get forms slot ≡ Some x → x.degree ≤ open_sum list x.terms

-- the literals follow from the constraints, and one of these is falsified under them
pub record IsConflict (forms : List Shape) (a : Assignment) : Type 0 where
  pub reasoned : HaveReasons forms a.reasons.items [] a.list.items
  pub slot : ℕ
  pub form : Shape
  pub stored : slice_get forms slot ≡ Some form
  pub low : open_sum a.list.items form.terms < form.degree

-- a conflict is kept, or nothing is assigned
pub record IsKeptConflict (forms : List Shape) (variables : ℕ) (conflict : Conflict) : Type 0 where
  pub few : length conflict.assignment.values.items ≤ variables
  pub values : conflict.met ≡ true → length conflict.assignment.values.items ≡ variables
  pub none : conflict.met ≡ false → conflict.assignment.list.items ≡ []
  pub holds : conflict.met ≡ true → IsConflict forms conflict.assignment

-- no conflict is kept
pub record IsVacant (variables : ℕ) (conflict : Conflict) : Type 0 where
  pub unmet : conflict.met ≡ false
  pub few : length conflict.assignment.values.items ≤ variables
  pub list : conflict.assignment.list.items ≡ []

-- no question is in progress
pub record IsStanding (store : Store) (clauses : Clauses) (root : Root) : Type 0 where
  pub rooted : IsRootOf store clauses root
  pub sound : IsSound store
  pub joined : AreJoined (shapes_of store.stored.items) (clauses_of clauses)
  pub ready : AreReady clauses
  pub widths : length clauses.lists ≡ 4 * store.variables

-- what a question leaves: the same forms, no search in progress, the root, and a conflict if one is met
pub record IsLeft (before store : Store) (old clauses : Clauses) (root : Root) (noted : Conflict) : Type 0 where
  pub sound : IsSound store
  pub kept : store.stored.items ≡ before.stored.items
  pub ready : AreReady clauses
  pub lists : length clauses.lists ≡ length old.lists
  pub rooted : IsRootOf store clauses root
  pub conflict : IsKeptConflict (all_of before old) before.variables noted

-- the cost of an update of the root, also of one that an allocation ends; `ended` is its run before it goes back
pub record UpdateCosts (store : Store) (clauses : Clauses) (old new : Root) : Type 0 where
  pub ended : Run
  pub spends : RunSpends store old.rests clauses old.walked.heads old.waiting.list.items old.run ended
  pub visits : new.run.visits ≡ ended.visits

-- an update that has met a conflict
pub record HasMet (store : Store) (old clauses : Clauses) (root root' : Root) (conflict : Conflict) : Type 0 where
  pub ready : AreReady clauses
  pub met : conflict.met ≡ true
  pub found : AreFound (length (list_of root.run)) (length conflict.assignment.list.items) root.run.visits root'.run.visits

-- an update that has met none: no form waits any more
pub record HasUpdated (store : Store) (old clauses : Clauses) (root root' : Root) : Type 0 where
  pub running : IsRunning (values_of root'.run) clauses
  pub pays : RunPays store root.rests old clauses root.walked.heads root.waiting.list.items root.run root'.run
  pub found : RunVisitsEach root.run root'.run
  pub none : root'.waiting.list.items ≡ []
  pub walked : root'.walked.heads ≡ heads_at (length (list_of root'.run))

-- the literal is that of the only term
abbrev pub IsOnly : List Term → NumberedLiteral → Type 0
IsOnly terms l = (c : ℕ) × (terms ≡ record { literal = l; coefficient = c } ∷ [])

-- the slot is another one, and its form is a unit of the literal
pub record IsOtherUnit (forms : List Shape) (slot : ℕ) (l : NumberedLiteral) (unit : ℕ) : Type 0 where
  pub apart : unit ≡ slot → ⊥
  pub inside : unit < length forms
  pub only : (d : Shape) → IsOnly (slice_index_or forms unit d).terms l
  pub positive : (d : Shape) → 0 < (slice_index_or forms unit d).degree

-- reasons were replaced by others that hold too: no more literals are due to the slot
pub record HasOtherReasons (shapes : List Shape) (slot : ℕ) (old new : Assignment) : Type 0 where
  pub list : new.list ≡ old.list
  pub values : new.values ≡ old.values
  pub reasoned : (clauses : List (List ℕ)) → AreJoined shapes clauses → HaveReasons (joined shapes clauses) old.reasons.items [] old.list.items → HaveReasons (joined shapes clauses) new.reasons.items [] new.list.items
  pub fewer : (l : NumberedLiteral) → IsDue slot new.list.items new.reasons.items l → IsDue slot old.list.items old.reasons.items l

-- each literal of the list has a reason other than the constraint of the slot
pub record IsNeedless (forms : List Shape) (slot : ℕ) (a : Assignment) : Type 0 where
  pub reasoned : HaveReasons forms a.reasons.items [] a.list.items
  pub none : (l : NumberedLiteral) → IsDue slot a.list.items a.reasons.items l → ⊥

-- the form of a slot went
pub record HasCleared (before : Store) (old : Clauses) (store : Store) (clauses : Clauses) (slot : ℕ) : Type 0 where
  pub variables : store.variables ≡ before.variables
  pub kept : (k : StoredForm) × IsEmpty k × (store.stored.items ≡ slice_set before.stored.items slot k)
  pub emptied : clauses_of clauses ≡ slice_set (clauses_of old) slot []
  pub watched : (e : ℕ) → (e / 2 ≡ slot → ⊥) → IsSameWatch (watch_at old.blocks.watches e) (watch_at clauses.blocks.watches e)

-- the lists have an entry for each form and each variable
pub record IsSized (store : Store) (root : Root) : Type 0 where
  pub values : length root.run.assignment.values.items ≡ store.variables
  pub opens : length root.run.opens ≡ length store.stored.items
  pub candidates : length root.run.candidates ≡ length store.stored.items
  pub rest_opens : length root.rests.opens ≡ length store.stored.items
  pub rest_starts : length root.rests.starts ≡ length store.stored.items
  pub positions : length root.waiting.positions ≡ length store.stored.items

-- there was a root of the same forms that does not need the one of the slot, and the lists have the entry of an empty form
-- for it
pub record HasRemoved (store : Store) (clauses : Clauses) (slot : ℕ) (root : Root) : Type 0 where
  pub mid : Root
  pub rooted : IsRootOf store clauses mid
  pub needless : IsNeedless (all_of store clauses) slot mid.run.assignment
  pub assignment : root.run.assignment ≡ mid.run.assignment
  pub work : root.run.work ≡ mid.run.work
  pub trail : root.run.trail ≡ mid.run.trail
  pub next : root.run.next ≡ mid.run.next
  pub opens : root.run.opens ≡ slice_set mid.run.opens slot 0
  pub candidates : root.run.candidates ≡ slice_set mid.run.candidates slot 0
  pub rest_opens : root.rests.opens ≡ slice_set mid.rests.opens slot 0
  pub rest_starts : root.rests.starts ≡ slice_set mid.rests.starts slot 0
  pub waiting : IsWithout slot mid.waiting.list.items root.waiting.list.items
  pub positions : length root.waiting.positions ≡ length mid.waiting.positions
  pub walked : root.walked ≡ mid.walked

-- a form came into a slot that was empty, or into a new one
pub record HasGained (before : Store) (old : Clauses) (store : Store) (clauses : Clauses) (slot : ℕ) : Type 0 where
  pub variables : store.variables ≡ before.variables
  pub longer : (length store.stored.items ≡ length before.stored.items) ⊎ ((length store.stored.items ≡ length before.stored.items + 1) × (slot ≡ length before.stored.items))
  pub kept : (s : ℕ) → (s ≡ slot → ⊥) → slice_get store.stored.items s ≡ slice_get before.stored.items s
  pub filled : (s : ℕ) → (s ≡ slot → ⊥) → list_at (clauses_of clauses) s ≡ list_at (clauses_of old) s
  pub bare : (x : Shape) → slice_get (all_of before old) slot ≡ Some x → x.terms ≡ []
  pub empty : HasForm before slot → ⊥
  pub full : HasForm store slot
  pub watched : (e : ℕ) → (e / 2 ≡ slot → ⊥) → watch_at clauses.blocks.watches e ≡ watch_at old.blocks.watches e

-- the root is that of the forms before one came into the slot, and falsifies no watched literal of that one
abbrev pub WasRootOf : Store → Clauses → ℕ → Root → Type 0
WasRootOf store clauses slot root = (before : Store) × (old : Clauses) × IsRootOf before old root × HasGained before old store clauses slot × AreFree root.run.assignment.values.items clauses.blocks.watches slot

-- each list has an entry for the slot
pub record RunIsWidened (run run' : Run) (rests rests' : Rests) (waiting waiting' : Waiting) (slot : ℕ) : Type 0 where
  pub waits : waiting'.list.items ≡ waiting.list.items
  pub positions : length waiting.positions ≡ length run.opens → length waiting'.positions ≡ length run'.opens
  pub assignment : run'.assignment ≡ run.assignment
  pub work : run'.work ≡ run.work
  pub trail : run'.trail ≡ run.trail
  pub next : run'.next ≡ run.next
  pub lists :
      ((slot < length run.opens) × (run'.opens ≡ run.opens) × (run'.candidates ≡ run.candidates) × (rests'.opens ≡ rests.opens) × (rests'.starts ≡ rests.starts)) ⊎
      ((length run.opens ≤ slot) × (run'.opens ≡ run.opens ++ (0 ∷ [])) × (run'.candidates ≡ run.candidates ++ (0 ∷ [])) × (rests'.opens ≡ rests.opens ++ (0 ∷ [])) × (rests'.starts ≡ rests.starts ++ (0 ∷ [])))

-- nothing changed, or an empty slot came after the others
pub record HasWidened (before : Store) (old : Clauses) (store : Store) (clauses : Clauses) (slot : ℕ) : Type 0 where
  pub kept : ((store.stored.items ≡ before.stored.items) × (clauses_of clauses ≡ clauses_of old)) ⊎ ((slot ≡ length before.stored.items) × (k : StoredForm) × (store.stored.items ≡ before.stored.items ++ (k ∷ [])) × (clauses_of clauses ≡ clauses_of old ++ ([] ∷ [])))
  pub watched : (e : ℕ) → watch_at clauses.blocks.watches e ≡ watch_at old.blocks.watches e

-- what a propagation from nothing has found: each literal of its list was visited
pub record IsAnswered (shapes : List Shape) (visits : ℕ) (found : Bool) : Type 0 where
  pub list : List NumberedLiteral
  pub derived : Derives shapes [] list
  pub few : length list ≤ visits
  pub one_sided : (l : NumberedLiteral) → has list l ≡ true → has list (negation l) ≡ false
  pub conflict : found ≡ true → Conflicts shapes list
  pub settled : found ≡ false → (f : Shape) → Contains shapes f → IsSettled f list

-- What a question has found: a conflict of the constraints that are live, or what follows with the form that was asked about.
pub data IsAsked (form : Form) (shapes : List Shape) (visits : ℕ) (found : Bool) : Type 0 where
  alone : found ≡ true → IsAnswered shapes visits true → IsAsked form shapes visits found
  posed : (x : Shape) → IsStoredAs form x → IsAnswered (shapes ++ (x ∷ [])) visits found → IsAsked form shapes visits found
