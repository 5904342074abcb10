-- A run of propagation as lists, and what each function of propagation does to it.
use Rattle.pb_normal.specs.{declared.numbered.NumberedLiteral.NumberedLiteral, meaning.Rules.negation}
use Rattle.pb_propagate.specs.{declared.store.Visited.Visited, engine.clauses.Links.watch_lists, engine.clauses.Links.list_at}
use Rattle.pb_propagate.specs.declared.{clauses.Clauses.Clauses, heads.Heads.Heads, rests.Rests.Rests, run.Run.Run, store.Store.Store}
use Rattle.pb_propagate.specs.engine.clauses.{Marks.IsMark, Runs.AreServed, Runs.AreWalked, Runs.passed_of, Shapes.clauses_of, Walked.fallen, Walked.reached}
use Rattle.pb_propagate.specs.engine.engine.{Fields.shapes_of, Fields.entries_of, Links.coefficient_at}
use Rattle.pb_propagate.specs.engine.engine.Counts.{place, Grown, IsCalm, IsCounted, IsTidy, IsAbsent, IsUndone, AreFound, AreSingle, beside, rest_open, spent}
use Rattle.pb_propagate.specs.engine.engine.Lists.{Shape, Weighted, Extends, HaveReasons, KeepsReasons, IsSettled, has}
use Rattle.std.specs.Prelude.{◌≡◌, ℕ, ◌+◌, ◌-◌, ◌*◌, ◌<◌, ◌≤◌, ◌++◌, ◌∷◌, [], true, false, Contains, Result, IfOk, List, Bool, Option, Some, length, sum, sum_by, slice_get, slice_set, slice_index, slice_index_or}

-- the state of a run
pub record Progress : Type 0 where
  pub opens : List ℕ
  pub candidates : List ℕ
  pub work : List ℕ
  pub trail : List ℕ
  pub values : List (Option Bool)
  pub list : List NumberedLiteral
  pub next : ℕ
  pub visits : ℕ

abbrev pub progress : Run → Progress
progress r = record {
  opens = r.opens;
  candidates = r.candidates;
  work = r.work.items;
  trail = r.trail.items;
  values = r.assignment.values.items;
  list = r.assignment.list.items;
  next = r.next;
  visits = r.visits;
}

-- what a run reads: forms, the entries of each literal, and the state to which forms return
pub record Database : Type 0 where
  pub forms : List Shape
  pub lists : List (List Weighted)
  pub rests : Rests

abbrev pub database : Store → Rests → Database
database store rests = record {
  forms = shapes_of store.stored.items;
  lists = entries_of (shapes_of store.stored.items) store.occurrences;
  rests = rests;
}

-- the entries that are subtracted when a literal is assigned
abbrev pub entries_against : Database → NumberedLiteral → List Weighted
entries_against d l = slice_index_or d.lists (place (negation l)) []

-- forms are calm, except those set aside, the one that is visited, and those on the work list
abbrev pub IsTidyAt : Database → List ℕ → ℕ → Progress → Type 0
IsTidyAt d aside busy p = IsTidy (beside d.rests aside) d.forms p.opens p.candidates p.list p.work p.trail p.next busy

-- what was calm still is
abbrev pub StaysTidy : Database → Progress → Progress → Type 0
StaysTidy d old new = (aside : List ℕ) (busy : ℕ) → IsTidyAt d aside busy old → IsTidyAt d aside busy new

-- An entry is subtracted from its form's open sum. The form is then on the work list unless it is calm, and on the trail
-- unless its open sum was already another one than at rest.
pub record Lowers (d : Database) (e : Visited) (old new : Progress) : Type 0 where
  pub opens : new.opens ≡ slice_set old.opens e.form (slice_index old.opens e.form - coefficient_at d.forms e.form e.index)
  pub work : Grown ((f : Shape) (c : ℕ) → IsCalm (slice_index_or d.forms e.form f) (slice_index old.opens e.form - coefficient_at d.forms e.form e.index) c) e.form old.work new.work
  pub trail : Grown ((f : Shape) → slice_index old.opens e.form ≡ rest_open d.rests e.form (slice_index_or d.forms e.form f) → ⊥) e.form old.trail new.trail
  pub candidates : new.candidates ≡ old.candidates
  pub list : new.list ≡ old.list
  pub next : new.next ≡ old.next

-- What a part of a run costs, also if an allocation ends it. Each visit is paid by an entry that was subtracted, by a term
-- that was passed, or by the difference of `after` and `before`.
pub record Costs (d : Database) (before after : ℕ) (old new : Progress) : Type 0 where
  pub extends : Extends old.list new.list
  pub single : AreSingle old.list → AreSingle new.list
  pub paid : new.visits + before + sum old.candidates + spent d.lists old.list ≤ old.visits + after + sum new.candidates + spent d.lists new.list

-- what a part of a run does: each list stays as long, or grows, and each new entry of the work list is paid by one that
-- was subtracted
pub record Advances (d : Database) (before after : ℕ) (old new : Progress) : Type 0 where
  pub costs : Costs d before after old new
  pub values : length new.values ≡ length old.values
  pub opens : length new.opens ≡ length old.opens
  pub candidates : length new.candidates ≡ length old.candidates
  pub next : new.next ≡ old.next
  pub absent : (s : ℕ) → IsAbsent new.work 0 s → IsAbsent old.work 0 s
  pub longer : length old.work ≤ length new.work
  pub work : length new.work + spent d.lists old.list ≤ length old.work + spent d.lists new.list
  pub rising : old.visits ≤ new.visits

-- The cost of a whole propagation, also of one that an allocation ends. Two visits are paid by each entry that was
-- subtracted, one by each term that was passed, and the others by the difference of `after` and `before`.
pub record Spends (d : Database) (before after : ℕ) (old new : Progress) : Type 0 where
  pub extends : Extends old.list new.list
  pub single : AreSingle new.list
  pub bounded : sum new.candidates ≤ sum_by (λ f. length f.terms) d.forms
  pub upper : new.visits + before + sum old.candidates + 2 * spent d.lists old.list ≤ old.visits + after + sum new.candidates + 2 * spent d.lists new.list

-- how many forms are on the work list, or wait
abbrev pub queued : List ℕ → Progress → ℕ
queued waiting p = (length p.work + length waiting) - p.next

-- two visits for each watch of the literals, and one for each literal that a search passed
abbrev pub seen : Clauses → List NumberedLiteral → ℕ → ℕ
seen c list searched = 2 * fallen (clauses_of c) list + searched

-- the list has gained no more literals than there were visits
abbrev pub VisitsEach : Progress → Progress → Type 0
VisitsEach old new = AreFound (length old.list) (length new.list) old.visits new.visits

-- whether an answer is yes or no, without a failed allocation
abbrev pub IfFound : {E : Type 0} → Result Bool E → Type 0 → Type 0
IfFound result P = IfOk result (λ found. found ≡ true → P)

abbrev pub IfNotFound : {E : Type 0} → Result Bool E → Type 0 → Type 0
IfNotFound result P = IfOk result (λ found. found ≡ false → P)

-- no form is falsified, and none forces a literal
abbrev pub AreSettled : List Shape → List NumberedLiteral → Type 0
AreSettled forms list = (f : Shape) → Contains forms f → IsSettled f list

-- the same of the program's values
abbrev pub RunIsTidy : Store → Rests → List ℕ → ℕ → Run → Type 0
RunIsTidy store rests aside busy run = IsTidyAt (database store rests) aside busy (progress run)

abbrev pub shapes_in : Store → List Shape
shapes_in store = shapes_of store.stored.items

abbrev pub list_of : Run → List NumberedLiteral
list_of run = run.assignment.list.items

abbrev pub values_of : Run → List (Option Bool)
values_of run = run.assignment.values.items

-- the open sums of the run are those of its literals
abbrev pub RunIsCounted : Store → Run → Type 0
RunIsCounted store run = IsCounted (shapes_in store) run.opens (list_of run) []

-- the lists have an entry for each variable and each form, and the open sums are those of the literals
pub record AreOpen (store : Store) (os cs work : List ℕ) (at : ℕ) (vs : List (Option Bool)) (list : List NumberedLiteral) : Type 0 where
  pub values : length vs ≡ store.variables
  pub opens : length os ≡ length store.stored.items
  pub candidates : length cs ≡ length store.stored.items
  pub next : at ≤ length work
  pub counted : IsCounted (shapes_in store) os list []

abbrev pub RunIsOpen : Store → Run → Type 0
RunIsOpen store run = AreOpen store run.opens run.candidates run.work.items run.next (values_of run) (list_of run)

-- no form is being visited
abbrev pub RunIsCalm : Store → Rests → List ℕ → Run → Type 0
RunIsCalm store rests aside run = RunIsTidy store rests aside (length store.stored.items) run

abbrev pub RunIsUndone : Store → Rests → ℕ → Run → Type 0
RunIsUndone store rests from run = IsUndone rests (shapes_of store.stored.items) run.opens run.candidates run.trail.items from

abbrev pub RunVisitsEach : Run → Run → Type 0
RunVisitsEach old new = VisitsEach (progress old) (progress new)

-- the form's open sum is below its degree
abbrev pub RunIsShort : Store → Rests → ℕ → Run → Type 0
RunIsShort store rests form run = (f : Shape) → slice_index run.opens form < (slice_index_or (shapes_in store) form f).degree

-- the entry's coefficient can be subtracted
abbrev pub RunFits : Store → Visited → Run → Type 0
RunFits store e run = coefficient_at (shapes_in store) e.form e.index ≤ slice_index run.opens e.form

-- the reasons of literals, by variable
abbrev pub reasons_of : Run → List ℕ
reasons_of run = run.assignment.reasons.items

abbrev pub RunKeepsReasons : Run → Run → Type 0
RunKeepsReasons old new = KeepsReasons (list_of old) (reasons_of old) (reasons_of new)

-- each new literal was propagated by the constraint that is its reason
pub record RunReasons (forms : List Shape) (old new : Run) : Type 0 where
  pub kept : RunKeepsReasons old new
  pub added : HaveReasons forms (reasons_of new) (list_of old) (list_of new)

-- the constraint of the slot is the literal's reason if it was added
abbrev pub RunRecords : ℕ → NumberedLiteral → Run → Run → Type 0
RunRecords slot l old new = has (list_of old) l ≡ false → has (list_of old) (negation l) ≡ false → slice_get (reasons_of new) l.variable ≡ Some slot

abbrev pub RunLowers : Store → Rests → Visited → Run → Run → Type 0
RunLowers store rests e old new = Lowers (database store rests) e (progress old) (progress new)

abbrev pub RunCosts : Store → Rests → ℕ → ℕ → Run → Run → Type 0
RunCosts store rests before after old new = Costs (database store rests) before after (progress old) (progress new)

abbrev pub RunAdvances : Store → Rests → ℕ → ℕ → Run → Run → Type 0
RunAdvances store rests before after old new = Advances (database store rests) before after (progress old) (progress new)

-- the same for a walk over the watches of a literal: two visits for each watch, and one for each literal that a search passed
abbrev pub WalkCosts : Store → Rests → Clauses → Clauses → ℕ → Run → Run → Type 0
WalkCosts store rests c c' literal old new = RunCosts store rests (sum (passed_of c)) (2 * length (list_at (watch_lists c.lists) literal) + sum (passed_of c')) old new

-- two visits for each watch of the literals that the heads reach, and one for each literal that a search passed
abbrev pub seen_to : Clauses → Heads → List NumberedLiteral → ℕ
seen_to c from list = 2 * reached (clauses_of c) from list + sum (passed_of c)

-- some literals were walked before; all clauses may have been searched to their ends
abbrev pub RunSpends : Store → Rests → Clauses → Heads → List ℕ → Run → Run → Type 0
RunSpends store rests c from waiting old new =
    Spends (database store rests) (seen_to c from (list_of old)) (queued waiting (progress old) + seen c (list_of new) (sum_by length (clauses_of c))) (progress old) (progress new)

-- the same of a propagation that has ended: the clauses were searched as far as is known
abbrev pub RunPays : Store → Rests → Clauses → Clauses → Heads → List ℕ → Run → Run → Type 0
RunPays store rests c c' from waiting old new =
    Spends (database store rests) (seen_to c from (list_of old)) (queued waiting (progress old) + seen c (list_of new) (sum (passed_of c'))) (progress old) (progress new)

-- the literals that the heads reach are walked
abbrev pub RunIsWalked : Heads → Clauses → Run → Type 0
RunIsWalked heads c run = IsMark c.blocks.literals c.blocks.watches run.assignment.list.items heads

-- the watches of one more literal were walked
abbrev pub HasWalked : Clauses → Clauses → ℕ → Run → Run → Type 0
HasWalked c c' literal old new = (walked : List ℕ) → AreServed old.assignment.values.items c.blocks.literals c.blocks.watches walked literal 0 → AreWalked new.assignment.values.items c'.blocks.literals c'.blocks.watches (walked ++ literal ∷ [])
