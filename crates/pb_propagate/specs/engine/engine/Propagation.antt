-- What the functions of a propagation need, and what they leave.
use Rattle.pb_propagate.specs.declared.{clauses.Clauses.Clauses, heads.Heads.Heads, rests.Rests.Rests, run.Run.Run, store.Store.Store}
use Rattle.pb_propagate.specs.engine.clauses.{Shapes.AreJoined, Shapes.clauses_of, Shapes.all_of, Walked.heads_at, Links.watch_lists, Links.list_at}
use Rattle.pb_propagate.specs.engine.clauses.Runs.{AreReady, Grows, IsRunning, KeepsWalked, passed_of}
use Rattle.pb_propagate.specs.engine.engine.{Counts.AreSingle, Counts.IsUndone, Lists.Extends}
use Rattle.pb_propagate.specs.engine.engine.Progress.{AreSettled, list_of, values_of, shapes_in, RunIsOpen, RunIsCounted, RunIsCalm, RunIsUndone, RunIsWalked, RunKeepsReasons, RunReasons, RunAdvances, StaysTidy, RunVisitsEach, RunPays, database, progress}
use Rattle.std.specs.Prelude.{◌≡◌, ℕ, ◌+◌, ◌*◌, ◌≤◌, [], List, length, sum, take}

-- literals were assigned: forms that were calm still are, and the literals before keep their reasons
pub record RunPuts (store : Store) (rests : Rests) (after : ℕ) (old new : Run) : Type 0 where
  pub advances : RunAdvances store rests 0 after old new
  pub tidy : StaysTidy (database store rests) (progress old) (progress new)
  pub kept : RunKeepsReasons old new

-- a form was visited
pub record RunVisits (store : Store) (rests : Rests) (old new : Run) : Type 0 where
  pub advances : RunAdvances store rests 0 1 old new
  pub reasons : RunReasons (shapes_in store) old new
  pub undone : RunIsUndone store rests 0 new
  pub found : RunVisitsEach old new

-- watches of a literal were walked
pub record RunWalks (store : Store) (rests : Rests) (before after : Clauses) (literal : ℕ) (old new : Run) : Type 0 where
  pub advances : RunAdvances store rests (sum (passed_of before)) (2 * length (list_at (watch_lists before.lists) literal) + sum (passed_of after)) old new
  pub reasons : RunReasons (all_of store before) old new
  pub tidy : StaysTidy (database store rests) (progress old) (progress new)
  pub running : IsRunning (values_of new) after
  pub kept : KeepsWalked (values_of old) before after
  pub grows : Grows (values_of old) (values_of new)
  pub found : RunVisitsEach old new

-- the run may be propagated: no form is falsified or forces a literal but those of the work list and those that wait
pub record IsReadyRun (store : Store) (rests : Rests) (clauses : Clauses) (waiting : List ℕ) (heads : Heads) (run : Run) : Type 0 where
  pub sums : RunIsOpen store run
  pub single : AreSingle (list_of run)
  pub tidy : RunIsCalm store rests waiting run
  pub joined : AreJoined (shapes_in store) (clauses_of clauses)
  pub running : IsRunning (values_of run) clauses
  pub walked : RunIsWalked heads clauses run

-- what a propagation leaves, also after a conflict: it can be undone
pub record Propagates (store : Store) (rests : Rests) (before after : Clauses) (old new : Run) : Type 0 where
  pub running : IsRunning (values_of new) after
  pub kept : KeepsWalked (values_of old) before after
  pub values : length (values_of new) ≡ length (values_of old)
  pub opens : length new.opens ≡ length store.stored.items
  pub candidates : length new.candidates ≡ length store.stored.items
  pub undone : RunIsUndone store rests 0 new
  pub extends : Extends (list_of old) (list_of new)
  pub reasons : RunKeepsReasons old new

-- each new literal was visited
pub record RunGains (old new : Run) : Type 0 where
  pub found : RunVisitsEach old new
  pub rising : old.visits ≤ new.visits

-- what a propagation leaves without a conflict
pub record HasPropagated (store : Store) (rests : Rests) (before after : Clauses) (waiting : List ℕ) (heads : Heads) (old new : Run) : Type 0 where
  pub walked : RunIsWalked (heads_at (length (list_of new))) after new
  pub pays : RunPays store rests before after heads waiting old new
  pub settled : AreSettled (all_of store before) (list_of new)
  pub counted : RunIsCounted store new
  pub tidy : RunIsCalm store rests [] new
  pub done : length new.work.items ≤ new.next

-- questions return to the state of the run from now on
pub record IsSaved (old new : Run) (rests : Rests) : Type 0 where
  pub opens : new.opens ≡ old.opens
  pub candidates : new.candidates ≡ old.candidates
  pub assignment : new.assignment ≡ old.assignment
  pub work : new.work.items ≡ []
  pub trail : new.trail.items ≡ []
  pub next : new.next ≡ 0
  pub visits : new.visits ≡ old.visits
  pub rest_opens : rests.opens ≡ old.opens
  pub rest_starts : rests.starts ≡ old.candidates

-- a question was undone, back to the first literals of its list
pub record GoesBack (store : Store) (rests : Rests) (before after : Clauses) (count : ℕ) (old new : Run) : Type 0 where
  pub ready : AreReady after
  pub literals : after.blocks.literals ≡ before.blocks.literals
  pub lists : after.lists ≡ before.lists
  pub watches : after.blocks.watches ≡ before.blocks.watches
  pub opens : length new.opens ≡ length store.stored.items
  pub candidates : length new.candidates ≡ length store.stored.items
  pub undone : IsUndone rests (shapes_in store) new.opens new.candidates [] 0
  pub values : length (values_of new) ≡ length (values_of old)
  pub list : list_of new ≡ take count (list_of old)
  pub reasons : new.assignment.reasons ≡ old.assignment.reasons
  pub work : new.work.items ≡ []
  pub trail : new.trail.items ≡ []
  pub next : new.next ≡ 0
  pub visits : new.visits ≡ old.visits
