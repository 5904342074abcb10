-- Consecutive pulls: together, what they have taken from a source is a read of it.
use Rattle.pb_text.specs.contract.{Automaton.AcceptsItems, Automaton.MayAsk, Feeding.StandsAt, Feeding.place_of, Feeding.halt_of}
use Rattle.pb_text.specs.declared.{feeder.Feeder.Feeder, machine.Machine.Ghosts, place.Place.Place, place.Spanned.Spanned, place.Stop.Stop}
use Rattle.pb_text.specs.meaning.{Pulling.Took, Reading.Reads, Spelling.Item, Stopping.IsAsking}
use Rattle.std.specs.Prelude.{◌≡◌, ℕ, List, [], ◌∷◌, ◌++◌, length, Bool, true, false, Option, Some, None, Result, Ok, Err}

-- The feeder began with this machine and has not stopped. It was fed the bytes taken from the source, and has returned
-- these spans.
pub record HasPulled {M E : Type 0} {g : Ghosts M E} (longest : ℕ) (start : M) (before : Option (List ℕ)) (spans : List (Spanned E)) (f : Feeder M E g) (now : Option (List ℕ)) : Type 0 where
  pub used : List ℕ
  pub seen : List ℕ
  pub took : Took before used seen now
  pub offset_is : (place_of f).offset ≡ length used
  pub stands : StandsAt longest start used spans f
  pub running : halt_of f ≡ None

module _ {E : Type 0} (format : List (Item E) → Type 0) (longest : ℕ) where
  -- The bytes taken from the source are those used by a read that ended like this: done, or stopped.
  pub record TookAll (before after : Option (List ℕ)) (spans : List (Spanned E)) (place : Place) (done : Bool) (stop : Option Stop) : Type 0 where
    pub used : List ℕ
    pub seen : List ℕ
    pub took : Took before used seen after
    pub reads : Reads format longest (used ++ seen) used spans place done stop

  -- The bytes taken from the source gave these spans so far, and this is the position after them.
  pub record TookSoFar (before after : Option (List ℕ)) (spans : List (Spanned E)) (place : Place) : Type 0 where
    pub used : List ℕ
    pub seen : List ℕ
    pub took : Took before used seen after
    pub done : Bool
    pub reads : Reads format longest used used spans place done None

-- what the next of consecutive pulls must give
abbrev pub PullsOn : {M E : Type 0} {g : Ghosts M E} → ℕ → M → Option (List ℕ) → List (Spanned E) → Result (Option (Spanned E)) Stop → Feeder M E g → Option (List ℕ) → Type 0
PullsOn {g} longest start before spans (Ok (Some m)) f now =
    HasPulled longest start before (spans ++ m ∷ []) f now × TookSoFar (AcceptsItems g.automaton start) longest before now (spans ++ m ∷ []) m.past
PullsOn {g} longest start before spans (Ok None) f now = TookAll (AcceptsItems g.automaton start) longest before now spans (place_of f) true None
PullsOn {g} longest start before spans (Err s) f now =
    (all : TookAll (AcceptsItems g.automaton start) longest before now spans s.place false (Some s)) × IsAsking (MayAsk g.automaton start) all.used all.seen s.why
