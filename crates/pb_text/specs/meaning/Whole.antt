-- A whole read: the events of one text are collected in a value.
use Rattle.pb_text.specs.declared.place.{Spanned.Spanned, Stop.Stop, Why.TheVariants.Memory}
use Rattle.pb_text.specs.meaning.{Pulling.Took, Reading.Reads, Reading.IsSpelled, Spelling.Item, Spelling.place_after, Stopping.IsAsking}
use Rattle.std.specs.Prelude.{◌≡◌, ℕ, List, [], ◌∷◌, ◌++◌, map, Bool, false, IsTrue, Option, None, Some, Result, Ok, Err}

-- the value with these events added in order
abbrev pub gathered : {V E : Type 0} → (V → E → V) → V → List E → V
gathered with value [] = value
gathered with value (e ∷ events) = gathered with (with value e) events

-- the events of statements
abbrev pub events_of : {E : Type 0} → List (Item E) → List E
events_of items = map (λ i. i.event) items

-- the events of spans, without their positions
abbrev pub events_at : {E : Type 0} → List (Spanned E) → List E
events_at spans = map (λ m. m.event) spans

-- The relation `IsValue` says which value events have.
module _ {E : Type 0} (format : List (Item E) → Type 0) (longest : ℕ) where
  module _ {V : Type 0} (IsValue : List E → V → Type 0) where
    -- The used bytes are a text of the format, and the value is one of its events.
    pub record IsRead (used : List ℕ) (m : Spanned V) : Type 0 where
      pub spans : List (Spanned E)
      pub spelled : IsSpelled format longest used spans
      pub value : IsValue (events_of spelled.items) m.event
      pub first : m.first ≡ place_after []
      pub past : m.past ≡ place_after used

  -- When a read may allocate: at a byte after others, and for a statement after others.
  module _ (MayAsk : List ℕ → ℕ → Type 0) (MayKeep : List E → E → Type 0) where
    -- The used bytes are a prefix of a text, and the stop says why no more were taken. If out of memory, the next byte may
    -- allocate, or the used bytes end with an event, and storing that may allocate.
    pub data StopsIn (used seen : List ℕ) (s : Stop) : Type 0 where
      Reading : (spans : List (Spanned E)) → Reads format longest (used ++ seen) used spans s.place false (Some s) → IsAsking MayAsk used seen s.why → StopsIn used seen s
      Keeping : (spans : List (Spanned E)) (last : Spanned E) (done : Bool) → Reads format longest used used (spans ++ last ∷ []) last.past done None → MayKeep (events_at spans) last.event
          → s ≡ record { place = last.past; why = Memory } → StopsIn used seen s

    -- what was read from a source with these bytes before and those after, if it reports them
    module _ {V : Type 0} (IsValue : List E → V → Type 0) where
      abbrev pub ReadsValue : Option (List ℕ) → Result (Spanned V) Stop → Option (List ℕ) → Type 0
      ReadsValue before (Ok m) after = (used : List ℕ) × (seen : List ℕ) × Took before used seen after × IsRead IsValue used m
      ReadsValue before (Err s) after = (used : List ℕ) × (seen : List ℕ) × Took before used seen after × StopsIn used seen s

-- The value is that of the events added in order.
module _ {V E : Type 0} (with : V → E → V) (empty : V) where
  abbrev pub IsOf : List E → V → Type 0
  IsOf events value = value ≡ gathered with empty events

  -- storing an event after others may allocate
  abbrev pub MayHold : (V → E → Bool) → List E → E → Type 0
  MayHold asks events e = IsTrue (asks (gathered with empty events) e)

module _ {V E : Type 0} (format : List (Item E) → Type 0) (longest : ℕ) (with : V → E → V) (empty : V) where
  abbrev pub IsWhole : List ℕ → Spanned V → Type 0
  IsWhole = IsRead format longest (IsOf with empty)

  abbrev pub ReadsWhole : (List ℕ → ℕ → Type 0) → (V → E → Bool) → Option (List ℕ) → Result (Spanned V) Stop → Option (List ℕ) → Type 0
  ReadsWhole MayAsk asks = ReadsValue format longest MayAsk (MayHold with empty asks) (IsOf with empty)
