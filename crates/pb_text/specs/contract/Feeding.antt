-- What a feed says about the whole input.
use Rattle.pb_text.specs.{contract.Automaton.AcceptsItems, contract.Standing.IsUnread, declared.feeder.Fed.Fed, declared.feeder.Feeder.Feeder}
use Rattle.pb_text.specs.{contract.Standing.Stands, contract.Standing.IsOpen, meaning.Reading.IsPrefix, meaning.Reading.HasOpen, meaning.Spelling.place_after}
use Rattle.pb_text.specs.declared.{machine.Machine.Ghosts, place.Place.Place, place.Spanned.Spanned, place.Stop.Stop, place.Why.TheVariants.Memory}
use Rattle.std.specs.Prelude.{◌≡◌, ℕ, ◌+◌, ◌-◌, ◌<◌, ◌≤◌, List, [], ◌∷◌, ◌++◌, length, slice_get, take, Bool, IsTrue, Option, Some, None, Result, Ok, Err}

-- the state of a feeder's machine
abbrev pub state_of : {M E : Type 0} {g : Ghosts M E} → Feeder M E g → M
state_of f = f.machine

-- the position of the next byte
abbrev pub place_of : {M E : Type 0} {g : Ghosts M E} → Feeder M E g → Place
place_of f = f.place

-- why it stopped, if it did
abbrev pub halt_of : {M E : Type 0} {g : Ghosts M E} → Feeder M E g → Option Stop
halt_of f = f.stop

-- the text is complete
abbrev pub is_complete : {M E : Type 0} {g : Ghosts M E} → Feeder M E g → Bool
is_complete {g} f = g.automaton.done f.machine

-- The feeder began with this machine and limits statements to longest bytes. It was fed this input and has returned
-- these spans.
abbrev pub StandsAt : {M E : Type 0} {g : Ghosts M E} → ℕ → M → List ℕ → List (Spanned E) → Feeder M E g → Type 0
StandsAt {g} longest start input spans f =
    (f.longest ≡ longest) × Stands g.automaton longest start input spans f.machine f.place f.first f.stop

abbrev pub spans_in : {E : Type 0} → Option (Spanned E) → List (Spanned E)
spans_in (Some m) = m ∷ []
spans_in None = []

abbrev pub stop_of : {A : Type 0} → Result A Stop → Option Stop
stop_of (Ok x) = None
stop_of (Err s) = Some s

-- the spans that a byte or a pull returned
abbrev pub spans_taken : {E : Type 0} → Result (Option (Spanned E)) Stop → List (Spanned E)
spans_taken (Ok m) = spans_in m
spans_taken (Err s) = []

-- the spans that a feed returned
abbrev pub spans_fed : {E : Type 0} → Result (Fed E) Stop → List (Spanned E)
spans_fed (Ok fed) = spans_in fed.event
spans_fed (Err s) = []

abbrev pub bytes_with : {E : Type 0} → Option (Spanned E) → ℕ → List ℕ → List ℕ
bytes_with (Some m) used piece = take used piece
bytes_with None used piece = piece

-- the bytes of the piece that the feed has processed: if it returned an event, those through the event's last byte
abbrev pub bytes_fed : {E : Type 0} → Result (Fed E) Stop → List ℕ → List ℕ
bytes_fed (Ok fed) piece = bytes_with fed.event fed.used piece
bytes_fed (Err s) piece = piece

-- the position has advanced by the number of bytes used
abbrev pub IsFurther : {M E : Type 0} {g : Ghosts M E} → Feeder M E g → Result (Fed E) Stop → Feeder M E g → Type 0
IsFurther old (Ok fed) new = (place_of new).offset ≡ (place_of old).offset + fed.used
IsFurther old (Err s) new = Unit {0}

-- what one feed says about the feeder
abbrev pub FeedsOnce : {M E : Type 0} {g : Ghosts M E} → Feeder M E g → List ℕ → Result (Fed E) Stop → Feeder M E g → Type 0
FeedsOnce {M} {E} {g} old piece result new =
    ((longest : ℕ) (start : M) (input : List ℕ) (spans : List (Spanned E))
    → IsOpen old.stop
    → StandsAt longest start input spans old
    → StandsAt longest start (input ++ bytes_fed result piece) (spans ++ spans_fed result) new)
    × (IsOpen old.stop → IsOpen new.stop)
    × (IsUnread old.stop → IsUnread new.stop)
    × IsFurther old result new

-- consecutive feeds, each a piece with its result
abbrev pub Feeds : {M E : Type 0} {g : Ghosts M E} → Feeder M E g → List (List ℕ × Result (Fed E) Stop) → Feeder M E g → Type 0
Feeds before [] after = before ≡ after
Feeds {M} {E} {g} before (f ∷ feeds) after = (mid : Feeder M E g) × FeedsOnce before f.0 f.1 mid × Feeds mid feeds after

-- all bytes fed: of a piece that returned an event, those through its end
abbrev pub input_fed : {E : Type 0} → List (List ℕ × Result (Fed E) Stop) → List ℕ
input_fed [] = []
input_fed (f ∷ feeds) = bytes_fed f.1 f.0 ++ input_fed feeds

abbrev pub spans_answered : {E : Type 0} → List (List ℕ × Result (Fed E) Stop) → List (Spanned E)
spans_answered [] = []
spans_answered (f ∷ feeds) = spans_fed f.1 ++ spans_answered feeds

-- how many bytes the feeds used, and that none of them stopped
abbrev pub used_in : {E : Type 0} → Result (Fed E) Stop → ℕ
used_in (Ok fed) = fed.used
used_in (Err s) = 0

abbrev pub used_by : {E : Type 0} → List (List ℕ × Result (Fed E) Stop) → ℕ
used_by [] = 0
used_by (f ∷ feeds) = used_in f.1 + used_by feeds

abbrev pub NoneStopped : {E : Type 0} → List (List ℕ × Result (Fed E) Stop) → Type 0
NoneStopped [] = Unit {0}
NoneStopped (f ∷ feeds) = (stop_of f.1 ≡ None) × NoneStopped feeds

-- an out-of-memory stop comes only at a byte that may allocate
abbrev pub WantsMemory : {M E : Type 0} {g : Ghosts M E} → Stop → Feeder M E g → ℕ → Type 0
WantsMemory {g} stop f b = stop.why ≡ Memory → IsTrue (g.automaton.asks f.machine b)

-- The position has advanced by the number of bytes used, which are at most those of the piece.
abbrev pub UsesOf : {M E : Type 0} {g : Ghosts M E} → Feeder M E g → List ℕ → Feeder M E g → Fed E → Type 0
UsesOf old piece new fed = ((place_of new).offset ≡ (place_of old).offset + fed.used) × (fed.used ≤ length piece)

-- A feed used at least one byte, and the last one ends this event.
pub record EndsEvent {M E : Type 0} {g : Ghosts M E} (fed : Fed E) (event : Spanned E) (new : Feeder M E g) : Type 0 where
  pub some : 0 < fed.used
  pub past : event.past ≡ place_of new

-- an out-of-memory stop comes only at a byte of the piece that may allocate
abbrev pub WantsNext : {M E : Type 0} {g : Ghosts M E} → Feeder M E g → List ℕ → Feeder M E g → Stop → Type 0
WantsNext old piece new stop =
    (b : ℕ) × (slice_get piece ((place_of new).offset - (place_of old).offset) ≡ Some b) × WantsMemory stop new b

-- at most as much is held as the bytes used have bytes of a statement that they do not end
abbrev pub HoldsFew : {M E : Type 0} {g : Ghosts M E} → M → List ℕ → Feeder M E g → ℕ → Type 0
HoldsFew {g} start input f held =
    (used : List ℕ) × (n : ℕ) × IsPrefix used input × (f.place ≡ place_after used) × HasOpen (AcceptsItems g.automaton start) used n × (held ≤ n)
