-- How the state of a machine relates to the text that it has taken.
use Rattle.pb_text.specs.contract.Automaton.{Automaton, Refuse, AcceptsItems, Admits, Leads, IsState, is_large}
use Rattle.pb_text.specs.{declared.place.Place.Place, declared.place.Spanned.Spanned, engine.SpentBytes.end_of, engine.SpentBytes.SpentSince}
use Rattle.pb_text.specs.{declared.place.Stop.Stop, declared.place.Why.Why, meaning.Reading.IsPrefix, meaning.Reading.last_numeral, meaning.Reading.AreShort}
use Rattle.pb_text.specs.declared.place.Why.TheVariants.{Byte, TooLarge, Ended, TooLong, Read, Memory}
use Rattle.pb_text.specs.meaning.Spelling.{Letter, Item, bytes, letters_of, bytes_of, spans_since, spans_of, place_after}
use Rattle.std.specs.Prelude.{◌≡◌, ◌≢◌, ◌⊎◌, ℕ, ◌≤◌, ◌<◌, List, [], ◌∷◌, ◌++◌, length, take, Bool, true, false, IsTrue, Option, None, Some, is_some}

-- the items are the letters and spans so far, followed by the later items
pub record IsJoined {E : Type 0} (letters : List Letter) (spans : List (Spanned E)) (first : Option Place) (later items : List (Item E)) : Type 0 where
  pub letters_are : letters_of items ≡ letters ++ letters_of later
  pub spans_are : spans_of items ≡ spans ++ spans_since first (bytes letters) later

abbrev pub EndBy : {E : Type 0} → ℕ → List (Spanned E) → Type 0
EndBy n [] = Unit {0}
EndBy n (m ∷ spans) = (m.past.offset ≤ n) × EndBy n spans

-- `rest` accepts exactly what may follow these letters in the format. Every text that begins with these bytes has these
-- letters and these spans. If a statement has begun, it began at position `first`.
pub record Follows {E : Type 0} (format rest : List (Item E) → Type 0) (letters : List Letter) (spans : List (Spanned E)) (first : Option Place) : Type 0 where
  pub into : (later : List (Item E)) → rest later → (items : List (Item E)) × format items × IsJoined letters spans first later items
  pub onto : (items : List (Item E)) → format items → IsPrefix (bytes letters) (bytes_of items) → (later : List (Item E)) × rest later × IsJoined letters spans first later items
  -- no shorter prefix is a text of the format
  pub alone : (n : ℕ) → n < length letters → (items : List (Item E)) → format items → bytes_of items ≡ take n (bytes letters) → ⊥
  pub ended : EndBy (length letters) spans

module _ {S E : Type 0} (m : Automaton S E) where
  -- why a state stopped after these letters, if these bytes are left and a byte at offset end is past the limit
  abbrev pub Halts : S → ℕ → List Letter → List ℕ → Why → Type 0
  Halts state end letters left (Byte b) =
      (more : List ℕ) × (left ≡ b ∷ more) × (m.step state b ≡ Refuse) × (is_large m state b ≡ false) × (length letters < end)
  Halts state end letters left TooLarge =
      (b : ℕ) × (more : List ℕ) × (left ≡ b ∷ more) × (m.step state b ≡ Refuse) × (is_large m state b ≡ true) × (length letters < end)
  Halts state end letters left TooLong = (left ≢ []) × (length letters ≡ end)
  Halts state end letters left Ended = left ≡ []
  Halts state end letters left Read = Unit {0}
  Halts state end letters left Memory =
      (b : ℕ) × (more : List ℕ) × (left ≡ b ∷ more) × Admits m state b × IsTrue (m.asks state b) × (length letters < end)

  abbrev pub Waits : S → ℕ → List Letter → List ℕ → Place → Option Stop → Type 0
  Waits state end letters left place None = (m.done state ≡ true) ⊎ (left ≡ [])
  Waits state end letters left place (Some s) = (m.done state ≡ false) × (s.place ≡ place) × Halts state end letters left s.why

  -- A machine began at start and was fed the input. It has returned these spans and is now in this state.
  pub record Stands (longest : ℕ) (start : S) (input : List ℕ) (spans : List (Spanned E)) (state : S) (place : Place) (first : Option Place) (stop : Option Stop) : Type 0 where
    pub letters : List Letter
    pub left : List ℕ
    pub input_is : input ≡ bytes letters ++ left
    pub follows : Follows (AcceptsItems m start) (AcceptsItems m state) letters spans first
    pub leads : Leads m start (bytes letters) state
    pub is_state : IsState m state
    pub place_is : place ≡ place_after (bytes letters)
    pub begun_is : is_some first ≡ m.begun state
    pub owed : is_some first ≡ true → m.done state ≡ false
    pub number_is : m.in_number state ≡ last_numeral letters
    pub some : 0 < longest
    pub within : length letters ≤ end_of longest first
    pub short : AreShort longest (length letters) spans
    pub spent : SpentSince (length letters) first (m.spent state)
    pub waits : Waits state (end_of longest first) letters left place stop

-- the position where the statement of the next byte began, if the byte begins one or one has begun
abbrev pub opened : Option Place → Bool → Place → Option Place
opened (Some p) starts place = Some p
opened None true place = Some place
opened None false place = None

abbrev pub Counts : Why → Type 0
Counts (Byte b) = Unit {0}
Counts TooLarge = Unit {0}
Counts TooLong = Unit {0}
Counts Ended = ⊥
Counts Read = Unit {0}
Counts Memory = Unit {0}

-- Input that comes now still counts: the end of the input was not reported.
abbrev pub IsOpen : Option Stop → Type 0
IsOpen None = Unit {0}
IsOpen (Some s) = Counts s.why

-- No reader has failed.
abbrev pub IsUnread : Option Stop → Type 0
IsUnread None = Unit {0}
IsUnread (Some s) = s.why ≢ Read
