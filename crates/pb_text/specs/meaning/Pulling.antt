-- What a pull takes from a source.
use Rattle.pb_text.specs.{contract.Feeding.StandsAt, contract.Feeding.spans_taken, declared.feeder.Feeder.Feeder, meaning.Writing.one_more}
use Rattle.pb_text.specs.declared.{machine.Machine.Ghosts, place.Spanned.Spanned, place.Stop.Stop, place.Why.Why, place.Why.TheVariants.Read}
use Rattle.std.specs.Prelude.{◌≡◌, ◌+◌, ℕ, List, ◌++◌, length, Option, Some, None, Result, Ok, Err}

-- the input that a pull has processed: after an event what it took, and otherwise also what it saw
abbrev pub input_pulled : {E : Type 0} → Result (Option (Spanned E)) Stop → List ℕ → List ℕ → List ℕ
input_pulled (Ok (Some m)) taken seen = taken
input_pulled (Ok None) taken seen = taken ++ seen
input_pulled (Err s) taken seen = taken ++ seen

-- If a source reports its bytes, these were taken and those are left. Otherwise nothing is said.
abbrev pub Took : Option (List ℕ) → List ℕ → List ℕ → Option (List ℕ) → Type 0
Took None taken seen left = Unit {0}
Took (Some bytes) taken seen left = (bytes ≡ taken ++ seen) × (left ≡ Some seen)

-- For a source that does not report its bytes, such as a file. `Owed` holds for the bytes that its calls gave between two
-- histories, followed by some bytes.
abbrev pub OfGiven : (Option (List ℕ) → Option (List ℕ) → Type 0) → List ℕ → List ℕ → Type 0
OfGiven Owed before after = (given : List ℕ) × (seen : List ℕ) × (after ≡ before ++ given) × Owed (Some (given ++ seen)) (Some seen)

-- The pull took these bytes from the source, and its calls have given them. The feeder was fed the input with them.
pub record Pulls {M E : Type 0} {g : Ghosts M E} (longest : ℕ) (start : M) (input : List ℕ) (spans : List (Spanned E)) (old : Feeder M E g) (before : Option (List ℕ)) (result : Result (Option (Spanned E)) Stop) (new : Feeder M E g) (after : Option (List ℕ)) (given given' : List ℕ) : Type 0 where
  pub taken : List ℕ
  pub seen : List ℕ
  pub took : Took before taken seen after
  pub given_are : given' ≡ given ++ taken
  pub offset_is : new.place.offset ≡ old.place.offset + length taken
  pub stands : StandsAt longest start (input ++ input_pulled result taken seen) (spans ++ spans_taken result) new

-- the input that a part of a pull has processed: what it took, and if it stopped also what it saw
abbrev pub input_drawn : {E : Type 0} → Result (Option (Spanned E)) Stop → List ℕ → List ℕ → List ℕ
input_drawn (Ok m) taken seen = taken
input_drawn (Err s) taken seen = taken ++ seen

-- The same for a part of a pull. If it returns no event, the pull has not ended.
pub record Draws {M E : Type 0} {g : Ghosts M E} (old : Feeder M E g) (before : Option (List ℕ)) (given : List ℕ) (result : Result (Option (Spanned E)) Stop) (new : Feeder M E g) (after : Option (List ℕ)) (given' : List ℕ) : Type 0 where
  pub taken : List ℕ
  pub seen : List ℕ
  pub took : Took before taken seen after
  pub given_are : given' ≡ given ++ taken
  pub offset_is : new.place.offset ≡ old.place.offset + length taken
  pub stands : (longest : ℕ) (start : M) (input : List ℕ) (spans : List (Spanned E)) → StandsAt longest start input spans old → StandsAt longest start (input ++ input_drawn result taken seen) (spans ++ spans_taken result) new

-- how many times a reader has failed after a call that stopped for this reason
abbrev pub faults_with : Why → ℕ → ℕ
faults_with Read n = one_more n
faults_with _ n = n

-- how many times it has failed after a call: after an earlier stop, a call does not read
abbrev pub faults_after : {A : Type 0} → Option Stop → Result A Stop → ℕ → ℕ
faults_after (Some s) result n = n
faults_after None (Ok x) n = n
faults_after None (Err s) n = faults_with s.why n
