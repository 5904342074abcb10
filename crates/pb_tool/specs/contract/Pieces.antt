-- What a feed says of a checker.
use Rattle.pb_proof.specs.{declared.Statement.Statement, engine.machine.State.proofs, meaning.Proofs.IsProof}
use Rattle.pb_replay.specs.declared.{fault.Fault.Fault, fault.Fault.TheVariants.NotTotal, verdict.Verdict.Verdict}
use Rattle.{pb_replay.specs.meaning.Problem.Problem, pb_replay.specs.meaning.Replay.State, pb_tool.specs.meaning.Files.AsksInProofText, std.specs.List.flat_map}
use Rattle.pb_text.specs.contract.{Feeding.place_of, Feeding.state_of, Feeding.is_complete, Standing.Counts}
use Rattle.pb_text.specs.declared.{Limits.Limits, Place.Place, place.Why.TheVariants.Read, place.Why.TheVariants.Memory}
use Rattle.pb_text.specs.meaning.{Limits.largest, Limits.top_of, Reading.HasOpen, Reading.IsPrefix, Spelling.Item, Spelling.bytes_of, Spelling.place_after}
use Rattle.pb_tool.specs.contract.{Checker.Checking, Checker.ChecksSoFar, Checker.CountsSoFar, Checks.Checks, Checks.EndsAfter}
use Rattle.pb_tool.specs.declared.commands.check.checker.{CheckFault.CheckFault, CheckFault.TheVariants.Text, CheckFault.TheVariants.Step, Went.Went}
use Rattle.std.specs.Prelude.{◌≡◌, ◌≢◌, ◌<◌, ◌≤◌, ℕ, List, [], ◌∷◌, ◌+◌, ◌++◌, cond, length, take, Bool, true, false, Option, Some, None, Result, Ok, Err}

-- why it stopped, if it did
abbrev pub fault_of : Checking → Option CheckFault
fault_of c = c.fault

-- the position of the next byte
abbrev pub place_in : Checking → Place
place_in c = place_of c.feeder

-- how much of the current statement is stored
abbrev pub held_in : Checking → ℕ
held_in c = proofs.kept (state_of c.feeder)

-- the text of the proof is complete
abbrev pub is_whole : Checking → Bool
is_whole c = is_complete c.feeder

-- The checker was fed the input. Its statements have at most longest bytes, and its replay, with these limits, began at
-- first.
abbrev pub ChecksAt : Limits → ℕ → Problem → Result State Fault → List ℕ → Checking → Type 0
ChecksAt limits longest v first input c = ChecksSoFar limits longest v first input c.feeder c.replay c.fault

-- The same, and n statements were accepted: all that end in the input, or those before the fault.
abbrev pub CountsAt : Limits → ℕ → Problem → Result State Fault → List ℕ → ℕ → Checking → Type 0
CountsAt limits longest v first input n c = CountsSoFar limits longest v first input n c.feeder c.replay c.fault

-- Later input still counts: the text was not said to have ended.
abbrev pub MayGoOn : Option CheckFault → Type 0
MayGoOn None = Unit {0}
MayGoOn (Some (Text s)) = Counts s.why
MayGoOn (Some (Step begins e)) = Unit {0}

abbrev pub fault_in : {A : Type 0} → Result A CheckFault → Option CheckFault
fault_in (Ok x) = None
fault_in (Err e) = Some e

-- What one feed says of the checker. What held for all the input before holds for that input followed by these bytes.
abbrev pub ChecksOnce : Checking → List ℕ → Checking → Type 0
ChecksOnce old piece new =
    ((limits : Limits) (longest : ℕ) (v : Problem) (first : Result State Fault) (input : List ℕ) →
    MayGoOn old.fault → ChecksAt limits longest v first input old → ChecksAt limits longest v first (input ++ piece) new)
    × (MayGoOn old.fault → MayGoOn new.fault)

-- The same of one step. `more` is the number of statements that it accepted.
abbrev pub CountsOnce : Checking → List ℕ → ℕ → Checking → Type 0
CountsOnce old piece more new =
    ((limits : Limits) (longest : ℕ) (v : Problem) (first : Result State Fault) (input : List ℕ) (n : ℕ) →
    MayGoOn old.fault → CountsAt limits longest v first input n old → CountsAt limits longest v first (input ++ piece) (n + more) new)
    × (MayGoOn old.fault → MayGoOn new.fault)

-- what holds of each text that a checker without a fault was fed
abbrev pub OfFed : Checking → (Limits → ℕ → Problem → Result State Fault → List ℕ → Type 0) → Type 0
OfFed c Holds =
    (limits : Limits) (longest : ℕ) (v : Problem) (first : Result State Fault) (input : List ℕ) →
    fault_of c ≡ None → ChecksAt limits longest v first input c → Holds limits longest v first input

-- The text ends with this result, at this position. The statements that `CountsAt` counts were accepted before.
abbrev pub EndsCounted : Checking → Place → Result Verdict CheckFault → Type 0
EndsCounted old place result =
    (limits : Limits) (longest : ℕ) (v : Problem) (first : Result State Fault) (input : List ℕ) (n : ℕ) →
    fault_of old ≡ None → CountsAt limits longest v first input n old → EndsAfter limits longest v first input n place result

-- feeds in a row
abbrev pub FeedsInTurn : Checking → List (List ℕ) → Checking → Type 0
FeedsInTurn before [] after = before ≡ after
FeedsInTurn before (piece ∷ pieces) after = (mid : Checking) × ChecksOnce before piece mid × FeedsInTurn mid pieces after

abbrev pub joined : List (List ℕ) → List ℕ
joined = flat_map (λ piece. piece)

-- The text of a proof may be cut in any way. After any feeds in a row of a new checker, its result holds for all bytes
-- joined.
abbrev pub AnyCutting : Type 0
AnyCutting = (limits : Limits) (longest : ℕ) (v : Problem) (first : Result State Fault) (before after : Checking) (pieces : List (List ℕ)) →
    ChecksAt limits longest v first [] before → MayGoOn (fault_of before) → FeedsInTurn before pieces after →
    Checks limits longest v first (joined pieces) (place_in after) (is_whole after) (fault_of after)

-- The position is the one after the used bytes, a prefix of the input. At most as much is held as the used bytes have
-- of an unfinished statement: nothing between two statements.
abbrev pub HoldsOpen : Limits → List ℕ → Place → ℕ → Type 0
HoldsOpen limits input place held =
    (used : List ℕ) × (n : ℕ) × IsPrefix used input × (place ≡ place_after used)
    × HasOpen (IsProof (largest limits) (top_of limits)) used n × (held ≤ n)

-- The input ends with the last byte of a statement: it is the text of the first statements of a proof.
abbrev pub EndsStatement : Limits → List ℕ → Type 0
EndsStatement limits input =
    (begun : List (Item Statement)) × (rest : List (Item Statement))
    × IsProof (largest limits) (top_of limits) (begun ++ rest) × (input ≡ bytes_of begun)

-- no reader failed, as there is none
abbrev pub IsNoReadFault : CheckFault → Type 0
IsNoReadFault (Text s) = s.why ≢ Read
IsNoReadFault (Step begins e) = Unit {0}

-- If memory ran out for the text, the byte of the input at that position may allocate.
abbrev pub AllocatesAt : Limits → List ℕ → CheckFault → Type 0
AllocatesAt limits input (Text s) = s.why ≡ Memory →
    (used : List ℕ) × (b : ℕ) × (more : List ℕ) × (input ≡ used ++ b ∷ more) × (s.place ≡ place_after used)
    × AsksInProofText limits used b
AllocatesAt limits input (Step begins e) = Unit {0}

-- The first fault gives by its number only a name that is there.
abbrev pub ReportsKnown : {A : Type 0} → Checking → Result A CheckFault → Checking → Type 0
ReportsKnown old result new =
    (at : Place) (n : ℕ) → fault_of old ≡ None → result ≡ Err (Step at (NotTotal n)) → n < length new.replay.names

-- the bytes of the piece that were consumed: if a statement ended, those through its last byte
abbrev pub bytes_to : Bool → ℕ → List ℕ → List ℕ
bytes_to true used piece = take used piece
bytes_to false used piece = piece

abbrev pub bytes_gone : Result Went CheckFault → List ℕ → List ℕ
bytes_gone (Ok w) piece = bytes_to w.accepted w.used piece
bytes_gone (Err e) piece = piece

-- how many statements a step accepted
abbrev pub statements_in : Result Went CheckFault → ℕ
statements_in (Ok w) = cond w.accepted 1 0
statements_in (Err e) = 0
