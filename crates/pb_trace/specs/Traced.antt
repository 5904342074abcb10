-- The line of an accepted statement.
use Rattle.{pb_normal.specs.meaning.Form.Form, std.specs.Fmt.signed_decimal, std.specs.List.flat_map, std.specs.List.range_with_len, std.specs.Result.IsErr}
use Rattle.pb_proof.specs.declared.Statement.{Statement, TheVariants.F, TheVariants.Soli, TheVariants.Delete}
use Rattle.{pb_proof.specs.meaning.Canonical.statement_bytes, pb_sums.specs.contract.Canonical.place_bytes, pb_tool.specs.declared.CheckFault.CheckFault}
use Rattle.pb_replay.specs.{contract.ReplayModel.Replaying, declared.fault.Fault.Fault, meaning.Replay.place}
use Rattle.pb_text.specs.{declared.Spanned.Spanned, meaning.Whole.gathered, meaning.Writing.Wrote, meaning.Writing.Broke}
use Rattle.pb_tool.specs.{contract.Watched.Call, contract.Watched.Accepted, contract.Watched.Rejected, declared.Input.TheVariants.Proof}
use Rattle.pb_tool.specs.declared.ToolFault.{ToolFault, TheVariants.Memory as NoMemory, TheVariants.Write as NotWritten}
use Rattle.pb_trace.specs.{Changes.constraint_bytes, Rejected.IsWrong, Rejected.Rejects, Rejected.Seen, Rejected.fault_in, Rejected.rejected_line}
use Rattle.pb_trace.specs.declared.broken.Broken.{Broken, TheVariants.Memory, TheVariants.Write}
use Rattle.std.specs.Prelude.{◌≡◌, ◌⊎◌, ℕ, ◌+◌, ◌-◌, ℤ, Bool, List, [], ◌∷◌, ◌++◌, length, drop, get_or, set, codes, Option, Some, None, Result, Ok, Err}

-- the stored constraints and those of a replay that are newer
abbrev pub extended : List (Option Form) → List (Option Form) → List (Option Form)
extended stored live = stored ++ drop (length stored) live

-- the start of what a statement adds: `f` has a line for each constraint
abbrev pub arrow_of : Statement → List ℕ
arrow_of (F count) = codes "\n  -> "
arrow_of _ = codes " -> "

-- `ids`: only ids are shown. `lines`: the lines in which the constraints of the instance are written.
module _ (ids : Bool) (lines : List ℕ) where
  -- an id and its constraint after an arrow, if it is live
  abbrev pub found_bytes : List ℕ → List (List ℕ) → ℕ → Option Form → List ℕ
  found_bytes arrow names id None = []
  found_bytes arrow names id (Some f) = constraint_bytes ids lines arrow names id f

  -- the live constraints with the given number of next ids, in order
  abbrev pub added_bytes : List ℕ → List (List ℕ) → List (Option Form) → ℕ → ℕ → List ℕ
  added_bytes arrow names live newest more =
      flat_map (λ i. found_bytes arrow names (i + 1) (get_or live i None)) (range_with_len newest more)

-- the constraints after one is deleted by its id as written
abbrev pub without : List (Option Form) → ℤ → List (Option Form)
without live id = set live (place (length live) id) None

module _ (ids : Bool) (lines : List ℕ) where
  abbrev pub deletion_bytes : List (List ℕ) → List (Option Form) → ℤ → List ℕ
  deletion_bytes names live id =
      let index = place (length live) id in
      found_bytes ids lines (codes "\n  -> no ") names (index + 1) (get_or live index None)

-- the same for ids in turn, and what is written of it
abbrev pub without_all : List (Option Form) → List ℤ → List (Option Form)
without_all = gathered without

abbrev pub deleted_bytes : Bool → List ℕ → List (List ℕ) → List (Option Form) → List ℤ → List ℕ
deleted_bytes ids lines names live [] = []
deleted_bytes ids lines names live (x ∷ xs) =
    deletion_bytes ids lines names live x ++ deleted_bytes ids lines names (without live x) xs

-- the best value of the objective, if there is one
abbrev pub best_bytes : Option ℤ → List ℕ
best_bytes None = []
best_bytes (Some value) = codes " best " ++ signed_decimal value

-- what follows the added constraints
abbrev pub tail_bytes : Bool → List ℕ → List (Option Form) → Replaying → Statement → List ℕ
tail_bytes ids lines stored replay (Soli ls) = best_bytes replay.best
tail_bytes ids lines stored replay (Delete xs) = deleted_bytes ids lines replay.names stored xs
tail_bytes ids lines stored replay _ = []

-- the stored constraints after a statement
abbrev pub stored_after : List (Option Form) → Statement → List (Option Form)
stored_after stored (Delete ids) = without_all stored ids
stored_after stored _ = stored

module _ (ids : Bool) (lines : List ℕ) where
  -- The position, the statement, the constraints after an id, what else there is to say, and a line feed.
  abbrev pub line_after : ℕ → List (Option Form) → Spanned Statement → Replaying → List ℕ
  line_after newest stored read replay =
      (place_bytes read.first ++ statement_bytes read.event)
      ++ (added_bytes ids lines (arrow_of read.event) replay.names replay.live newest (length replay.live - newest)
      ++ (tail_bytes ids lines stored replay read.event ++ codes "\n"))

  -- the line of a statement, from what was stored before it and from the replay after it
  abbrev pub line_bytes : List (Option Form) → Spanned Statement → Replaying → List ℕ
  line_bytes stored read replay = line_after (length stored) (extended stored replay.live) read replay

abbrev pub broken_by : Result Unit Broken → Option Broken
broken_by (Ok _) = None
broken_by (Err broken) = Some broken

-- how a trace ends
abbrev pub end_of : Option Broken → Result Unit ToolFault
end_of None = Ok tt
end_of (Some Memory) = Err (NoMemory Proof)
end_of (Some Write) = Err NotWritten

-- what a trace holds: its sink, the constraints as the replay has them, how it ends, whether it shows only ids, and the
-- lines in which the constraints of the instance are written
pub record Tracing (S : Type 0) : Type 0 where
  pub out : S
  pub stored : List (Option Form)
  pub end : Result Unit ToolFault
  pub ids : Bool
  pub lines : List ℕ

-- The trace shows constraints as before.
abbrev pub ShowsAlike : {S : Type 0} → Tracing S → Tracing S → Type 0
ShowsAlike old new = (new.ids ≡ old.ids) × (new.lines ≡ old.lines)

-- what a trace sees a rejected statement with
abbrev pub seen_of : {S : Type 0} → Tracing S → Spanned Statement → Replaying → Fault → Seen
seen_of t read replay fault = record {
  names = replay.names;
  live = t.stored;
  lines = t.lines;
  limits = replay.limits;
  statement = read.event;
  fault = fault;
}

-- the line of a statement in a trace, and what is stored after it
abbrev pub line_of_trace : {S : Type 0} → Tracing S → Spanned Statement → Replaying → List ℕ
line_of_trace t read replay = line_bytes t.ids t.lines t.stored read replay

abbrev pub StoresLine : {S : Type 0} → Tracing S → Spanned Statement → Replaying → Tracing S → Type 0
StoresLine old read replay new = new.stored ≡ stored_after (extended old.stored replay.live) read.event

module _ {S : Type 0} (contents : S → Option (List ℕ)) (faults : S → ℕ) where
  -- What a line leaves in its sink: the whole line; a prefix of it, and one fault; or nothing, if memory ran out.
  abbrev pub Traces : S → List ℕ → Result Unit ToolFault → S → Type 0
  Traces old line (Ok u) new = Wrote contents faults old line new
  Traces old line (Err NotWritten) new = Broke contents faults old line new
  Traces old line (Err (NoMemory Proof)) new = new ≡ old
  Traces old line (Err _) new = ⊥

  -- What a call does to a trace. An accepted statement adds its line, and what is stored of the constraints is again
  -- what the replay has. Once a line could not be written, nothing changes.
  pub record ShowsLine (old : Tracing S) (read : Spanned Statement) (replay : Replaying) (new : Tracing S) : Type 0 where
    pub text : old.end ≡ Ok tt → Traces old.out (line_bytes old.ids old.lines old.stored read replay) new.end new.out
    pub stored : old.end ≡ Ok tt → new.end ≡ Ok tt → StoresLine old read replay new
    pub alike : ShowsAlike old new
    pub ended : IsErr old.end → new ≡ old

  -- The same without the line: only what is stored changes.
  pub record FollowsLine (old : Tracing S) (read : Spanned Statement) (replay : Replaying) (new : Tracing S) : Type 0 where
    pub out : new.out ≡ old.out
    pub stored : old.end ≡ Ok tt → new.end ≡ Ok tt → StoresLine old read replay new
    pub memory : old.end ≡ Ok tt → (new.end ≡ Ok tt) ⊎ (new.end ≡ Err (NoMemory Proof))
    pub alike : ShowsAlike old new
    pub ended : IsErr old.end → new ≡ old

  -- What a rejected statement adds after these bytes: lines that begin with two spaces. Nothing is written if memory ran
  -- out for the statement, as it may be right then.
  pub record ShowsReasons (start : List ℕ) (old : Tracing S) (read : Spanned Statement) (replay : Replaying)
      (fault : CheckFault) (new : Tracing S) : Type 0 where
    pub text : IsWrong fault → old.end ≡ Ok tt
        → Rejects contents faults start old.out (seen_of old read replay (fault_in fault)) new.end new.out
    pub silent : (IsWrong fault → ⊥) → new ≡ old
    pub stored : new.stored ≡ old.stored
    pub alike : ShowsAlike old new
    pub ended : IsErr old.end → new ≡ old

  -- what a rejected statement adds to a trace: its line, and then the reasons
  abbrev pub ShowsRejection : Tracing S → Spanned Statement → Replaying → CheckFault → Tracing S → Type 0
  ShowsRejection old read replay fault new = ShowsReasons (rejected_line read) old read replay fault new

  abbrev pub TracesCall : Tracing S → Call → Tracing S → Type 0
  TracesCall old (Accepted read replay) new = ShowsLine old read replay new
  TracesCall old (Rejected read replay fault) new = ShowsRejection old read replay fault new

  -- the same for the reasons alone
  abbrev pub ExplainsCall : Tracing S → Call → Tracing S → Type 0
  ExplainsCall old (Accepted read replay) new = FollowsLine old read replay new
  ExplainsCall old (Rejected read replay fault) new = ShowsReasons [] old read replay fault new
