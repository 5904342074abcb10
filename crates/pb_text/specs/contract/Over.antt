-- A source over a buffered reader.
use Rattle.pb_text.specs.{contract.Source.StartWith, contract.Source.HaveEnded, declared.source.Failed.Failed}
use Rattle.std.specs.Io.KnownBytes.{Keeps}
use Rattle.std.specs.Prelude.{ℕ, zero, suc, ◌≤◌, List, Option, Some, None, Result, Ok, Err}

-- The bytes that the reader reports as left. A reader that has shown a byte and does not let it be taken reports none.
abbrev pub reported : Option (List ℕ) → Option ℕ → Option ℕ → Option (List ℕ)
reported left limit None = left
reported left None (Some b) = left
reported left (Some zero) (Some b) = None
reported left (Some (suc n)) (Some b) = left

-- a reader that reports its bytes lets one be taken
abbrev pub LetsOne : Option (List ℕ) → Option ℕ → Type 0
LetsOne None limit = Unit {0}
LetsOne (Some bytes) None = Unit {0}
LetsOne (Some bytes) (Some n) = 1 ≤ n

-- what a reader shows
abbrev pub Shows : Option (List ℕ) → Result (Option ℕ) Failed → Option (List ℕ) → Option ℕ → Type 0
Shows before (Ok (Some b)) after limit = StartWith before b × Keeps before after × LetsOne before limit
Shows before (Ok None) after limit = HaveEnded before × Keeps before after
Shows before (Err e) after limit = Keeps before after
