-- The counts of a check, and the lines that show them.
use Rattle.{pb_proof.specs.declared.Statement.Statement, pb_replay.specs.contract.ReplayModel.Replaying, pb_trace.specs.declared.stats.Stats.Stats}
use Rattle.pb_proof.specs.declared.Statement.TheVariants.{Header, F, Pol, Rup, Soli, Solx, Delete, Output, Conclude, End}
use Rattle.pb_text.specs.declared.Spanned.{Spanned}
use Rattle.{pb_tool.specs.contract.Watched.Call, pb_tool.specs.contract.Watched.Accepted, pb_tool.specs.contract.Watched.Rejected, std.specs.List.flat_map}
use Rattle.std.specs.Prelude.{ℕ, ◌+◌, ◌-◌, ◌^◌, min, max, List, [], ◌∷◌, ◌++◌, length, decimal, codes}

-- before any statement
abbrev pub no_counts : Stats
no_counts = record {
  pol = 0;
  rup = 0;
  soli = 0;
  solx = 0;
  delete = 0;
  others = 0;
  visits = 0;
  newest = 0;
  live = 0;
  most_live = 0;
  bytes = 0;
}

-- a count saturates
abbrev pub saturated : ℕ → ℕ
saturated n = min n (2 ^ 64 - 1)

abbrev pub statements_in : Stats → ℕ
statements_in s = saturated (s.pol + s.rup + s.delete + s.soli + s.solx + s.others)

-- the counts that are shown, each with its name
abbrev pub counts_in : Stats → List (List ℕ × ℕ)
counts_in s =
    (codes "statements", statements_in s)
    ∷ (codes "pol", s.pol)
    ∷ (codes "rup", s.rup)
    ∷ (codes "soli", s.soli)
    ∷ (codes "solx", s.solx)
    ∷ (codes "del id", s.delete)
    ∷ (codes "newest id", s.newest)
    ∷ (codes "live constraints at the end", s.live)
    ∷ (codes "live constraints at most", s.most_live)
    ∷ (codes "visits of propagation", s.visits)
    ∷ (codes "bytes of the proof", s.bytes)
    ∷ []

-- a name, `: `, the count and a line feed
abbrev pub count_line : List ℕ → ℕ → List ℕ
count_line name count = name ++ (codes ": " ++ (decimal count ++ codes "\n"))

abbrev pub stats_bytes : Stats → List ℕ
stats_bytes s = flat_map (λ c. count_line c.0 c.1) (counts_in s)

-- one more statement of its kind
abbrev pub counted : Stats → Statement → Stats
counted s Header = record s { others = saturated (s.others + 1) }
counted s (F count) = record s { others = saturated (s.others + 1) }
counted s (Pol ws) = record s { pol = saturated (s.pol + 1) }
counted s (Rup c) = record s { rup = saturated (s.rup + 1) }
counted s (Soli ls) = record s { soli = saturated (s.soli + 1) }
counted s (Solx ls) = record s { solx = saturated (s.solx + 1) }
counted s (Delete ids) = record s { delete = saturated (s.delete + 1) }
counted s Output = record s { others = saturated (s.others + 1) }
counted s (Conclude c) = record s { others = saturated (s.others + 1) }
counted s End = record s { others = saturated (s.others + 1) }

-- the visits that a statement needed, and how many constraints it deleted
abbrev pub visits_of : Statement → Replaying → ℕ
visits_of (Rup c) replay = replay.visits
visits_of _ replay = 0

abbrev pub deletions_of : Statement → ℕ
deletions_of (Delete ids) = length ids
deletions_of _ = 0

-- the constraints that are live after a statement, from the newest id then
abbrev pub live_after : Stats → Statement → ℕ → ℕ
live_after s st newest = saturated ((s.live - deletions_of st) + (newest - s.newest))

abbrev pub measured : Stats → Spanned Statement → Replaying → Stats
measured s read replay = record s {
  visits = saturated (s.visits + visits_of read.event replay);
  newest = length replay.live;
  live = live_after s read.event (length replay.live);
  most_live = max s.most_live (live_after s read.event (length replay.live));
  bytes = read.past.offset;
}

-- the counts after an accepted statement, from the replay after it
abbrev pub seen : Stats → Spanned Statement → Replaying → Stats
seen s read replay = measured (counted s read.event) read replay

-- the counts after a call; a rejected statement is not counted
abbrev pub seen_by : Stats → Call → Stats
seen_by s (Accepted read replay) = seen s read replay
seen_by s (Rejected read replay fault) = s
