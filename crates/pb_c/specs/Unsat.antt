-- What a caller may conclude from a status and a line.
use Rattle.{pb_c.specs.Buffer.Puts, pb_c.specs.Options.IsAsked, pb_c.specs.declared.options.Options.Options, pb_opb.specs.declared.Instance.Instance}
use Rattle.{pb_replay.specs.declared.verdict.Verdict.Verdict, pb_replay.specs.meaning.Meaning.MeansWritten, pb_text.specs.declared.Limits.Limits}
use Rattle.pb_tool.specs.meaning.{Files.IsInstanceFile, Headline.IsUnsatisfiable, Verified.verdict_line}
use Rattle.std.specs.Prelude.{◌≡◌, ◌^◌, ℕ, List, codes, take, Option, Some, unwrap_or}

-- If the status is 0, the first text is an instance under the limits of the options. The room has the line of a verdict
-- that holds for that instance as written.
abbrev pub ShowsTruth : Options → List ℕ → List ℕ → ℕ → List ℕ → ℕ → Type 0
ShowsTruth o i old status new whole = status ≡ 0 →
    (limits : Limits) × (longest : Option ℕ) × IsAsked o longest limits
    × (after : Option (List ℕ)) × (v : Instance) × IsInstanceFile limits (unwrap_or longest (2 ^ 40)) (Some i) after v
    × (w : Verdict) × Puts (verdict_line w) old new whole × MeansWritten v w

-- Suppose the status is 0, and the room has the whole line `verified UNSAT`. Then the first text is an instance under
-- the limits of the options, and no assignment of its names solves it.
abbrev pub ShowsUnsat : Options → List ℕ → ℕ → List ℕ → ℕ → Type 0
ShowsUnsat o i status new whole = status ≡ 0 → whole ≡ 15 → take 15 new ≡ codes "verified UNSAT\n" →
    (limits : Limits) × (longest : Option ℕ) × IsAsked o longest limits
    × (after : Option (List ℕ)) × (v : Instance) × IsInstanceFile limits (unwrap_or longest (2 ^ 40)) (Some i) after v × IsUnsatisfiable v
