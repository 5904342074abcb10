-- What the first program answers.
use Rattle.{pb_replay.specs.declared.verdict.Verdict.TheVariants.Unsat, pb_tool.specs.meaning.Decided.AreVerified, pb_tool.specs.meaning.Headline.AreWidest}
use Rattle.pb_text.specs.{declared.Limits.Limits, meaning.Reading.byte_limit}
use Rattle.std.specs.Prelude.{◌↔◌, ℕ, List, Bool, IsTrue}

-- Under the widest limits the answer is true if and only if the two texts are an instance and a proof of UNSAT that the
-- rules accept.
abbrev pub IsAnswer : List ℕ → List ℕ → Bool → Type 0
IsAnswer instance proof answer = (limits : Limits) × AreWidest limits × (IsTrue answer ↔ AreVerified limits byte_limit instance proof Unsat)
