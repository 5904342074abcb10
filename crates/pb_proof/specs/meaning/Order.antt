-- The order of the statements of a proof.
use Rattle.pb_proof.specs.{declared.machine.phase.Stage.Stage, declared.statement.Statement.Statement, meaning.Lines.SpellsStatement, meaning.Proofs.IsGap}
use Rattle.pb_text.specs.meaning.Spelling.{Item}
use Rattle.std.specs.Prelude.{◌≡◌, ℕ, List, [], ◌∷◌}

-- the stage of a statement, and the stage after it
abbrev pub stage_of : Statement → Stage
stage_of Statement.Header = Stage.Opening
stage_of (Statement.F count) = Stage.Formula
stage_of (Statement.Conclude c) = Stage.Concluding
stage_of Statement.End = Stage.Closing
stage_of _ = Stage.Steps

abbrev pub stage_after : Statement → Stage
stage_after Statement.Header = Stage.Formula
stage_after Statement.Output = Stage.Concluding
stage_after (Statement.Conclude c) = Stage.Closing
stage_after Statement.End = Stage.Complete
stage_after _ = Stage.Steps

-- what may come before a statement
abbrev pub GapAt : Stage → List ℕ → Type 0
GapAt Stage.Opening gap = gap ≡ []
GapAt _ gap = IsGap gap

module _ (limit top : ℕ) where
  -- the statements from a stage to the end
  abbrev pub IsStaged : Stage → List (Item Statement) → Type 0
  IsStaged at [] = at ≡ Stage.Complete
  IsStaged at (i ∷ rest) =
      GapAt at i.gap × (stage_of i.event ≡ at) × SpellsStatement limit top i.event i.text × IsStaged (stage_after i.event) rest
