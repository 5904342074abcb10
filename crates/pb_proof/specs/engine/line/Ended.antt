-- Lines with a line feed after each.
use Rattle.pb_proof.specs.{declared.statement.Statement.Statement, meaning.Canonical.statement_bytes}
use Rattle.std.specs.Prelude.{ℕ, List, [], ◌∷◌, ◌++◌}

unfoldable pub ended_lines : List Statement → List ℕ
ended_lines [] = []
ended_lines (s ∷ statements) = (statement_bytes s ++ (10 ∷ [])) ++ ended_lines statements
