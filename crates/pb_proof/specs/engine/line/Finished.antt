-- How many expressions are finished after a postfix word.
use Rattle.pb_proof.specs.declared.word.PolWord.{PolWord}
use Rattle.std.specs.Prelude.{ℕ, suc, Option, Some, None}

-- the number after the word if d are finished before it, or none if the word lacks an operand
abbrev pub finished_with : ℕ → PolWord → Option ℕ
finished_with d (PolWord.Id id) = Some (suc d)
finished_with d (PolWord.Axiom literal) = Some (suc d)
finished_with (suc (suc d)) PolWord.Add = Some (suc d)
finished_with (suc d) (PolWord.Multiply k) = Some (suc d)
finished_with (suc d) (PolWord.Divide k) = Some (suc d)
finished_with (suc d) PolWord.Saturate = Some (suc d)
finished_with (suc d) (PolWord.Weaken name) = Some (suc d)
finished_with _ _ = None
