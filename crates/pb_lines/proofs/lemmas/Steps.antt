-- The steps of a machine for words, by cases.
use Rattle.pb_lines.proofs.Common.{arith, ℕ, ◌≡◌, false, List}
use Rattle.pb_lines.specs.declared.part.Part.{Part}
use Rattle.pb_lines.specs.contract.Grammar.{Grammar}
use Rattle.pb_lines.specs.engine.Words.{step_of, inner_step, ends_word}

module _ {S E : Type 0} (g : Grammar S E) where
  -- a part that is not the end of a line
  pub step_inner : (s : S) (name : List ℕ) (p : Part) (b : ℕ) → (p ≡ Part.Closing → ⊥) → (p ≡ Part.Done → ⊥) → ends_word b ≡ false → step_of g s name p b ≡ inner_step g s name p b
  step_inner s name p b f h e = grind (arith, p)
