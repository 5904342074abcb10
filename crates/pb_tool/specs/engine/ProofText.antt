-- The text of a proof, built as its statements come.
use Rattle.pb_proof.specs.{declared.proof.Proof.Proof, meaning.Canonical.statement_bytes, meaning.Proofs.IsProofOf}
use Rattle.pb_proof.specs.declared.statement.Statement.{Statement, TheVariants.Header, TheVariants.F, TheVariants.Output, TheVariants.Conclude, TheVariants.End}
use Rattle.pb_tool.specs.{contract.Show.line_of, contract.Tidy.tidied_proof, declared.commands.tidy.proof_text.ProofText.ProofText}
use Rattle.std.specs.Prelude.{◌≡◌, ℕ, List, ◌++◌}

-- the line of a statement
abbrev pub line : Statement → List ℕ
line = line_of statement_bytes

-- The statements with one more. Steps are stored as text, and the count of `f` and the conclusion as they are.
abbrev pub with : ProofText → Statement → ProofText
with t Header = t
with t (F count) = record t { count = count }
with t Output = t
with t (Conclude conclusion) = record t { conclusion = Conclude conclusion }
with t End = t
with t step = record t { steps = record t.steps { text = t.steps.text ++ line step } }

-- the lines before the steps, and those after them
abbrev pub before_steps : ProofText → List ℕ
before_steps t = line Header ++ line (F t.count)

abbrev pub after_steps : ProofText → List ℕ
after_steps t = line Output ++ (line t.conclusion ++ line End)

-- the text of the statements
abbrev pub text_of : ProofText → List ℕ
text_of t = before_steps t ++ (t.steps.text ++ after_steps t)

-- the text is what is written for the proof of these statements
abbrev pub IsProofTextOf : List Statement → ProofText → Type 0
IsProofTextOf statements t = (v : Proof) × IsProofOf statements v × (text_of t ≡ tidied_proof v)
