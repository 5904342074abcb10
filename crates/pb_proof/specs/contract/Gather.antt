-- A proof, built from its statements one at a time.
use Rattle.pb_proof.specs.declared.{conclusion.Conclusion.TheVariants.NoClaim, proof.Proof.Proof, statement.Statement.Statement}
use Rattle.std.specs.Prelude.{Bool, true, false, IsTrue, List, [], ◌∷◌, ◌++◌, None}

-- the proof with one more statement
abbrev pub with : Proof → Statement → Proof
with v Statement.Header = v
with v (Statement.F count) = record v { count = count }
with v Statement.Output = v
with v (Statement.Conclude conclusion) = record v { conclusion = conclusion }
with v Statement.End = v
with v step = record v { steps = v.steps ++ step ∷ [] }

-- Whether storing a statement may allocate: only steps are stored in a list.
abbrev pub asks : Statement → Bool
asks Statement.Header = false
asks (Statement.F count) = false
asks Statement.Output = false
asks (Statement.Conclude conclusion) = false
asks Statement.End = false
asks step = true

-- whether storing a statement after others may allocate
abbrev pub MayKeep : List Statement → Statement → Type 0
MayKeep statements s = IsTrue (asks s)

-- before any statement
abbrev pub nothing : Proof
nothing = record { count = None; steps = []; conclusion = NoClaim }
