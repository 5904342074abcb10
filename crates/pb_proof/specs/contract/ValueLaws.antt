-- The laws of proofs and their values.
use Rattle.pb_proof.specs.{contract.Values.IsStatementValue, contract.Values.IsProofValue, declared.proof.Proof.Proof, declared.statement.Statement.Statement}
use Rattle.pb_proof.specs.meaning.{Canonical.proof_bytes, Lines.SpellsStatement, Proofs.statements_of, Proofs.IsProof, Proofs.IsProofOf}
use Rattle.pb_text.specs.declared.{Place.Place, Spanned.Spanned, Stop.Stop}
use Rattle.pb_text.specs.meaning.{Reading.Reads, Spelling.Letter, Spelling.Item, Spelling.bytes_of, Whole.events_at, Whole.events_of, Whole.IsRead}
use Rattle.std.specs.Prelude.{◌≡◌, ℕ, ◌^◌, ◌<◌, List, [], ◌++◌, All, Bool, true, Option}

-- The canonical text of a proof that meets the rules is a text of that proof.
abbrev pub CanonicalProof : Type 0
CanonicalProof = (limit top : ℕ) (v : Proof) → limit < 2 ^ 127 → top < 2 ^ 63 → IsProofValue limit top v →
    (items : List (Item Statement)) × IsProof limit top items × (bytes_of items ≡ proof_bytes v) × IsProofOf (events_of items) v

-- A statement that has a text meets the rules, and so does a proof.
abbrev pub StatementValues : Type 0
StatementValues = (limit top : ℕ) (s : Statement) (text : List Letter) → SpellsStatement limit top s text → IsStatementValue limit top s

abbrev pub ProofValues : Type 0
ProofValues = (limit top : ℕ) (items : List (Item Statement)) (v : Proof) → IsProof limit top items → IsProofOf (events_of items) v →
    IsProofValue limit top v

-- The first statements of a proof, in order, or all of them. They and the proof meet the rules.
pub record BeginProof (limit top : ℕ) (statements : List Statement) (all : Bool) : Type 0 where
  pub value : Proof
  pub rest : List Statement
  pub order : statements_of value ≡ statements ++ rest
  pub whole : all ≡ true → rest ≡ []
  pub each : All (IsStatementValue limit top) statements
  pub rules : IsProofValue limit top value

-- The statements read are the first ones of a proof, and all of them if the read is done.
abbrev pub ReadStatements : Type 0
ReadStatements = (limit top longest : ℕ) (input used : List ℕ) (spans : List (Spanned Statement)) (place : Place) (done : Bool) (stop : Option Stop) →
    Reads (IsProof limit top) longest input used spans place done stop → BeginProof limit top (events_at spans) done

-- Statements are those of at most one proof.
abbrev pub OneValue : Type 0
OneValue = (statements : List Statement) (v w : Proof) → IsProofOf statements v → IsProofOf statements w → v ≡ w

-- The canonical text of a proof that meets the rules is not read as any other proof.
abbrev pub ReadsBack : Type 0
ReadsBack = (limit top longest : ℕ) (v : Proof) (m : Spanned Proof) → limit < 2 ^ 127 → top < 2 ^ 63 → IsProofValue limit top v →
    IsRead (IsProof limit top) longest IsProofOf (proof_bytes v) m → m.event ≡ v
