-- The rules that statements and proofs meet.
use Rattle.pb_proof.specs.{declared.word.PolWord.PolWord, meaning.Postfix.IsPostfix, meaning.Proofs.IsStep}
use Rattle.pb_proof.specs.declared.{conclusion.Bound.Bound, conclusion.Conclusion.Conclusion, proof.Proof.Proof, statement.Statement.Statement}
use Rattle.pb_sums.specs.{contract.Canonical.IsLinear, declared.Literal.Literal, declared.Relation.TheVariants.AtLeast, meaning.Sums.IsName}
use Rattle.std.specs.Prelude.{◌≡◌, ℕ, ℤ, pos, ◌<◌, ◌≤◌, ◌≤ℤ◌, nat_abs, List, length, All, Option, Some, None}

-- if there is one, it meets the rule
abbrev pub IfGiven : {A : Type 0} → (A → Type 0) → Option A → Type 0
IfGiven P None = Unit {0}
IfGiven P (Some x) = P x

-- not 0, with a magnitude of at most top
abbrev pub IsId : ℕ → ℤ → Type 0
IsId top id = (0 < nat_abs id) × (nat_abs id ≤ top)

-- 1 to limit
abbrev pub IsFactor : ℕ → ℤ → Type 0
IsFactor limit k = (pos 1 ≤ℤ k) × (k ≤ℤ pos limit)

abbrev pub AreLiterals : List Literal → Type 0
AreLiterals ls = All (λ l. IsName l.name) ls

abbrev pub IsBound : ℕ → Bound → Type 0
IsBound limit (Bound.Finite z) = nat_abs z ≤ limit
IsBound limit Bound.Infinite = Unit {0}

module _ (limit top : ℕ) where
  abbrev pub IsWord : PolWord → Type 0
  IsWord (PolWord.Id id) = IsId top id
  IsWord (PolWord.Axiom literal) = IsName literal.name
  IsWord PolWord.Add = Unit {0}
  IsWord (PolWord.Multiply k) = IsFactor limit k
  IsWord (PolWord.Divide k) = IsFactor limit k
  IsWord PolWord.Saturate = Unit {0}
  IsWord (PolWord.Weaken name) = IsName name

  abbrev pub IsConclusion : Conclusion → Type 0
  IsConclusion Conclusion.NoClaim = Unit {0}
  IsConclusion (Conclusion.Unsat id) = IfGiven (IsId top) id
  IsConclusion (Conclusion.Sat shown) = IfGiven AreLiterals shown
  IsConclusion (Conclusion.Bounds lower id upper shown) =
      IsBound limit lower × IfGiven (IsId top) id × IsBound limit upper × IfGiven AreLiterals shown

  abbrev pub IsStatementValue : Statement → Type 0
  IsStatementValue Statement.Header = Unit {0}
  IsStatementValue (Statement.F count) = IfGiven (λ n. n ≤ top) count
  IsStatementValue (Statement.Pol ws) = IsPostfix ws × All IsWord ws
  IsStatementValue (Statement.Rup c) = (c.relation ≡ AtLeast) × IsLinear limit c
  IsStatementValue (Statement.Soli ls) = AreLiterals ls
  IsStatementValue (Statement.Solx ls) = AreLiterals ls
  IsStatementValue (Statement.Delete ids) = (0 < length ids) × All (IsId top) ids
  IsStatementValue Statement.Output = Unit {0}
  IsStatementValue (Statement.Conclude c) = IsConclusion c
  IsStatementValue Statement.End = Unit {0}

  pub record IsProofValue (v : Proof) : Type 0 where
    pub count : IfGiven (λ n. n ≤ top) v.count
    pub steps : All (λ s. IsStep s × IsStatementValue s) v.steps
    pub conclusion : IsConclusion v.conclusion
