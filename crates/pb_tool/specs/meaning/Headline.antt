-- What an accepted check means.
use Rattle.{pb_opb.specs.declared.Instance.Instance, pb_tool.specs.meaning.Files.IsProofFile, pb_tool.specs.meaning.Files.IsInstanceFile}
use Rattle.pb_proof.specs.declared.Proof.{Proof}
use Rattle.pb_replay.specs.{declared.verdict.Verdict.Verdict, declared.verdict.Verdict.TheVariants.Unsat, meaning.Meaning.MeansWritten, meaning.Problem.Solves}
use Rattle.pb_text.specs.{declared.Limits.Limits, meaning.Limits.bits_of, meaning.Limits.top_of, meaning.Reading.byte_limit}
use Rattle.pb_tool.specs.meaning.{Decided.AreVerified, Decided.IsDecided, Decided.IsOfTexts, Verified.CheckCall, Verified.ChecksFiles, Verified.IsVerified}
use Rattle.std.specs.Prelude.{◌≡◌, ◌↔◌, ℕ, ◌-◌, ◌^◌, List, [], Bool, Option, Some, Ok}

-- What a proof that was read shows of an instance is true of the instance as it is written.
abbrev pub VerdictsAreTrue : Type 0
VerdictsAreTrue = (limits : Limits) (longest : ℕ) (i : Instance) (p : Proof) (w : Verdict) (before after : Option (List ℕ)) →
    IsProofFile limits longest before after p → IsVerified limits i p w → MeansWritten i w

-- no assignment of its names solves the instance, as it is written
abbrev pub IsUnsatisfiable : Instance → Type 0
IsUnsatisfiable v = (a : List ℕ → Bool) → Solves v a → ⊥

module _ (limits : Limits) (longest : ℕ) where
  -- What `verified UNSAT` says of a source with these bytes before and those after. There is an instance whose text was
  -- read, and no assignment solves it.
  abbrev pub UnsatOf : Option (List ℕ) → Option (List ℕ) → Type 0
  UnsatOf before after = (v : Instance) × IsInstanceFile limits longest before after v × IsUnsatisfiable v

  -- The same for any verdict: there is an instance whose text was read, and the verdict is true of it.
  abbrev pub TrueOf : Verdict → Option (List ℕ) → Option (List ℕ) → Type 0
  TrueOf w before after = (v : Instance) × IsInstanceFile limits longest before after v × MeansWritten v w

-- the widest limits: 127 bits, and `2^63 - 1`
abbrev pub AreWidest : Limits → Type 0
AreWidest limits = (bits_of limits ≡ 127) × (top_of limits ≡ 2 ^ 63 - 1)

-- The bytes are an instance under the widest limits and a blank rest, and no assignment solves that instance.
abbrev pub IsUnsatText : List ℕ → Type 0
IsUnsatText text = (limits : Limits) × AreWidest limits × UnsatOf limits byte_limit (Some text) (Some [])

-- If a check of two sources returns that UNSAT is verified, the first was an instance, and no assignment solves it.
abbrev pub UnsatIsTrue : {W : Type 0} → (W → Option (List ℕ)) → (W → ℕ) → Type 0
UnsatIsTrue {W} contents faults = (limits : Limits) (longest : ℕ) (c : CheckCall (Option (List ℕ)) W) →
    ChecksFiles limits longest contents faults c → c.result ≡ Ok Unsat →
    UnsatOf limits longest c.instance c.instance_after

-- The headline, for I/O and allocation that succeed. A check of two texts verifies UNSAT if and only if they are an
-- instance and a proof of UNSAT that the rules accept. Then no assignment solves that instance.
abbrev pub UnsatIsExact : {W : Type 0} → (W → Option (List ℕ)) → (W → ℕ) → Type 0
UnsatIsExact {W} contents faults = (limits : Limits) (longest : ℕ) (i p : List ℕ) (c : CheckCall (Option (List ℕ)) W) →
    IsOfTexts i p c → ChecksFiles limits longest contents faults c → IsDecided c.result →
    ((c.result ≡ Ok Unsat) ↔ AreVerified limits longest i p Unsat)
    × ((texts : AreVerified limits longest i p Unsat) → IsUnsatisfiable texts.instance)
