-- How a session relates to the texts that it was given.
use Rattle.pb_opb.specs.declared.Instance.{Instance}
use Rattle.{pb_proof.specs.engine.machine.State.proofs, pb_text.specs.contract.Feeding.state_of, pb_text.specs.meaning.Limits.largest}
use Rattle.pb_replay.specs.declared.{fault.Fault.TheVariants.Overflow as over, verdict.Verdict.Verdict}
use Rattle.pb_replay.specs.meaning.{Meaning.MeansWritten, Problem.FitsAll, Problem.Opened, Problem.Problem, Replay.State, Replay.first_state}
use Rattle.pb_text.specs.declared.{Limits.Limits, Place.Place, Stop.Stop, place.Why.TheVariants.Memory as no_memory}
use Rattle.pb_tool.specs.{contract.Pieces.CountsAt, contract.Pieces.fault_of, contract.Pieces.place_in, declared.commands.check.checker.CheckFault.CheckFault}
use Rattle.{pb_tool.specs.meaning.Files.IsInstanceFile, pb_tool.specs.meaning.Files.IsNoInstanceFile, pb_pieces.specs.declared.session.Session.Session}
use Rattle.pb_tool.specs.meaning.Verified.{AfterProof, InProof, IsAccepted, IsRefusedStep, IsRefusedText}
use Rattle.std.specs.Prelude.{◌≡◌, ◌≢◌, ◌≤◌, ◌⊎◌, ℕ, List, [], ◌++◌, drop, length, Bool, true, Option, Some, None, Ok, Err}
use Rattle.pb_pieces.specs.declared.session.OpenFault.{OpenFault, TheVariants.Text, TheVariants.Overflow, TheVariants.Memory}
use Rattle.pb_tool.specs.declared.commands.check.checker.CheckFault.TheVariants as check

-- the bytes that were fed after the last statement of the proof
abbrev pub rest_of : Session → List ℕ
rest_of s = s.rest.items

-- how much of the current statement is stored
abbrev pub held_in : Session → ℕ
held_in s = proofs.kept (state_of s.checker.feeder)

module _ (limits : Limits) (longest : ℕ) where
  -- how many statements were accepted before the text was rejected
  abbrev pub accepted_before : (v : Problem) (first : State) (before after : Option (List ℕ)) (s : Stop) → IsRefusedText limits longest v first before after s → ℕ
  accepted_before v first before after s (InProof last so_far asks) = length so_far.spans
  accepted_before v first before after s (AfterProof mid place last w all claimed stray) = length all.spans

  -- A replay over the problem takes the proof.
  module _ (v : Problem) where
    -- Every statement so far was accepted, and they are counted. What follows the last statement of the proof is stored.
    pub record IsRunning (fed : List ℕ) (s : Session) : Type 0 where
      pub counts : CountsAt limits longest v (Ok (first_state v)) fed s.accepted s.checker
      pub running : fault_of s.checker ≡ None
      -- each statement has a byte
      pub few : s.accepted ≤ (place_in s.checker).offset
      pub rest_is : rest_of s ≡ drop (place_in s.checker).offset fed

    -- A check of these bytes rejects them with this fault, after n accepted statements.
    abbrev pub HasFault : List ℕ → ℕ → CheckFault → Type 0
    HasFault seen n (check.Text s) =
        (after : Option (List ℕ)) × (refused : IsRefusedText limits longest v (first_state v) (Some seen) after s)
        × (accepted_before v (first_state v) (Some seen) after s refused ≡ n)
    HasFault seen n (check.Step begins e) =
        (after : Option (List ℕ)) × (name : List ℕ) × (refused : IsRefusedStep limits longest v (first_state v) (Some seen) after begins e name)
        × (length refused.2.spans ≡ n)

    -- The bytes begin with a proof, whose n statements were accepted. For the bytes after it there was no memory.
    abbrev pub IsUnstored : List ℕ → ℕ → CheckFault → Type 0
    IsUnstored seen n f =
        (place : Place) × (last : State) × (after : List ℕ) × (all : IsAccepted limits longest v (first_state v) (Some seen) (Some after) place true None last)
        × (after ≢ []) × (length all.spans ≡ n) × (f ≡ check.Text (record { place = place; why = no_memory }))

    -- The bytes so far, or a prefix of them, were rejected with this fault, after n accepted statements.
    abbrev pub IsRejected : List ℕ → ℕ → CheckFault → Type 0
    IsRejected fed n f = (seen : List ℕ) × (more : List ℕ) × (fed ≡ seen ++ more) × (HasFault seen n f ⊎ IsUnstored seen n f)

    abbrev pub Stands : List ℕ → Option CheckFault → Session → Type 0
    Stands fed None s = IsRunning fed s
    Stands fed (Some f) s = IsRejected fed s.accepted f

  -- The session was opened for the text of an instance, and was fed these bytes of a proof.
  pub record IsSession (i fed : List ℕ) (s : Session) : Type 0 where
    pub instance : Instance
    pub file : IsInstanceFile limits longest (Some i) (Some []) instance
    pub problem : Problem
    pub opened : Opened (largest limits) instance (Ok problem)
    pub stands : Stands problem fed s.fault s

  -- why there is none
  abbrev pub IsNoSession : List ℕ → OpenFault → Type 0
  IsNoSession i (Text s) = (after : Option (List ℕ)) × IsNoInstanceFile limits longest (Some i) after s
  IsNoSession i Overflow = (v : Instance) × IsInstanceFile limits longest (Some i) (Some []) v × Opened (largest limits) v (Err over)
  IsNoSession i Memory = (v : Instance) × IsInstanceFile limits longest (Some i) (Some []) v × FitsAll (largest limits) v

  -- The text is that of an instance, and the verdict is true of it.
  abbrev pub IsInstanceOf : List ℕ → Verdict → Type 0
  IsInstanceOf i w = (v : Instance) × IsInstanceFile limits longest (Some i) (Some []) v × MeansWritten v w

  -- The first text is that of an instance. The other one begins with n statements of a proof, all that end in it, and
  -- they are accepted.
  abbrev pub HasAccepted : List ℕ → List ℕ → ℕ → Type 0
  HasAccepted i fed n =
      (v : Instance) × IsInstanceFile limits longest (Some i) (Some []) v × (p : Problem) × Opened (largest limits) v (Ok p)
      × (after : Option (List ℕ)) × (place : Place) × (done : Bool) × (last : State)
      × (so_far : IsAccepted limits longest p (first_state p) (Some fed) after place done None last) × (length so_far.spans ≡ n)
