-- What is unique in a check.
use Rattle.pb_opb.specs.contract.Formats as opb_laws
use Rattle.pb_proof.specs.contract.Formats as veri_laws
use Rattle.{pb_proof.specs.contract.ValueLaws.OneValue, pb_replay.specs.contract.Laws.OpeningsAreSingle, pb_replay.specs.contract.Laws.OutcomesAreSingle}

-- A text is one instance and one proof at most, and none is a prefix of another. The statements of a prefix of a proof
-- are the same in each proof that it begins. A proof has one value. A replay opens and continues in one way.
pub record AllSingle : Type 0 where
  pub one_instance : opb_laws.OneInstance
  pub instance_prefix : opb_laws.PrefixFree
  pub one_proof : veri_laws.OneProof
  pub proof_prefix : veri_laws.PrefixFree
  pub fixed : veri_laws.FixedSpans
  pub value : OneValue
  pub openings : OpeningsAreSingle
  pub outcomes : OutcomesAreSingle
