use Rattle.pb_tool.proofs.Common.{◌∙◌, ◌∷◌, [], inr, refl, sym, proof_bytes, IsProofOf, largest_small, largest, top_of, IsProofText, tidied_proof}
use Rattle.pb_tool.proofs.lemmas.tidy.TidiedAgain.{faultless, read_alone}
use Rattle.pb_tool.proofs.laws.tidied_proof_stays.Goals as goal

pub returns-clause-taken : goal.returns-clause-taken
returns-clause-taken c v = (_, refl)

pub returns-clause-same : goal.returns-clause-same
returns-clause-same c limits longest v w after rules file =
    let (own, spells, bytes, value) = c.canonical_proof_spells.ensures (largest limits) (top_of limits) v (largest_small limits) limits.most_top rules in
    sym file.value ∙ c.written_proof_reads_back.ensures (largest limits) (top_of limits) longest v file.read (largest_small limits) limits.most_top rules
    (read_alone (IsProofText limits) (proof_bytes v) own spells bytes (c.prefix_free.ensures (largest limits) (top_of limits)) IsProofOf (tidied_proof v) (10 ∷ []) refl (inr refl) after longest w file)

pub returns-clause-faultless : goal.returns-clause-faultless
returns-clause-faultless c limits v s after rules refused =
    let (own, spells, bytes, value) = c.canonical_proof_spells.ensures (largest limits) (top_of limits) v (largest_small limits) limits.most_top rules in
    faultless (IsProofText limits) (proof_bytes v) own spells bytes (c.prefix_free.ensures (largest limits) (top_of limits)) IsProofOf (tidied_proof v) (10 ∷ []) refl (inr refl) after _ _ s refused
