use Rattle.pb_tool.proofs.Common.{[], false, Some, false_from_ne_true, first_fault, first_place, largest, top_of}
use Rattle.pb_tool.proofs.lemmas.file.GivenBytes.{no_proof}
use Rattle.pb_tool.proofs.file.unread_file.Goals as goal

pub returns-clause-instance : goal.returns-clause-instance
returns-clause-instance c longest some bytes =
    c.new.ensures.reads longest bytes [] [] first_place false (Some first_fault)
    (c.unread-stop.ensures.reads (false_from_ne_true _ (λ d. (c.new.ensures.accepts []).0 d)) longest some bytes)

pub returns-clause-proof : goal.returns-clause-proof
returns-clause-proof c longest some bytes =
    c.new-3.ensures.reads longest bytes [] [] first_place false (Some first_fault)
    (c.unread-3.ensures.reads (false_from_ne_true _ (λ d. no_proof (largest c.args.limits) (top_of c.args.limits) ((c.new-3.ensures.accepts []).0 d))) longest some bytes)
