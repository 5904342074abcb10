use Rattle.pb_tool.proofs.lemmas.tidy.TidiedAgain.{tidied_again}
use Rattle.pb_tool.proofs.laws.tidied_files_stay.Goals as goal

pub returns : goal.returns
returns g c limits longest again text before after rest empty full old new result e k first second =
    tidied_again c.instances_are_values.ensures c.proofs_are_values.ensures.proofs limits longest before after c.tidied_text_stays.ensures.taken c.tidied_text_stays.ensures.same c.tidied_text_stays.ensures.faultless
    c.tidied_proof_stays.ensures.taken c.tidied_proof_stays.ensures.same c.tidied_proof_stays.ensures.faultless g.W.Sink.contents g.W.Sink.faults again rest old new result text empty full e k first second
