use Rattle.pb_tool.proofs.lemmas.tidy.NormalFile.{same_solutions}
use Rattle.pb_tool.proofs.laws.normal_forms_keep_solutions.Goals as goal

pub returns : goal.returns
returns c =
    let names = c.names_keep_their_numbers.ensures in let forms = c.written_forms_are_exact.ensures in
    same_solutions names.named names.distinct forms.at_least forms.equal forms.written
