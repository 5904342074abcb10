use Rattle.std.proofs.Common.{◌∙◌, sym}
use Rattle.pb_propagate.proofs.lemmas.Parts.{part_count}
use Rattle.pb_propagate.proofs.lists.Lists.len.Goals as goal

pub returns : goal.returns
returns g c =
    let l = c.self.inside in
    c.len.ensures ∙ sym (part_count l.items.items l.parts c.self.view_is)
