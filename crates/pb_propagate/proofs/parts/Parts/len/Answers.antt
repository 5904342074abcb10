use Rattle.std.proofs.Common.{sym}
use Rattle.pb_propagate.proofs.lemmas.Spans.{count_is}
use Rattle.pb_propagate.proofs.parts.Parts.len.Goals as goal

pub returns : goal.returns
returns c =
    let p = c.self.inside in
    sym (count_is p.spans.items p.exponents.items p.count c.self.view_is)
