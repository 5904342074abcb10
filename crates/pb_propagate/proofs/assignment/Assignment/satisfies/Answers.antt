use Rattle.pb_propagate.proofs.Common.{◌∙◌, ap, arith, false, sym, get_or_read, false_at}
use Rattle.pb_propagate.proofs.lemmas.clauses.Literals.{true-flipped, flip-inside}
use Rattle.pb_propagate.proofs.assignment.Assignment.satisfies.Goals as goal

pub index-requires : goal.index-requires
index-requires c = omega (arith, c.opposite.ensures, flip-inside c.args.code _ c.requires, c.args.self.now.sizes, c.args.self.now.failed.ok.0)

pub returns : goal.returns
returns c =
    let me = c.args.self.now in
    get_or_read me.failed.items c.opposite.result c.index.result.now (omega (arith, c.opposite.ensures, flip-inside c.args.code _ c.requires, me.sizes)) c.index.ensures false
    ∙ me.marked c.opposite.result ∙ ap (false_at me.values.items) c.opposite.ensures ∙ sym (true-flipped me.values.items c.args.code)
