use Rattle.pb_normal.specs.meaning.Rules.{opposite as opposite_entry}
use Rattle.pb_propagate.proofs.Common.{get_or-map, ap, arith, length-map, Form}
use Rattle.pb_propagate.proofs.engine.question.question.Goals as goal

pub pose-requires-clause-inside : goal.pose-requires-clause-inside
pose-requires-clause-inside c =
    rw (ap (λ (f : Form). f.terms) c.in-Ok.ensures.negation) (λ k d h. grind (arith, get_or-map opposite_entry c.args.goal.now.terms k d d, c.requires.inside k d, length-map c.args.goal.now.terms opposite_entry))
