use Rattle.pb_trace.proofs.{Common.refl, Common.option_copied, Deriving.keeps_alike, propagation.Propagation.visit_use.Goals.returns as goal}

pub returns : goal
returns c =
    keeps_alike (option_copied c.args.base.negation) c.args.base.constraints.now c.args.base.over c.visit_named.result c.args.self.now _ c.visit_named.new.self refl refl refl c.visit_named.ensures
