use Rattle.pb_trace.proofs.{Common.option_copied, Deriving.keeps_then, propagation.Propagation.propagate.Goals.returns as goal}

pub returns : goal
returns c =
    keeps_then (option_copied c.args.base.negation) c.args.base.constraints.now c.args.base.over c.follow.result c.args.self.now c.loop-index.self c.follow.new.self c.loop-index.invariant c.follow.ensures
