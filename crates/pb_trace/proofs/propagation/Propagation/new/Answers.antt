use Rattle.pb_trace.proofs.{Common.refl, Deriving.sound-start, propagation.Propagation.new.Goals.returns as goal}

pub returns : goal
returns c negation stored over = sound-start negation stored over _ c.loop.invariant c.new.ensures.items refl
