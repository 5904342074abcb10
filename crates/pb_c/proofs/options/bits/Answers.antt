use Rattle.pb_c.proofs.{Common.rules, options.bits.Goals.returns-then-bits-eq0 as goal}

pub returns-then-bits-eq0 : goal
returns-then-bits-eq0 c = search rules
