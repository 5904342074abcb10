use Rattle.pb_c.proofs.{Common.ℕ, Common.List, Common.subst, Common.Puts, write.pb_write_statement.Goals.returns-in-Ok-clause-writes as goal}

pub returns-in-Ok-clause-writes : goal
returns-in-Ok-clause-writes c zero =
    let put = subst (λ (text : List ℕ). Puts text c.args.out.now c.put.new.room c.put.result) c.as_slice.ensures c.put.ensures in
    let kind = c.in-Some-kind_asked in
    (c.in-Some.asked.limits, c.in-Some.asked.longest, c.in-Some.ensures.asked, kind.wanted, kind.ensures, c.in-Ok.line, c.in-Ok.ensures, put)
