use Rattle.pb_c.proofs.{Claims.answers, Common.AnswerOfCheck, check_into.Goals.returns as goal}

pub returns : goal
returns c =
    answers c.args.options.now (λ limits longest text status. AnswerOfCheck limits longest c.args.instance.now c.args.proof.now text status) c.args.line.now c.put-2.new.room c.put-2.result c.in-Some.asked.limits c.in-Some.asked.longest c.checked.result.text c.into_parts.result.0 c.as_slice.result.now c.checked.result.status c.into_parts.result.1
    c.in-Some.ensures.asked c.checked.ensures c.into_parts.ensures.text c.as_slice.ensures c.into_parts.ensures.status c.put-2.ensures
