use Rattle.pb_c.proofs.{Claims.answers, Common.AnswerOfTidy, pb_tidy.Goals.returns as goal}

pub returns : goal
returns c =
    answers c.args.options.now (λ limits longest text status. AnswerOfTidy limits longest c.args.normal c.args.text.now text status) c.args.out.now c.put-2.new.room c.put-2.result c.in-Some.asked.limits c.in-Some.asked.longest c.tidied.result.text c.into_parts.result.0 c.as_slice.result.now c.tidied.result.status c.into_parts.result.1
    c.in-Some.ensures.asked c.tidied.ensures c.into_parts.ensures.text c.as_slice.ensures c.into_parts.ensures.status c.put-2.ensures
