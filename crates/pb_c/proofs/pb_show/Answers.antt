use Rattle.pb_c.proofs.{Claims.answers, Common.AnswerOfShow, pb_show.Goals.returns as goal}

pub returns : goal
returns c =
    answers c.args.options.now (λ limits longest text status. AnswerOfShow limits longest c.args.text.now text status) c.args.out.now c.put-2.new.room c.put-2.result c.in-Some.asked.limits c.in-Some.asked.longest c.shown.result.text c.into_parts.result.0 c.as_slice.result.now c.shown.result.status c.into_parts.result.1
    c.in-Some.ensures.asked c.shown.ensures c.into_parts.ensures.text c.as_slice.ensures c.into_parts.ensures.status c.put-2.ensures
