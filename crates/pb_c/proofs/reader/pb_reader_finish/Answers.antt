use Rattle.pb_c.proofs.{Claims.same_value, reader.pb_reader_finish.Goals.returns-clause-ends as goal}
use Rattle.pb_c.proofs.Common.{◌^◌, ◌≡◌, None, rules, Some, subst, unwrap_or, fault_of, IsReader, Reader}

pub returns-clause-ends : goal
returns-clause-ends c f options fed events (r, is, running, (limits, longest, asked, reading)) =
    let within = unwrap_or longest (2 ^ 40) in
    let held : c.args.reader.now.value ≡ Some c.deref_mut.result.now = search rules in
    let kept : c.of.result.value ≡ Some c.finish_reader-status.new.reader = search rules in
    let same = same_value is held in
    let running = subst (λ (x : Reader). fault_of x ≡ None) same running in
    let reading = subst (λ (x : Reader). IsReader within limits fed events f x) same reading in
    (c.finish_reader-status.new.reader, kept, (limits, longest, asked, c.finish_reader-status.ensures.ends f limits within fed events running reading))
