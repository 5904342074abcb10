use Rattle.pb_c.proofs.{Claims.same_value, Claims.fed_under, reader.pb_reader_feed.Goals.returns-clause-feeds as goal}
use Rattle.pb_c.proofs.Common.{◌^◌, ◌≡◌, None, rules, Some, subst, unwrap_or, fault_of, IsReader, Reader}

pub returns-clause-feeds : goal
returns-clause-feeds c f options fed events (r, is, running, (limits, longest, asked, reading)) =
    let within = unwrap_or longest (2 ^ 40) in
    let held : c.args.reader.now.value ≡ Some c.deref_mut.result.now = search rules in
    let kept : c.of.result.value ≡ Some c.feed_reader-status.new.reader = search rules in
    let same = same_value is held in (
      c.feed_reader-status.new.reader,
      kept,
      fed_under f options fed events c.args.piece.now limits longest asked _ _ _ _
          (c.feed_reader-status.ensures.feeds f limits within fed events (subst (λ (x : Reader). fault_of x ≡ None) same running) (subst (λ (x : Reader). IsReader within limits fed events f x) same reading)),
    )
