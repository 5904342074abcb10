use Rattle.pb_c.proofs.{Claims.under, Common.◌^◌, Common.◌≡◌, Common.rules, Common.Some, Common.unwrap_or}
use Rattle.pb_c.proofs.checker.pb_checker_feed.Goals as goal

pub returns-clause-fed : goal.returns-clause-fed
returns-clause-fed c options i fed h =
    let (limits, longest, asked, session) = under options i fed c.args.checker.now c.deref_mut.result.now (search rules) h in
    let call = c.feed_session-status in
    (call.new.session, search rules, (limits, longest, asked, call.ensures.fed limits (unwrap_or longest (2 ^ 40)) i fed session))

pub returns-clause-answers : goal.returns-clause-answers
returns-clause-answers c =
    let kept : c.of.result.value ≡ Some c.feed_session-status.new.session = search rules in rw kept c.feed_session-status.ensures.answers

pub returns-clause-used : goal.returns-clause-used
returns-clause-used c =
    let held : c.args.checker.now.value ≡ Some c.deref_mut.result.now = search rules in
    let kept : c.of.result.value ≡ Some c.feed_session-status.new.session = search rules in
    rw (held, kept) c.feed_session-status.ensures.used
