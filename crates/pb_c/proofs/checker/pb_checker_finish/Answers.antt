use Rattle.pb_c.proofs.{Claims.under, Claims.unsat_of, Common.◌^◌, Common.◌∙◌, Common.◌≡◌, Common.ap, Common.rules, Common.Some, Common.sym, Common.unwrap_or}
use Rattle.pb_c.{proofs.Common.Session, specs.declared.claim.Claim.Claim}
use Rattle.pb_c.proofs.checker.pb_checker_finish.Goals as goal

pub returns-clause-stands : goal.returns-clause-stands
returns-clause-stands c options i fed h =
    let (limits, longest, asked, session) = under options i fed c.args.checker.now c.deref_mut.result.now (search rules) h in
    let call = c.finish_session-status in
    (call.new.session, search rules, (limits, longest, asked, call.ensures.stands limits (unwrap_or longest (2 ^ 40)) i fed session))

pub returns-clause-answers : goal.returns-clause-answers
returns-clause-answers c =
    let kept : c.of.result.value ≡ Some c.finish_session-status.new.session = search rules in
    rw kept c.finish_session-status.ensures.answers

pub returns-clause-concludes : goal.returns-clause-concludes
returns-clause-concludes c options i fed h zero =
    let (limits, longest, asked, session) = under options i fed c.args.checker.now c.deref_mut.result.now (search rules) h in
    (limits, longest, asked, c.finish_session-status.ensures.claims limits (unwrap_or longest (2 ^ 40)) i fed session zero)

pub returns-clause-unsat : goal.returns-clause-unsat
returns-clause-unsat c options i fed h zero one =
    let (limits, longest, asked, session) = under options i fed c.args.checker.now c.deref_mut.result.now (search rules) h in
    let (w, claims, verified, (v, file, means)) = c.finish_session-status.ensures.claims limits (unwrap_or longest (2 ^ 40)) i fed session zero in
    (limits, longest, asked, (v, file, unsat_of v w (ap (λ (x : Claim). x.kind) (sym claims) ∙ one) means))

pub returns-clause-kept : goal.returns-clause-kept
returns-clause-kept c zero =
    let held : c.args.checker.now.value ≡ Some c.deref_mut.result.now = search rules in
    let kept : c.of.result.value ≡ Some c.finish_session-status.new.session = search rules in
    kept ∙ (ap (λ (x : Session). Some x) (c.finish_session-status.ensures.kept zero) ∙ sym held)
