use Rattle.pb_tool.proofs.Common.{[], append-nil, Err, Ok, refl, rules, sym, first_state, Write}
use Rattle.pb_tool.proofs.lemmas.check.TwoSources.{all_answered, all_replayed, all_broke, all_written, instance_read, no_replay, opening_unseen, proof_refused}
use Rattle.pb_tool.proofs.lemmas.check.TwoSources.{replay_unseen}
use Rattle.pb_tool.proofs.commands.check.check_watched.Goals as goal

pub returns-in-Err : goal.returns-in-Err
returns-in-Err g c =
    let r = c.in-Err.ensures in let (one, left, e, h) = r.given in
    let all =
    all_answered c.verified_is_true.ensures g.I.Source g.P.Source g.W.Sink g.V.Watch.got c.args.limits _ _ c.unwrap_or-longest.ensures c.args.instance.now
    c.args.proof.now c.args.out.now c.args.watch.now c.replay_of_instance.new.input c.args.proof.now c.args.out.now c.args.watch.now (Err c.in-Err.fault)
    (no_replay _ _ _ _ _ _ _ _ _ c.in-Err.fault refl refl _ _ _ r.opened)
    (one, left, e, ([], [], sym (append-nil (g.P.Source.history c.args.proof.now)), no_replay _ _ _ _ _ _ _ _ _ c.in-Err.fault refl refl _ _ _ h))
    r.seen
    (opening_unseen (g.P.Source.shown c.args.proof.now) (g.P.Source.ended c.args.proof.now) c.args.limits c.unwrap_or-longest.result _ _ c.in-Err.fault
    r.opened)
    (search rules) (search rules) in
    record { checked = all.0; watched = all.1; watched_given = all.2 }

pub returns-in-Err-check_proof : goal.returns-in-Err-check_proof
returns-in-Err-check_proof g c =
    let r = c.in-Ok.ensures in let comes = c.in-Err-check_proof.ensures.comes in
    let refused = (comes (first_state c.in-Ok.replay.problem) r.opened.first).0.replayed in
    let all =
    all_replayed c.verified_is_true.ensures g.I.Source g.P.Source g.W.Sink g.V.Watch.got c.args.limits _ _ c.unwrap_or-longest.ensures c.args.instance.now
    c.args.proof.now c.args.out.now c.args.watch.now c.replay_of_instance.new.input c.check_proof.new.input c.args.out.now c.check_proof.new.watch
    (Err c.in-Err-check_proof.fault) c.in-Ok.replay r.opened r.given (Err c.in-Err-check_proof.fault) comes
    (proof_refused _ _ _ _ _ _ _ _ _ c.in-Ok.replay c.in-Err-check_proof.fault refl)
    (replay_unseen (g.I.Source.shown c.replay_of_instance.new.input) (g.I.Source.ended c.replay_of_instance.new.input) c.in-Ok.replay.limits
    c.unwrap_or-longest.result _ _ r.seen c.in-Ok.replay.problem (first_state c.in-Ok.replay.problem) c.in-Err-check_proof.fault
    refused) c.in-Err-check_proof.ensures.seen
    (instance_read c.in-Ok.replay.limits c.unwrap_or-longest.result c.in-Ok.replay.problem (first_state c.in-Ok.replay.problem) _ _ c.in-Err-check_proof.fault
    refused
    _ _ r.faults) (search rules) in
    record { checked = all.0; watched = all.1; watched_given = all.2 }

pub returns-in-Ok-write_verdict : goal.returns-in-Ok-write_verdict
returns-in-Ok-write_verdict g c =
    let r = c.in-Ok.ensures in
    let all =
    all_replayed c.verified_is_true.ensures g.I.Source g.P.Source g.W.Sink g.V.Watch.got c.args.limits _ _ c.unwrap_or-longest.ensures c.args.instance.now
    c.args.proof.now c.args.out.now c.args.watch.now c.replay_of_instance.new.input c.check_proof.new.input c.write_verdict.new.out c.check_proof.new.watch
    (Ok c.in-Ok-check_proof.verdict) c.in-Ok.replay r.opened r.given (Ok c.in-Ok-check_proof.verdict) c.in-Ok-check_proof.ensures.comes
    (all_written _ _ _ _ _ _ _ _ _ c.in-Ok.replay c.in-Ok-check_proof.verdict c.in-Ok-write_verdict.ensures)
    (search rules) (search rules) (search rules) (search rules) in
    record { checked = all.0; watched = all.1; watched_given = all.2 }

pub returns-in-Err-write_verdict : goal.returns-in-Err-write_verdict
returns-in-Err-write_verdict g c =
    let r = c.in-Ok.ensures in
    let all =
    all_replayed c.verified_is_true.ensures g.I.Source g.P.Source g.W.Sink g.V.Watch.got c.args.limits _ _ c.unwrap_or-longest.ensures c.args.instance.now
    c.args.proof.now c.args.out.now c.args.watch.now c.replay_of_instance.new.input c.check_proof.new.input c.write_verdict.new.out c.check_proof.new.watch
    (Err Write) c.in-Ok.replay r.opened r.given (Ok c.in-Ok-check_proof.verdict) c.in-Ok-check_proof.ensures.comes
    (all_broke _ _ _ _ _ _ _ _ _ c.in-Ok.replay c.in-Ok-check_proof.verdict c.in-Err-write_verdict.ensures)
    (search rules) (search rules) (search rules) (search rules) in
    record { checked = all.0; watched = all.1; watched_given = all.2 }
