use Rattle.pb_tool.proofs.{Common.arith, lemmas.check.TwoSources.blank_after, lemmas.check.TwoSources.report_faults, lemmas.check.TwoSources.report_unseen}
use Rattle.pb_tool.proofs.lemmas.{check.TwoSources.step_rejected, check.TwoSources.stray_after, check.TwoSources.text_stopped, file.GivenBytes.of_both}
use Rattle.pb_tool.proofs.commands.check.proof.run_checker.Goals as goal

pub returns-in-Err-Text-clause-comes : goal.returns-in-Err-Text-clause-comes
returns-in-Err-Text-clause-comes g c longest began begins first at =
    let t = rw (c.in-Err-Text.is, c.in-Err-Text.field-0-is) at c.check_statements.ensures in let new = c.check_statements.new in
    rw c.text_fault.ensures (of_both _ _ _ _ (text_stopped longest began g.V.Watch.got c.args.watch.now first new.checker.replay new.watch c.in-Err-Text.stop)
    (t.runs longest began begins first at))

pub returns-in-Err-Step-clause-comes : goal.returns-in-Err-Step-clause-comes
returns-in-Err-Step-clause-comes g c longest began begins first at =
    let t = rw (c.in-Err-Step.is, c.in-Err-Step.field-0-is) at c.check_statements.ensures in let new = c.check_statements.new in
    of_both _ _ _ _ (step_rejected longest began g.V.Watch.got c.args.watch.now first new.checker.replay new.watch c.outcomes_are_single.ensures.wanting
    c.in-Err-Step.place c.in-Err-Step.fault c.rejection.result c.rejection.ensures) (t.runs longest began begins first at)

pub returns-in-Ok-rest_is_blank-clause-comes : goal.returns-in-Ok-rest_is_blank-clause-comes
returns-in-Ok-rest_is_blank-clause-comes g c longest began begins first at =
    let t = rw c.in-Ok.is at c.check_statements.ensures in let new = c.check_statements.new in
    blank_after longest began g.V.Watch.got c.args.watch.now first new.checker.replay new.watch c.in-Ok.ended _ _ _ _ _ _ (t.runs longest began begins first at)
    (c.in-Ok-rest_is_blank.ensures.blank, c.in-Ok-rest_is_blank.ensures.given)

pub returns-in-Err-clause-comes : goal.returns-in-Err-clause-comes
returns-in-Err-clause-comes g c longest began begins first at =
    let t = rw c.in-Ok.is at c.check_statements.ensures in let new = c.check_statements.new in
    rw c.text_fault-in-Err.ensures
    (stray_after longest began g.V.Watch.got c.args.watch.now first new.checker.replay new.watch c.in-Ok.ended c.in-Err.stop _ _ _ _ _ _
    (t.runs longest began begins first at) (c.in-Err.ensures.blank, c.in-Err.ensures.given))

-- ---- what the source has shown

pub returns-in-Err-Text-clause-seen : goal.returns-in-Err-Text-clause-seen
returns-in-Err-Text-clause-seen g c = grind (arith, c.in-Err-Text.is, c.check_statements.ensures, c.text_fault.ensures)

pub returns-in-Err-Step-clause-seen : goal.returns-in-Err-Step-clause-seen
returns-in-Err-Step-clause-seen g c =
    report_unseen (g.S.Source.shown c.check_statements.new.input) (g.S.Source.ended c.check_statements.new.input) c.check_statements.new.checker.replay.names c.in-Err-Step.place c.in-Err-Step.fault c.rejection.result c.rejection.ensures

pub returns-in-Err-clause-seen : goal.returns-in-Err-clause-seen
returns-in-Err-clause-seen g c = rw c.text_fault-in-Err.ensures c.in-Err.ensures.shown

-- ---- how often the source has failed

pub returns-in-Err-Text-clause-faults : goal.returns-in-Err-Text-clause-faults
returns-in-Err-Text-clause-faults g c = grind (arith, c.in-Err-Text.is, c.check_statements.ensures, c.text_fault.ensures)

pub returns-in-Err-Step-clause-faults : goal.returns-in-Err-Step-clause-faults
returns-in-Err-Step-clause-faults g c = grind (arith, c.in-Err-Step.is, c.check_statements.ensures, report_faults, c.rejection.ensures)
