use Rattle.pb_tool.proofs.{Common.◌++◌, Common.◌∙◌, Common.refl, Common.Some, Common.opb, Common.AcceptsItems, Common.MayAsk, lemmas.file.GivenBytes.given_by}
use Rattle.pb_tool.proofs.lemmas.tidy.NormalFile.{reported_faults, reported_file, reported_on, unnoted}
use Rattle.pb_tool.proofs.commands.tidy.tidy_normal.Goals as goal

pub returns-in-Err-clause-tidies : goal.returns-in-Err-clause-tidies
returns-in-Err-clause-tidies g c =
    let stopped = rw c.new-empty.ensures at c.in-Err.ensures.refused in
    rw c.text_fault.ensures (unnoted c.args.limits c.args.longest (AcceptsItems opb c.new-machine.result) c.new-machine.ensures.accepts _ _ (MayAsk opb c.new-machine.result) c.new-machine.ensures.asks c.in-Err.refusal stopped, refl)

pub returns-in-Err-clause-given : goal.returns-in-Err-clause-given
returns-in-Err-clause-given g c =
    let (given, seen, e, stopped) = rw c.new-empty.ensures at c.in-Err.ensures.refused_given in
    rw c.text_fault.ensures (given, seen, e, (unnoted c.args.limits c.args.longest (AcceptsItems opb c.new-machine.result) c.new-machine.ensures.accepts (Some (given ++ seen)) (Some seen) (MayAsk opb c.new-machine.result) c.new-machine.ensures.asks c.in-Err.refusal stopped, refl))

pub returns-clause-tidies : goal.returns-clause-tidies
returns-clause-tidies g c =
    let file = rw c.new-empty.ensures at c.in-Ok.ensures.file in
    reported_file c.args.limits c.args.longest (AcceptsItems opb c.new-machine.result) c.new-machine.ensures.accepts _ _ g.W.Sink.contents g.W.Sink.faults c.in-Ok.text file c.args.out.now c.write.result c.write.new.out c.write.ensures

pub returns-clause-given : goal.returns-clause-given
returns-clause-given g c =
    given_by _ _ (λ left rest file. reported_file c.args.limits c.args.longest (AcceptsItems opb c.new-machine.result) c.new-machine.ensures.accepts left rest g.W.Sink.contents g.W.Sink.faults c.in-Ok.text file c.args.out.now c.write.result c.write.new.out c.write.ensures)
    (rw c.new-empty.ensures at c.in-Ok.ensures.given)

pub returns-clause-faults : goal.returns-clause-faults
returns-clause-faults g c =
    let file = rw c.new-empty.ensures at c.in-Ok.ensures.file in
    c.in-Ok.ensures.faults ∙ reported_faults c.args.limits c.args.longest (AcceptsItems opb c.new-machine.result) c.new-machine.ensures.accepts _ _ g.W.Sink.contents g.W.Sink.faults c.in-Ok.text file c.args.out.now c.write.result c.write.new.out (g.S.Source.faults c.args.input.now) c.write.ensures

pub returns-clause-seen : goal.returns-clause-seen
returns-clause-seen g c =
    let file = rw c.new-empty.ensures at c.in-Ok.ensures.file in
    reported_on c.args.limits c.args.longest (AcceptsItems opb c.new-machine.result) c.new-machine.ensures.accepts _ _ g.W.Sink.contents g.W.Sink.faults c.in-Ok.text file c.args.out.now
    (g.S.Source.shown c.read_file.new.input) (g.S.Source.ended c.read_file.new.input) c.in-Ok.ensures.ended c.write.result c.write.new.out c.write.ensures
