use Rattle.pb_tool.proofs.Common.{event_bytes, opb, proofs, statement_bytes, AcceptsItems, MayAsk, AsksInInstanceText, AsksInProofText, IsInstanceText, IsProofText}
use Rattle.pb_tool.proofs.lemmas.file.GivenBytes.{given_by, shows_instance, shows_proof, shows_unread, some_of, given_shown_proof, given_shown_instance, given_unshown}
use Rattle.pb_tool.proofs.lemmas.show.ShownStatements.{shows_to}
use Rattle.pb_tool.proofs.commands.show.show.Goals as goal

pub returns-in-Ok-Proof-clause-shows : goal.returns-in-Ok-Proof-clause-shows
returns-in-Ok-Proof-clause-shows g c =
    let t = rw (c.in-Ok-Proof.is, c.in-Ok-Proof.field-0-is) at c.format_of.ensures in let machine = c.new in let run = c.show_each in
    shows_proof c.args.limits _ _ c.unwrap_or-longest.ensures g.W.Sink.contents g.W.Sink.faults _ _ t.left _ _ _ _ t.format
    (shows_to (AcceptsItems proofs machine.result) (IsProofText c.args.limits) _ (machine.ensures.reads _) (g.S.Source.left c.format_of.new.input) (g.S.Source.left c.format_of.new.input) (λ after used seen t. t) (MayAsk proofs machine.result) (AsksInProofText c.args.limits) machine.ensures.asks statement_bytes g.W.Sink.contents g.W.Sink.faults _ run.result _ _ run.ensures.shows)

pub returns-in-Ok-Instance-clause-shows : goal.returns-in-Ok-Instance-clause-shows
returns-in-Ok-Instance-clause-shows g c =
    let t = rw (c.in-Ok-Instance.is, c.in-Ok-Instance.field-0-is) at c.format_of.ensures in let machine = c.new-in-Ok-Instance in let run = c.show_each-in-Ok-Instance in
    shows_instance c.args.limits _ _ c.unwrap_or-longest.ensures g.W.Sink.contents g.W.Sink.faults _ _ t.left _ _ _ _ t.format
    (shows_to (AcceptsItems opb machine.result) (IsInstanceText c.args.limits) _ (machine.ensures.reads _) (g.S.Source.left c.format_of.new.input) (g.S.Source.left c.format_of.new.input) (λ after used seen t. t) (MayAsk opb machine.result) (AsksInInstanceText c.args.limits) machine.ensures.asks event_bytes g.W.Sink.contents g.W.Sink.faults _ run.result _ _ run.ensures.shows)

pub returns-in-Err-clause-shows : goal.returns-in-Err-clause-shows
returns-in-Err-clause-shows g c =
    let t = rw c.in-Err.is at c.format_of.ensures in let u = c.unread_file.ensures in
    shows_unread c.args.limits _ _ c.unwrap_or-longest.ensures g.W.Sink.contents g.W.Sink.faults _ _ t.left c.args.out.now (some_of c.args.longest _ c.unwrap_or-longest.ensures c.requires) u.instance u.proof _ u.fault

pub returns-in-Ok-Proof-clause-given : goal.returns-in-Ok-Proof-clause-given
returns-in-Ok-Proof-clause-given g c =
    let t = rw (c.in-Ok-Proof.is, c.in-Ok-Proof.field-0-is) at c.format_of.ensures in let machine = c.new in let run = c.show_each in let longest = c.unwrap_or-longest.result in
    given_shown_proof c.args.limits _ _ c.unwrap_or-longest.ensures g.W.Sink.contents g.W.Sink.faults _ _ t.history _ _ _ _
    (given_by _ _ (λ left rest. shows_to (AcceptsItems proofs machine.result) (IsProofText c.args.limits) longest (machine.ensures.reads longest) left left (λ after used seen t. t) (MayAsk proofs machine.result) (AsksInProofText c.args.limits) machine.ensures.asks statement_bytes g.W.Sink.contents g.W.Sink.faults c.args.out.now run.result rest run.new.out) run.ensures.given)

pub returns-in-Ok-Instance-clause-given : goal.returns-in-Ok-Instance-clause-given
returns-in-Ok-Instance-clause-given g c =
    let t = rw (c.in-Ok-Instance.is, c.in-Ok-Instance.field-0-is) at c.format_of.ensures in let machine = c.new-in-Ok-Instance in let run = c.show_each-in-Ok-Instance in let longest = c.unwrap_or-longest.result in
    given_shown_instance c.args.limits _ _ c.unwrap_or-longest.ensures g.W.Sink.contents g.W.Sink.faults _ _ t.history _ _ _ _
    (given_by _ _ (λ left rest. shows_to (AcceptsItems opb machine.result) (IsInstanceText c.args.limits) longest (machine.ensures.reads longest) left left (λ after used seen t. t) (MayAsk opb machine.result) (AsksInInstanceText c.args.limits) machine.ensures.asks event_bytes g.W.Sink.contents g.W.Sink.faults c.args.out.now run.result rest run.new.out) run.ensures.given)

pub returns-in-Err-clause-given : goal.returns-in-Err-clause-given
returns-in-Err-clause-given g c =
    let t = rw c.in-Err.is at c.format_of.ensures in let u = c.unread_file.ensures in
    given_unshown c.args.limits _ _ c.unwrap_or-longest.ensures g.W.Sink.contents g.W.Sink.faults _ _ t.history c.args.out.now (some_of c.args.longest _ c.unwrap_or-longest.ensures c.requires) u.proof _ u.fault
