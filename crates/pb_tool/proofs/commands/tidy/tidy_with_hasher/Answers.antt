use Rattle.pb_tool.proofs.lemmas.file.GivenBytes.{some_of, tidies_instance, tidies_proof, tidies_unread, given_proof, given_instance, given_unread}
use Rattle.pb_tool.proofs.commands.tidy.tidy_with_hasher.Goals as goal

pub returns-in-Ok-Proof-clause-tidies : goal.returns-in-Ok-Proof-clause-tidies
returns-in-Ok-Proof-clause-tidies g c =
    let t = rw (c.in-Ok-Proof.is, c.in-Ok-Proof.field-0-is) at c.format_of.ensures in
    rw c.if-normal.false (tidies_proof c.args.limits _ _ c.unwrap_or-longest.ensures g.W.Sink.contents g.W.Sink.faults _ _ t.left _ _ _ _ t.format c.tidy_proof.ensures.tidies)

pub returns-in-Ok-Instance-clause-tidies : goal.returns-in-Ok-Instance-clause-tidies
returns-in-Ok-Instance-clause-tidies g c =
    let t = rw (c.in-Ok-Instance.is, c.in-Ok-Instance.field-0-is) at c.format_of.ensures in
    rw c.if-normal.false (tidies_instance c.args.limits _ _ c.unwrap_or-longest.ensures g.W.Sink.contents g.W.Sink.faults _ _ t.left _ _ _ _ t.format c.tidy_instance.ensures.tidies)

pub returns-in-Err-clause-tidies : goal.returns-in-Err-clause-tidies
returns-in-Err-clause-tidies g c =
    let t = rw c.in-Err.is at c.format_of.ensures in let u = c.unread_file.ensures in
    rw c.if-normal.false (tidies_unread c.args.limits _ _ c.unwrap_or-longest.ensures g.W.Sink.contents g.W.Sink.faults _ _ t.left c.args.out.now (some_of c.args.longest _ c.unwrap_or-longest.ensures c.requires) u.instance u.proof _ u.fault)

pub returns-then-normal-clause-tidies : goal.returns-then-normal-clause-tidies
returns-then-normal-clause-tidies g c = rw (c.if-normal.true, ← c.unwrap_or-longest.ensures) c.tidy_normal.ensures.tidies

pub returns-in-Ok-Proof-clause-given : goal.returns-in-Ok-Proof-clause-given
returns-in-Ok-Proof-clause-given g c =
    let t = rw (c.in-Ok-Proof.is, c.in-Ok-Proof.field-0-is) at c.format_of.ensures in
    rw c.if-normal.false (given_proof c.args.limits _ _ c.unwrap_or-longest.ensures g.W.Sink.contents g.W.Sink.faults _ _ t.history _ _ _ _ c.tidy_proof.ensures.given)

pub returns-in-Ok-Instance-clause-given : goal.returns-in-Ok-Instance-clause-given
returns-in-Ok-Instance-clause-given g c =
    let t = rw (c.in-Ok-Instance.is, c.in-Ok-Instance.field-0-is) at c.format_of.ensures in
    rw c.if-normal.false (given_instance c.args.limits _ _ c.unwrap_or-longest.ensures g.W.Sink.contents g.W.Sink.faults _ _ t.history _ _ _ _ c.tidy_instance.ensures.given)

pub returns-in-Err-clause-given : goal.returns-in-Err-clause-given
returns-in-Err-clause-given g c =
    let t = rw c.in-Err.is at c.format_of.ensures in let u = c.unread_file.ensures in
    rw c.if-normal.false (given_unread c.args.limits _ _ c.unwrap_or-longest.ensures g.W.Sink.contents g.W.Sink.faults _ _ t.history c.args.out.now (some_of c.args.longest _ c.unwrap_or-longest.ensures c.requires) u.proof _ u.fault)

pub returns-then-normal-clause-given : goal.returns-then-normal-clause-given
returns-then-normal-clause-given g c = rw (c.if-normal.true, ← c.unwrap_or-longest.ensures) c.tidy_normal.ensures.given
