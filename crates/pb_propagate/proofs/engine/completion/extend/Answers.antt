use Rattle.pb_propagate.proofs.{Common.arith, Common.length, Common.list_of, Common.◌≡◌, lemmas.engine.Reasoned.reasons-derive}
use Rattle.pb_propagate.proofs.lemmas.root.{Kept.kept-conflicts, Ready.undone-left, Rooted.clash-refuted, Rooted.ended-made, Rooted.root-clash, Rooted.map-none}
use Rattle.std.proofs.lemmas.Option.{IfSome_then}
use Rattle.pb_propagate.proofs.engine.completion.extend.Goals as goal

pub returns-then-branch-clause-clash : goal.returns-then-branch-clause-clash
returns-then-branch-clause-clash c =
    let h = c.in_ok-update.ensures.kept.holds (c.in_ok-update.ensures.met c.if-branch.true).met in
    clash-refuted _ _ c.args.given.now (reasons-derive h.reasoned) (root-clash _ _ c.args.given.now (kept-conflicts _ _ h))

pub returns-clause-clash : goal.returns-clause-clash
returns-clause-clash c = grind (arith, c.update.ensures.literals, c.in_ok-values.ensures.clash, map-none, clash-refuted, reasons-derive, c.in_ok-update.ensures.rooted.reasoned)

pub returns-clause-ended : goal.returns-clause-ended
returns-clause-ended c
    = grind (arith, c.update.ensures.literals, c.in_ok-values.ensures.ended, IfSome_then, ended-made, reasons-derive, c.in_ok-update.ensures.rooted.reasoned)

pub returns-clause-left : goal.returns-clause-left
returns-clause-left c =
    let count : c.len-count.result ≡ length (list_of c.update.new.self.run) = omega (arith, c.len-count.ensures, c.update.new.self.run.assignment.list.ok.0) in
    undone-left c.requires.standing c.in_ok-update.ensures.rooted c.in_ok-values.ensures.left (rw count at c.back.ensures) c.propagate_given.ensures.literals
    c.in_ok-update.ensures.kept
