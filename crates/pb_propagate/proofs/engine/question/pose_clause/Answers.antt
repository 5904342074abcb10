use Rattle.pb_propagate.{proofs.lemmas.root.Ready.undone-left, proofs.rulesets.Engine.question, specs.engine.engine.Root.terms_of_all}
use Rattle.pb_propagate.proofs.{engine.question.pose_clause.Goals.After-refute, lemmas.engine.Reasoned.reasons-derive, lemmas.root.Kept.met-asked}
use Rattle.pb_propagate.proofs.Common.{◌+◌, ◌≡◌, ap, arith, length, List, refl, Entry, denial_of, posed, ◌*◌, ◌≤◌, list_of, sym}
use Rattle.pb_propagate.proofs.lemmas.root.Questions.{denial-stored, both-answered, posed-most, updated-most}
use Rattle.pb_propagate.proofs.engine.question.pose_clause.Goals as goal

pub returns-then-branch-clause-asked : goal.returns-then-branch-clause-asked
returns-then-branch-clause-asked c = met-asked c.requires.visits (c.in_ok-update.ensures.met c.if-branch.true) c.in_ok-update.ensures.kept

-- the visits of both parts
most : (c : After-refute) → c.refute.new.run.visits ≤ 3 * (terms_of_all c.args.store.now c.args.clauses.now + length c.args.goal.now.terms) +
    (length c.args.root.now.waiting.list.items + 1)
most c =
    let standing = c.requires.standing in
    let few = posed-most c.args.store.now c.update.new.self.run c.refute.new.run (length c.terms.result.now) standing c.requires.visits
    (c.in_ok-update.ensures.updated c.if-branch.false) c.update.ensures.literals (λ p. omega arith) standing.sound standing.joined
    (reasons-derive standing.rooted.reasoned) refl refl refl c.refute.ensures.costs in
    omega (arith, few, ap (λ (xs : List Entry). length xs) c.terms.ensures.terms)

pub returns-in_err-found-clause-most : goal.returns-in_err-found-clause-most
returns-in_err-found-clause-most c = most (goal.at.returns-in_err-found-clause-most c).After-refute

pub returns-clause-most : goal.returns-clause-most
returns-clause-most c = let few = most (goal.at.returns-clause-most c).After-refute in omega (arith, few, c.back.ensures.visits)

pub returns-clause-asked : goal.returns-clause-asked
returns-clause-asked c =
    let lit = c.update.ensures.literals in let same = c.terms.ensures.terms in let reported = c.in_ok-found.ensures in
    posed (denial_of c.args.goal.now.terms) (denial-stored c.args.goal.now c.terms.ensures.normal c.requires.clause)
    (both-answered (denial_of c.args.goal.now.terms) c.args.root.now.run c.update.new.self.run c.refute.new.run c.requires.visits
    (c.in_ok-update.ensures.updated c.if-branch.false).found reported.gains (sym c.back.ensures.visits)
    (rw lit at (reasons-derive c.in_ok-update.ensures.rooted.reasoned)) (rw (lit, same) at reported.derived) (rw (lit, same) at reported.conflict)
    (rw (lit, same) at reported.settled))

pub returns-clause-left : goal.returns-clause-left
returns-clause-left c =
    let count : c.len-count.result ≡ length (list_of c.update.new.self.run) = omega (arith, c.len-count.ensures, c.update.new.self.run.assignment.list.ok.0) in
    undone-left c.requires.standing c.in_ok-update.ensures.rooted c.in_ok-found.ensures.left (rw count at c.back.ensures) c.refute.ensures.literals
    c.in_ok-update.ensures.kept

pub returns-then-branch-clause-most : goal.returns-then-branch-clause-most
returns-then-branch-clause-most c = omega (arith, updated-most c.requires.standing c.requires.visits c.update.ensures.costs)

pub returns-in_err-update-clause-most : goal.returns-in_err-update-clause-most
returns-in_err-update-clause-most c = omega (arith, updated-most c.requires.standing c.requires.visits c.update.ensures.costs)

pub refute-requires-clause-ready : goal.refute-requires-clause-ready
refute-requires-clause-ready c = grind (arith, question)
