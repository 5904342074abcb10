use Rattle.pb_propagate.proofs.Common.{length, ◌<◌, negation, get_or, get_or_default, rules, ◌∙◌, ap, arith, false, Entry, Term, as_term, begin}
use Rattle.pb_propagate.proofs.lemmas.{engine.Advances.costs-then, engine.Advances.costs-as, engine.Advances.on-err, root.Questions.adopted-keeps}
use Rattle.pb_propagate.proofs.lemmas.root.{Questions.denied-next, Questions.hit-conflicts, Ready.puts-as, Ready.puts-none, Ready.puts-then}
use Rattle.pb_propagate.proofs.rulesets.Engine.{denial}
use Rattle.pb_propagate.proofs.engine.denial.deny_all.Goals as goal

abbrev bare : Entry
bare = record { variable = 0; negated = false; coefficient = 0 }

pub literals-init : goal.literals-init
literals-init c = search (rules, puts-none c.args.store.now c.args.rests.now c.args.run.now, c.requires.sums, begin)

pub literals-preserved : goal.literals-preserved
literals-preserved c =
    let i = c.literals.invariant in let reported = c.in_ok-deny.ensures in
    let is = ap (λ (t : Term). t.literal) c.term_of-term.ensures ∙ ap (λ (e : Entry). (as_term e).literal) (c.get-entry.ensures.read bare) in
    let inside : c.literals.i < length c.args.goal.now = omega (arith, c.literals-test.true, c.len-i-end.ensures.length) in
    record {
      within = omega (arith, inside);
      puts = puts-then i.puts reported.puts;
      candidates = c.deny.ensures.candidates ∙ i.candidates;
      sums = reported.sums c.if-branch.false;
      derived = denied-next c.args.goal.now _ _ _ c.literals.i bare inside c.requires.light (rw is at reported.adopted) i.derived;
      denied = λ k e less. grind (arith, less, i.denied k e, reported.denied c.if-branch.false, is, get_or_default c.args.goal.now c.literals.i e bare inside, adopted-keeps _ _ _ reported.adopted (negation (as_term (get_or c.args.goal.now k e)).literal));
      found = λ few. omega (arith, reported.found few, i.found (omega (arith, few, reported.puts.advances.rising)));
    }

pub returns-in_err-deny-clause-costs : goal.returns-in_err-deny-clause-costs
returns-in_err-deny-clause-costs c = on-err _ (costs-as 0 _ (omega (arith, c.literals-test.true, c.len-i-end.ensures.length))
    (costs-then c.literals.invariant.puts.advances.costs c.in_err-deny.ensures.costs))

pub returns-then-branch-clause-conflict : goal.returns-then-branch-clause-conflict
returns-then-branch-clause-conflict c = λ found.
    let is = ap (λ (t : Term). t.literal) c.term_of-term.ensures ∙ ap (λ (e : Entry). (as_term e).literal) (c.get-entry.ensures.read bare) in
    hit-conflicts _ _ _ c.literals.i bare (omega (arith, c.literals-test.true, c.len-i-end.ensures.length)) c.requires.light
    (rw is at (c.in_ok-deny.ensures.conflict c.if-branch.true))

pub returns-then-branch-clause-puts : goal.returns-then-branch-clause-puts
returns-then-branch-clause-puts c = puts-as _ (omega (arith, c.literals-test.true, c.len-i-end.ensures.length)) (puts-then c.literals.invariant.puts c.in_ok-deny.ensures.puts)

pub returns-then-branch-clause-derived : goal.returns-then-branch-clause-derived
returns-then-branch-clause-derived c = grind (arith, denial)
