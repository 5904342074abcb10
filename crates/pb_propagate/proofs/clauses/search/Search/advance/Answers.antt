use Rattle.pb_propagate.proofs.{Common.arith, Common.cases_lt, Common.nat_tests, lemmas.clauses.Visited.round-next, lemmas.clauses.Visited.turned-round}
use Rattle.std.proofs.lemmas.Grind.{get_or_default_zero}
use Rattle.pb_propagate.proofs.clauses.search.Search.advance.Goals as goal

pub literals-preserved : goal.literals-preserved
literals-preserved c =
    let less = c.literals-test.true in let i = c.literals.invariant in
    record {
      position = grind (arith, nat_tests, c.next-at.ensures.position);
      within = omega (arith, less, c.next-at.ensures.passed);
      after = omega (arith, i.unread, i.after, c.next-at.ensures.passed);
      round = λ start r. round-next start c.literals.at c.next-at.result _ (i.round start r) less c.next-at.ensures.position c.next-at.ensures.passed;
      passed = λ start k d r from below.
          let p = c.literals.at.passed in
          grind (arith, p, turned-round, i.round start r, cases_lt k p, i.passed start k d r from, get_or_default_zero, c.may_watch.ensures.no c.if-may_watch.false);
      unread = i.unread;
    }
