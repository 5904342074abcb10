use Rattle.pb_propagate.proofs.{Common.◌≡◌, Common.arith, Common.length, Common.rules, Common.list_of, lemmas.engine.Advances.extends-within}
use Rattle.pb_propagate.proofs.lemmas.engine.{Literals.derivation-keeps, Reasoned.reasons-derive}
use Rattle.pb_propagate.proofs.lemmas.root.Ready.{left-then, puts-left, puts-ready, heads-now}
use Rattle.pb_propagate.proofs.engine.completion.propagate_given.Goals as goal

pub returns-then-branch-2-clause-clash : goal.returns-then-branch-2-clause-clash
returns-then-branch-2-clause-clash c = search (rules, c.in_ok-assume.ensures.within, c.if-branch.false, reasons-derive, c.in_ok-propagate.ensures.reasons.added, c.in_ok-propagate.ensures.conflict, c.if-branch-2.true)

pub returns-clause-ended : goal.returns-clause-ended
returns-clause-ended c =
    let done = c.propagate.new.run.assignment in
    let derived = reasons-derive c.in_ok-propagate.ensures.reasons.added in
    let later = derivation-keeps _ _ _ derived in
    let first = extends-within _ _ c.in_ok-assume.ensures.puts.advances.costs.extends in
    let covers = c.in_ok-assume.ensures.covers c.if-branch.false in
    let copy : c.extend_from_slice.new.self.items ≡ done.values.items = grind (arith, c.in_ok-extend_from_slice.ensures.items, c.new-values.ensures.items, c.as_slice-2.ensures.value) in
    record {
      list = done.list.items;
      covered = record {
        reached = record { first = c.assume.new.run.assignment.list.items; within = c.in_ok-assume.ensures.within c.if-branch.false; derived = derived };
        keeps = λ l on. later l (first l on);
        covers = λ l on. later l (covers l on);
        settled = (c.in_ok-propagate.ensures.settled c.if-branch-2.false).settled;
      };
      agrees = rw copy done.agrees;
    }

pub propagate-requires-clause-ready : goal.propagate-requires-clause-ready
propagate-requires-clause-ready c =
    let heads = heads-now c.at.result _ (length (list_of c.args.run.now)) c.at.ensures (omega (arith, c.len-count.ensures, c.args.run.now.assignment.list.ok.0)) in
    rw (c.as_slice.ensures.value, c.new-none.ensures.items, heads) (puts-ready c.requires.ready c.in_ok-assume.ensures.puts (c.in_ok-assume.ensures.sums c.if-branch.false))

pub returns-then-branch-clause-left : goal.returns-then-branch-clause-left
returns-then-branch-clause-left c = puts-left c.requires.ready c.in_ok-assume.ensures.puts

pub returns-then-branch-2-clause-left : goal.returns-then-branch-2-clause-left
returns-then-branch-2-clause-left c = left-then c.in_ok-assume.ensures.puts c.in_ok-propagate.ensures.left

pub returns-clause-left : goal.returns-clause-left
returns-clause-left c = left-then c.in_ok-assume.ensures.puts c.in_ok-propagate.ensures.left
