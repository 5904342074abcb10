use Rattle.pb_propagate.proofs.{lemmas.clauses.Heads.heads-is, lemmas.root.Ready.new-rooted}
use Rattle.pb_propagate.proofs.engine.root.Root.with_capacity.Goals as goal

pub returns : goal.returns
returns c = λ store clauses none variables.
    let run = c.in_ok-run.ensures in let rests = c.in_ok-rests.ensures in let waiting = c.in_ok-waiting.ensures in
    new-rooted store clauses _ _ _ c.none.result none variables run.assignment.0 run.assignment.1 run.opens run.candidates run.work run.trail run.next rests.opens rests.starts waiting.0 waiting.1 (heads-is c.none.result.heads 0 c.none.ensures.heads.0 c.none.ensures.heads.1) c.none.ensures.marks
