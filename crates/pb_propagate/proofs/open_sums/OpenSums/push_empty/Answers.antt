use Rattle.pb_propagate.proofs.lemmas.OpenSums.{pushed_if}
use Rattle.pb_propagate.proofs.open_sums.OpenSums.push_empty.Goals as goal

pub returns-else-is_err-clause-ok : goal.returns-else-is_err-clause-ok
returns-else-is_err-clause-ok c =
    let s = c.self.inside in
    pushed_if s.narrow s.wide c.self.view_is c.self.invariant c.push_empty-pushed.new.self c.push_empty-pushed.result c.in_ok-push_empty.ensures.ok c.push_empty-pushed.ensures.ok
