use Rattle.pb_propagate.proofs.{Common.[], Common.subst, Common.sym, lemmas.store.Positions.same-everywhere}
use Rattle.pb_propagate.specs.engine.engine.Free.{ended, IsChain, nobody}
use Rattle.pb_propagate.proofs.free.Free.with_capacity.Goals as goal

pub returns : goal.returns
returns c = λ size. subst (λ n. IsChain c.in_ok-before.before n []) (sym (same-everywhere 65 size nobody)) ended
