use Rattle.pb_text.proofs.Common.{false, refl, sym, true, bytes}
use Rattle.pb_text.proofs.lemmas.feeder.{Reported.stands_reads, Steps.running, Steps.stands_ended}
use Rattle.pb_text.proofs.feeder.Feeder.finish.Goals as goal

pub returns-then-is_done-clause-ends : goal.returns-then-is_done-clause-ends
returns-then-is_done-clause-ends g c longest start input spans runs s =
    let k = running c.args.self.now s runs in (bytes k.letters, stands_reads k true c.if-is_done.ensures.done)

pub returns-else-is_done-clause-ends : goal.returns-else-is_done-clause-ends
returns-else-is_done-clause-ends g c longest start input spans runs s =
    let e = stands_ended (running c.args.self.now s runs) (sym c.if-is_done.ensures.done) in
    (bytes e.letters, rw (c.halt.ensures.place, c.halt.ensures.result) (stands_reads e false c.if-is_done.ensures.done, refl))
