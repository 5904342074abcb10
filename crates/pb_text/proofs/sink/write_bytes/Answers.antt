use Rattle.pb_text.proofs.lemmas.text.Writing.{piece_taken}
use Rattle.pb_text.proofs.sink.write_bytes.Goals as goal

pub loop-rest-preserved : goal.loop-rest-preserved
loop-rest-preserved g c =
    let h = rw c.in_ok-taken.was at c.take.ensures in
    let i = c.loop-rest.invariant in
    piece_taken g.S.Sink.contents g.S.Sink.faults c.args.out.now c.loop-rest.out c.take.new.self c.args.text.now i.0 c.loop-rest.rest.now c.in_ok-taken.taken i.1 i.2 h
