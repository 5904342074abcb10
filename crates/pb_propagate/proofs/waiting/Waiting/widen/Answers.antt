use Rattle.pb_propagate.proofs.Common.{arith}
use Rattle.pb_propagate.proofs.lemmas.Columns.{pushed-either}
use Rattle.pb_propagate.proofs.lemmas.store.Positions.{positioned-widened, room-widened}
use Rattle.pb_propagate.proofs.waiting.Waiting.widen.Goals as goal

pub invariant_of-self-2 : goal.invariant_of-self-2
invariant_of-self-2 c =
    let me = c.args.self.now in let push = c.push_empty in
    let either = pushed-either me.positions 0 push.result push.ensures.ok push.ensures.err in
    record {
      positioned = rw c.reserve.ensures.items (positioned-widened me.list.items me.positions push.new.self _ either me.positioned);
      room = room-widened me.positions push.new.self _ c.reserve.new.self.cap either (omega (arith, c.in_ok-reserve.ensures, c.saturating_sub.ensures, c.len.ensures, c.len-count.ensures.is, c.len-count.ensures.small, me.list.ok.0));
    }
