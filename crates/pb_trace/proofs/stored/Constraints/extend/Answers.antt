use Rattle.pb_trace.proofs.{Storing.newer_more, Common.arith, Common.length, Common.live_in, stored.Constraints.extend.Goals.loop-index-preserved as goal}

pub loop-index-preserved : goal
loop-index-preserved c =
    let n = length c.args.self.now.forms.items in
    let more = newer_more (live_in c.args.self.now.forms.items) c.args.replay.now.live n c.loop-index.index c.loop-index.invariant.2 (omega arith) in
    (cc (c.in_ok-store.ensures.ok, c.loop-index.invariant.0, c.constraint.ensures, more), omega arith, omega arith)
