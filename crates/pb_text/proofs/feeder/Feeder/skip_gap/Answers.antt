use Rattle.pb_text.proofs.{Common.[], Common.append-nil, Common.arith, lemmas.feeder.Steps.passes, lemmas.feeder.Steps.with_byte}
use Rattle.pb_text.proofs.feeder.Feeder.skip_gap.Goals as goal

pub loop-used-preserved : goal.loop-used-preserved
loop-used-preserved g c =
    let t = rw c.if-not-try_continue.false at c.try_continue.ensures in
    record {
      running = t.running;
      unfinished = t.unfinished;
      state = t.state;
      bound = omega (arith, c.loop-used-test.true);
      offset = omega (arith, t.offset, c.loop-used.invariant.offset);
      stands = passes c.args.self.now c.try_continue.new.self _ (with_byte c.args.self.now c.loop-used.self c.try_continue.new.self c.args.piece.now c.loop-used.used [] c.loop-used.invariant.stands c.loop-used-test.true (λ longest start input spans s. rw append-nil (t.stands longest start input spans s)));
    }

pub returns-then-not-try_continue-clause-stands : goal.returns-then-not-try_continue-clause-stands
returns-then-not-try_continue-clause-stands g c longest start input spans s =
    rw append-nil at (c.if-not-try_continue.ensures.stands longest start _ spans (c.loop-used.invariant.stands longest start input spans s))
