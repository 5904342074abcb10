use Rattle.pb_propagate.proofs.Common.{◌+◌, ◌≡◌, arith, both_ways, length}
use Rattle.pb_propagate.proofs.lemmas.root.Kept.{conflict-same}
use Rattle.pb_propagate.proofs.engine.conflict.Conflict.widen.Goals as goal

pub returns-in_ok-widen : goal.returns-in_ok-widen
returns-in_ok-widen c = λ forms variables k.
    let met = c.if-self.true in
    let long : length c.widen.new.self.values.items ≡ variables + 1 = omega (arith, c.in_ok-widen.ensures.values, k.values met) in
    record {
      few = omega (arith, long);
      values = λ still. long;
      none = λ unmet. absurd (both_ways _ unmet met);
      holds = λ still. conflict-same forms c.args.self.now.assignment c.widen.new.self c.widen.ensures.list c.in_ok-widen.ensures.reasons (k.holds met);
    }
