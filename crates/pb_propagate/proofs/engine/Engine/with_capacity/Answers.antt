use Rattle.pb_propagate.proofs.Common.{ap, arith, both_ways, length, rules}
use Rattle.pb_propagate.specs.engine.engine.Rest.{no_slots}
use Rattle.pb_propagate.proofs.engine.Engine.with_capacity.Goals as goal

pub invariant_of-result : goal.invariant_of-result
invariant_of-result c = λ ready.
    let store = c.in_ok-store.ensures in let conflict = c.new.ensures in (
      search (rules, no_slots),
      search rules,
      c.in_ok-root.ensures _ _ store.stored store.variables,
      record {
        few = omega (arith, ap length conflict.values);
        values = λ met. absurd (both_ways _ conflict.met met);
        none = λ unmet. conflict.list;
        holds = λ met. absurd (both_ways _ conflict.met met);
      },
    )
