use Rattle.pb_propagate.proofs.Common.{ap, arith, both_ways, length, refl, rules}
use Rattle.pb_propagate.specs.engine.engine.Rest.{no_slots}
use Rattle.pb_propagate.proofs.engine.Engine.new.Goals as goal

pub invariant_of-result : goal.invariant_of-result
invariant_of-result c = λ ready. (
  search (rules, no_slots),
  search rules,
  c.new-5.ensures _ _ c.new.ensures.items refl,
  record {
    few = omega (arith, ap length c.new-6.ensures.values);
    values = λ met. absurd (both_ways _ c.new-6.ensures.met met);
    none = λ unmet. c.new-6.ensures.list;
    holds = λ met. absurd (both_ways _ c.new-6.ensures.met met);
  },
)
