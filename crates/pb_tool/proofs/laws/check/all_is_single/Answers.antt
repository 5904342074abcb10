use Rattle.pb_tool.proofs.Common.{arith}
use Rattle.pb_tool.proofs.laws.check.all_is_single.Goals as goal

pub returns : goal.returns
returns c = grind (arith, c.one_instance.ensures, c.prefix_free.ensures, c.one_proof.ensures, c.prefix_free-2.ensures, c.fixed_spans.ensures, c.one_value.ensures, c.outcomes_are_single.ensures.openings, c.outcomes_are_single.ensures.outcomes)
