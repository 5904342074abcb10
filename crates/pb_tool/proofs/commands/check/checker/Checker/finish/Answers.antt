use Rattle.pb_tool.proofs.Common.{◌∙◌, Err, refl, rules, subst, sym, place_of, Place, Ended, EndsAfter}
use Rattle.pb_tool.specs.declared.commands.check.checker.CheckFault.TheVariants.{Text}
use Rattle.pb_tool.proofs.lemmas.check.CheckerSteps as checked
use Rattle.pb_tool.proofs.commands.check.checker.Checker.finish.Goals as goal

pub unreachable-requires : goal.unreachable-requires
unreachable-requires c =
    let (limits, longest, v, first, input, asks, h) = c.self.invariant in
    checked.no_verdict c.texts_are_read.ensures limits longest v first input c.self.inside.feeder c.self.inside.replay c.self.inside.fault c.in_default.is h
    c.whole_proofs_conclude.ensures (sym c.is_done.ensures.done ∙ c.if-is_done.true) (sym c.in-None.is ∙ c.verdict.ensures.verdict)

pub invariant_of-self : goal.invariant_of-self
invariant_of-self c =
    let (limits, longest, v, first, input, asks, h) = c.self.invariant in
    let cut = checked.cut_after c.texts_are_read.ensures limits longest v first input c.self.inside.feeder c.self.inside.replay c.self.inside.fault
    c.in_default.is h _ refl (sym c.is_done.ensures.done ∙ c.if-is_done.false) in
    (limits, longest, v, first, input, asks, rw c.place.ensures.place cut.0)

pub returns-in-Some-verdict-clause-counts : goal.returns-in-Some-verdict-clause-counts
returns-in-Some-verdict-clause-counts c limits longest v first input n none given =
    let (here, many) = rw (← c.self.view_is) at given in
    rw (← c.self.view_is) (checked.verdict_after c.texts_are_read.ensures limits longest v first input c.self.inside.feeder c.self.inside.replay c.self.inside.fault c.in_default.is here n many
    c.whole_proofs_conclude.ensures (sym c.is_done.ensures.done ∙ c.if-is_done.true) c.in-Some-verdict.verdict
    (sym c.in-Some-verdict.is ∙ c.verdict.ensures.verdict))

pub returns-in-Some-verdict-clause-ends : goal.returns-in-Some-verdict-clause-ends
returns-in-Some-verdict-clause-ends c limits longest v first input none given =
    let (t, all, shown, many) = returns-in-Some-verdict-clause-counts c limits longest v first input _ none (given, refl) in (t, all, shown)

pub returns-else-is_done-clause-counts : goal.returns-else-is_done-clause-counts
returns-else-is_done-clause-counts c limits longest v first input n none given =
    let (here, many) = rw (← c.self.view_is) at given in
    subst (λ (p : Place). EndsAfter limits longest v first input n (place_of c.self.inside.feeder) (Err (Text (record { place = p; why = Ended })))) (sym c.place.ensures.place)
    (checked.cut_after c.texts_are_read.ensures limits longest v first input c.self.inside.feeder c.self.inside.replay c.self.inside.fault c.in_default.is here n many
    (sym c.is_done.ensures.done ∙ c.if-is_done.false))

pub returns-else-is_done-clause-ends : goal.returns-else-is_done-clause-ends
returns-else-is_done-clause-ends c limits longest v first input none given = (returns-else-is_done-clause-counts c limits longest v first input _ none (given, refl)).0

pub returns-else-is_done-clause-replay : goal.returns-else-is_done-clause-replay
returns-else-is_done-clause-replay c = search rules
