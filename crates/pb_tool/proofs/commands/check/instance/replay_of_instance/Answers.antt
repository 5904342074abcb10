use Rattle.pb_replay.specs.declared.fault.Fault.{TheVariants.Memory as no_memory}
use Rattle.pb_tool.proofs.Common.{◌++◌, ◌∙◌, ◌≡◌, rules, ap, Err, Some, opb, AcceptsItems, MayAsk}
use Rattle.pb_tool.proofs.lemmas.file.{GivenBytes.given_by, LoadedFile.in-order, LoadedFile.its-replay, LoadedFile.lost, LoadedFile.overflown}
use Rattle.pb_tool.proofs.lemmas.tidy.NormalFile.{unnoted}
use Rattle.pb_tool.proofs.commands.check.instance.replay_of_instance.Goals as goal

pub returns-in-Err-clause-opened : goal.returns-in-Err-clause-opened
returns-in-Err-clause-opened g c =
    let stopped = rw c.new-empty.ensures at c.in-Err.ensures.refused in
    rw c.text_fault.ensures (unnoted c.args.limits c.args.longest (AcceptsItems opb c.new-machine.result) c.new-machine.ensures.accepts _ _ (MayAsk opb c.new-machine.result) c.new-machine.ensures.asks c.in-Err.stop stopped)

pub returns-in-Err-clause-given : goal.returns-in-Err-clause-given
returns-in-Err-clause-given g c =
    let (given, seen, e, stopped) = rw c.new-empty.ensures at c.in-Err.ensures.refused_given in
    rw c.text_fault.ensures (given, seen, e, unnoted c.args.limits c.args.longest (AcceptsItems opb c.new-machine.result) c.new-machine.ensures.accepts (Some (given ++ seen)) (Some seen) (MayAsk opb c.new-machine.result) c.new-machine.ensures.asks c.in-Err.stop stopped)

pub from_loading-requires : goal.from_loading-requires
from_loading-requires g c =
    let file = rw c.new-empty.ensures at c.in-Ok.ensures.file in
    record { order = in-order c.args.limits c.args.longest (AcceptsItems opb c.new-machine.result) c.new-machine.ensures.accepts _ _ c.in-Ok.loading file }

pub returns-in-Ok-from_loading-clause-opened : goal.returns-in-Ok-from_loading-clause-opened
returns-in-Ok-from_loading-clause-opened g c =
    let file = rw c.new-empty.ensures at c.in-Ok.ensures.file in let made = c.in-Ok-from_loading.ensures in
    its-replay c.args.limits c.args.longest (AcceptsItems opb c.new-machine.result) c.new-machine.ensures.accepts _ _ c.in-Ok.loading file c.in-Ok-from_loading.replay made.opened made.limits made.first made.running

pub returns-in-Ok-from_loading-clause-given : goal.returns-in-Ok-from_loading-clause-given
returns-in-Ok-from_loading-clause-given g c =
    let made = c.in-Ok-from_loading.ensures in
    given_by _ _ (λ left rest file. its-replay c.args.limits c.args.longest (AcceptsItems opb c.new-machine.result) c.new-machine.ensures.accepts left rest c.in-Ok.loading file c.in-Ok-from_loading.replay made.opened made.limits made.first made.running)
    (rw c.new-empty.ensures at c.in-Ok.ensures.given)

pub returns-in-Err-Memory-clause-opened : goal.returns-in-Err-Memory-clause-opened
returns-in-Err-Memory-clause-opened g c =
    let file = rw c.new-empty.ensures at c.in-Ok.ensures.file in
    lost c.args.limits c.args.longest (AcceptsItems opb c.new-machine.result) c.new-machine.ensures.accepts _ _ c.in-Ok.loading file (c.from_loading.ensures.memory (c.in-Err-Memory.is ∙ ap Err c.in-Err-Memory.field-0-is))

pub returns-in-Err-Memory-clause-given : goal.returns-in-Err-Memory-clause-given
returns-in-Err-Memory-clause-given g c =
    given_by _ _ (λ left rest file. lost c.args.limits c.args.longest (AcceptsItems opb c.new-machine.result) c.new-machine.ensures.accepts left rest c.in-Ok.loading file (c.from_loading.ensures.memory (c.in-Err-Memory.is ∙ ap Err c.in-Err-Memory.field-0-is)))
    (rw c.new-empty.ensures at c.in-Ok.ensures.given)

pub returns-in-Err-from_loading : goal.returns-in-Err-from_loading
returns-in-Err-from_loading g c =
    let e = c.in-Err-from_loading in let file = rw c.new-empty.ensures at c.in-Ok.ensures.file in
    let other : e.field-0 ≡ no_memory → ⊥ = search rules in
    record {
      opened = overflown c.args.limits c.args.longest (AcceptsItems opb c.new-machine.result) c.new-machine.ensures.accepts _ _ c.in-Ok.loading file e.field-0 other e.ensures.refused;
      given = given_by _ _ (λ left rest f. overflown c.args.limits c.args.longest (AcceptsItems opb c.new-machine.result) c.new-machine.ensures.accepts left rest c.in-Ok.loading f e.field-0 other e.ensures.refused) (rw c.new-empty.ensures at c.in-Ok.ensures.given);
      seen = c.in-Ok.ensures.ended;
      faults = c.in-Ok.ensures.faults;
    }
