use Rattle.pb_tool.proofs.Common.{◌∙◌, refl, subst, sym, AsksAsText, arith}
use Rattle.pb_tool.proofs.lemmas.check.CheckerRuns as runs
use Rattle.pb_tool.proofs.commands.check.checker.Checker.pull.Goals as goal

pub step_watched-requires : goal.step_watched-requires
step_watched-requires g c =
    let t = rw (c.in-Ok-Some.is, c.in-Ok-Some.field-0-is) at c.pull.ensures in
    runs.value_here c.texts_are_read.ensures c.self.inside.feeder c.self.inside.replay c.self.inside.fault (rw (← c.self.view_is) at c.requires) c.pull.new.feeder (g.S.Source.left c.args.input.now) (g.S.Source.left c.pull.new.source) (g.S.Source.history c.args.input.now) (g.S.Source.history c.pull.new.source) c.in-Ok-Some.read t.pulls t.stop c.self.invariant c.reads_are_of_proofs.ensures

pub invariant_of-self : goal.invariant_of-self
invariant_of-self g c =
    let t = rw (c.in-Ok-Some.is, c.in-Ok-Some.field-0-is) at c.pull.ensures in let u = c.in-Ok.ensures in
    rw c.step_watched.ensures.feeder (runs.stepped_somewhere c.texts_are_read.ensures c.self.inside.feeder c.self.inside.replay c.self.inside.fault (rw (← c.self.view_is) at c.requires) c.pull.new.feeder (g.S.Source.left c.args.input.now) (g.S.Source.left c.pull.new.source) (g.S.Source.history c.args.input.now) (g.S.Source.history c.pull.new.source) c.in-Ok-Some.read t.pulls t.stop c.self.invariant c.step_watched.new.replay u.steps u.limits u.problem)

pub invariant_of-self-in-Err-step_watched : goal.invariant_of-self-in-Err-step_watched
invariant_of-self-in-Err-step_watched g c =
    let t = rw (c.in-Ok-Some.is, c.in-Ok-Some.field-0-is, ← c.step_watched.ensures.feeder) at c.pull.ensures in let u = c.in-Err-step_watched.ensures in
    runs.refused_somewhere c.texts_are_read.ensures c.self.inside.feeder c.self.inside.replay c.self.inside.fault (rw (← c.self.view_is) at c.requires) c.step_watched.new.feeder (g.S.Source.left c.args.input.now) (g.S.Source.left c.pull.new.source) (g.S.Source.history c.args.input.now) (g.S.Source.history c.pull.new.source) c.in-Ok-Some.read t.pulls t.stop (t.past c.in-Ok-Some.read refl).past c.self.invariant c.step_watched.new.replay c.in-Err-step_watched.rejected u.steps u.names u.unvalued

pub unreachable-requires : goal.unreachable-requires
unreachable-requires g c =
    let t = rw (c.in-Ok-None.is, c.in-Ok-None.field-0-is) at c.pull.ensures in
    runs.ends_with_verdict c.texts_are_read.ensures c.self.inside.feeder c.self.inside.replay c.self.inside.fault (rw (← c.self.view_is) at c.requires) c.pull.new.feeder (g.S.Source.left c.args.input.now) (g.S.Source.left c.pull.new.source) (g.S.Source.history c.args.input.now) (g.S.Source.history c.pull.new.source) c.self.invariant t.pulls t.stop c.whole_proofs_conclude.ensures (t.last refl) (sym c.in-None.is ∙ c.verdict.ensures.verdict)

pub invariant_of-self-in-Ok-None : goal.invariant_of-self-in-Ok-None
invariant_of-self-in-Ok-None g c =
    let t = rw (c.in-Ok-None.is, c.in-Ok-None.field-0-is) at c.pull.ensures in
    runs.ended_somewhere c.texts_are_read.ensures c.self.inside.feeder c.self.inside.replay c.self.inside.fault (rw (← c.self.view_is) at c.requires) c.pull.new.feeder (g.S.Source.left c.args.input.now) (g.S.Source.left c.pull.new.source) (g.S.Source.history c.args.input.now) (g.S.Source.history c.pull.new.source) c.self.invariant t.pulls t.stop

pub invariant_of-self-in-Err : goal.invariant_of-self-in-Err
invariant_of-self-in-Err g c =
    let t = rw c.in-Err.is at c.pull.ensures in
    runs.stopped_somewhere c.texts_are_read.ensures c.self.inside.feeder c.self.inside.replay c.self.inside.fault (rw (← c.self.view_is) at c.requires) c.pull.new.feeder (g.S.Source.left c.args.input.now) (g.S.Source.left c.pull.new.source) (g.S.Source.history c.args.input.now) (g.S.Source.history c.pull.new.source) c.self.invariant c.in-Err.stop t.pulls t.stop

pub returns-in-Ok-clause-runs : goal.returns-in-Ok-clause-runs
returns-in-Ok-clause-runs g c longest began before since unshown run =
    let i = rw (← c.self.view_is) at run in let t = rw (c.in-Ok-Some.is, c.in-Ok-Some.field-0-is) at c.pull.ensures in
    let u = c.in-Ok.ensures in
    let unspent = runs.unspent_on c.self.inside.feeder c.self.inside.replay c.self.inside.fault (rw (← c.self.view_is) at c.requires) c.in-Ok-Some.read c.step_watched.new.replay c.self.invariant u.steps in
    rw c.step_watched.ensures.feeder (runs.runs_more c.proofs_are_exact.ensures longest began g.V.Watch.got before since unshown c.self.inside.feeder c.self.inside.replay c.self.inside.fault (g.S.Source.left c.args.input.now) (g.S.Source.history c.args.input.now) c.args.watch.now i c.pull.new.feeder (g.S.Source.left c.pull.new.source) (g.S.Source.history c.pull.new.source) c.in-Ok-Some.read (t.row longest _ before i.spans i.pulled) t.pulls t.stop c.step_watched.new.replay unspent u.steps u.limits u.problem c.step_watched.new.watch u.shown)

pub returns-in-Err-step_watched-clause-runs : goal.returns-in-Err-step_watched-clause-runs
returns-in-Err-step_watched-clause-runs g c longest began before since unshown run =
    let i = rw (← c.self.view_is) at run in let t = rw (c.in-Ok-Some.is, c.in-Ok-Some.field-0-is, ← c.step_watched.ensures.feeder) at c.pull.ensures in
    let u = c.in-Err-step_watched.ensures in
    runs.runs_refused c.proofs_are_exact.ensures longest began g.V.Watch.got before since unshown c.self.inside.feeder c.self.inside.replay c.self.inside.fault (g.S.Source.left c.args.input.now) (g.S.Source.history c.args.input.now) c.args.watch.now i c.step_watched.new.feeder (g.S.Source.left c.pull.new.source) (g.S.Source.history c.pull.new.source) c.in-Ok-Some.read (t.row longest _ before i.spans i.pulled) t.pulls t.stop (λ m e. (t.past m e).past) c.step_watched.new.replay c.in-Err-step_watched.rejected u.steps u.names u.unvalued c.step_watched.new.watch u.shown

pub returns-in-Some-clause-runs : goal.returns-in-Some-clause-runs
returns-in-Some-clause-runs g c longest began before since unshown run =
    let i = rw (← c.self.view_is) at run in let t = rw (c.in-Ok-None.is, c.in-Ok-None.field-0-is) at c.pull.ensures in
    runs.runs_ended c.proofs_are_exact.ensures longest began g.V.Watch.got before since unshown c.self.inside.feeder c.self.inside.replay c.self.inside.fault (g.S.Source.left c.args.input.now) (g.S.Source.history c.args.input.now) c.args.watch.now i c.pull.new.feeder (g.S.Source.left c.pull.new.source) (g.S.Source.history c.pull.new.source) c.in-Some.verdict (sym c.in-Some.is ∙ c.verdict.ensures.verdict) (t.row longest _ before i.spans i.pulled) t.pulls t.stop (t.last refl)

pub returns-in-Err-clause-runs : goal.returns-in-Err-clause-runs
returns-in-Err-clause-runs g c longest began before since unshown run =
    let i = rw (← c.self.view_is) at run in let t = rw c.in-Err.is at c.pull.ensures in
    let asks = runs.asks_now c.self.inside.feeder c.self.inside.replay c.self.inside.fault (rw (← c.self.view_is) at c.requires) c.self.invariant in
    runs.runs_stopped c.proofs_are_exact.ensures longest began g.V.Watch.got before since unshown c.self.inside.feeder c.self.inside.replay c.self.inside.fault (g.S.Source.left c.args.input.now) (g.S.Source.history c.args.input.now) c.args.watch.now i c.pull.new.feeder (g.S.Source.left c.pull.new.source) (g.S.Source.history c.pull.new.source) (subst AsksAsText i.limited asks) c.in-Err.stop (t.row longest _ before i.spans i.pulled) t.pulls t.stop

-- ---- how far it came, and what the source has shown

pub returns-in-Ok-clause-onward : goal.returns-in-Ok-clause-onward
returns-in-Ok-clause-onward g c is =
    let t = rw (c.in-Ok-Some.is, c.in-Ok-Some.field-0-is) at c.pull.ensures in rw (← c.self.view_is, c.step_watched.ensures.feeder) (t.past c.in-Ok-Some.read refl).onward

pub returns-in-Ok-clause-within : goal.returns-in-Ok-clause-within
returns-in-Ok-clause-within g c is =
    let t = rw (c.in-Ok-Some.is, c.in-Ok-Some.field-0-is) at c.pull.ensures in
    rw c.step_watched.ensures.feeder (runs.within_reach c.texts_are_read.ensures c.self.inside.feeder c.self.inside.replay c.self.inside.fault (rw (← c.self.view_is) at c.requires) c.pull.new.feeder (g.S.Source.left c.args.input.now) (g.S.Source.left c.pull.new.source) (g.S.Source.history c.args.input.now) (g.S.Source.history c.pull.new.source) c.in-Ok-Some.read t.pulls t.stop c.self.invariant)

pub returns-in-Err-step_watched-clause-seen : goal.returns-in-Err-step_watched-clause-seen
returns-in-Err-step_watched-clause-seen g c =
    runs.unseen_on c.self.inside.feeder c.self.inside.replay c.self.inside.fault (rw (← c.self.view_is) at c.requires) c.in-Ok-Some.read c.step_watched.new.replay c.in-Err-step_watched.rejected c.in-Err-step_watched.ensures.steps c.self.invariant (g.S.Source.shown c.pull.new.source) (g.S.Source.ended c.pull.new.source)

pub returns-in-Err-clause-seen : goal.returns-in-Err-clause-seen
returns-in-Err-clause-seen g c =
    let t = rw c.in-Err.is at c.pull.ensures in
    t.shown (runs.was_running c.self.inside.feeder c.self.inside.replay c.self.inside.fault (rw (← c.self.view_is) at c.requires) c.self.invariant)

-- ---- how often the source has failed

pub returns-in-Ok-clause-faults : goal.returns-in-Ok-clause-faults
returns-in-Ok-clause-faults g c =
    let t = rw (c.in-Ok-Some.is, c.in-Ok-Some.field-0-is) at c.pull.ensures in
    rw (runs.was_running c.self.inside.feeder c.self.inside.replay c.self.inside.fault (rw (← c.self.view_is) at c.requires) c.self.invariant) at t.faults

pub returns-in-Some-clause-faults : goal.returns-in-Some-clause-faults
returns-in-Some-clause-faults g c =
    let t = rw (c.in-Ok-None.is, c.in-Ok-None.field-0-is) at c.pull.ensures in
    rw (runs.was_running c.self.inside.feeder c.self.inside.replay c.self.inside.fault (rw (← c.self.view_is) at c.requires) c.self.invariant) at t.faults

pub returns-in-Err-step_watched-clause-faults : goal.returns-in-Err-step_watched-clause-faults
returns-in-Err-step_watched-clause-faults g c = grind (arith, c.in-Ok-Some.is, c.pull.ensures, c.self.view_is, c.requires, c.in-Err-step_watched.ensures.steps)

pub returns-in-Err-clause-faults : goal.returns-in-Err-clause-faults
returns-in-Err-clause-faults g c =
    let t = rw c.in-Err.is at c.pull.ensures in
    rw (runs.was_running c.self.inside.feeder c.self.inside.replay c.self.inside.fault (rw (← c.self.view_is) at c.requires) c.self.invariant) at t.faults
