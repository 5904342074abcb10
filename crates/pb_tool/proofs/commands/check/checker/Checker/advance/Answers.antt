use Rattle.pb_tool.proofs.Common.{◌≡◌, None, Option, refl, rules, Some, arith}
use Rattle.pb_tool.proofs.lemmas.check.CheckerSteps as checked
use Rattle.pb_tool.proofs.commands.check.checker.Checker.advance.Goals as goal

none_of : {A : Type 0} (o : Option A) → ((x : A) → o ≡ Some x → ⊥) → o ≡ None
none_of None h = refl
none_of (Some x) h = absurd (h x refl)

pub invariant_of-self : goal.invariant_of-self
invariant_of-self c =
    let (limits, longest, v, first, input, asks, h) = c.self.invariant in let t = rw c.in-Err.is at c.feed.ensures in
    (limits, longest, v, first, _, asks, (checked.halted c.texts_are_read.ensures limits longest v first input c.self.inside.feeder c.self.inside.replay c.self.inside.fault (rw (← c.self.view_is) at c.requires) h _ refl c.args.piece.now c.feed.new.self c.in-Err.stop t.feeds t.stop).0)

pub returns-in-Err-clause-counts : goal.returns-in-Err-clause-counts
returns-in-Err-clause-counts c limits longest v first input k h =
    let t = rw c.in-Err.is at c.feed.ensures in let (here, many) = rw (← c.self.view_is) at h in
    checked.halted c.texts_are_read.ensures limits longest v first input c.self.inside.feeder c.self.inside.replay c.self.inside.fault (rw (← c.self.view_is) at c.requires) here k many c.args.piece.now c.feed.new.self c.in-Err.stop t.feeds t.stop

pub invariant_of-self-in_default : goal.invariant_of-self-in_default
invariant_of-self-in_default c =
    let (limits, longest, v, first, input, asks, h) = c.self.invariant in let t = rw c.in-Ok.is at c.feed.ensures in
    (limits, longest, v, first, _, asks, (checked.quiet c.texts_are_read.ensures limits longest v first input c.self.inside.feeder c.self.inside.replay c.self.inside.fault (rw (← c.self.view_is) at c.requires) h _ refl c.args.piece.now c.feed.new.self c.in-Ok.fed (none_of c.in-Ok.fed.event c.in_default.not-Some) t.feeds t.stop).0)

pub returns-in_default-clause-counts : goal.returns-in_default-clause-counts
returns-in_default-clause-counts c limits longest v first input k h =
    let t = rw c.in-Ok.is at c.feed.ensures in let (here, many) = rw (← c.self.view_is) at h in
    checked.quiet c.texts_are_read.ensures limits longest v first input c.self.inside.feeder c.self.inside.replay c.self.inside.fault (rw (← c.self.view_is) at c.requires) here k many c.args.piece.now c.feed.new.self c.in-Ok.fed (none_of c.in-Ok.fed.event c.in_default.not-Some) t.feeds t.stop

pub step_watched-requires : goal.step_watched-requires
step_watched-requires c =
    let (limits, longest, v, first, input, asks, h) = c.self.invariant in let t = rw c.in-Ok.is at c.feed.ensures in
    rw c.in-Some.is (checked.is_value c.texts_are_read.ensures limits longest v first input c.self.inside.feeder c.self.inside.replay c.self.inside.fault (rw (← c.self.view_is) at c.requires) h _ refl c.args.piece.now c.feed.new.self c.in-Ok.fed c.in-Some.read c.in-Some.is t.feeds t.stop c.reads_are_of_proofs.ensures)

pub invariant_of-self-in-Ok-step_watched : goal.invariant_of-self-in-Ok-step_watched
invariant_of-self-in-Ok-step_watched c =
    let (limits, longest, v, first, input, asks, h) = c.self.invariant in let t = rw c.in-Ok.is at c.feed.ensures in
    let u = rw (c.in-Ok-step_watched.is, c.in-Some.is) at c.step_watched.ensures in
    rw c.step_watched.ensures.feeder ((limits, longest, v, first, _, asks, (checked.stepped c.texts_are_read.ensures limits longest v first input c.self.inside.feeder c.self.inside.replay c.self.inside.fault (rw (← c.self.view_is) at c.requires) h _ refl c.args.piece.now c.feed.new.self c.in-Ok.fed c.in-Some.read c.in-Some.is t.feeds t.stop c.step_watched.new.replay u.steps u.limits u.problem).0))

pub invariant_of-self-in-Err-step_watched : goal.invariant_of-self-in-Err-step_watched
invariant_of-self-in-Err-step_watched c =
    let (limits, longest, v, first, input, asks, h) = c.self.invariant in let t = rw (c.in-Ok.is, ← c.step_watched.ensures.feeder) at c.feed.ensures in
    let u = rw (c.in-Err-step_watched.is, c.in-Some.is) at c.step_watched.ensures in
    (limits, longest, v, first, _, asks, (checked.refused c.texts_are_read.ensures limits longest v first input c.self.inside.feeder c.self.inside.replay c.self.inside.fault (rw (← c.self.view_is) at c.requires) h _ refl c.args.piece.now c.step_watched.new.feeder c.in-Ok.fed c.in-Some.read c.in-Some.is t.feeds t.stop (t.past c.in-Ok.fed c.in-Some.read refl c.in-Some.is).past c.step_watched.new.replay c.in-Err-step_watched.fault u.steps u.names u.unvalued).0)

pub returns-in-Ok-step_watched-clause-counts : goal.returns-in-Ok-step_watched-clause-counts
returns-in-Ok-step_watched-clause-counts c limits longest v first input k h =
    let t = rw c.in-Ok.is at c.feed.ensures in let u = rw (c.in-Ok-step_watched.is, c.in-Some.is) at c.step_watched.ensures in
    let (here, many) = rw (← c.self.view_is) at h in
    rw c.step_watched.ensures.feeder (checked.stepped c.texts_are_read.ensures limits longest v first input c.self.inside.feeder c.self.inside.replay c.self.inside.fault (rw (← c.self.view_is) at c.requires) here k many c.args.piece.now c.feed.new.self c.in-Ok.fed c.in-Some.read c.in-Some.is t.feeds t.stop c.step_watched.new.replay u.steps u.limits u.problem)

pub returns-in-Err-step_watched-clause-counts : goal.returns-in-Err-step_watched-clause-counts
returns-in-Err-step_watched-clause-counts c limits longest v first input k h =
    let t = rw (c.in-Ok.is, ← c.step_watched.ensures.feeder) at c.feed.ensures in let u = rw (c.in-Err-step_watched.is, c.in-Some.is) at c.step_watched.ensures in
    let (here, many) = rw (← c.self.view_is) at h in
    checked.refused c.texts_are_read.ensures limits longest v first input c.self.inside.feeder c.self.inside.replay c.self.inside.fault (rw (← c.self.view_is) at c.requires) here k many c.args.piece.now c.step_watched.new.feeder c.in-Ok.fed c.in-Some.read c.in-Some.is t.feeds t.stop (t.past c.in-Ok.fed c.in-Some.read refl c.in-Some.is).past c.step_watched.new.replay c.in-Err-step_watched.fault u.steps u.names u.unvalued

pub returns-in-Err-clause-unread : goal.returns-in-Err-clause-unread
returns-in-Err-clause-unread c =
    let (limits, longest, v, first, input, asks, h) = c.self.invariant in let t = rw c.in-Err.is at c.feed.ensures in
    t.unread (checked.running_text c.texts_are_read.ensures limits longest v first input c.self.inside.feeder c.self.inside.replay c.self.inside.fault (rw (← c.self.view_is) at c.requires) h)

pub returns-in-Err-clause-memory : goal.returns-in-Err-clause-memory
returns-in-Err-clause-memory c limits longest v first input no_fault h =
    let t = rw c.in-Err.is at c.feed.ensures in let none = rw (← c.self.view_is) at c.requires in let here = rw (← c.self.view_is) at h in
    let asks = checked.asks_here c.self.inside.feeder c.self.inside.replay c.self.inside.fault none c.self.invariant limits longest v first input here in
    checked.wanted c.texts_are_read.ensures limits longest v first input c.self.inside.feeder c.self.inside.replay c.self.inside.fault none here _ refl c.args.piece.now c.feed.new.self asks c.in-Err.stop t.feeds t.stop

pub returns-in-Err-step_watched-clause-unread : goal.returns-in-Err-step_watched-clause-unread
returns-in-Err-step_watched-clause-unread c = grind (arith, c.in-Ok.is, c.feed.ensures, c.in-Err-step_watched.is, c.in-Some.is, c.step_watched.ensures, c.texts_are_read.ensures, c.self.view_is, c.requires)

pub returns-in-Err-step_watched-clause-memory : goal.returns-in-Err-step_watched-clause-memory
returns-in-Err-step_watched-clause-memory c limits longest v first input no_fault h = grind (arith, c.in-Ok.is, c.feed.ensures, c.in-Err-step_watched.is, c.in-Some.is, c.step_watched.ensures, c.texts_are_read.ensures, c.self.view_is, c.requires)

pub returns-in-Err-step_watched-clause-names : goal.returns-in-Err-step_watched-clause-names
returns-in-Err-step_watched-clause-names c = search rules

pub returns-in-Ok-step_watched-clause-onward : goal.returns-in-Ok-step_watched-clause-onward
returns-in-Ok-step_watched-clause-onward c more = (c.feed.ensures.past c.in-Ok.fed c.in-Some.read c.in-Ok.is c.in-Some.is).some
