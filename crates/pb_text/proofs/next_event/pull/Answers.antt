use Rattle.pb_text.proofs.Common.{◌∙◌, ◌≡◌, arith, Err, None, Ok, Option, refl, Result, Some, Spanned, Stop, sym}
use Rattle.pb_text.proofs.lemmas.{feeder.Steps.none_of, feeder.Steps.some_of}
use Rattle.pb_text.proofs.lemmas.source.{Drawn.draws_join, Drawn.draws_none, Drawn.pulls_nothing, Drawn.pulls_event, Drawn.pulls_stop, PullsInARow.row}
use Rattle.std.proofs.Common.{rules}
use Rattle.pb_text.proofs.next_event.pull.Goals as goal

same_event : {E : Type 0} (m n : Spanned E) → (let r : Result (Option (Spanned E)) Stop = Ok (Some m) in r) ≡ Ok (Some n) → Some m ≡ Some n
same_event m n h = cc h

-- an event is not the end
not_last : {E : Type 0} {A : Type 0} (m : Spanned E) → (let r : Result (Option (Spanned E)) Stop = Ok (Some m) in r) ≡ Ok None → A
not_last m h = cc h

pub returns-then-is_done-clause-pulls : goal.returns-then-is_done-clause-pulls
returns-then-is_done-clause-pulls g c longest start input spans counts s =
    pulls_nothing (g.S.Source.left c.args.source.now) (g.S.Source.history c.args.source.now) s (Ok None) (λ seen. refl) refl counts (λ e. sym c.if-is_done.ensures.done)

pub returns-then-is_some-clause-pulls : goal.returns-then-is_some-clause-pulls
returns-then-is_some-clause-pulls g c longest start input spans counts s =
    let came = some_of c.draw.new.event (sym c.is_some.ensures ∙ c.if-is_some.true) in
    rw came.1 (pulls_event s came.0 (draws_join c.loop-stop.invariant.drawn (rw came.1 at c.in-Ok.ensures.draws)))

pub returns-in-Err-clause-pulls : goal.returns-in-Err-clause-pulls
returns-in-Err-clause-pulls g c longest start input spans counts s =
    pulls_stop s c.in-Err.stop (draws_join c.loop-stop.invariant.drawn (rw c.in-Err.is at c.draw.ensures.draws))

pub returns-then-is_done-clause-row : goal.returns-then-is_done-clause-row
returns-then-is_done-clause-row g c longest start before spans h =
    row {g = g.M.Machine} longest start before _ _ spans _ _ h (Ok None) (returns-then-is_done-clause-pulls g c longest start h.used spans (rw h.running tt) h.stands) h.running (λ e. sym c.if-is_done.ensures.done) (λ m e. cc e)

pub returns-then-is_some-clause-row : goal.returns-then-is_some-clause-row
returns-then-is_some-clause-row g c longest start before spans h =
    let came = some_of c.draw.new.event (sym c.is_some.ensures ∙ c.if-is_some.true) in
    let pulled = pulls_event h.stands came.0 (draws_join c.loop-stop.invariant.drawn (rw came.1 at c.in-Ok.ensures.draws)) in
    rw came.1 (row {g = g.M.Machine} longest start before _ _ spans _ _ h (Ok (Some came.0)) pulled c.in-Ok.ensures.stop (not_last came.0) (λ m e. c.in-Ok.ensures.past m (came.1 ∙ same_event came.0 m e)))

pub returns-in-Err-clause-row : goal.returns-in-Err-clause-row
returns-in-Err-clause-row g c longest start before spans h =
    let d = rw c.in-Err.is at c.draw.ensures in
    row {g = g.M.Machine} longest start before _ _ spans _ _ h (Err c.in-Err.stop) (returns-in-Err-clause-pulls g c longest start h.used spans (rw h.running tt) h.stands) d.stop (λ e. cc e) (λ m e. cc e)

pub returns-in-Some-clause-pulls : goal.returns-in-Some-clause-pulls
returns-in-Some-clause-pulls g c longest start input spans counts s =
    pulls_nothing (g.S.Source.left c.args.source.now) (g.S.Source.history c.args.source.now) s (Err c.in-Some.stop) (λ seen. refl) refl counts (λ e. cc e)

pub loop-stop-init : goal.loop-stop-init
loop-stop-init g c = record {
  running = search rules;
  unfinished = search rules;
  state = search rules;
  onward = omega arith;
  faults = refl;
  drawn = draws_none c.args.feeder.now _ _;
}

pub loop-stop-preserved : goal.loop-stop-preserved
loop-stop-preserved g c =
    let d = c.in-Ok.ensures in
    let none = none_of c.draw.new.event (sym c.is_some.ensures ∙ c.if-is_some.false) in
    record {
      running = d.stop;
      unfinished = d.unfinished none;
      state = d.state;
      onward = omega (arith, d.onward, c.loop-stop.invariant.onward);
      faults = d.faults ∙ c.loop-stop.invariant.faults;
      drawn = draws_join c.loop-stop.invariant.drawn (rw none at d.draws);
    }
