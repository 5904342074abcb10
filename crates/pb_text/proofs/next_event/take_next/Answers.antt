use Rattle.pb_text.proofs.Common.{ℕ, ◌++◌, ◌∙◌, ◌∷◌, [], ap, append-nil, append_assoc, List, Place}
use Rattle.pb_text.proofs.lemmas.feeder.Steps.{running, stands_more, stands_ended, stands_failed}
use Rattle.pb_text.proofs.lemmas.source.Drawn.{draws_stop, lost_nothing, lost_byte, seen_byte, seen_end, seen_rest, seen_after}
use Rattle.pb_text.proofs.next_event.take_next.Goals as goal

pub returns-in-Ok-None-clause-draws : goal.returns-in-Ok-None-clause-draws
returns-in-Ok-None-clause-draws g c =
    let p = rw (c.in-Ok-None.is, c.in-Ok-None.field-0-is) at c.peek.ensures in
    draws_stop ([], seen_end _ [] _ _ (lost_nothing _) p.0 p.1) p.3 (ap (λ (q : Place). q.offset) c.halt.ensures.place) (λ longest start input spans s.
    let e = stands_ended (running c.args.feeder.now s c.requires.running) c.requires.unfinished in
    (c.halt.ensures.longest ∙ s.0, rw (append-nil, append-nil, c.halt.ensures.stop, c.halt.ensures.result, c.halt.ensures.machine, c.halt.ensures.place, c.halt.ensures.first) e))

pub returns-in-Err-clause-draws : goal.returns-in-Err-clause-draws
returns-in-Err-clause-draws g c =
    let p = rw c.in-Err.is at c.peek.ensures in
    let seen = seen_rest (g.S.Source.left c.args.source.now) [] _ (g.S.Source.left c.peek.new.self) (lost_nothing _) p.0 in
    draws_stop seen p.2 (ap (λ (q : Place). q.offset) c.halt-in-Err.ensures.place) (λ longest start input spans s.
    let e = stands_failed (running c.args.feeder.now s c.requires.running) c.requires.unfinished seen.0 in
    (c.halt-in-Err.ensures.longest ∙ s.0, rw (append-nil, c.halt-in-Err.ensures.stop, c.halt-in-Err.ensures.result, c.halt-in-Err.ensures.machine, c.halt-in-Err.ensures.place, c.halt-in-Err.ensures.first) e))

pub returns-in-Err-take-clause-draws : goal.returns-in-Err-take-clause-draws
returns-in-Err-take-clause-draws g c =
    let t = rw c.in-Err-take.is at c.take.ensures in
    let p = rw (c.in-Ok-Some.is, c.in-Ok-Some.field-0-is) at c.peek.ensures in
    let b : ℕ = c.in-Ok-Some.byte in
    let seen = seen_byte (g.S.Source.left c.args.source.now) [] _ (g.S.Source.left c.peek.new.self) b (lost_nothing _) p.0 p.1 in
    draws_stop (b ∷ seen.0, seen.1) p.4 t.still (λ longest start input spans s.
    let k = t.stands longest start input spans s in
    (k.0, rw (← append_assoc input (b ∷ []) seen.0) (stands_more k.1 seen.0 t.counted (λ e. cc t.stop))))

pub returns-in-Ok-clause-draws : goal.returns-in-Ok-clause-draws
returns-in-Ok-clause-draws g c =
    let t = rw c.in-Ok.is at c.take.ensures in
    let p = rw (c.in-Ok-Some.is, c.in-Ok-Some.field-0-is) at c.peek.ensures in
    let b : ℕ = c.in-Ok-Some.byte in
    let last = g.S.Source.left c.skip.new.self in
    let lost = lost_byte (g.S.Source.left c.args.source.now) [] _ (g.S.Source.left c.peek.new.self) last b (lost_nothing _) p.0 p.1 c.skip.ensures.0 in
    let seen = seen_after _ _ _ lost in
    record {
      taken = b ∷ [];
      seen = seen.0;
      took = seen.1;
      given_are = c.skip.ensures.2 b p.2 ∙ ap (λ (x : List ℕ). x ++ b ∷ []) p.4;
      offset_is = t.offset;
      stands = t.stands;
    }
