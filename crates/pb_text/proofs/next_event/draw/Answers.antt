use Rattle.pb_text.proofs.Common.{◌∙◌, ap, append-nil, append_assoc, sym, Place}
use Rattle.pb_text.proofs.lemmas.{feeder.Steps.none_of, feeder.Steps.running, feeder.Steps.stands_failed, source.Drawn.draws_poured, source.Drawn.draws_join, source.Drawn.seen_after}
use Rattle.pb_text.proofs.next_event.draw.Goals as goal

pub returns-then-is_some-clause-draws : goal.returns-then-is_some-clause-draws
returns-then-is_some-clause-draws g c = draws_poured c.pour.ensures.pours

pub returns-clause-draws : goal.returns-clause-draws
returns-clause-draws g c =
    let none = none_of c.pour.new.event (sym c.is_some.ensures ∙ c.if-is_some.false) in
    draws_join (rw none at (draws_poured c.pour.ensures.pours)) c.take_next.ensures.draws

pub returns-in-Err-clause-draws : goal.returns-in-Err-clause-draws
returns-in-Err-clause-draws g c =
    let p = rw c.in-Err.is at c.pour.ensures in
    let d = rw p.err.1 at p.pours in
    let seen = seen_after (g.S.Source.left c.args.source.now) d.taken (g.S.Source.left c.pour.new.self) d.lost in
    record {
      taken = d.taken;
      seen = seen.0;
      took = seen.1;
      given_are = d.given_are;
      offset_is = ap (λ (q : Place). q.offset) c.halt.ensures.place ∙ d.offset_is;
      stands = λ longest start input spans s.
          let t = rw append-nil at (d.stands longest start input spans s) in
          let e = stands_failed (running c.pour.new.feeder t p.running) (p.unfinished p.err.1) seen.0 in
          (c.halt.ensures.longest ∙ t.0, rw (append-nil, ← append_assoc input d.taken seen.0, c.halt.ensures.stop, c.halt.ensures.result, c.halt.ensures.machine, c.halt.ensures.place, c.halt.ensures.first) e);
    }
