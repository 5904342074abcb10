use Rattle.pb_text.proofs.Common.{◌∙◌, ◌≡◌, ap, Err, is_some, None, Ok, Option, option_transpose, refl, Result, result_transpose, Some, sym, false}
use Rattle.pb_text.proofs.events.EventsIterator.next.Goals as goal

transposed : {T E : Type 0} (r : Result (Option T) E) → option_transpose (result_transpose r) ≡ r
transposed (Ok None) = refl
transposed (Ok (Some x)) = refl
transposed (Err e) = refl

none_there : {T : Type 0} (o : Option T) → false ≡ is_some o → o ≡ None
none_there None e = refl
none_there (Some x) e = cc e

pub returns-clause-steps : goal.returns-clause-steps
returns-clause-steps g c =
    let running : c.args.self.now.feeder.stop ≡ None = sym c.stopped.ensures ∙ none_there c.stopped.result (sym c.if-is_some.false ∙ c.is_some.ensures) in
    let same : option_transpose c.transpose.result ≡ c.pull.result = ap option_transpose c.transpose.ensures ∙ transposed c.pull.result in
    record {
      stopped = λ stop e. cc (sym running ∙ e);
      done = λ e. let d = c.pull.ensures.done e running in (c.transpose.ensures ∙ ap result_transpose d.0, (d.1, d.2));
      pulls = λ longest start input spans e s. rw same (c.pull.ensures.pulls longest start input spans (rw running tt) s);
      row = λ longest start first spans p. rw same (c.pull.ensures.row longest start first spans p);
      stop = λ e. rw same c.pull.ensures.stop;
      last = λ e n. c.pull.ensures.last (sym same ∙ ap option_transpose n);
      onward = λ event e. (c.pull.ensures.past event (sym same ∙ ap option_transpose e)).onward;
      past = λ event e. (c.pull.ensures.past event (sym same ∙ ap option_transpose e)).past;
      faulty = rw same c.pull.ensures.faults;
      seen = λ e. rw same (c.pull.ensures.shown running);
      memory = λ e. rw same (c.pull.ensures.memory running);
    }
