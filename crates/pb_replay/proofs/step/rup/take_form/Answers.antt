use Rattle.pb_replay.proofs.Common.{◌∙◌, arith, refl, rules, take, names_of}
use Rattle.pb_replay.proofs.lemmas.rules.{Live.grown, Live.linked-wider, Steps.fits_of, Steps.prefix_after}
use Rattle.pb_replay.proofs.step.rup.take_form.Goals as goal

pub returns-in_err-form-clause-preserves : goal.returns-in_err-form-clause-preserves
returns-in_err-form-clause-preserves c =
    let some = c.in_err-form.ensures.err in
    record {
      linked = search rules;
      kept = record { limits = refl; own = refl; loaded = refl; objective = refl; names = prefix_after c.args.running.now.names c.from_linear.new.names (take some.0 (names_of c.args.linear.now.terms)) some.1 };
      visits = refl;
    }

pub widen-requires-clause-to : goal.widen-requires-clause-to
widen-requires-clause-to c = omega (arith, c.len-before.ensures.length, c.len.ensures.length, grown c.args.running.now.names c.from_linear.new.names (names_of c.args.linear.now.terms) c.in_ok-form.ensures.names)

pub returns-in_err-widen-clause-preserves : goal.returns-in_err-widen-clause-preserves
returns-in_err-widen-clause-preserves c = record {
  linked = search rules;
  kept = record { limits = refl; own = refl; loaded = c.widen.ensures.loaded; objective = refl; names = prefix_after _ _ (names_of c.args.linear.now.terms) c.in_ok-form.ensures.names };
  visits = refl;
}

pub returns-clause-fits : goal.returns-clause-fits
returns-clause-fits c = fits_of _ _ _ _ c.in_ok-form.was c.from_linear.ensures.overflow

pub returns-clause-preserves : goal.returns-clause-preserves
returns-clause-preserves c = record {
  linked = linked-wider c.args.running.now _ c.requires (grown c.args.running.now.names c.from_linear.new.names (names_of c.args.linear.now.terms) c.in_ok-form.ensures.names) c.in_ok-widen.ensures.live.forms c.in_ok-widen.ensures.live.ready (c.in_ok-widen.ensures.live.variables ∙ c.len.ensures.length);
  kept = record { limits = refl; own = refl; loaded = c.widen.ensures.loaded; objective = refl; names = prefix_after _ _ (names_of c.args.linear.now.terms) c.in_ok-form.ensures.names };
  visits = refl;
}
