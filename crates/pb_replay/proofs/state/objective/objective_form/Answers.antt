use Rattle.pb_replay.proofs.Common.{ap, refl, sym, take, option_map, to_z-of_z, names_of, Linear, arith}
use Rattle.pb_replay.proofs.lemmas.meaning.Assigned.{unchanged, objective-made, objective-within}
use Rattle.pb_replay.proofs.lemmas.rules.Steps.{fits_of, prefix_after}
use Rattle.pb_replay.proofs.state.objective.objective_form.Goals as goal

pub returns-in_err-form-clause-kept : goal.returns-in_err-form-clause-kept
returns-in_err-form-clause-kept c =
    let some = c.in_err-form.ensures.err in
    record { limits = refl; own = refl; loaded = refl; objective = sym (ap (option_map (λ (x : Linear). x.terms)) c.in-Some.is); names = prefix_after c.args.running.now.names c.from_linear.new.names (take some.0 (names_of c.in-Some.linear.terms)) some.1 }

pub returns : goal.returns
returns c = grind (arith, c.in_ok-form.ensures.names, objective-made, c.requires, c.in-Some.is, to_z-of_z, fits_of, c.from_linear.ensures.overflow, objective-within, unchanged, prefix_after)
