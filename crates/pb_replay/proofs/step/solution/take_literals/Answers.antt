use Rattle.pb_replay.proofs.Common.{literal_names, ◌∙◌, arith, refl}
use Rattle.pb_replay.proofs.lemmas.{meaning.Assigned.names_named, rules.Live.grown, rules.Live.linked-wider}
use Rattle.pb_replay.proofs.step.solution.take_literals.Goals as goal

pub numbered_literals-requires : goal.numbered_literals-requires
numbered_literals-requires c = names_named c.args.running.now.names c.number_names.new.names (literal_names c.args.given.now) c.in_ok-number_names.ensures.names

pub widen-requires-clause-to : goal.widen-requires-clause-to
widen-requires-clause-to c = omega (arith, c.len-before.ensures.length, c.len.ensures.length, grown c.args.running.now.names c.number_names.new.names (literal_names c.args.given.now) c.in_ok-number_names.ensures.names)

pub returns-clause-preserves : goal.returns-clause-preserves
returns-clause-preserves c = record {
  linked = linked-wider c.args.running.now _ c.requires (grown c.args.running.now.names c.number_names.new.names (literal_names c.args.given.now) c.in_ok-number_names.ensures.names) c.in_ok-widen.ensures.live.forms c.in_ok-widen.ensures.live.ready (c.in_ok-widen.ensures.live.variables ∙ c.len.ensures.length);
  kept = record { limits = refl; own = refl; loaded = c.widen.ensures.loaded; objective = refl; names = c.number_names.ensures.prefix };
  visits = refl;
}
