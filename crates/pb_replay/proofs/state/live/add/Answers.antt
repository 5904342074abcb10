use Rattle.pb_replay.proofs.{Common.◌∙◌, Common.refl, Common.rules, lemmas.rules.Live.inside-added}
use Rattle.pb_replay.proofs.state.live.add.Goals as goal

pub returns-in-Ok-clause-preserves : goal.returns-in-Ok-clause-preserves
returns-in-Ok-clause-preserves c = record {
  linked = record {
    ready = c.in-Ok.ensures.ready;
    variables = c.in-Ok.ensures.variables ∙ c.requires.linked.variables;
    inside = inside-added _ _ _ c.args.form c.requires.linked.inside c.requires.inside c.in-Ok.ensures.forms;
  };
  kept = search rules;
  visits = refl;
}
