use Rattle.pb_replay.proofs.Common.{◌∙◌, arith, length, refl, rules, Steps, IsCount}
use Rattle.pb_replay.proofs.lemmas.rules.{Live.linked-loaded, Steps.loaded-goes}
use Rattle.pb_replay.proofs.step.load.Goals as goal

pub returns-clause-preserves : goal.returns-clause-preserves
returns-clause-preserves c = record {
  linked = record {
    ready = c.in_ok-make_live.ensures.live.ready;
    variables = c.in_ok-make_live.ensures.live.variables ∙ c.len.ensures.length;
    inside = linked-loaded c.args.running.now.own _ c.args.running.now.constraints.loaded _ c.requires.proper.own c.requires.proper.loaded c.in_ok-make_live.ensures.live.forms;
  };
  kept = search rules;
  visits = refl;
}

pub returns-clause-goes : goal.returns-clause-goes
returns-clause-goes c =
    let counted : IsCount c.args.count (length c.args.running.now.constraints.loaded) = search rules in
    loaded-goes c.args.running.now (record c.args.running.now { constraints = c.make_live.new.constraints; next = Steps }) c.args.count refl refl refl refl c.in_ok-make_live.ensures.live.forms counted
    (omega (arith, c.if-number-top.false, c.count-number.ensures, c.top.ensures.value))
