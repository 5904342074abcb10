use Rattle.pb_replay.proofs.Common.{◌++◌, ◌∙◌, ◌∷◌, [], ap, arith, List, map, Some, sym, take, Option, map_more, Form, get_or_from_slice_get}
use Rattle.pb_replay.proofs.state.live.fill.Goals as goal

pub loop-at-preserved : goal.loop-at-preserved
loop-at-preserved c =
    let i = c.loop-at.invariant in let k = c.loop-at.at in let forms = c.args.constraints.now.loaded in
    let reported = c.in_ok-insert.ensures in let some : Form → Option Form = λ f. Some f in
    let read = get_or_from_slice_get forms k c.of_instance.result.now c.of_instance.result.now c.of_instance.ensures in
    record {
      forms = reported.forms ∙ ap (λ (xs : List (Option Form)). xs ++ (Some c.in_ok-form.form ∷ [])) i.forms
          ∙ ap (λ (g : Form). map some (take k forms) ++ (Some g ∷ [])) (c.in_ok-form.ensures.copy ∙ sym read)
          ∙ sym (map_more some forms k c.of_instance.result.now (omega (arith, c.loop-at-test.true, c.count-at-end.ensures)));
      variables = reported.variables ∙ i.variables;
      ready = reported.ready;
    }
