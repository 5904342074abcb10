use Rattle.pb_replay.proofs.Common.{◌∙◌, ◌≡◌, ap, Form, List, map, Option, Some, sym}
use Rattle.pb_replay.proofs.lemmas.rules.Spread.{held-all}
use Rattle.pb_replay.specs.engine.Constraints.{Constrained}
use Rattle.pb_replay.proofs.state.constraints.Constraints.adopt.Goals as goal

pub invariant_of-self : goal.invariant_of-self
invariant_of-self c =
    let kept = c.self.invariant in
    let were = kept.1 (ap (λ (v : Constrained). v.spent) c.self.view_is ∙ c.requires.ready) in
    let other = c.other.invariant.1 (ap (λ (v : Constrained). v.spent) c.other.view_is ∙ c.requires.adopted) in
    let all : List Form → List (Option Form) = map (λ (f : Form). let o : Option Form = Some f in o) in
    let same : c.other.inside.engine.forms ≡ all c.self.inside.own.forms =
    ap (λ (v : Constrained). v.forms) c.other.view_is ∙ c.requires.same ∙ ap all (sym (ap (λ (v : Constrained). v.loaded) c.self.view_is)) in
    (kept.0, λ ready. (other.0, held-all were.1 same))
