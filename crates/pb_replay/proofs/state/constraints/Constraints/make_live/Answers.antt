use Rattle.pb_replay.proofs.Common.{◌∙◌, ◌≡◌, [], ℕ, ap, Contains, Form, inr, IsInside, List, map, Option, Some, subst, sym}
use Rattle.std.proofs.Common.{Global, Vec}
use Rattle.pb_replay.proofs.lemmas.rules.Spread.{spread-all, waiting-all}
use Rattle.pb_replay.specs.engine.Constraints.{AreSpread, Constrained}
use Rattle.pb_replay.proofs.state.constraints.Constraints.make_live.Goals.{After-replace-waiting}
use Rattle.pb_replay.proofs.state.constraints.Constraints.make_live.Goals as goal

-- those that waited are those of the instance
all-waited : (c : After-replace-waiting) → c.replace-waiting.result.items ≡ c.self.inside.own.forms
all-waited c =
    let held = c.self.invariant.1 (ap (λ (v : Constrained). v.spent) c.self.view_is ∙ c.requires.ready) in
    ap (λ (v : Vec Form Global). v.items) c.replace-waiting.ensures.value ∙ waiting-all held.1 (ap (λ (v : Constrained). v.forms) c.self.view_is ∙ c.requires.fresh)

pub fill-requires-clause-inside : goal.fill-requires-clause-inside
fill-requires-clause-inside c = λ f there.
    let waited = all-waited (goal.at.fill-requires-clause-inside c).After-replace-waiting ∙ ap (λ (v : Constrained). v.loaded) c.self.view_is in
    let inside = c.requires.inside f (subst (λ (l : List Form). Contains l f) waited there) in
    subst (λ (n : ℕ). IsInside n f) (sym (ap (λ (v : Constrained). v.variables) c.self.view_is)) inside

pub invariant_of-self-2 : goal.invariant_of-self-2
invariant_of-self-2 c = (
  c.self.invariant.0,
  λ ready.
      let own = c.self.inside.own.forms in let filled = c.in_ok-fill.ensures.filled in
      let all : List Form → List (Option Form) = map (λ (f : Form). let o : Option Form = Some f in o) in
      let waited = all-waited (goal.at.invariant_of-self-2 c).After-replace-waiting in
      let empty : c.replace-waiting.new.dest.items ≡ [] = ap (λ (v : Vec Form Global). v.items) c.replace-waiting.ensures.after ∙ c.new.ensures.items in
      let spread = spread-all own c.in_ok-self-inside.field-0 (c.in_ok-self-inside.ensures ∙ c.self.invariant.0) in
      (filled.ready, inr (empty, subst (AreSpread own c.in_ok-self-inside.field-0) (sym (filled.forms ∙ ap all waited)) spread)),
)
