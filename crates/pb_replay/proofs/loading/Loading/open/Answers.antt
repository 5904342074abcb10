use Rattle.pb_opb.specs.meaning.Values.{constraints_in}
use Rattle.pb_replay.proofs.Common.{◌≡◌, ◌≤◌, ◌⊎◌, Err, err_from_is_err_and, Fault, Instance, largest, Limits, List, magnitude, Memory, objective_of, Opened}
use Rattle.pb_replay.proofs.Common.{IfOk, refl, Result, subst, sym}
use Rattle.pb_opb.specs.declared.OpbEvent.{OpbEvent}
use Rattle.pb_replay.proofs.lemmas.rules.Loading.{fit-made, for-each, is-loaded, not-made}
use Rattle.pb_replay.specs.engine.Loading.{MadeAs}
use Rattle.pb_replay.specs.contract.{Loading.NamesInOrder, Loading.names_on, ReplayModel.IsLoaded, ReplayModel.IsOpened}
use Rattle.pb_replay.proofs.loading.Loading.open.Goals as goal

pub returns-in_err-self-clause-err : goal.returns-in_err-self-clause-err
returns-in_err-self-clause-err c =
    let l = c.self.inside in
    let made = subst (λ (m : Result Unit Fault). MadeAs m (names_on l.notes.events) (constraints_in l.notes.events) l.forms) c.in_err-self.was c.self.invariant.made in
    let e = c.in_err-self.field-0.0 in
    let refused = subst (λ (t : Limits × List OpbEvent). (e ≡ Memory) ⊎ ((v : Instance) → NamesInOrder t.1 v → Opened (largest t.0) v (Err e))) c.self.view_is (not-made l.notes.events l.objective l.forms c.self.invariant e made) in
    let (f, is, same) = err_from_is_err_and c.from_residual.result c.from_residual.ensures.1 in rw (is, same) refused

pub returns-clause-ok : goal.returns-clause-ok
returns-clause-ok c =
    let l = c.self.inside in let r = c.started-running.result in
    let small : magnitude (objective_of l.objective) ≤ largest l.forms.limits = c.if-not-objective_fits.ensures.0 refl in
    let same = rw c.as_linear.ensures at c.started-running.ensures.problem in
    let loaded : (v : Instance) → NamesInOrder l.notes.events v → IsLoaded l.forms.limits v r = λ v order. is-loaded l.notes.events l.objective l.forms c.self.invariant v order c.in_ok-self.was small r c.started-running.ensures.first same in
    let limits : r.limits ≡ l.forms.limits = c.started-running.ensures.first.limits in
    let opened : (v : Instance) → IsLoaded l.forms.limits v r → IfOk c.with_variables.result (IsOpened l.forms.limits v) = λ v is.
    subst (λ (k : Limits). IfOk c.with_variables.result (IsOpened k v)) limits (c.with_variables.ensures.ok v (subst (λ (k : Limits). IsLoaded k v r) (sym limits) is)) in
    rw (← c.self.view_is) (for-each c.with_variables.result (NamesInOrder l.notes.events) (λ x v. IsOpened l.forms.limits v x) (λ v order. opened v (loaded v order)))

pub returns-clause-memory : goal.returns-clause-memory
returns-clause-memory c =
    let l = c.self.inside in let small : magnitude (objective_of l.objective) ≤ largest l.forms.limits = c.if-not-objective_fits.ensures.0 refl in
    rw (← c.self.view_is) (λ none v order. fit-made l.notes.events l.objective l.forms c.self.invariant v order c.in_ok-self.was small)
