use Rattle.pb_c.proofs.Common.{ℕ, ◌≡◌, length, Option, refl, rules, Some, subst, sym, HasAccepted, Session, AnswersState}
use Rattle.pb_c.specs.declared.step.State.{State}
use Rattle.pb_c.proofs.step.pb_checker_state.Goals as goal

state_is : (a b d a' b' d' : ℕ) → a ≡ a' → b ≡ b' → d ≡ d' → ◌≡◌ {A = State} (record { accepted = a; newest = b; visits = d }) (record { accepted = a'; newest = b'; visits = d' })
state_is a b d a' b' d' p q r = rw (p, q, r) refl

pub returns-clause-state : goal.returns-clause-state
returns-clause-state c =
    let s = c.deref.result.now in
    let held : c.args.checker.now.value ≡ Some c.deref.result.now = search rules in
    let accepted : c.accepted.result ≡ c.deref.result.now.accepted = search rules in
    let newest : c.newest.result ≡ length c.deref.result.now.checker.replay.live = search rules in
    let visits : c.visits.result ≡ c.deref.result.now.checker.replay.visits = search rules in
    subst (λ (x : Option Session). AnswersState x 0 c.args.state.now (record { accepted = c.accepted.result; newest = c.newest.result; visits = c.visits.result })) (sym held) (
      refl,
      state_is _ _ _ _ _ _ accepted newest visits,
      λ limits longest i fed session none. subst (λ (k : ℕ). HasAccepted limits longest i fed k) accepted (c.accepted.ensures.counts limits longest i fed session none),
    )
