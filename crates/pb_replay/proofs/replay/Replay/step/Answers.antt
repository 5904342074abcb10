use Rattle.pb_replay.proofs.Common.{◌≡◌, inl, inr, None, refl, rules, state_of}
use Rattle.pb_replay.proofs.lemmas.rules.Steps.{kept-ok, kept-err, step-ok, step-err, step-unvalued}
use Rattle.pb_replay.proofs.replay.Replay.step.Goals as goal

pub invariant_of-self : goal.invariant_of-self
invariant_of-self c =
    kept-ok c.self.inside.running c.apply.new.running c.args.statement.now c.self.inside.fault (rw (← c.self.view_is) at c.requires) c.self.invariant (rw c.in-Ok.is at c.apply.ensures.comes) c.apply.ensures.kept (rw c.in-Ok.is at c.apply.ensures.linked)

pub invariant_of-self-in-Err : goal.invariant_of-self-in-Err
invariant_of-self-in-Err c =
    let free : c.self.inside.fault ≡ None = search rules in
    kept-err c.self.inside.running c.apply.new.running c.args.statement.now c.in-Err.fault (c.self.invariant.ready free) (rw c.in-Err.is at c.apply.ensures.comes) c.apply.ensures.kept

pub returns-in-Ok-clause-steps : goal.returns-in-Ok-clause-steps
returns-in-Ok-clause-steps c = λ free_before.
    let free : c.self.inside.fault ≡ None = rw (← c.self.view_is) at free_before in
    rw (← c.self.view_is) (
      λ s f.
          let k = step-ok c.self.inside.running c.apply.new.running c.args.statement.now (rw c.in-Ok.is at c.apply.ensures.comes) s f.live f.names f.logged f.next f.concluded in
          (state_of c.apply.new.running k.0, record { live = refl; names = refl; logged = k.1; next = refl; concluded = refl }, k.2),
      free,
    )

pub returns-in-Ok-clause-visits_made : goal.returns-in-Ok-clause-visits_made
returns-in-Ok-clause-visits_made c = λ free_before. rw (← c.self.view_is) (rw c.in-Ok.is at c.apply.ensures.visits_made)

pub returns-in-Err-clause-steps : goal.returns-in-Err-clause-steps
returns-in-Err-clause-steps c = λ free_before.
    let h = step-err c.self.inside.running c.apply.new.running c.args.statement.now c.in-Err.fault (rw c.in-Err.is at c.apply.ensures.comes) in
    rw (← c.self.view_is) (elim h [ inl memory ↦ inl memory | inr k ↦ inr (λ s f. k s f.live f.names f.logged f.next f.concluded) ], refl)

pub returns-in-Err-clause-unvalued : goal.returns-in-Err-clause-unvalued
returns-in-Err-clause-unvalued c = λ n is.
    let free : c.self.inside.fault ≡ None = search rules in
    rw (← c.self.view_is) (step-unvalued c.self.inside.running c.apply.new.running c.args.statement.now c.in-Err.fault n (c.self.invariant.ready free) (rw c.in-Err.is at c.apply.ensures.comes) is)
