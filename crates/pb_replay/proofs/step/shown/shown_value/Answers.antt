use Rattle.pb_replay.proofs.Common.{Err, inl, inr, refl, subst, Contains, both_ways, problem_of, Completed}
use Rattle.pb_replay.proofs.lemmas.rules.{Completions.shown-none, Steps.own-length}
use Rattle.pb_replay.proofs.step.shown.shown_value.Goals as goal

pub returns-else-eq-clause-err : goal.returns-else-eq-clause-err
returns-else-eq-clause-err c =
    elim c.in-Err.ensures [
      | inl memory ↦ absurd (both_ways c.eq.result c.if-eq.false (rw memory at c.eq.ensures))
      | inr bad ↦ inr (refl, λ g s. shown-none (problem_of c.args.running.now) c.args.given.now c.in-Err.fault (subst (λ n. Completed (problem_of c.args.running.now) (Contains c.args.running.now.constraints.loaded) n c.args.given.now (Err c.in-Err.fault)) (own-length c.args.running.now c.requires.proper) bad) g s)
    ]
