use Rattle.{pb_propagate.proofs.lemmas.store.Options.none_of, pb_replay.proofs.lemmas.rules.Steps.meant, pb_replay.proofs.lemmas.rules.Steps.meant-written}
use Rattle.pb_replay.proofs.Common.{◌∙◌, refl, sym, problem_of, state_of}
use Rattle.pb_replay.proofs.replay.Replay.verdict.Goals as goal

pub returns-in-Complete-clause-written : goal.returns-in-Complete-clause-written
returns-in-Complete-clause-written c =
    let ready = c.self.invariant.ready (none_of c.self.inside.fault (sym c.is_some.ensures ∙ c.if-is_some.false)) in
    rw (← c.self.view_is) (meant-written (problem_of c.self.inside.running) c.self.inside.running.concluded (meant (problem_of c.self.inside.running) (state_of c.self.inside.running ready.sound.0) c.self.inside.running.concluded (ready.sound).2 refl))

pub returns-in-Complete-clause-means : goal.returns-in-Complete-clause-means
returns-in-Complete-clause-means c =
    let ready = c.self.invariant.ready (none_of c.self.inside.fault (sym c.is_some.ensures ∙ c.if-is_some.false)) in
    rw (← c.self.view_is) (meant (problem_of c.self.inside.running) (state_of c.self.inside.running ready.sound.0) c.self.inside.running.concluded (ready.sound).2 refl)
