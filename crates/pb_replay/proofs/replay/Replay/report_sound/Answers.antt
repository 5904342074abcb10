use Rattle.pb_replay.proofs.Common.{refl, state_of}
use Rattle.pb_replay.proofs.replay.Replay.report_sound.Goals as goal

pub returns-clause-problem : goal.returns-clause-problem
returns-clause-problem c none = rw (← c.self.view_is) ((c.self.invariant.ready (rw (← c.self.view_is) at none)).proper.problem)

pub returns-clause-sound : goal.returns-clause-sound
returns-clause-sound c none =
    let ready = c.self.invariant.ready (rw (← c.self.view_is) at none) in
    rw (← c.self.view_is) (
      state_of c.self.inside.running ready.sound.0,
      record { live = refl; names = refl; logged = ready.sound.1; next = refl; concluded = refl },
      ready.sound.2,
    )
