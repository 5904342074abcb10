use Rattle.pb_replay.proofs.Common.{◌∙◌, ap, length, Replaying}
use Rattle.pb_replay.proofs.replay.Replay.newest.Goals as goal

pub returns : goal.returns
returns c = c.len.ensures ∙ ap (λ (v : Replaying). length v.live) c.self.view_is
