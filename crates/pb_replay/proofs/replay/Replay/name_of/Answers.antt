use Rattle.pb_replay.proofs.Common.{◌∙◌, ap, slice_get, Replaying}
use Rattle.pb_replay.proofs.replay.Replay.name_of.Goals as goal

pub returns : goal.returns
returns c = c.name_of.ensures ∙ ap (λ (v : Replaying). slice_get v.names c.args.number) c.self.view_is
