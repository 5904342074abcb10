use Rattle.pb_replay.proofs.lemmas.meaning.Assigned.{position-none}
use Rattle.pb_replay.proofs.state.find.number_of.Goals as goal

pub unreachable-requires : goal.unreachable-requires
unreachable-requires c = position-none c.args.names.now c.args.name.now _ c.requires c.number_of.ensures.number c.in-None.is
