use Rattle.pb_normal.proofs.names.Names.text_of.Goals as goal

pub name_at-requires-clause-readable : goal.name_at-requires-clause-readable
name_at-requires-clause-readable c = rw (c.as_slice.ensures.value, c.as_slice-2.ensures.value) c.self.invariant.readable
