use Rattle.pb_normal.proofs.{Common.◌<◌, Common.arith, Common.length, Common.drop_read, lemmas.terms.Merging.no_entry}
use Rattle.pb_normal.specs.engine.Reading.{read_entries}
use Rattle.pb_normal.proofs.entries.EntriesIterator.next.Goals as goal

pub returns-clause-steps : goal.returns-clause-steps
returns-clause-steps c =
    let lt : c.self.inside.next < length (read_entries c.self.inside.terms) = omega (arith, c.self.invariant, c.len.ensures.length, c.if-index-len.false) in
    rw (← c.self.view_is) (drop_read (read_entries c.self.inside.terms) c.self.inside.next no_entry c.get-entry.result lt (c.get-entry.ensures.read no_entry))
