use Rattle.pb_normal.proofs.lemmas.names.Tables.{looked_up}
use Rattle.pb_normal.proofs.names.table.number_of.Goals as goal

pub returns-clause-number : goal.returns-clause-number
returns-clause-number c =
    let says = rw (c.as_slice.ensures.value, c.as_slice-2.ensures.value, c.as_bytes.ensures.value) at c.found.ensures in
    looked_up c.args.table.now c.args.name.now c.args.hash c.found.result c.requires.table c.requires.hash says.some says.none
