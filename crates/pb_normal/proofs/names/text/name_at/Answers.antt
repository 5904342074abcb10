use Rattle.pb_normal.proofs.{Common.names_in, Common.IsUtf8, lemmas.names.Tables.All-at}
use Rattle.pb_normal.proofs.names.text.name_at.Goals as goal

pub unreachable-requires : goal.unreachable-requires
unreachable-requires c = c.in-Err.ensures.cases.0 (All-at IsUtf8 (names_in c.args.bytes.now c.args.entries.now) c.args.number c.text_at.result.now c.requires.readable c.text_at.ensures)
