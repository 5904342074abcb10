use Rattle.pb_proof.proofs.{Common.append-nil, Common.arith, lemmas.Texts.listed_split}
use Rattle.pb_proof.proofs.write.list.write_batch.Goals as goal

pub returns-then-left-gt0 : goal.returns-then-left-gt0
returns-then-left-gt0 g c = grind (arith, g.T.ListItem.line, listed_split, append-nil, c.put_items-left.ensures.text, c.new-piece.ensures, g.S.Sink.contents, g.S.Sink.faults, c.write_parts.ensures)
