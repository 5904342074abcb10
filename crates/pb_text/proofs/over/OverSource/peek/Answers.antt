use Rattle.pb_text.proofs.lemmas.source.Drawn.{peeks}
use Rattle.pb_text.proofs.over.OverSource.peek.Goals as goal

pub returns-in-Ok : goal.returns-in-Ok
returns-in-Ok g c = peeks g.T.Read.remaining g.T.BufRead.consumable_len c.args.self.now c.next_of.new.reader c.in-Ok.shown c.is_none-self.result c.is_none-self.ensures c.in-Ok.ensures
