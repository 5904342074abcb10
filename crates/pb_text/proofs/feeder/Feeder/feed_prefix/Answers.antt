use Rattle.pb_text.proofs.lemmas.feeder.Steps.{prefix_more}
use Rattle.pb_text.proofs.feeder.Feeder.feed_prefix.Goals as goal

pub returns : goal.returns
returns g c =
    let skipped = c.skip_line_feed-skipped in let fed = c.feed_statement-used in
    prefix_more c.args.self.now skipped.new.self fed.new.self c.args.piece.now skipped.result fed.result fed.new.event skipped.ensures fed.ensures
