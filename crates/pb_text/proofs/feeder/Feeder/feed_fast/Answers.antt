use Rattle.pb_text.proofs.{Common.append_assoc, lemmas.text.Spans.prefix_parts}
use Rattle.pb_text.proofs.feeder.Feeder.feed_fast.Goals as goal

pub returns-clause-stands : goal.returns-clause-stands
returns-clause-stands g c longest start input spans s =
    rw (prefix_parts c.args.piece.now c.skip_gap-entered.result c.feed_body.result, ← append_assoc input)
    (c.feed_body.ensures.stands longest start _ spans (c.skip_gap-entered.ensures.stands longest start input spans s))
