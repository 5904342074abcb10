use Rattle.pb_text.proofs.{lemmas.feeder.Steps.prefix_more, lemmas.source.Drawn.lost_kept, lemmas.source.Drawn.lost_consumed, lemmas.source.Drawn.lost_reported}
use Rattle.pb_text.proofs.{Common.◌+◌, Common.arith, Common.length-take-le, Common.subst, Common.take, lemmas.source.Drawn.pours_none}
use Rattle.std.{proofs.BufReadLemmas.Consumes_shown, specs.Io.BufRead.FillKeeps}
use Rattle.pb_text.proofs.over.OverSource.pour.Goals as goal

pub returns-in-Ok-clause-pours : goal.returns-in-Ok-clause-pours
returns-in-Ok-clause-pours g c =
    let o = c.args.self.now in let shown = c.in-Ok.bytes.now in let skipped = c.skip_line_feed-skipped in let fed = c.feed_statement-used in
    let used = skipped.result + fed.result in
    let all = prefix_more c.args.feeder.now skipped.new.self fed.new.self shown skipped.result fed.result fed.new.event skipped.ensures fed.ensures in
    let rested = c.fill_buf.follows.lender-at-none in
    let before = g.T.Read.remaining o.inner in let after = g.T.Read.remaining c.consume.new.self in
    let filled = subst (FillKeeps _ (g.T.Read.remaining rested) (g.T.BufRead.consumable_len rested)) c.in-Ok.is c.fill_buf.follows.holds-at-none in
    let moved = Consumes_shown _ _ _ _ shown used all.bound c.in-Ok.ensures.front c.in-Ok.ensures.end filled.0 filled.1 c.consume.ensures.bytes in
    record {
      taken = take used shown;
      given_are = c.note.ensures;
      lost = lost_reported before (g.T.BufRead.consumable_len o.inner) o.shown after (take used shown) (lost_consumed before after (take used shown) moved.0);
      offset_is = omega (arith, all.offset, length-take-le used shown all.bound);
      stands = all.stands;
      some = λ e h. omega (arith, all.some e h, length-take-le used shown all.bound);
      past = all.past;
    }

pub returns-in-Err-clause-pours : goal.returns-in-Err-clause-pours
returns-in-Err-clause-pours g c =
    let o = c.args.self.now in
    rw c.requires.none (pours_none _ _ (lost_reported (g.T.Read.remaining o.inner) (g.T.BufRead.consumable_len o.inner) o.shown _ _ (lost_kept _ _ c.fill_buf.follows.holds-at-none.0)))
