use Rattle.pb_pieces.proofs.Common.{◌++◌, inl, inr, Some, names_of}
use Rattle.pb_pieces.proofs.Giving.{fed_event, names_more, none, stopped}
use Rattle.pb_pieces.proofs.token_reader.TokenReader.feed.Goals as goal

pub returns-in-Err-clause-stops : goal.returns-in-Err-clause-stops
returns-in-Err-clause-stops g c longest start fed spans running reading =
    let f = rw c.in-Err.is at c.feed.ensures in
    inl (stopped longest start fed c.args.piece.now spans c.args.self.now.feeder c.feed.new.self reading.running reading.stands c.in-Err.stop f.feeds, f.stop)

pub returns-in-None-clause-gives : goal.returns-in-None-clause-gives
returns-in-None-clause-gives g c longest start fed spans running reading =
    let f = rw c.in-Ok.is at c.feed.ensures in
    record {
      stands = none longest start fed c.args.piece.now spans c.args.self.now.feeder c.feed.new.self reading.running reading.stands c.in-Ok.fed c.in-None.is f.feeds;
      running = f.stop;
      seen = reading.seen;
      current = reading.current;
      holds = reading.holds;
      names_are = reading.names_are;
    }

pub returns-in-Ok-give-clause-gives : goal.returns-in-Ok-give-clause-gives
returns-in-Ok-give-clause-gives g c longest start fed spans running reading =
    let f = rw c.in-Ok.is at c.feed.ensures in
    let m = c.in-Some-event.read in
    let r = rw c.in-Some-event.is at c.in-Ok-give.ensures in
    let holds = r.stored reading.seen reading.current reading.holds in (
      m,
      r.shown,
      holds.arrays,
      record {
        stands = rw c.give.ensures.feeder (fed_event longest start fed c.args.piece.now spans c.args.self.now.feeder c.feed.new.self reading.running reading.stands c.in-Ok.fed (Some m) c.in-Some-event.is f.feeds);
        running = rw c.give.ensures.feeder f.stop;
        seen = reading.seen ++ names_of reading.current;
        current = g.E.Tokenized.tokens m.event;
        holds = holds;
        names_are = names_more g.E.Tokenized reading.seen reading.current spans m reading.names_are;
      },
    )

pub returns-in-Err-give-clause-stops : goal.returns-in-Err-give-clause-stops
returns-in-Err-give-clause-stops g c longest start fed spans running reading =
    let f = rw c.in-Ok.is at c.feed.ensures in
    let m = c.in-Some-event.read in
    let r = rw c.in-Some-event.is at c.in-Err-give.ensures in
    let at = fed_event longest start fed c.args.piece.now spans c.args.self.now.feeder c.feed.new.self reading.running reading.stands c.in-Ok.fed (Some m) c.in-Some-event.is f.feeds in
    inr (r.spent.0, m, c.in-Ok.fed.used, r.spent.1, rw c.give.ensures.feeder at, rw c.give.ensures.feeder f.stop)
