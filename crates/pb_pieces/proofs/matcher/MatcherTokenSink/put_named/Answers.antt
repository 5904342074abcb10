use Rattle.pb_pieces.proofs.{Common.◌+◌, Common.refl, Common.rules, Common.Some, Common.token, Compared.one_compared}
use Rattle.pb_pieces.proofs.matcher.MatcherTokenSink.put_named.Goals as goal

pub returns-in-Some : goal.returns-in-Some
returns-in-Some c start before h =
    let old = c.args.self.now in
    one_compared start.given.items before (token c.args.kind c.args.number (Some c.args.name.now)) old (record old { count = old.count + 1 }) c.in-Some.given.now h c.in-Some.ensures.same refl c.in-Some.ensures.token (search rules)
