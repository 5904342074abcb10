use Rattle.pb_pieces.proofs.{Common.◌+◌, Common.None, Common.refl, Common.rules, Common.token, Compared.one_compared}
use Rattle.pb_pieces.proofs.matcher.MatcherTokenSink.put.Goals as goal

pub returns-in-Some : goal.returns-in-Some
returns-in-Some c start before h =
    let old = c.args.self.now in
    one_compared start.given.items before (token c.args.kind c.args.number None) old (record old { count = old.count + 1 }) c.in-Some.given.now h c.in-Some.ensures.same refl c.in-Some.ensures.token (search rules)
