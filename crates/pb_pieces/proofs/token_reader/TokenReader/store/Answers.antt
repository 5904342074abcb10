use Rattle.pb_pieces.proofs.{Common.◌++◌, Common.[], Common.names_of, Numbers.nothing_added}
use Rattle.pb_pieces.proofs.token_reader.TokenReader.store.Goals as goal

pub returns-clause-stored : goal.returns-clause-stored
returns-clause-stored g c seen current h =
    c.in_ok-put_tokens.ensures c.clear.new.self [] (nothing_added c.clear.new.self) (seen ++ names_of current) [] (c.clear.ensures seen current h)
