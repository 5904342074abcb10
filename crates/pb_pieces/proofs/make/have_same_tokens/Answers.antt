use Rattle.pb_pieces.proofs.Common.{◌∙◌, [], ap, List, map, subst, sym, token_in, Compared, GivenToken}
use Rattle.pb_pieces.proofs.make.have_same_tokens.Goals as goal

pub returns : goal.returns
returns c =
    let m = c.new-matcher.result in let same = c.new-matcher.ensures.given_are in
    let begun : Compared m.given.items [] m = subst (λ (gs : List GivenToken). Compared gs [] m) (sym same) c.new-matcher.ensures in
    c.difference.ensures m.given.items _ (c.in_ok-put_tokens.ensures m [] begun) c.in-None.is ∙ ap (λ (gs : List GivenToken). map token_in gs) same
