use Rattle.pb_pieces.proofs.{Common.◌++◌, Common.◌∷◌, Common.◌≡◌, Common.[], Common.rules, Common.arrays_of, Compared.given_next}
use Rattle.pb_pieces.proofs.token_arrays.tokens_given.Goals as goal

pub tokens-preserved : goal.tokens-preserved
tokens-preserved c =
    let g = c.in_ok-token_at.field-0 in let before = c.tokens.tokens.items in
    let grown : c.push.new.self.items ≡ before ++ g ∷ [] = search rules in
    given_next (arrays_of c.args.arrays) before c.push.new.self.items g c.tokens.index grown c.tokens.invariant.0 c.tokens.invariant.1 c.in_ok-token_at.ensures
