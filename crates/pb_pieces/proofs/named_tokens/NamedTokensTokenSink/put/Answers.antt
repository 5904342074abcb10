use Rattle.pb_pieces.proofs.Common.{ℤ, ◌++◌, ◌∷◌, ◌≡◌, [], append_assoc, List, None, of_z, rules, subst, to_z, AreTokens, Token, token}
use mir.Syntax.{w128}
use Rattle.pb_pieces.proofs.named_tokens.NamedTokensTokenSink.put.Goals as goal

pub returns : goal.returns
returns c start before h seen first a =
    let kept : to_z w128 (of_z w128 c.args.number) ≡ c.args.number = search rules in
    subst (λ (ts : List Token). AreTokens seen ts c.push.new.self) (append_assoc first before (token c.args.kind c.args.number None ∷ []))
    (subst (λ (z : ℤ). AreTokens seen ((first ++ before) ++ token c.args.kind z None ∷ []) c.push.new.self) kept
    (c.in_ok-push.ensures seen (first ++ before) (h seen first a)))
