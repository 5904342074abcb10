use Rattle.pb_pieces.proofs.Common.{ℤ, ◌++◌, ◌∷◌, ◌≡◌, [], of_z, refl, rules, Some, subst, to_z, HoldTokens, token}
use Rattle.pb_pieces.proofs.Numbers.{numbers, one_named}
use mir.Syntax.{w128}
use Rattle.pb_pieces.proofs.named_tokens.NamedTokens.push_named.Goals as goal

pub returns : goal.returns
returns c seen tokens h =
    let name = c.args.name.now in let n = c.in_ok-index.index in let old = c.args.self.now.names in
    let kept : to_z w128 (of_z w128 c.args.number) ≡ c.args.number = search rules in
    one_named seen tokens (token c.args.kind c.args.number (Some name)) name n c.args.self.now (record { names = c.number.new.self; tokens = c.push.new.self }) refl h
    c.in_ok-index.ensures.names c.in_ok-index.ensures.number
    (subst (λ (z : ℤ). HoldTokens (tokens ++ token c.args.kind z (Some name) ∷ []) (numbers old tokens ++ n ∷ []) c.push.new.self) kept
    (c.in_ok-push.ensures tokens (numbers old tokens) (Some name) h.arrays))
