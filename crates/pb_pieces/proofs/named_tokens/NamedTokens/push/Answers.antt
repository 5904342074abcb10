use Rattle.pb_pieces.proofs.Common.{ℤ, ◌++◌, ◌∷◌, ◌≡◌, [], None, of_z, refl, rules, subst, to_z, HoldTokens, token}
use Rattle.pb_pieces.proofs.Numbers.{numbers, one_bare}
use mir.Syntax.{w128}
use Rattle.pb_pieces.proofs.named_tokens.NamedTokens.push.Goals as goal

pub returns : goal.returns
returns c seen tokens h =
    let old = c.args.self.now.names in
    let kept : to_z w128 (of_z w128 c.args.number) ≡ c.args.number = search rules in
    one_bare seen tokens (token c.args.kind c.args.number None) c.args.self.now (record { names = old; tokens = c.push.new.self }) refl h refl
    (subst (λ (z : ℤ). HoldTokens (tokens ++ token c.args.kind z None ∷ []) (numbers old tokens ++ 0 ∷ []) c.push.new.self) kept
    (c.in_ok-push.ensures tokens (numbers old tokens) None h.arrays))
