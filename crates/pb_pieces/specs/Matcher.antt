-- How tokens compare with those that a caller gives.
use Rattle.pb_pieces.specs.{GivenTokens.token_in, Tokens.Token, declared.given_token.GivenToken.GivenToken, declared.matcher.Matcher.Matcher}
use Rattle.std.specs.Prelude.{◌≡◌, ◌≤◌, ℕ, true, List, length, map, take}

-- the first given tokens are these
pub record AreFirst (tokens : List Token) (count : ℕ) (given : List GivenToken) : Type 0 where
  pub within : count ≤ length given
  pub same : tokens ≡ map token_in (take count given)

-- These tokens were compared. If no difference was found, they are the first ones that are given.
pub record Compared (given : List GivenToken) (tokens : List Token) (m : Matcher) : Type 0 where
  pub given_are : m.given.items ≡ given
  pub first : m.same ≡ true → AreFirst tokens m.count given
