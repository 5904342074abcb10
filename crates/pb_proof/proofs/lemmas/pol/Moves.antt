-- The last of some postfix words, and how much is stored for them.
use Rattle.pb_proof.proofs.Common.{◌||◌, eqb-true, ℕ, ◌+◌, ◌-◌, ◌^◌, ◌<◌, ◌≡◌, ◌∙◌, ◌∷◌, ◌++◌, [], ap, arith, get_or, length, List, min, refl, take, take_more, Bool, cond, Some, None, true, nat_eq, suc, zero, ◌≤◌, le-max_left, le-max_right, PolWord, units, with_last, word_units}
use Rattle.pb_lines.specs.declared.Sign.{Sign}
use Rattle.pb_proof.specs.engine.line.Pol.{most}
use Rattle.pb_proof.specs.engine.line.PolLaws.{units_append}
use Rattle.std.specs.Prelude.{IsSome}

-- one of two bytes
pub one_of : (P : ℕ → Type 0) (b x y : ℕ) → (nat_eq b x || nat_eq b y) ≡ true → P x → P y → P b
one_of P b x y e f g = grind (arith, eqb-true)

pub with_last_append : (f : PolWord → PolWord) (ws : List PolWord) (w : PolWord) → with_last f (ws ++ w ∷ []) ≡ ws ++ f w ∷ []
with_last_append f [] w = refl
with_last_append f (x ∷ []) w = refl
with_last_append f (x ∷ y ∷ ws) w = ap (λ t. x ∷ t) (with_last_append f (y ∷ ws) w)

-- a count of units that stays at its maximum
pub count_more : (ws : List PolWord) (i : ℕ) (d : PolWord) (c m r : ℕ) → i < length ws → c ≡ min (units (take i ws)) (2 ^ 64 - 1) → m ≡ min (word_units (get_or ws i d)) (2 ^ 64 - 1)
    → r ≡ min (c + m) (2 ^ 64 - 1) → r ≡ min (units (take (i + 1) ws)) (2 ^ 64 - 1)
count_more ws i d c m r h e f g = omega (arith, ap units (take_more ws i d h) ∙ units_append (take i ws) (get_or ws i d), e, f, g)

-- a number that may come is small
pub number_fits : (limit top d : ℕ) (b : Bool) (sign : Sign) (n m : ℕ) → limit < 2 ^ 127 → top < 2 ^ 63 → cond b (most limit top d sign) None ≡ Some m → n ≤ m
    → (n < 2 ^ 127) × (sign ≡ Sign.Minus → n ≤ top)
number_fits limit top zero b sign n m l t e f = grind (arith, sign)
number_fits limit top (suc d) b sign n m l t e f = grind (arith, sign, le-max_left, le-max_right)

-- the value of words that may end
pub whole_value : (d : ℕ) (ws es : List PolWord) → IsSome (cond (nat_eq d 1) (Some ws) None) → es ≡ ws → Some es ≡ cond (nat_eq d 1) (Some ws) None
whole_value d ws es h e = grind arith
