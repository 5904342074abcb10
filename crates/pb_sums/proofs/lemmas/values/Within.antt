-- The value of a text under a limit is within that limit. Offered to other crates.
use Rattle.pb_sums.proofs.Common.{arith, ℕ, ℤ, ◌∷◌, ◌≤◌, [], Bool, List, subst, sym, nat_abs, Number, signed, Letter, AreTerms, IsLinear, IsTerm, Linear, Term}
use Rattle.pb_sums.proofs.Common.{Spaces, Head, SpellsFurther, SpellsLinear, SpellsSum, SpellsTerm}

signed-within : (limit : ℕ) (negative : Bool) (n : ℕ) → n ≤ limit → nat_abs (signed negative n) ≤ limit
signed-within limit negative n h = grind arith

pub number-within : (limit : ℕ) (z : ℤ) (t : List Letter) → Number limit z t → nat_abs z ≤ limit
number-within limit z t (negative, n, h, e, k) = subst (λ (y : ℤ). nat_abs y ≤ limit) (sym e) (signed-within limit negative n h)

module _ (spaces : Spaces) (limit : ℕ) where
  term-within : (x : Term) (t : List Letter) → SpellsTerm spaces limit x t → IsTerm limit x
  term-within x t (ab, c, e, (a, b, f, h, s), l) = (number-within limit x.coefficient a h, l.0)

  further-within : (xs : List Term) (t : List Letter) → SpellsFurther spaces limit xs t → AreTerms limit xs
  further-within [] t h = tt
  further-within (x ∷ xs) t (ab, c, e, (a, b, f, s, h), k) = (term-within x b h, further-within xs c k)

  pub sum-within : (xs : List Term) (t : List Letter) → SpellsSum spaces limit xs t → AreTerms limit xs
  sum-within xs t h = grind (arith, term-within, further-within)

  head-within : (xs : List Term) (t : List Letter) → Head spaces limit xs t → AreTerms limit xs
  head-within [] t h = tt
  head-within (x ∷ xs) t (a, b, e, h, k) = sum-within (x ∷ xs) a h

  pub linear-within : (c : Linear) (t : List Letter) → SpellsLinear spaces limit c t → IsLinear limit c
  linear-within c t (p5, l5, e5, (p4, l4, e4, (p3, l3, e3, (p2, l2, e2, (p1, l1, e1, h, o), s), d), w), b) = (head-within c.terms p1 h, number-within limit c.degree l3 d)
