-- A text of a value remains one if numbers may be larger. Offered to other crates.
use Rattle.pb_sums.proofs.Common.{arith, ℕ, ◌∷◌, ◌≤◌, [], List, number-within, each_side, ◌⋅◌, Byte, Language, Number, Letter, Linear, SumEvent, Term, Part}
use Rattle.pb_sums.proofs.Common.{Spaces, Head, Spaces0, Spaces1, Spells, SpellsFurther, SpellsLinear, SpellsLiteral, SpellsRelation, SpellsSum, SpellsTerm}

module _ (spaces : Spaces) (small large : ℕ) (h : small ≤ large) where
  abbrev Grows : (ℕ → Language) → Type 0
  Grows P = (t : List Letter) → P small t → P large t

  -- a part that has numbers, followed by one that may have some
  grows_then : (P Q : ℕ → Language) → Grows P → Grows Q → Grows (λ n. P n ⋅ Q n)
  grows_then P Q f g t k = each_side (P small) (P large) (Q small) (Q large) f g t k

  same : (P : Language) → Grows (λ n. P)
  same P t k = k

  S0 : Grows (λ n. Spaces0 spaces n)
  S0 t k = k

  S1 : Grows (λ n. Spaces1 spaces n)
  S1 t k = k

  term-grows : (x : Term) → Grows (λ n. SpellsTerm spaces n x)
  term-grows x =
      grows_then (λ n. Number n x.coefficient ⋅ Spaces1 spaces n) (λ n. SpellsLiteral x.literal)
      (grows_then (λ n. Number n x.coefficient) (λ n. Spaces1 spaces n) (number-within small large x.coefficient h) S1) (same (SpellsLiteral x.literal))

  further-grows : (xs : List Term) → Grows (λ n. SpellsFurther spaces n xs)
  further-grows [] t k = k
  further-grows (x ∷ xs) t k =
      grows_then (λ n. Spaces1 spaces n ⋅ SpellsTerm spaces n x) (λ n. SpellsFurther spaces n xs)
      (grows_then (λ n. Spaces1 spaces n) (λ n. SpellsTerm spaces n x) S1 (term-grows x)) (further-grows xs) t k

  sum-grows : (xs : List Term) → Grows (λ n. SpellsSum spaces n xs)
  sum-grows xs t k = grind (arith, grows_then, term-grows, further-grows)

  head-grows : (xs : List Term) → Grows (λ n. Head spaces n xs)
  head-grows [] t k = k
  head-grows (x ∷ xs) t k = grows_then (λ n. SpellsSum spaces n (x ∷ xs)) (λ n. Spaces0 spaces n) (sum-grows (x ∷ xs)) S0 t k

  linear-grows : (c : Linear) → Grows (λ n. SpellsLinear spaces n c)
  linear-grows c =
      let H : ℕ → Language = λ n. Head spaces n c.terms in
      let O : ℕ → Language = λ n. SpellsRelation spaces n c.relation in
      let S : ℕ → Language = λ n. Spaces0 spaces n in
      let N : ℕ → Language = λ n. Number n c.degree in
      grows_then (λ n. H n ⋅ O n ⋅ S n ⋅ N n ⋅ S n) (λ n. Byte 59)
      (grows_then (λ n. H n ⋅ O n ⋅ S n ⋅ N n) S
      (grows_then (λ n. H n ⋅ O n ⋅ S n) N
      (grows_then (λ n. H n ⋅ O n) S
      (grows_then H O (head-grows c.terms) (same (O small))) S0)
      (number-within small large c.degree h)) S0) (same (Byte 59))

  pub spells_larger : (part : Part) (t : List Letter) (e : SumEvent) → Spells spaces small part e t → Spells spaces large part e t
  spells_larger part t e k = grind (arith, grows_then, sum-grows, S0, same, linear-grows)
