-- The canonical text of a value is a text of that value. Offered to other crates.
use Rattle.pb_sums.proofs.Common.{ℕ, ℤ, ◌⋅◌, ◌++◌, ◌<◌, ◌^◌, ◌∙◌, ◌∷◌, ◌≡◌, ◌≤◌, [], ap, append_assoc, arith, decimal, false, inl, inr, List, refl, suc, true}
use Rattle.pb_sums.proofs.Common.{nat_abs, negsuc, pos, decimal-digits, bytes-append, bytes-digits, bytes-plain, unmarked, Number, bytes, digits_of, Letter}
use Rattle.pb_sums.proofs.Common.{AreTerms, degree_text, further_text, head_bytes, head_text, IsLinear, IsTerm, linear_bytes, linear_text, literal_text}
use Rattle.pb_sums.proofs.Common.{relation_text, space, sum_bytes, sum_text, term_bytes, term_text, weight_bytes, weight_text, Linear, Relation, Term, Spaces}
use Rattle.pb_sums.proofs.Common.{Head, Spaces0, Spaces1, SpellsFurther, SpellsLinear, SpellsRelation, SpellsSum, SpellsTerm}
use Rattle.{pb_sums.specs.contract.Canonical.further_bytes, std.specs.Fmt.signed_decimal}

module _ (limit : ℕ) (small : limit < 10 ^ 64) where
  weight : (z : ℤ) → nat_abs z ≤ limit → Number limit z (weight_text z)
  weight (pos n) h = (false, n, h, refl, (unmarked 43 ∷ [], digits_of (decimal n), refl, inr refl, decimal-digits n (omega arith)))
  weight (negsuc n) h = (true, suc n, h, refl, (unmarked 45 ∷ [], digits_of (decimal (suc n)), refl, refl, decimal-digits (suc n) (omega arith)))

  pub degree : (z : ℤ) → nat_abs z ≤ limit → Number limit z (degree_text z)
  degree (pos n) h = (false, n, h, refl, ([], digits_of (decimal n), refl, inl refl, decimal-digits n (omega arith)))
  degree (negsuc n) h = (true, suc n, h, refl, (unmarked 45 ∷ [], digits_of (decimal (suc n)), refl, refl, decimal-digits (suc n) (omega arith)))

  module _ (spaces : Spaces) where
    space1 : Spaces1 spaces limit space
    space1 = (32, [], refl, tt, refl)

    space0 : Spaces0 spaces limit space
    space0 = (32 ∷ [], (refl, tt), refl)

    term-spelled : (x : Term) → IsTerm limit x → SpellsTerm spaces limit x (term_text x)
    term-spelled x h =
        (weight_text x.coefficient ++ space, literal_text x.literal, refl, (weight_text x.coefficient, space, refl, weight x.coefficient h.0, space1), (h.1, refl))

    further-spelled : (xs : List Term) → AreTerms limit xs → SpellsFurther spaces limit xs (further_text xs)
    further-spelled [] h = refl
    further-spelled (x ∷ xs) h =
        (space ++ term_text x, further_text xs, refl, (space, term_text x, refl, space1, term-spelled x h.0), further-spelled xs h.1)

    pub sum-spelled : (xs : List Term) → AreTerms limit xs → SpellsSum spaces limit xs (sum_text xs)
    sum-spelled xs h = grind (arith, term-spelled, further-spelled)

    head-spelled : (xs : List Term) → AreTerms limit xs → Head spaces limit xs (head_text xs)
    head-spelled [] h = refl
    head-spelled (x ∷ xs) h = (sum_text (x ∷ xs), space, refl, sum-spelled (x ∷ xs) h, space0)

    relation-spelled : (r : Relation) → SpellsRelation spaces limit r (relation_text r)
    relation-spelled r = grind arith

    pub linear-spelled : (c : Linear) → IsLinear limit c → SpellsLinear spaces limit c (linear_text c)
    linear-spelled c h =
        let H : List Letter = head_text c.terms in
        let O : List Letter = relation_text c.relation in
        let D : List Letter = degree_text c.degree in
        let S : List Letter = H ++ O ++ space ++ D in
        let related : (Head spaces limit c.terms ⋅ SpellsRelation spaces limit c.relation ⋅ Spaces0 spaces limit) (H ++ O ++ space) =
        (H ++ O, space, refl, (H, O, refl, head-spelled c.terms h.0, relation-spelled c.relation), space0) in
        (S ++ space, unmarked 59 ∷ [], refl, (S, space, refl, (H ++ O ++ space, D, refl, related, degree c.degree h.1), space0), refl)

-- The letters of canonical text are its bytes.
pub bytes-degree : (z : ℤ) → bytes (degree_text z) ≡ signed_decimal z
bytes-degree z = grind (arith, bytes-digits)

bytes-weight : (z : ℤ) → bytes (weight_text z) ≡ weight_bytes z
bytes-weight z = grind (arith, bytes-digits)

bytes-term : (x : Term) → bytes (term_text x) ≡ term_bytes x
bytes-term x = grind (arith, append_assoc, bytes-append, bytes-weight, bytes-plain, x.literal.negated, x.literal.name)

bytes-further : (xs : List Term) → bytes (further_text xs) ≡ further_bytes xs
unfolding further_bytes
bytes-further [] = refl
bytes-further (x ∷ xs) =
    ap (λ y. 32 ∷ y)
    (bytes-append (term_text x) (further_text xs)
    ∙ (ap (λ y. y ++ bytes (further_text xs)) (bytes-term x) ∙ ap (λ y. term_bytes x ++ y) (bytes-further xs)))

pub bytes-sum : (xs : List Term) → bytes (sum_text xs) ≡ sum_bytes xs
bytes-sum xs = grind (arith, bytes-append, bytes-term, bytes-further)

bytes-head : (xs : List Term) → bytes (head_text xs) ≡ head_bytes xs
bytes-head [] = refl
bytes-head (x ∷ xs) = bytes-append (sum_text (x ∷ xs)) space ∙ ap (λ y. y ++ (32 ∷ [])) (bytes-sum (x ∷ xs))

pub bytes-linear : (c : Linear) → bytes (linear_text c) ≡ linear_bytes c
bytes-linear c = simp (append_assoc, bytes-append, bytes-head, bytes-plain, bytes-degree)
