-- A form is determined by its coefficients and its degree. Offered to other crates.
use Rattle.pb_normal.proofs.Common.{nat_tests, ℕ, ◌&&◌, ◌+◌, ◌<◌, ◌∷◌, ◌≡◌, [], ap, arith, Bool, eqb, inl, inr, List, not, refl, cases_order, ints, Entry}
use Rattle.pb_normal.proofs.Common.{coefficient, counted, Form, IsOrdered, IsRising, negated_of, plain_of, total, IsSum}

-- a variable below all others has no coefficient
pub none_below : (e : Bool → Bool) (x n : ℕ) (ts : List Entry) → IsRising n ts → x < n → total (λ v m. eqb v x && e m) ts ≡ 0
none_below e x n [] h lt = refl
none_below e x n (t ∷ ts) h lt = grind (arith, nat_tests, none_below e x (t.variable + 1) ts h.2)

pub same_entry : (v v' : ℕ) (b b' : Bool) (c c' : ℕ) → v ≡ v' → b ≡ b' → c ≡ c' → (let r : Entry = record { variable = v; negated = b; coefficient = c } in r) ≡ record { variable = v'; negated = b'; coefficient = c' }
same_entry v v' b b' c c' e f g = rw (e, f, g) refl

-- both lists have the same coefficients
abbrev pub Balanced : List Entry → List Entry → Type 0
Balanced xs ys = (z : ℕ) → total (plain_of z) xs + total (negated_of z) ys ≡ total (negated_of z) xs + total (plain_of z) ys

no_first : (n : ℕ) (x : Entry) (xs ys : List Entry) → IsRising n (x ∷ xs) → IsRising (x.variable + 1) ys → Balanced (x ∷ xs) ys → ⊥
no_first n x xs ys h k e = grind (arith, nat_tests, h.1, e x.variable, none_below not x.variable (x.variable + 1) xs h.2, none_below (λ b. b) x.variable (x.variable + 1) xs h.2, none_below not x.variable (x.variable + 1) ys k, none_below (λ b. b) x.variable (x.variable + 1) ys k)

pub IsRising-same : (n : ℕ) (xs ys : List Entry) → IsRising n xs → IsRising n ys → Balanced xs ys → xs ≡ ys
IsRising-same n [] [] h k e = refl
IsRising-same n [] (y ∷ ys) h k e = absurd (no_first n y ys [] k tt (λ z. omega (arith, e z)))
IsRising-same n (x ∷ xs) [] h k e = absurd (no_first n x xs [] h tt e)
IsRising-same n (x ∷ xs) (y ∷ ys) h k e =
    elim (cases_order x.variable y.variable) [
      | inl same ↦
          let heads : (x.negated ≡ y.negated) × (x.coefficient ≡ y.coefficient) = grind (arith, nat_tests, same, h.1, k.1, e x.variable, none_below not x.variable (x.variable + 1) xs h.2, none_below (λ b. b) x.variable (x.variable + 1) xs h.2, none_below not x.variable (y.variable + 1) ys k.2, none_below (λ b. b) x.variable (y.variable + 1) ys k.2) in
          let first = same_entry _ _ _ _ _ _ same heads.0 heads.1 in
          cc (first, IsRising-same (x.variable + 1) xs ys h.2 (rw same k.2) (λ z. omega (arith, e z, ap (counted (plain_of z)) first, ap (counted (negated_of z)) first)))
      | inr (inl lt) ↦ absurd (no_first n x xs (y ∷ ys) h (omega arith, k.1, k.2) e)
      | inr (inr gt) ↦ absurd (no_first n y ys (x ∷ xs) k (omega arith, h.1, h.2) (λ z. omega (arith, e z)))
    ]

pub same_form : (ts us : List Entry) (d e : ℕ) → ts ≡ us → d ≡ e → (let f : Form = record { terms = ts; degree = d } in f) ≡ record { terms = us; degree = e }
same_form ts us d e p q = rw (p, q) refl

-- two forms with the same coefficients and the same degree are equal
pub form-unique : (r s : Form) → IsOrdered r → IsOrdered s → ((x : ℕ) → coefficient r x ≡ coefficient s x) → r.degree ≡ s.degree → r ≡ s
form-unique r s p q e d = same_form r.terms s.terms r.degree s.degree (IsRising-same 0 r.terms s.terms p q (λ z. omega (arith, ints, e z))) d

-- two sums of the same forms are equal
pub IsSum-unique : (f g r s : Form) → IsSum f g r → IsSum f g s → r ≡ s
IsSum-unique f g r s p q =
    grind (arith, IsRising-same 0 r.terms s.terms p.ordered q.ordered (λ z. omega (arith, ints, p.coefficients z, q.coefficients z)), p.degree, q.degree)
