-- Multiplication and saturation. Offered to other crates.
use Rattle.pb_normal.proofs.Common.{ℕ, ◌*◌, ◌+◌, ◌/◌, ◌<◌, ◌^◌, ◌∷◌, ◌≡◌, ◌≤◌, [], arith, Bool, cond, get_or, inl, inr, List, ltb, map, min, refl}
use Rattle.pb_normal.proofs.Common.{mul-le-mul_left, nat_tests, div-add-mod', le-div, All, filter, Entry, each, Form, Holds, IsNormal, IsRising, IsWithin, size}
use Rattle.pb_normal.proofs.Common.{total, true_at, multiplied, Passes, saturated, with_coefficient, ◌∙◌, Err, IfOk, Ok, Result, sym, div_ceil, divided}
use Rattle.pb_normal.proofs.lemmas.{rules.Unique.same_entry, rules.Unique.same_form, terms.Merging.total-read, terms.Totals.IsRising-from}
use Rattle.pb_normal.proofs.lemmas.terms.Maps.{IsRising-map, total-filter-le, total-map-le, counted-le, le-div_ceil, div_ceil-le}

-- comparing a quotient and a product
pub past_quotient : (m n k : ℕ) → 0 < k → n / k < m → n < m * k
past_quotient m n k h lt = grind (arith, le-div)

pub within_quotient : (m n k : ℕ) → m ≤ n / k → m * k ≤ n
within_quotient m n k le = omega (arith, mul-le-mul_left k le, div-add-mod' n k)

counted-times : (b : Bool) (n k : ℕ) → cond b (n * k) 0 ≡ cond b n 0 * k
counted-times b n k = grind arith

pub total-multiplied : (p : ℕ → Bool → Bool) (k : ℕ) (ts : List Entry) → total p (map (λ t. with_coefficient t (t.coefficient * k)) ts) ≡ total p ts * k
total-multiplied p k [] = omega arith
total-multiplied p k (t ∷ ts) = omega (arith, total-multiplied p k ts, counted-times (p t.variable t.negated) t.coefficient k)

pub IsRising-multiplied : (k n : ℕ) (ts : List Entry) → 0 < k → IsRising n ts → IsRising n (map (λ t. with_coefficient t (t.coefficient * k)) ts)
IsRising-multiplied k n ts h r = IsRising-map _ n ts (λ t. refl) (λ t p. grind arith) r

-- each product is at most m if the product of the total is
pub All-multiplied : (k m : ℕ) (ts : List Entry) → total each ts * k ≤ m → All (λ t. t.coefficient * k < m + 1) ts
All-multiplied k m ts le i d lt = omega (arith, mul-le-mul_left k (total-read ts i d (get_or ts i d) lt refl))

pub Holds-multiplied : (a : ℕ → Bool) (k : ℕ) (f : Form) → Holds a f → Holds a (multiplied k f)
Holds-multiplied a k f h = omega (arith, total-multiplied (true_at a) k f.terms, mul-le-mul_left k h)

pub IsRising-saturated : (d n : ℕ) (ts : List Entry) → IsRising n ts → IsRising n (filter (λ t. ltb 0 t.coefficient) (map (λ t. with_coefficient t (min t.coefficient d)) ts))
IsRising-saturated d n [] r = tt
IsRising-saturated d n (t ∷ ts) r = grind (arith, nat_tests, IsRising-from n (t.variable + 1), IsRising-saturated d (t.variable + 1) ts r.2)

pub total-saturated-le : (p : ℕ → Bool → Bool) (d : ℕ) (ts : List Entry) → total p (filter (λ t. ltb 0 t.coefficient) (map (λ t. with_coefficient t (min t.coefficient d)) ts)) ≤ total p ts
total-saturated-le p d ts = grind (arith, total-filter-le, total-map-le, counted-le)

-- dropping terms whose coefficient is 0 loses nothing
total-positive : (p : ℕ → Bool → Bool) (ts : List Entry) → total p ts ≤ total p (filter (λ t. ltb 0 t.coefficient) ts)
total-positive p [] = omega arith
total-positive p (t ∷ ts) = grind (arith, nat_tests, total-positive p ts)

total-capped : (p : ℕ → Bool → Bool) (d : ℕ) (ts : List Entry) → min d (total p ts) ≤ total p (map (λ t. with_coefficient t (min t.coefficient d)) ts)
total-capped p d [] = omega arith
total-capped p d (t ∷ ts) = grind (arith, total-capped p d ts)

-- at degree 0 no term is left, and at any other degree each
pub saturated_nothing : (ts : List Entry) → filter (λ t. ltb 0 t.coefficient) (map (λ t. with_coefficient t (min t.coefficient 0)) ts) ≡ []
saturated_nothing [] = refl
saturated_nothing (t ∷ ts) = grind (arith, nat_tests, saturated_nothing ts)

pub saturated_each : (d n : ℕ) (ts : List Entry) → 0 < d → IsRising n ts → filter (λ t. ltb 0 t.coefficient) (map (λ t. with_coefficient t (min t.coefficient d)) ts) ≡ map (λ t. with_coefficient t (min t.coefficient d)) ts
saturated_each d n [] h r = refl
saturated_each d n (t ∷ ts) h r = grind (arith, nat_tests, saturated_each d (t.variable + 1) ts h r.2)

pub Holds-saturated : (a : ℕ → Bool) (f : Form) → Holds a f → Holds a (saturated f)
Holds-saturated a f h =
    omega (arith, total-capped (true_at a) f.degree f.terms, total-positive (true_at a) (map (λ t. with_coefficient t (min t.coefficient f.degree)) f.terms))

pub IsNormal-saturated : (f : Form) → IsNormal f → IsNormal (saturated f)
IsNormal-saturated f n = grind (arith, n.ordered, n.size_in, n.degree_in, IsRising-saturated f.degree 0 f.terms, total-saturated-le each f.degree f.terms)

-- a product exceeds the limit if and only if the form exceeds the quotient
pub Passes-size : (limit k : ℕ) (f : Form) → 0 < k → limit / k < size f → Passes limit (multiplied k f)
Passes-size limit k f h lt = inl (omega (arith, total-multiplied each k f.terms, past_quotient (size f) limit k h lt))

pub Passes-degree : (limit k : ℕ) (f : Form) → 0 < k → limit / k < f.degree → Passes limit (multiplied k f)
Passes-degree limit k f h lt = inr (past_quotient f.degree limit k h lt)

pub IsWithin-multiplied : (limit k : ℕ) (f : Form) → size f ≤ limit / k → f.degree ≤ limit / k → IsWithin limit (multiplied k f)
IsWithin-multiplied limit k f s d = grind (arith, total-multiplied, f.terms, within_quotient, f.degree)

pub Passes-not : (limit : ℕ) (f : Form) → IsWithin limit f → Passes limit f → ⊥
Passes-not limit f w p = elim p [ inl h ↦ omega (arith, w.size_in) | inr h ↦ omega (arith, w.degree_in) ]

pub IsNormal-multiplied : (limit k : ℕ) (f : Form) → 0 < k → limit < 2 ^ 127 → IsNormal f → IsWithin limit (multiplied k f) → IsNormal (multiplied k f)
IsNormal-multiplied limit k f h room n w = grind (arith, w.size_in, w.degree_in, n.ordered, IsRising-multiplied)

map-same : (g : Entry → Entry) (ts : List Entry) → ((t : Entry) → g t ≡ t) → map g ts ≡ ts
map-same g [] h = refl
map-same g (t ∷ ts) h = cc (h t, map-same g ts h)

pub multiplied-one : (f : Form) → multiplied 1 f ≡ f
multiplied-one f =
    same_form _ f.terms _ f.degree (map-same (λ t. with_coefficient t (t.coefficient * 1)) f.terms (λ t. same_entry _ _ _ _ _ _ refl refl (omega arith))) (omega arith)

div_ceil-one : (n : ℕ) → div_ceil n 1 ≡ n
div_ceil-one n = omega (arith, le-div_ceil n 1 (omega arith), div_ceil-le n 1 (omega arith))

pub divided-one : (f : Form) → divided 1 f ≡ f
divided-one f =
    same_form _ f.terms _ f.degree (map-same (λ t. with_coefficient t (div_ceil t.coefficient 1)) f.terms (λ t. same_entry _ _ _ _ _ _ refl refl (div_ceil-one t.coefficient))) (div_ceil-one f.degree)

-- a result that is the form is the form times 1
pub IfOk-multiplied-one : {E : Type 0} (r : Result Form E) (k : ℕ) (f : Form) → k ≡ 1 → IfOk r (λ x. x ≡ f) → IfOk r (λ x. x ≡ multiplied k f)
IfOk-multiplied-one (Ok x) k f is h = h ∙ sym (rw is (multiplied-one f))
IfOk-multiplied-one (Err e) k f is h = h
