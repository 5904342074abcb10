-- What a change of every term and a filter preserve. Offered to other crates.
use Rattle.pb_normal.proofs.Common.{ℕ, ◌%◌, ◌*◌, ◌+◌, ◌/◌, ◌<◌, ◌∷◌, ◌≡◌, ◌≤◌, ◌⊎◌, [], arith, Bool, cond, eqb, inl, inr, List, map, min, not, refl}
use Rattle.pb_normal.proofs.Common.{mul-le-mul_left, div-add-mod', mod_below, div_ceil, filter, Entry, counted, each, Form, Holds, IsNormal, IsRising, total}
use Rattle.pb_normal.proofs.Common.{true_at, divided, negation_of, of_variable, opposite, weakened, with_coefficient}
use Rattle.pb_normal.proofs.lemmas.terms.Totals.{IsRising-from}

pub IsRising-map : (g : Entry → Entry) (n : ℕ) (ts : List Entry) → ((t : Entry) → (g t).variable ≡ t.variable) → ((t : Entry) → 0 < t.coefficient → 0 < (g t).coefficient) → IsRising n ts → IsRising n (map g ts)
IsRising-map g n [] same kept h = tt
IsRising-map g n (t ∷ ts) same kept h = (omega (arith, same t), kept t h.1, rw (same t) (IsRising-map g (t.variable + 1) ts same kept h.2))

-- each term counted for at least as much before
pub total-map-le : (g : Entry → Entry) (p : ℕ → Bool → Bool) (ts : List Entry) → ((t : Entry) → counted p (g t) ≤ counted p t) → total p (map g ts) ≤ total p ts
total-map-le g p [] h = omega arith
total-map-le g p (t ∷ ts) h = omega (arith, h t, total-map-le g p ts h)

pub total-map-same : (g : Entry → Entry) (p q : ℕ → Bool → Bool) (ts : List Entry) → ((t : Entry) → counted p (g t) ≡ counted q t) → total p (map g ts) ≡ total q ts
total-map-same g p q [] h = refl
total-map-same g p q (t ∷ ts) h = omega (arith, h t, total-map-same g p q ts h)

pub IsRising-filter : (p : Entry → Bool) (n : ℕ) (ts : List Entry) → IsRising n ts → IsRising n (filter p ts)
IsRising-filter p n [] h = tt
IsRising-filter p n (t ∷ ts) h = grind (arith, IsRising-from n (t.variable + 1), IsRising-filter p (t.variable + 1) ts h.2)

pub total-filter-le : (q : Entry → Bool) (p : ℕ → Bool → Bool) (ts : List Entry) → total p (filter q ts) ≤ total p ts
total-filter-le q p [] = omega arith
total-filter-le q p (t ∷ ts) = grind (arith, total-filter-le q p ts)

div_ceil-pos : (n k : ℕ) → 0 < n → 0 < div_ceil n k
div_ceil-pos n k p = grind (arith, div-add-mod' n k)

below_ceil : (q r k n m : ℕ) → q * k + r ≡ n → r < k → (m ≡ 0) × (r ≡ 0) ⊎ (m ≡ 1) × (0 < r) → n ≤ k * (q + m)
below_ceil q r k n m e lt h = grind arith

least_ceil : (q r k n m b : ℕ) → q * k + r ≡ n → r < k → (m ≡ 0) × (r ≡ 0) ⊎ (m ≡ 1) × (0 < r) → n ≤ k * b → b < q + m → ⊥
least_ceil q r k n m b e lt (inl h) le lt' = omega (arith, mul-le-mul_left k (let up : b + 1 ≤ q = omega arith in up))
least_ceil q r k n m b e lt (inr h) le lt' = omega (arith, mul-le-mul_left k (let up : b ≤ q = omega arith in up))

one_or_none : (r : ℕ) → (min 1 r ≡ 0) × (r ≡ 0) ⊎ (min 1 r ≡ 1) × (0 < r)
one_or_none r = grind arith

-- n is at most k times its quotient rounded up, which is the least such number
pub le-div_ceil : (n k : ℕ) → 0 < k → n ≤ k * div_ceil n k
le-div_ceil n k h = below_ceil (n / k) (n % k) k n (min 1 (n % k)) (div-add-mod' n k) (mod_below n k h) (one_or_none (n % k))

pub div_ceil-least : (n k m : ℕ) → 0 < k → n ≤ k * m → div_ceil n k ≤ m
div_ceil-least n k m h le = grind (arith, least_ceil, div-add-mod', mod_below, one_or_none)

pub div_ceil-le : (n k : ℕ) → 0 < k → div_ceil n k ≤ n
div_ceil-le n k h = div_ceil-least n k n h (omega (arith, mul-le-mul_left n h))

pub counted-le : (b : Bool) (m n : ℕ) → m ≤ n → cond b m 0 ≤ cond b n 0
counted-le b m n h = grind arith

pub IsRising-divided : (k n : ℕ) (ts : List Entry) → 0 < k → IsRising n ts → IsRising n (map (λ t. with_coefficient t (div_ceil t.coefficient k)) ts)
IsRising-divided k n ts h r = IsRising-map _ n ts (λ t. refl) (λ t p. div_ceil-pos t.coefficient k p) r

pub total-divided-le : (p : ℕ → Bool → Bool) (k : ℕ) (ts : List Entry) → 0 < k → total p (map (λ t. with_coefficient t (div_ceil t.coefficient k)) ts) ≤ total p ts
total-divided-le p k ts h = total-map-le _ p ts (λ t. counted-le (p t.variable t.negated) _ _ (div_ceil-le t.coefficient k h))

pub IsRising-opposite : (n : ℕ) (ts : List Entry) → IsRising n ts → IsRising n (map opposite ts)
IsRising-opposite n ts r = IsRising-map _ n ts (λ t. refl) (λ t p. p) r

pub total-each-opposite : (ts : List Entry) → total each (map opposite ts) ≡ total each ts
total-each-opposite ts = total-map-same _ each each ts (λ t. refl)

pub total-le-each : (p : ℕ → Bool → Bool) (ts : List Entry) → total p ts ≤ total each ts
total-le-each p [] = omega arith
total-le-each p (t ∷ ts) = grind (arith, total-le-each p ts)

total-divided : (p : ℕ → Bool → Bool) (k : ℕ) (ts : List Entry) → 0 < k → total p ts ≤ k * total p (map (λ t. with_coefficient t (div_ceil t.coefficient k)) ts)
total-divided p k [] h = omega arith
total-divided p k (t ∷ ts) h = grind (arith, total-divided p k ts h, le-div_ceil t.coefficient k h)

-- if a form holds, its quotient holds
pub Holds-divided : (a : ℕ → Bool) (k : ℕ) (f : Form) → 0 < k → Holds a f → Holds a (divided k f)
Holds-divided a k f h holds = div_ceil-least f.degree k _ h (omega (arith, total-divided (true_at a) k f.terms h))

-- weakening: what is dropped counts for at most its coefficient
total-without : (p : ℕ → Bool → Bool) (x : ℕ) (ts : List Entry) → total p ts ≤ total p (filter (λ t. not (eqb t.variable x)) ts) + total (of_variable x) ts
total-without p x [] = omega arith
total-without p x (t ∷ ts) = grind (arith, total-without p x ts)

pub Holds-weakened : (a : ℕ → Bool) (x : ℕ) (f : Form) → Holds a f → Holds a (weakened x f)
Holds-weakened a x f holds = omega (arith, total-without (true_at a) x f.terms)

total-opposite : (a : ℕ → Bool) (ts : List Entry) → total (true_at a) ts + total (true_at a) (map opposite ts) ≡ total each ts
total-opposite a [] = refl
total-opposite a (t ∷ ts) = grind (arith, total-opposite a ts)

-- the negation holds if and only if the form does not
pub Holds-negation : (a : ℕ → Bool) (f : Form) → 1 ≤ f.degree → Holds a (negation_of f) → ¬ Holds a f
Holds-negation a f h n holds = omega (arith, total-opposite a f.terms)

pub Holds-negation_back : (a : ℕ → Bool) (f : Form) → 1 ≤ f.degree → ¬ Holds a f → Holds a (negation_of f)
Holds-negation_back a f h n = grind (arith, total-opposite a f.terms)

-- what stays normal
pub IsNormal-divided : (k : ℕ) (f : Form) → 0 < k → IsNormal f → IsNormal (divided k f)
IsNormal-divided k f h n = grind (arith, n.ordered, n.size_in, n.degree_in, IsRising-divided, total-divided-le, div_ceil-le)

pub IsNormal-weakened : (x : ℕ) (f : Form) → IsNormal f → IsNormal (weakened x f)
IsNormal-weakened x f n = grind (arith, n.ordered, n.size_in, n.degree_in, IsRising-filter, total-filter-le)

pub IsNormal-negation : (f : Form) → 1 ≤ f.degree → IsNormal f → IsNormal (negation_of f)
IsNormal-negation f h n = grind (arith, n.ordered, n.size_in, n.degree_in, IsRising-opposite, total-each-opposite)
