-- The size and the degree of a sum, by what cancels and by those of both forms, and which fault a result has.
use Rattle.pb_normal.proofs.Common.{ℕ, ◌*◌, ◌+◌, ◌-◌, ◌<◌, ◌↔◌, ◌≡◌, ◌≤◌, arith, List, refl, Entry, Adds, Cancels, each, Form, IsRising, size, total, IsSum}
use Rattle.pb_normal.proofs.Common.{SumIsContradiction, SumMeasures, SumPasses, nat_tests, ◌∷◌, ◌⊎◌, [], Bool, false, inl, inr, IsTrue, ltb, max, not, rules}
use Rattle.pb_normal.proofs.Common.{suc, tests, zero, ints, negated_of, negative, plain_of, Err, Ok, Result, NormalFault, Memory, Overflow}
use Rattle.pb_normal.proofs.lemmas.rules.{Sums.IsSum-from, Sums.at_least_0-le, Sums.IsSum-swap, Unique.IsSum-unique, Unique.none_below}
use Rattle.pb_normal.proofs.lemmas.terms.Totals.{size-Adds, share, top, total-by_variable, up_to}
use Rattle.std.specs.Result.{IsErrAnd}

pub SumMeasures-from : (f g : Form) (c : ℕ) → Cancels f.terms g.terms c → SumMeasures f g (size f + size g - 2 * c) (f.degree + g.degree - c)
SumMeasures-from f g c (rs, rising, adds) = (_, IsSum-from f g rs c rising adds, omega (arith, size-Adds f.terms g.terms rs c adds), refl)

pub SumPasses-not : (limit : ℕ) (f g : Form) (s d : ℕ) → SumMeasures f g s d → s ≤ limit → d ≤ limit → SumPasses limit f g → ⊥
SumPasses-not limit f g s d m p q w = grind (arith, IsSum-unique f g _ _ m.1 w.1, m.2, m.3, w.2)

pub SumIsContradiction-measured : (f g : Form) (s d : ℕ) → SumMeasures f g s d → (s < d) ↔ SumIsContradiction f g
SumIsContradiction-measured f g s d m = (λ lt. (m.0, m.1, omega (arith, m.2, m.3)), λ w. grind (arith, IsSum-unique f g _ _ m.1 w.1, m.2, m.3, w.2))

-- the merged list with the measured degree is the sum
pub IsSum-measured : (f g : Form) (s d : ℕ) (rs : List Entry) (c : ℕ) → SumMeasures f g s d → IsRising 0 rs → Adds f.terms g.terms rs c → IsSum f g record { terms = rs; degree = d } × (total each rs ≡ s)
IsSum-measured f g s d rs c m rising adds =
    let sum = IsSum-from f g rs c rising adds in let same = IsSum-unique f g _ _ m.1 sum in grind (arith, sum, same, m.2, m.3)

one_side : (n x : ℕ) (ts : List Entry) → IsRising n ts → (total (plain_of x) ts ≡ 0) ⊎ (total (negated_of x) ts ≡ 0)
one_side n x [] h = inl refl
one_side n x (t ∷ ts) h = grind (arith, one_side (t.variable + 1) x ts h.2, none_below not x (t.variable + 1) ts h.2, none_below (λ b. b) x (t.variable + 1) ts h.2, nat_tests)

up_to-le : (a b c : ℕ → ℕ) (n : ℕ) → ((x : ℕ) → a x ≤ b x + c x) → up_to a n ≤ up_to b n + up_to c n
up_to-le a b c zero h = omega arith
up_to-le a b c (suc n) h = omega (arith, up_to-le a b c n h, h n)

plain-le : (f g r : Form) → IsSum f g r → (x : ℕ) → total (plain_of x) r.terms ≤ total (plain_of x) f.terms + total (plain_of x) g.terms
plain-le f g r s x = grind (arith, ints, one_side 0 x r.terms s.ordered, s.coefficients x)

negated-le : (f g r : Form) → IsSum f g r → (x : ℕ) → total (negated_of x) r.terms ≤ total (negated_of x) f.terms + total (negated_of x) g.terms
negated-le f g r s x = grind (arith, ints, one_side 0 x r.terms s.ordered, s.coefficients x)

total-sum-le : (p : ℕ → Bool → Bool) (f g r : Form) → IsSum f g r → total p r.terms ≤ total p f.terms + total p g.terms
total-sum-le p f g r s =
    let n = max (top r.terms) (max (top f.terms) (top g.terms)) in
    let each_one : (x : ℕ) → share p r.terms x ≤ share p f.terms x + share p g.terms x = λ x. grind (arith, plain-le f g r s x, negated-le f g r s x) in
    omega (arith, up_to-le _ _ _ n each_one, total-by_variable p r.terms n (omega arith), total-by_variable p f.terms n (omega arith), total-by_variable p g.terms n (omega arith))

degree-sum-le : (f g r : Form) → IsSum f g r → r.degree ≤ f.degree + g.degree
degree-sum-le f g r s = grind (arith, ints, s.degree, at_least_0-le, total-sum-le negative f g r s)

-- so a sum fits where both together do
pub SumPasses-small : (limit : ℕ) (f g : Form) → size f + size g ≤ limit → f.degree + g.degree ≤ limit → SumPasses limit f g → ⊥
SumPasses-small limit f g p q w = grind (arith, total-sum-le each f g w.0 w.1, degree-sum-le f g w.0 w.1, w.2)

-- the measures of the sum decide
pub SumPasses-measured : (limit : ℕ) (f g : Form) (s d : ℕ) → SumMeasures f g s d → (limit < s) ⊎ (limit < d) → SumPasses limit f g
SumPasses-measured limit f g s d m h = (m.0, m.1, elim h [ inl p ↦ inl (omega (arith, m.2)) | inr p ↦ inr (omega (arith, m.3)) ])

pub SumPasses-swap : (limit : ℕ) (f g : Form) → SumPasses limit f g → SumPasses limit g f
SumPasses-swap limit f g w = (w.0, IsSum-swap f g w.0 w.1, w.2)

-- what a test reports
pub reports : (a b : ℕ) → IsTrue (ltb a b) ↔ (a < b)
reports a b = (λ h. search (rules, tests), λ h. search (rules, tests))

pub reports_none : (P : Type 0) → (P → ⊥) → IsTrue false ↔ P
reports_none P never = (λ h. absurd (let lt : 0 < 0 = (reports 0 0).0 h in omega (arith, lt)), λ p. absurd (never p))

-- the degree decides, if the size is within the limit
pub SumPasses-by_degree : (limit : ℕ) (f g : Form) (s d : ℕ) → SumMeasures f g s d → s ≤ limit → IsTrue (ltb limit d) ↔ SumPasses limit f g
SumPasses-by_degree limit f g s d m le = grind (arith, tests, SumPasses-measured limit f g s d m, SumPasses-not limit f g s d m)

-- `Memory` is not `Overflow`
pub overflow-Memory : {A : Type 0} (r : Result A NormalFault) (P : Type 0) → IsErrAnd r (λ e. e ≡ Memory) → (P → ⊥) → (r ≡ Err Overflow) ↔ P
overflow-Memory (Ok x) P h n = (λ e. absurd cc, λ p. absurd (n p))
overflow-Memory (Err f) P h n = (λ e. let g : f ≡ Memory = h in absurd cc, λ p. absurd (n p))

-- a form is not `Overflow`
pub overflow-Ok : {A : Type 0} (x : A) (P : Type 0) → (P → ⊥) → (let r : Result A NormalFault = Ok x in r ≡ Err Overflow) ↔ P
overflow-Ok x P n = (λ e. absurd cc, λ p. absurd (n p))
