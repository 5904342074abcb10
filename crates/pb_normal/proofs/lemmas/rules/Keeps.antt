-- The result of a rule has no other variables than its operands. Whether a form holds depends on the values of its
-- variables only. Offered to other crates.
use Rattle.pb_normal.proofs.Common.{negative, filter, nat_tests, ℕ, ◌&&◌, ◌+◌, ◌<◌, ◌↔◌, ◌∷◌, ◌≡◌, [], ap, arith, Bool, cond, eqb, false, List, map, nat_lt}
use Rattle.pb_normal.proofs.{Common.ltb-false, lemmas.rules.Sums.total-sum, lemmas.rules.Unique.none_below, lemmas.rules.Unique.Balanced}
use Rattle.pb_normal.proofs.Common.{not, refl, true, lt-ltb, ltb-true, ints, All-cons, All-filter, All-head, All-map, All-nil, All-tail, Entry, AgreeOn, le-ltb}
use Rattle.pb_normal.proofs.Common.{counted, Form, Holds, IsOver, IsRising, negated_of, plain_of, total, true_at, IsSum, opposite, with_coefficient, ◌≤◌, All}

abbrev pub AreIn : (ℕ → Bool) → List Entry → Type 0
AreIn p ts = All (λ t. p t.variable ≡ true) ts

other : (e : Bool → Bool) (p : ℕ → Bool) (t : Entry) (x : ℕ) → p t.variable ≡ true → p x ≡ false → cond (eqb t.variable x && e t.negated) t.coefficient 0 ≡ 0
other e p t x h k = grind (arith, nat_tests)

-- a variable outside the set has no coefficient
pub none_outside : (e : Bool → Bool) (p : ℕ → Bool) (x : ℕ) (ts : List Entry) → AreIn p ts → p x ≡ false → total (λ v m. eqb v x && e m) ts ≡ 0
none_outside e p x [] h k = refl
none_outside e p x (t ∷ ts) h k =
    omega (arith, other e p t x (All-head (λ (u : Entry). p u.variable ≡ true) t ts h) k, none_outside e p x ts (All-tail (λ (u : Entry). p u.variable ≡ true) t ts h) k)

-- a rising list that balances on all variables outside the set has its variables inside it
pub balanced_outside : (p : ℕ → Bool) (m : ℕ) (ts : List Entry) → IsRising m ts → ((x : ℕ) → p x ≡ false → total (plain_of x) ts ≡ total (negated_of x) ts) → AreIn p ts
balanced_outside p m [] h e = All-nil (λ (u : Entry). p u.variable ≡ true)
balanced_outside p m (t ∷ ts) h e = by_place (p t.variable) refl (λ k. balanced_outside p (t.variable + 1) ts h.2 (λ x out. omega (arith, e x out, other not p t x k out, other (λ b. b) p t x k out)))
  where
    by_place : (b : Bool) → p t.variable ≡ b → (p t.variable ≡ true → AreIn p ts) → AreIn p (t ∷ ts)
    by_place true k rest = All-cons (λ (u : Entry). p u.variable ≡ true) t ts k (rest k)
    by_place false k rest = grind (arith, nat_tests, e t.variable k, none_below not t.variable (t.variable + 1) ts h.2, none_below (λ b. b) t.variable (t.variable + 1) ts h.2)

pub IsOver-sum : (p : ℕ → Bool) (f g r : Form) → IsSum f g r → IsOver p f → IsOver p g → IsOver p r
IsOver-sum p f g r s hf hg = balanced_outside p 0 r.terms s.ordered
    (λ x out. omega (arith, ints, s.coefficients x, none_outside not p x f.terms hf out, none_outside (λ b. b) p x f.terms hf out, none_outside not p x g.terms hg out, none_outside (λ b. b) p x g.terms hg out))

-- the product, the quotient, the saturated form, the form without a term, and the negation
pub IsOver-mapped : (p : ℕ → Bool) (g : Entry → ℕ) (ts : List Entry) → AreIn p ts → AreIn p (map (λ t. with_coefficient t (g t)) ts)
IsOver-mapped p g ts h = All-map (λ (u : Entry). p u.variable ≡ true) (λ t. with_coefficient t (g t)) ts h

pub IsOver-filtered : (p : ℕ → Bool) (q : Entry → Bool) (ts : List Entry) → AreIn p ts → AreIn p (filter q ts)
IsOver-filtered p q ts h = All-filter q (λ (u : Entry). p u.variable ≡ true) ts h

pub IsOver-opposite : (p : ℕ → Bool) (ts : List Entry) → AreIn p ts → AreIn p (map opposite ts)
IsOver-opposite p ts h = All-map (λ (u : Entry). p u.variable ≡ true) opposite ts h

All-to : {P Q : Entry → Type 0} (ts : List Entry) → ((t : Entry) → P t → Q t) → All P ts → All Q ts
All-to ts f h = λ i d lt. f _ (h i d lt)

-- the numbers below n as a set
pub AreIn-below : (n : ℕ) (ts : List Entry) → AreIn (λ v. nat_lt v n) ts ↔ All (λ t. t.variable < n) ts
AreIn-below n ts = (All-to ts (λ t. ltb-true t.variable n), All-to ts (λ t. lt-ltb t.variable n))

pub IsOver-below : (n : ℕ) (f : Form) → IsOver (λ v. nat_lt v n) f ↔ All (λ t. t.variable < n) f.terms
IsOver-below n f = AreIn-below n f.terms

-- if two assignments agree on the variables, the true literals have the same sum at both
total-alike : (a b : ℕ → Bool) (ts : List Entry) → All (λ t. a t.variable ≡ b t.variable) ts → total (true_at a) ts ≡ total (true_at b) ts
total-alike a b [] h = refl
total-alike a b (t ∷ ts) h =
    let here : a t.variable ≡ b t.variable = All-head (λ (u : Entry). a u.variable ≡ b u.variable) t ts h in
    let first : counted (true_at a) t ≡ counted (true_at b) t = ap (λ (v : Bool). cond (cond t.negated (not v) v) t.coefficient 0) here in
    omega (arith, first, total-alike a b ts (All-tail (λ (u : Entry). a u.variable ≡ b u.variable) t ts h))

pub Holds-alike : (a b : ℕ → Bool) (f : Form) → AgreeOn a b f → Holds a f ↔ Holds b f
Holds-alike a b f h = let same = total-alike a b f.terms h in (λ k. omega (arith, k, same), λ k. omega (arith, k, same))

-- their true literals at an assignment have the same sum, up to the coefficients on negations
pub total-balanced : (a : ℕ → Bool) (xs ys : List Entry) → Balanced xs ys → total (true_at a) xs + total negative ys ≡ total negative xs + total (true_at a) ys
total-balanced a xs ys h = omega (arith, total-sum a ys [] xs (λ x. omega (arith, h x)))

-- a variable above all others has no coefficient
pub total-past : (e : Bool → Bool) (x n : ℕ) (ts : List Entry) → All (λ t. t.variable < n) ts → n ≤ x → total (λ v m. eqb v x && e m) ts ≡ 0
total-past e x n ts h le = none_outside e (λ v. nat_lt v n) x ts ((AreIn-below n ts).1 h) (le-ltb x n le)

-- if rising terms balance on all variables from n on, they contain none of these variables
pub All-below : (n m : ℕ) (ts : List Entry) → IsRising m ts → ((x : ℕ) → n ≤ x → total (plain_of x) ts ≡ total (negated_of x) ts) → All (λ t. t.variable < n) ts
All-below n m ts h e = (AreIn-below n ts).0 (balanced_outside (λ v. nat_lt v n) m ts h (λ x out. e x (ltb-false x n out)))
