-- Sums over choices of literals. Offered to other crates.
use Rattle.pb_propagate.proofs.Common.{ℕ, ◌+◌, ◌<◌, ◌∷◌, ◌≡◌, ◌≤◌, [], ap, arith, Bool, cond, eq-eqb, List, refl, suc, false, true, zero, Contains, eqb-true}
use Rattle.pb_propagate.proofs.Common.{Entry, counted, IsRising, total, only, get_or-le-sum_by, sum_by, sum_by-cons}

-- a total is a sum over the terms
pub total-sum : (p : ℕ → Bool → Bool) (es : List Entry) → total p es ≡ sum_by (counted p) es
total-sum p [] = refl
total-sum p (e ∷ es) = rw (sum_by-cons (counted p) e es, total-sum p es) refl

-- two disjoint choices, both within a third
one_fits : (p r q : Bool) (c : ℕ) → (p ≡ true → q ≡ true) → (r ≡ true → q ≡ true) → (p ≡ true → r ≡ true → ⊥) → cond p c 0 + cond r c 0 ≤ cond q c 0
one_fits p r q c f g h = grind arith

pub total-fits : (p r q : ℕ → Bool → Bool) → ((w : ℕ) (m : Bool) → p w m ≡ true → q w m ≡ true) → ((w : ℕ) (m : Bool) → r w m ≡ true → q w m ≡ true) → ((w : ℕ) (m : Bool) → p w m ≡ true → r w m ≡ true → ⊥) → (ts : List Entry) → total p ts + total r ts ≤ total q ts
total-fits p r q f g h [] = omega arith
total-fits p r q f g h (t ∷ ts) =
    omega (arith, total-fits p r q f g h ts, one_fits (p t.variable t.negated) (r t.variable t.negated) (q t.variable t.negated) t.coefficient (f t.variable t.negated) (g t.variable t.negated) (h t.variable t.negated))

pub total-within : (p q : ℕ → Bool → Bool) → ((w : ℕ) (m : Bool) → p w m ≡ true → q w m ≡ true) → (ts : List Entry) → total p ts ≤ total q ts
total-within p q f ts = omega (arith, total-fits p (λ w m. false) q f (λ w m e. absurd cc) (λ w m h e. absurd cc) ts)

-- the one literal
pub only-true : (v : ℕ) (n : Bool) (w : ℕ) (m : Bool) → only v n w m ≡ true → (w ≡ v) × (m ≡ n)
only-true v n w m h = grind (arith, eqb-true, n, m)

pub only-self : (v : ℕ) (n : Bool) → only v n v n ≡ true
only-self v n = rw (eq-eqb v v refl) (grind (arith, n))

-- an entry counts for the literals that are chosen
pub total-has : (p : ℕ → Bool → Bool) (es : List Entry) (e : Entry) → Contains es e → p e.variable e.negated ≡ true → e.coefficient ≤ total p es
total-has p es e (k, inside, is) h =
    let whole : counted p e ≡ e.coefficient = rw h refl in
    omega (arith, total-sum p es, get_or-le-sum_by (counted p) es k e inside, ap (counted p) is, whole)

-- the entries of an increasing list count
pub rising-positive : (n : ℕ) (es : List Entry) (e : Entry) → IsRising n es → Contains es e → 0 < e.coefficient
rising-positive n [] e r (k, inside, is) = absurd (omega (arith, inside))
rising-positive n (x ∷ xs) e r (zero, inside, is) = omega (arith, r.1, ap (λ (y : Entry). y.coefficient) is)
rising-positive n (x ∷ xs) e r (suc k, inside, is) = rising-positive (x.variable + 1) xs e r.2 (k, omega (arith, inside), is)
