-- The sum of two forms: a merge computes it, and it holds if both forms hold. Offered to other crates.
use Rattle.pb_normal.proofs.Common.{ℕ, ℤ, ◌+ℤ◌, ◌+◌, ◌-◌, ◌≡◌, ◌≤◌, arith, Bool, Err, IfOk, List, max, Ok, pos, Result, sym, ints, Entry, Adds, flip}
use Rattle.pb_normal.proofs.Common.{at_least_0, bound, Form, Holds, IsRising, negated_of, negative, plain_of, total, true_at, IsSum}
use Rattle.pb_normal.proofs.lemmas.terms.Totals.{total-same, total-by_variable, up_to-balance, share, top}

pub at_least_0-is : (z : ℤ) (m k : ℕ) → (z +ℤ pos k) ≡ pos m → at_least_0 z ≡ m - k
at_least_0-is z m k e = grind (arith, ints)

pub turned : (x : ℕ) (ts : List Entry) → total (flip (plain_of x)) ts ≡ total (negated_of x) ts
turned x ts = total-same (flip (plain_of x)) (negated_of x) (λ v n. grind arith) ts

pub IsSum-from : (f g : Form) (rs : List Entry) (c : ℕ) → IsRising 0 rs → Adds f.terms g.terms rs c → IsSum f g record { terms = rs; degree = f.degree + g.degree - c }
IsSum-from f g rs c rising h = record {
  ordered = rising;
  coefficients = λ x. omega (arith, ints, h.signed (plain_of x), turned x f.terms, turned x g.terms, turned x rs);
  degree = sym (at_least_0-is ((bound f +ℤ bound g) +ℤ pos (total negative rs)) (f.degree + g.degree) c (omega (arith, ints, h.lows)));
}

-- if coefficients add up, so do the sums of the true literals at an assignment, up to the coefficients on negations
pub total-sum : (a : ℕ → Bool) (xs ys rs : List Entry) → ((x : ℕ) → total (plain_of x) rs + total (negated_of x) xs + total (negated_of x) ys ≡ total (negated_of x) rs + total (plain_of x) xs + total (plain_of x) ys) → total (true_at a) rs + total negative xs + total negative ys ≡ total negative rs + total (true_at a) xs + total (true_at a) ys
total-sum a xs ys rs h =
    let n = max (top rs) (max (top xs) (top ys)) in
    let each_one : (x : ℕ) → share (true_at a) rs x + share negative xs x + share negative ys x ≡ share negative rs x + share (true_at a) xs x + share (true_at a) ys x = λ x. grind (arith, h x) in
    omega (arith, up_to-balance _ _ _ _ _ _ n each_one, total-by_variable (true_at a) rs n (omega arith), total-by_variable negative rs n (omega arith), total-by_variable (true_at a) xs n (omega arith), total-by_variable negative xs n (omega arith), total-by_variable (true_at a) ys n (omega arith), total-by_variable negative ys n (omega arith))

pub at_least_0-le : (z : ℤ) (m k n : ℕ) → (z +ℤ pos k) ≡ pos m → m ≤ n + k → at_least_0 z ≤ n
at_least_0-le z m k n e le = grind (arith, ints)

-- if two forms hold, their sum holds
pub Holds-sum : (a : ℕ → Bool) (f g r : Form) → IsSum f g r → Holds a f → Holds a g → Holds a r
Holds-sum a f g r s hf hg =
    let t = total-sum a f.terms g.terms r.terms (λ x. omega (arith, ints, s.coefficients x)) in
    grind (arith, ints, t, s.degree, at_least_0-le)

-- the order of the two does not matter
pub IsSum-swap : (f g r : Form) → IsSum f g r → IsSum g f r
IsSum-swap f g r s = grind (arith, s.ordered, s.coefficients, s.degree)

pub IsSum-swapped : {E : Type 0} (f g : Form) (r : Result Form E) → IfOk r (λ s. IsSum f g s) → IfOk r (λ s. IsSum g f s)
IsSum-swapped f g (Ok s) h = IsSum-swap f g s h
IsSum-swapped f g (Err e) h = h
