-- Totals of lists of terms, also as sums over the variables, lists with rising variables, and what is collected from two halves.
use Rattle.pb_normal.proofs.Common.{drop, drop_read, get_or, length, take, take-append-drop, ℕ, ◌*◌, ◌++◌, ◌+◌, ◌<◌, ◌∷◌, ◌≡◌, ◌≤◌, [], arith, Bool, List, refl}
use Rattle.pb_normal.proofs.Common.{Entry, Adds, flip, each, IsRising, negative, total, ◌-◌, ◌∙◌, IsPermutation, sym, drop_more, sum_by, counted, map, decoded}
use Rattle.pb_normal.proofs.Common.{◌≢◌, cond, false, max, nat_tests, suc, true, zero, cases_eq, ne_eqb, negated_of, plain_of}
use Rattle.std.proofs.lemmas.List.{Sorted.sum_by-IsPermutation, Sums.sum_by-cons}

pub total-append : (p : ℕ → Bool → Bool) (xs ys : List Entry) → total p (xs ++ ys) ≡ total p xs + total p ys
total-append p [] ys = omega arith
total-append p (x ∷ xs) ys = omega (arith, total-append p xs ys)

-- the size is the sum of the coefficients on variables and of those on negations
pub total-each : (xs : List Entry) → total each xs ≡ total negative xs + total (flip negative) xs
total-each [] = refl
total-each (x ∷ xs) = grind (arith, total-each xs)

pub Adds-append : (a b r a' b' r' : List Entry) (c c' : ℕ) → Adds a b r c → Adds a' b' r' c' → Adds (a ++ a') (b ++ b') (r ++ r') (c + c')
Adds-append a b r a' b' r' c c' h k = grind (arith, total-append, h.signed, k.signed, h.lows, k.lows)

-- without a common variable nothing cancels
pub Adds-apart : (xs ys : List Entry) → Adds xs ys (xs ++ ys) 0
Adds-apart xs ys = grind (arith, total-append)

pub size-Adds : (a b r : List Entry) (c : ℕ) → Adds a b r c → total each r + 2 * c ≡ total each a + total each b
size-Adds a b r c h = omega (arith, h.signed negative, h.lows, total-each a, total-each b, total-each r)

-- a coefficient and those before it are within the whole
pub total-prefix : (list : List Entry) (i : ℕ) (d x : Entry) → i < length list → x ≡ get_or list i d → total each (take i list) + x.coefficient ≤ total each list
total-prefix list i d x lt e = grind (arith, total-append each (take i list) (drop i list), take-append-drop, drop_read)

pub IsRising-from : (m n : ℕ) (xs : List Entry) → m ≤ n → IsRising n xs → IsRising m xs
IsRising-from m n [] le h = tt
IsRising-from m n (x ∷ xs) le h = (omega arith, h.1, h.2)

pub IsRising-between : (n : ℕ) (out : List Entry) (x y : Entry) (xs ys : List Entry) → IsRising n (out ++ x ∷ xs) → IsRising n (out ++ y ∷ ys) → x.variable < y.variable → IsRising n (out ++ x ∷ y ∷ ys)
IsRising-between n [] x y xs ys h k lt = (h.0, h.1, (omega arith, k.1, k.2))
IsRising-between n (t ∷ out) x y xs ys h k lt = (h.0, h.1, IsRising-between (t.variable + 1) out x y xs ys h.2 k.2 lt)

pub IsRising-without : (n : ℕ) (out : List Entry) (x : Entry) (xs : List Entry) → IsRising n (out ++ x ∷ xs) → IsRising n (out ++ xs)
IsRising-without n [] x xs h = IsRising-from n (x.variable + 1) xs (omega (arith, h.0)) h.2
IsRising-without n (t ∷ out) x xs h = (h.0, h.1, IsRising-without (t.variable + 1) out x xs h.2)

pub IsRising-instead : (n : ℕ) (out : List Entry) (x t : Entry) (xs : List Entry) → IsRising n (out ++ x ∷ xs) → t.variable ≡ x.variable → 0 < t.coefficient → IsRising n (out ++ t ∷ xs)
IsRising-instead n [] x t xs h e p = (omega arith, p, IsRising-from (t.variable + 1) (x.variable + 1) xs (omega arith) h.2)
IsRising-instead n (s ∷ out) x t xs h e p = (h.0, h.1, IsRising-instead (s.variable + 1) out x t xs h.2 e p)

pub IsRising-positive : (n : ℕ) (out : List Entry) (x : Entry) (xs : List Entry) → IsRising n (out ++ x ∷ xs) → 0 < x.coefficient
IsRising-positive n [] x xs h = h.1
IsRising-positive n (t ∷ out) x xs h = IsRising-positive (t.variable + 1) out x xs h.2

pub Adds-halves : (xs ys ps qs rs : List Entry) (c d e : ℕ) → Adds xs [] ps c → Adds ys [] qs d → Adds ps qs rs e → Adds (xs ++ ys) [] rs (c + d + e)
Adds-halves xs ys ps qs rs c d e h k m = grind (arith, total-append, h.signed, k.signed, m.signed, h.lows, k.lows, m.lows)

pub total-halves : (xs : List Entry) (n : ℕ) → total each (take n xs) + total each (drop n xs) ≡ total each xs
total-halves xs n = grind (arith, total-append each (take n xs) (drop n xs), take-append-drop)

-- a sum does not depend on the order of its terms
pub total-sum : (p : ℕ → Bool → Bool) (xs : List Entry) → total p xs ≡ sum_by (counted p) xs
total-sum p [] = refl
total-sum p (x ∷ xs) = rw (sum_by-cons (counted p) x xs, total-sum p xs) refl

pub total-permutation : (p : ℕ → Bool → Bool) (xs ys : List Entry) → IsPermutation xs ys → total p ys ≡ total p xs
total-permutation p xs ys h = total-sum p ys ∙ sum_by-IsPermutation (counted p) xs ys h ∙ sym (total-sum p xs)

-- what is collected from the terms in another order is collected from these terms
pub Adds-permutation : (xs ys rs : List Entry) (c : ℕ) → IsPermutation xs ys → Adds ys [] rs c → Adds xs [] rs c
Adds-permutation xs ys rs c h k = grind (arith, k.signed, total-permutation, k.lows)

pub Adds-self : (xs : List Entry) → Adds xs [] xs 0
Adds-self xs = grind (arith)

-- a list that rises from `above` on also rises with x before it, if x is below `above`
pub IsRising-read : (xs : List Entry) (i above : ℕ) (d x : Entry) → 0 < i → i ≤ length xs → IsRising above (drop i xs) → x ≡ get_or xs (i - 1) d → x.variable < above → 0 < x.coefficient
    → IsRising x.variable (drop (i - 1) xs)
IsRising-read xs i above d x some inside rest is below positive = grind (arith, drop_more xs (i - 1) d, IsRising-from)

-- each code counts 1
pub total-decoded : (codes : List ℕ) → total each (map decoded codes) ≡ length codes
total-decoded [] = refl
total-decoded (x ∷ xs) = omega (arith, total-decoded xs)

pub total-same : (p q : ℕ → Bool → Bool) → ((v : ℕ) (n : Bool) → p v n ≡ q v n) → (ts : List Entry) → total p ts ≡ total q ts
total-same p q h [] = refl
total-same p q h (t ∷ ts) = grind (arith, total-same p q h ts, h t.variable t.negated)

-- g 0 + .. + g (n - 1)
abbrev pub up_to : (ℕ → ℕ) → ℕ → ℕ
up_to g zero = 0
up_to g (suc n) = up_to g n + g n

up_to-zero : (g : ℕ → ℕ) (n : ℕ) → ((x : ℕ) → x < n → g x ≡ 0) → up_to g n ≡ 0
up_to-zero g zero h = refl
up_to-zero g (suc n) h = omega (arith, up_to-zero g n (λ x lt. h x (omega arith)), h n (omega arith))

up_to-add : (g h k : ℕ → ℕ) (n : ℕ) → ((x : ℕ) → g x ≡ h x + k x) → up_to g n ≡ up_to h n + up_to k n
up_to-add g h k zero e = refl
up_to-add g h k (suc n) e = omega (arith, up_to-add g h k n e, e n)

up_to-one : (g : ℕ → ℕ) (v n : ℕ) → v < n → ((x : ℕ) → x ≢ v → g x ≡ 0) → up_to g n ≡ g v
up_to-one g v zero lt h = absurd (omega arith)
up_to-one g v (suc n) lt h = grind (arith, cases_eq v n, up_to-zero g n, up_to-one g v n, h)

-- six sums that balance at each variable balance as a whole
pub up_to-balance : (a b c d e f : ℕ → ℕ) (n : ℕ) → ((x : ℕ) → a x + b x + c x ≡ d x + e x + f x) → up_to a n + up_to b n + up_to c n ≡ up_to d n + up_to e n + up_to f n
up_to-balance a b c d e f zero h = refl
up_to-balance a b c d e f (suc n) h = omega (arith, up_to-balance a b c d e f n h, h n)

-- the sum of the coefficients that count on the variable x
abbrev pub share : (ℕ → Bool → Bool) → List Entry → ℕ → ℕ
share p ts x = cond (p x false) (total (plain_of x) ts) 0 + cond (p x true) (total (negated_of x) ts) 0

-- the first number above all variables
abbrev pub top : List Entry → ℕ
top [] = 0
top (t ∷ ts) = max (t.variable + 1) (top ts)

-- what one term contributes on the variable x
abbrev share_of : (ℕ → Bool → Bool) → Entry → ℕ → ℕ
share_of p t x = cond (p x false) (counted (plain_of x) t) 0 + cond (p x true) (counted (negated_of x) t) 0

share_of-other : (p : ℕ → Bool → Bool) (t : Entry) (x : ℕ) → x ≢ t.variable → share_of p t x ≡ 0
share_of-other p t x ne = grind (arith, ne_eqb, nat_tests)

share_of-self : (p : ℕ → Bool → Bool) (t : Entry) → share_of p t t.variable ≡ counted p t
share_of-self p t = grind (arith, nat_tests)

pub total-by_variable : (p : ℕ → Bool → Bool) (ts : List Entry) (n : ℕ) → top ts ≤ n → total p ts ≡ up_to (share p ts) n
total-by_variable p [] n le = sym (up_to-zero (share p []) n (λ x lt. grind arith))
total-by_variable p (t ∷ ts) n le =
    let both = up_to-add (share p (t ∷ ts)) (share_of p t) (share p ts) n (λ x. grind arith) in
    let one = up_to-one (share_of p t) t.variable n (omega arith) (share_of-other p t) in
    omega (arith, both, one, share_of-self p t, total-by_variable p ts n (omega arith))
