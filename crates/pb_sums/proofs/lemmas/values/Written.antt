-- What is written, in parts.
use Rattle.pb_sums.proofs.Common.{ℕ, ◌++◌, ◌+◌, ◌-◌, ◌<◌, ◌∙◌, ◌∷◌, ◌≡◌, ◌≤◌, [], ap, append-nil, append_assoc, arith, drop, get_or, length, List, refl, suc}
use Rattle.pb_sums.proofs.Common.{sym, take, take-append-drop, drop_all, take_more, sum_bytes, term_bytes, Term}
use Rattle.{pb_sums.specs.contract.Canonical.further_bytes, std.proofs.Math.Seq.drop-cons}

pub further-append : (xs ys : List Term) → further_bytes (xs ++ ys) ≡ further_bytes xs ++ further_bytes ys
unfolding further_bytes
further-append [] ys = refl
further-append (x ∷ xs) ys = simp (further-append xs ys, append_assoc)

further-cons : (x : Term) (xs : List Term) → further_bytes (x ∷ xs) ≡ (32 ∷ term_bytes x) ++ further_bytes xs
unfolding further_bytes
further-cons x xs = refl

pub further_none : further_bytes [] ≡ []
unfolding further_bytes
further_none = refl

pub further_more : (xs : List Term) (i : ℕ) (d : Term) → i < length xs → further_bytes (take (i + 1) xs) ≡ further_bytes (take i xs) ++ (32 ∷ term_bytes (get_or xs i d))
further_more xs i d h =
    ap further_bytes (take_more xs i d h)
    ∙ (further-append (take i xs) (get_or xs i d ∷ [])
    ∙ ap (λ z. further_bytes (take i xs) ++ z)
    (further-cons (get_or xs i d) [] ∙ (ap (λ z. (32 ∷ term_bytes (get_or xs i d)) ++ z) further_none ∙ append-nil (32 ∷ term_bytes (get_or xs i d)))))

pub further_at : (xs : List Term) (i : ℕ) (d : Term) → i < length xs →
    further_bytes xs ≡ further_bytes (take i xs) ++ ((32 ∷ term_bytes (get_or xs i d)) ++ further_bytes (drop (suc i) xs))
further_at xs i d h =
    ap further_bytes (sym (take-append-drop i xs))
    ∙ (further-append (take i xs) (drop i xs)
    ∙ ap (λ z. further_bytes (take i xs) ++ z) (ap further_bytes (drop-cons xs i d h) ∙ further-cons (get_or xs i d) (drop (suc i) xs)))

-- a prefix of the terms, and the others
pub further_split : (xs : List Term) (n : ℕ) → further_bytes xs ≡ further_bytes (take n xs) ++ further_bytes (drop n xs)
further_split xs n = ap further_bytes (sym (take-append-drop n xs)) ∙ further-append (take n xs) (drop n xs)

pub further_past : (xs : List Term) (n : ℕ) → length xs ≤ n → further_bytes (drop n xs) ≡ []
further_past xs n h = ap further_bytes (drop_all n xs h) ∙ further_none

-- the terms from an index on
pub further_from : (xs : List Term) (i : ℕ) (x : Term) → 0 < i → i ≤ length xs → x ≡ get_or xs (i - 1) x →
    further_bytes (drop (i - 1) xs) ≡ (32 ∷ term_bytes x) ++ further_bytes (drop i xs)
further_from xs i x some within e = grind (arith, drop-cons, further-cons, get_or, drop)

pub sum_parts : (xs : List Term) (d : Term) → 0 < length xs → sum_bytes xs ≡ term_bytes (get_or xs 0 d) ++ further_bytes (drop 1 xs)
sum_parts xs d h = grind arith
