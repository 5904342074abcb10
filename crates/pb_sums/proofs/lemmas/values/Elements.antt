-- Rules that each term of a list satisfies.
use Rattle.pb_sums.proofs.Common.{ℕ, ◌++◌, ◌+◌, ◌<◌, ◌↔◌, ◌∙◌, ◌∷◌, ◌≡◌, [], arith, Bool, false, get_or, length, List, subst, suc, sym, take, true, zero}
use Rattle.pb_sums.proofs.Common.{IsTrue, take_more, AreTerms, IsTerm, Term}

terms-append : (limit : ℕ) (xs : List Term) (x : Term) → AreTerms limit xs → IsTerm limit x → AreTerms limit (xs ++ x ∷ [])
terms-append limit [] x e f = (f, tt)
terms-append limit (y ∷ xs) x e f = (e.0, terms-append limit xs x e.1 f)

terms_at : (limit : ℕ) (xs : List Term) (i : ℕ) (d : Term) → i < length xs → AreTerms limit xs → IsTerm limit (get_or xs i d)
terms_at limit [] i d h e = absurd (omega arith)
terms_at limit (x ∷ xs) zero d h e = e.0
terms_at limit (x ∷ xs) (suc i) d h e = terms_at limit xs i d (omega arith) e.1

-- a test of each term, up to an index
pub one_passes : (limit own : ℕ) (xs : List Term) (i : ℕ) (d x : Term) (r : Bool) → i < length xs → own ≡ limit → x ≡ get_or xs i d → IsTrue r ↔ IsTerm own x → r ≡ true
    → AreTerms limit (take i xs) → AreTerms limit (take (i + 1) xs)
one_passes limit own xs i d x r h e f g t k =
    subst (λ ys. AreTerms limit ys) (sym (take_more xs i d h))
    (terms-append limit (take i xs) (get_or xs i d) k (subst (λ n. IsTerm n (get_or xs i d)) e (subst (λ y. IsTerm own y) f (g.0 t))))

pub one_fails : (limit own : ℕ) (xs : List Term) (i : ℕ) (d x : Term) (r : Bool) → i < length xs → own ≡ limit → x ≡ get_or xs i d → IsTrue r ↔ IsTerm own x → r ≡ false
    → AreTerms limit xs → IsTrue false
one_fails limit own xs i d x r h e f g t k =
    sym t ∙ g.1 (subst (λ y. IsTerm own y) (sym f) (subst (λ n. IsTerm n (get_or xs i d)) (sym e) (terms_at limit xs i d h k)))
