-- Texts that grow at their end, within languages. Offered to other crates.
use Rattle.pb_text.proofs.Common.{arith, rules, ◌+◌, ◌<◌, get_or, length, take, take_more, ℕ, ◌++◌, ◌∙◌, ◌∷◌, ◌≡◌, [], ap, append-nil, append_assoc, List, map}
use Rattle.pb_text.proofs.Common.{refl, subst, sym, ◌⋅◌, Each, Empty, Language, Many, unmarked, bytes, digits_of, Letter, plain}
use Rattle.pb_text.specs.meaning.Languages.{Some as OneOrMore}

-- Languages: the last part grows, or a new part begins.
pub grown : (P Q R : Language) (p : List Letter) (c : Letter) → ((q : List Letter) → Q q → R (q ++ c ∷ [])) → (P ⋅ Q) p → (P ⋅ R) (p ++ c ∷ [])
grown P Q R p c f (a, b, e, h, k) = (a, b ++ c ∷ [], ap (λ x. x ++ c ∷ []) e ∙ append_assoc a b (c ∷ []), h, f b k)

pub next : (P Q : Language) (p : List Letter) (c : Letter) → P p → Q (c ∷ []) → (P ⋅ Q) (p ++ c ∷ [])
next P Q p c h k = (p, c ∷ [], refl, h, k)

pub none_yet : (P Q : Language) (p : List Letter) → Q [] → P p → (P ⋅ Q) p
none_yet P Q p k h = (p, [], sym (append-nil p), h, k)

pub regroup : (P Q R : Language) (p : List Letter) → (P ⋅ Q ⋅ R) p → (P ⋅ (Q ⋅ R)) p
regroup P Q R p (ab, c, e, (a, b, f, h, i), k) = grind (arith, append_assoc)

pub regroup⁻¹ : (P Q R : Language) (p : List Letter) → (P ⋅ (Q ⋅ R)) p → (P ⋅ Q ⋅ R) p
regroup⁻¹ P Q R p (a, bc, e, h, (b, c, f, i, k)) = (a ++ b, c, e ∙ (ap (λ x. a ++ x) f ∙ sym (append_assoc a b c)), (a, b, refl, h, i), k)

pub inside : (P P' Q : Language) (p : List Letter) → ((q : List Letter) → P q → P' q) → (P ⋅ Q) p → (P' ⋅ Q) p
inside P P' Q p f (a, b, e, h, k) = (a, b, e, f a h, k)

pub after_it : (P Q Q' : Language) (p : List Letter) → ((q : List Letter) → Q q → Q' q) → (P ⋅ Q) p → (P ⋅ Q') p
after_it P Q Q' p f (a, b, e, h, k) = (a, b, e, h, f b k)

pub map-append : (f : ℕ → Letter) (xs : List ℕ) (x : ℕ) → map f xs ++ f x ∷ [] ≡ map f (xs ++ x ∷ [])
map-append f [] x = refl
map-append f (y ∷ xs) x = ap (λ t. f y ∷ t) (map-append f xs x)

pub each-append : (P : ℕ → Type 0) (bs : List ℕ) (b : ℕ) → Each P bs → P b → Each P (bs ++ b ∷ [])
each-append P [] b h k = (k, tt)
each-append P (x ∷ bs) b h k = (h.0, each-append P bs b h.1 k)

-- the next of the bytes of a text
pub each_on : (P : ℕ → Type 0) (text : List ℕ) (i : ℕ) → i < length text → Each P (take i text) → P (get_or text i 0) → Each P (take (i + 1) text)
each_on P text i h all e = rw (take_more text i 0 h) (each-append P (take i text) (get_or text i 0) all e)

-- spaces
pub many-grown : (P : ℕ → Type 0) (b : ℕ) (c : Letter) → c ≡ unmarked b → P b → (q : List Letter) → Many P q → Many P (q ++ c ∷ [])
many-grown P b c e k q (bs, h, f) =
    (bs ++ b ∷ [], each-append P bs b h k, ap (λ x. x ++ c ∷ []) f ∙ (ap (λ y. map unmarked bs ++ y ∷ []) e ∙ map-append unmarked bs b))

pub some-grown : (P : ℕ → Type 0) (b : ℕ) (c : Letter) → c ≡ unmarked b → P b → (q : List Letter) → OneOrMore P q → OneOrMore P (q ++ c ∷ [])
some-grown P b c e k q (a, bs, i, h, f) =
    (a, bs ++ b ∷ [], i, each-append P bs b h k, ap (λ x. x ++ c ∷ []) f ∙ (ap (λ y. map unmarked (a ∷ bs) ++ y ∷ []) e ∙ map-append unmarked (a ∷ bs) b))

pub some-one : (P : ℕ → Type 0) (b : ℕ) (c : Letter) → c ≡ unmarked b → P b → OneOrMore P (c ∷ [])
some-one P b c e k = (b, [], k, tt, ap (λ x. x ∷ []) e)

pub some-many : (P : ℕ → Type 0) (q : List Letter) → OneOrMore P q → Many P q
some-many P q (b, bs, i, h, f) = (b ∷ bs, (i, h), f)

pub regroup3 : (A B C D : Language) (p : List Letter) → (A ⋅ B ⋅ C ⋅ D) p → (A ⋅ (B ⋅ C ⋅ D)) p
regroup3 A B C D p h = search (rules, regroup, inside)

pub nil_first : (P : Language) (p : List Letter) → (Empty ⋅ P) p → P p
nil_first P p (a, b, e, h, k) = let f : p ≡ b = e ∙ ap (λ x. x ++ b) h in subst P (sym f) k

-- each part of a text is one of another language
pub each_side : (P P' Q Q' : Language) → ((q : List Letter) → P q → P' q) → ((q : List Letter) → Q q → Q' q) → (p : List Letter) → (P ⋅ Q) p → (P' ⋅ Q') p
each_side P P' Q Q' f g p (a, b, e, h, k) = (a, b, e, f a h, g b k)

-- the bytes of letters
pub bytes-append : (a b : List Letter) → bytes (a ++ b) ≡ bytes a ++ bytes b
bytes-append [] b = refl
bytes-append (c ∷ a) b = ap (λ x. c.byte ∷ x) (bytes-append a b)

pub bytes-plain : (bs : List ℕ) → bytes (plain bs) ≡ bs
bytes-plain [] = refl
bytes-plain (b ∷ bs) = ap (λ x. b ∷ x) (bytes-plain bs)

pub bytes-digits : (bs : List ℕ) → bytes (digits_of bs) ≡ bs
bytes-digits [] = refl
bytes-digits (b ∷ bs) = ap (λ x. b ∷ x) (bytes-digits bs)
