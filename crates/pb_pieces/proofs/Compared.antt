-- One more token, compared and given.
use Rattle.pb_pieces.proofs.Common.{ℕ, ◌++◌, ◌+◌, ◌∙◌, ◌∷◌, ◌≡◌, ◌⊎◌, [], ap, arith, inl, inr, length, length-append, List, map, refl, Some, subst, suc, sym}
use Rattle.pb_pieces.proofs.Common.{take, true, zero, slice_get, length-map, map_push, Arrays, IsGivenAt, token_in, AreFirst, Compared, Token, GivenToken}
use Rattle.pb_pieces.specs.declared.matcher.Matcher.{Matcher}
use Rattle.std.proofs.lemmas.{List.take_more, Option.get_or_from_slice_get, Option.none-some, Option.same_Some, Option.slice_get_within}

take_next : {A : Type 0} (xs : List A) (n : ℕ) (x : A) → slice_get xs n ≡ Some x → take (n + 1) xs ≡ take n xs ++ x ∷ []
take_next {A} xs n x got = take_more xs n x (slice_get_within xs n x got) ∙ ap (λ (y : A). take n xs ++ y ∷ []) (get_or_from_slice_get xs n x x got)

-- the next given token is this one
pub one_more : (tokens : List Token) (t : Token) (count : ℕ) (given : List GivenToken) (g : GivenToken) → AreFirst tokens count given → slice_get given count ≡ Some g → token_in g ≡ t
    → AreFirst (tokens ++ t ∷ []) (count + 1) given
one_more tokens t count given g h got is =
    record {
      within = omega (arith, slice_get_within given count g got);
      same = ap (λ (ts : List Token). ts ++ t ∷ []) h.same
          ∙ (ap (λ (u : Token). map token_in (take count given) ++ u ∷ []) (sym is)
          ∙ (sym (map_push token_in (take count given) g) ∙ ap (λ (gs : List GivenToken). map token_in gs) (sym (take_next given count g got))));
    }

pub one_compared : (start : List GivenToken) (tokens : List Token) (t : Token) (old new : Matcher) (g : GivenToken) → Compared start tokens old → old.same ≡ true
    → new ≡ record old { count = old.count + 1 } → slice_get old.given.items old.count ≡ Some g → token_in g ≡ t → Compared start (tokens ++ t ∷ []) new
one_compared start tokens t old new g h same is got found =
    subst (λ (m : Matcher). Compared start (tokens ++ t ∷ []) m) (sym is)
    (record {
      given_are = h.given_are;
      first = λ _. one_more tokens t old.count start g (h.first same) (ap (λ (gs : List GivenToken). slice_get gs old.count) (sym h.given_are) ∙ got) found;
    })

-- an element of a list that has grown by one
last_or_before : {A : Type 0} (xs : List A) (x : A) (j : ℕ) (t : A) → slice_get (xs ++ x ∷ []) j ≡ Some t → (slice_get xs j ≡ Some t) ⊎ ((j ≡ length xs) × (x ≡ t))
last_or_before [] x zero t e = inr (refl, same_Some x t e)
last_or_before [] x (suc j) t e = absurd (none-some t e)
last_or_before (y ∷ xs) x zero t e = inl e
last_or_before (y ∷ xs) x (suc j) t e = elim (last_or_before xs x j t e) [
  | inl h ↦ inl h
  | inr h ↦ inr (omega (arith, h.0), h.1)
]

module _ (a : Arrays) where
  -- the arrays have one more token
  pub given_more : (given : List GivenToken) (g : GivenToken) (n : ℕ) → length given ≡ n
      → ((i : ℕ) (t : Token) → slice_get (map token_in given) i ≡ Some t → IsGivenAt a i t) → IsGivenAt a n (token_in g)
      → (i : ℕ) (t : Token) → slice_get (map token_in (given ++ g ∷ [])) i ≡ Some t → IsGivenAt a i t
  given_more given g n size before one i t e =
      elim (last_or_before (map token_in given) (token_in g) i t (ap (λ (ts : List Token). slice_get ts i) (sym (map_push token_in given g)) ∙ e)) [
        | inl h ↦ before i t h
        | inr h ↦ subst (λ (u : Token). IsGivenAt a i u) h.1
            (subst (λ (k : ℕ). IsGivenAt a k (token_in g)) (sym (h.0 ∙ (length-map given token_in ∙ size))) one)
      ]

  pub given_next : (given new : List GivenToken) (g : GivenToken) (n : ℕ) → new ≡ given ++ g ∷ [] → length given ≡ n
      → ((i : ℕ) (t : Token) → slice_get (map token_in given) i ≡ Some t → IsGivenAt a i t) → IsGivenAt a n (token_in g)
      → (length new ≡ n + 1) × ((i : ℕ) (t : Token) → slice_get (map token_in new) i ≡ Some t → IsGivenAt a i t)
  given_next given new g n is size before one = rw is (length-append given (g ∷ []) ∙ ap (λ (k : ℕ). k + 1) size, given_more given g n size before one)
