-- Lists of items with blanks before each.
use Rattle.pb_proof.proofs.Common.{◌∙◌, ◌∷◌, ◌++◌, [], ap, refl, rules, subst, sym, List, append-nil, append_assoc}
use Rattle.pb_proof.proofs.Common.{◌⋅◌, after_it, none_yet, regroup3, Automaton, Blanks1, Empty, Language, Letter, Listed, Walks, walks_then}

-- One more item of a list, with blanks before it.
module _ {A : Type 0} (P : A → Language) where
  pub listed_append : (xs : List A) (x : A) (p : List Letter) → (Listed P xs ⋅ Blanks1 ⋅ P x) p → Listed P (xs ++ x ∷ []) p
  listed_append [] x p (ab, c, e, (a, b, f, h, i), k) =
      none_yet (Blanks1 ⋅ P x) Empty p refl (b, c, e ∙ ap (λ y. y ++ c) (f ∙ ap (λ y. y ++ b) h), i, k)
  listed_append (y ∷ xs) x p h = search (rules, after_it, regroup3, listed_append xs x)

  -- If each further item leads on, a state after a part of a list leads to a state after the whole list.
  pub listed_walks : {S E : Type 0} (m : Automaton S E) (At : List A → S → Type 0)
      → ((xs : List A) (x : A) (s : S) (t : List Letter) → At xs s → (Blanks1 ⋅ P x) t → (next : S) × Walks m s t next × At (xs ++ x ∷ []) next)
      → (xs ys : List A) (s : S) (t : List Letter) → At xs s → Listed P ys t → (next : S) × Walks m s t next × At (xs ++ ys) next
  listed_walks m At f xs [] s t i e = (s, subst (λ x. Walks m s x s) (sym e) refl, subst (λ x. At x s) (sym (append-nil xs)) i)
  listed_walks m At f xs (y ∷ ys) s t i (a, b, e, h, k) =
      let (mid, w, j) = f xs y s a i h in
      let (next, v, g) = listed_walks m At f (xs ++ y ∷ []) ys mid b j k in
      (next, subst (λ x. Walks m s x next) (sym e) (walks_then m a b s mid next w v), subst (λ x. At x next) (append_assoc xs (y ∷ []) ys) g)
