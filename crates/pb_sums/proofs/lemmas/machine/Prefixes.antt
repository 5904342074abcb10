-- What comes before a state: the text that the machine has read is a part of the grammar.
use Rattle.pb_sums.proofs.Common.{ℕ, ◌++◌, ◌∷◌, [], List, refl, after_it, nil_first, none_yet, regroup, regroup3, ◌⋅◌, Empty, Language, Letter, Term, Spaces}
use Rattle.pb_sums.proofs.Common.{Spaces1, SpellsFurther, SpellsSum, SpellsTerm}

abbrev pub IsCons : List Term → Type 0
IsCons [] = ⊥
IsCons (x ∷ xs) = Unit {0}

pub cons-append : (xs : List Term) (x : Term) → IsCons (xs ++ x ∷ [])
cons-append [] x = tt
cons-append (y ∷ xs) x = tt

module _ (spaces : Spaces) (limit : ℕ) where
  further-append : (ys : List Term) (x : Term) (p : List Letter) → (SpellsFurther spaces limit ys ⋅ Spaces1 spaces limit ⋅ SpellsTerm spaces limit x) p → SpellsFurther spaces limit (ys ++ x ∷ []) p
  further-append [] x p h =
      let S : Language = Spaces1 spaces limit in
      let T : Language = SpellsTerm spaces limit x in none_yet (S ⋅ T) Empty p refl (nil_first (S ⋅ T) p (regroup Empty S T p h))
  further-append (z ∷ zs) x p h =
      let S : Language = Spaces1 spaces limit in
      let A : Language = S ⋅ SpellsTerm spaces limit z in
      let F : Language = SpellsFurther spaces limit zs in
      let T : Language = SpellsTerm spaces limit x in
      after_it A (F ⋅ S ⋅ T) (SpellsFurther spaces limit (zs ++ x ∷ [])) p (further-append zs x) (regroup3 A F S T p h)

  -- what comes before a further term
  abbrev pub Before : List Term → Language
  Before [] = Empty
  Before (x ∷ xs) = SpellsSum spaces limit (x ∷ xs) ⋅ Spaces1 spaces limit

  pub sum-append : (xs : List Term) (x : Term) (p : List Letter) → (Before xs ⋅ SpellsTerm spaces limit x) p → SpellsSum spaces limit (xs ++ x ∷ []) p
  sum-append [] x p h = let T : Language = SpellsTerm spaces limit x in none_yet T Empty p refl (nil_first T p h)
  sum-append (y ∷ ys) x p h =
      let A : Language = SpellsTerm spaces limit y in
      let F : Language = SpellsFurther spaces limit ys in
      let S : Language = Spaces1 spaces limit in
      let T : Language = SpellsTerm spaces limit x in
      after_it A (F ⋅ S ⋅ T) (SpellsFurther spaces limit (ys ++ x ∷ [])) p (further-append ys x) (regroup3 A F S T p h)
