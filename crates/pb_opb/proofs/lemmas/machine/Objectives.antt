-- The first letters of sums and of linear texts, and the texts of objectives: `min:` and white space, and what a machine of
-- sums reads after that.
use Rattle.pb_opb.proofs.Common.{SumEvent, Part, ℕ, List, refl, Term, White, Spaces0, Spells, SpellsSum, after_it, inside, regroup3, regroup⁻¹, ◌⋅◌, Byte}
use Rattle.pb_opb.proofs.Common.{Bytes, Language, Letter, min_word, SpellsObjective, Whites0, ◌++◌, ◌||◌, ◌∙◌, ◌∷◌, ◌≡◌, [], ap, false, IsTrue, nat_eq, sym, ℤ}
use Rattle.pb_opb.proofs.Common.{arith, eqb-true, sums, SumState, is_space, Spaces1, SpellsFurther, SpellsLiteral, SpellsTerm, refuse_or_end, refuse_or_go}
use Rattle.pb_opb.proofs.Common.{digit_dark, ReadsStatement, Refuse, is_blank, is_white, Each, Number, linears}
use Rattle.std.proofs.Math.Bool.{and-true}

white-space : (b : ℕ) → is_space White b ≡ is_white b
white-space b = ap (λ x. is_blank b || x) (and-true (nat_eq b 10))

-- white space is what separates the parts of a sum
pub spaces_white : (bs : List ℕ) → Each (λ b. IsTrue (is_space White b)) bs → Each (λ b. IsTrue (is_white b)) bs
spaces_white [] h = tt
spaces_white (b ∷ bs) h = (sym (white-space b) ∙ h.0, spaces_white bs h.1)

pub whites_space : (bs : List ℕ) → Each (λ b. IsTrue (is_white b)) bs → Each (λ b. IsTrue (is_space White b)) bs
whites_space [] h = tt
whites_space (b ∷ bs) h = (white-space b ∙ h.0, whites_space bs h.1)

-- the first letter is not white space
abbrev pub IsDark : Language
IsDark t = (c : Letter) × (u : List Letter) × (t ≡ c ∷ u) × (is_white c.byte ≡ false)

dark_then : (P Q : Language) → ((t : List Letter) → P t → IsDark t) → (t : List Letter) → (P ⋅ Q) t → IsDark t
dark_then P Q f t (a, b, e, h, k) = let g : IsDark a = f a h in (g.0, g.1 ++ b, e ∙ ap (λ x. x ++ b) g.2, g.3)

number-dark : (limit : ℕ) (z : ℤ) (t : List Letter) → Number limit z t → IsDark t
number-dark limit z t h = grind (arith, digit_dark)

pub sum-dark : (limit : ℕ) (x : Term) (xs : List Term) (P Q : Language) (t : List Letter) → (SpellsSum White limit (x ∷ xs) ⋅ P ⋅ Q) t → IsDark t
sum-dark limit x xs P Q =
    dark_then (SpellsSum White limit (x ∷ xs) ⋅ P) Q
    (dark_then (SpellsSum White limit (x ∷ xs)) P
    (dark_then (SpellsTerm White limit x) (SpellsFurther White limit xs)
    (dark_then (Number limit x.coefficient ⋅ Spaces1 White limit) (SpellsLiteral x.literal)
    (dark_then (Number limit x.coefficient) (Spaces1 White limit) (number-dark limit x.coefficient)))))

-- a byte that a machine rejects does not begin what it reads
taken : (s : SumState) (l : Letter) (t : List Letter) (e : SumEvent) (after : SumState) → ReadsStatement sums s (l ∷ t) e after → sums.step s l.byte ≡ Refuse → ⊥
taken s l t e after h k = grind (arith, refuse_or_end, refuse_or_go)

-- a linear text does not begin with white space, a star or `m`
pub linear_first : (limit : ℕ) (l : Letter) (t : List Letter) (e : SumEvent) (after : SumState) → ReadsStatement sums (linears limit) (l ∷ t) e after
    → (is_white l.byte ≡ false) × (nat_eq l.byte 42 ≡ false) × (nat_eq l.byte 109 ≡ false)
linear_first limit l t e after r = grind (arith, l.byte, taken, eqb-true)

-- `min:` and white space
abbrev pub MinPrefix : Language
MinPrefix = Bytes min_word ⋅ Whites0

module _ (limit : ℕ) where
  whites_many : (t : List Letter) → Spaces0 White limit t → Whites0 t
  whites_many t (bs, h, e) = (bs, spaces_white bs h, e)

  spaces_many : (t : List Letter) → Whites0 t → Spaces0 White limit t
  spaces_many t (bs, h, e) = (bs, whites_space bs h, e)

  module _ (xs : List Term) (t : List Letter) where
    abbrev S : Language
    S = SpellsSum White limit xs

    abbrev Rest : Language
    Rest = Spells White limit Part.Sum (SumEvent.Sum xs)

    pub objective_of : (MinPrefix ⋅ Rest) t → SpellsObjective limit xs t
    objective_of h =
        inside (MinPrefix ⋅ (S ⋅ Whites0)) (MinPrefix ⋅ S ⋅ Whites0) (Byte 59) t (regroup⁻¹ MinPrefix S Whites0)
        (regroup⁻¹ MinPrefix (S ⋅ Whites0) (Byte 59) t
        (after_it MinPrefix Rest (S ⋅ Whites0 ⋅ Byte 59) t
        (λ q r. inside (S ⋅ Spaces0 White limit) (S ⋅ Whites0) (Byte 59) q (λ u. after_it S (Spaces0 White limit) Whites0 u whites_many) r.1) h))

    pub objective_parts : SpellsObjective limit xs t → (MinPrefix ⋅ Rest) t
    objective_parts h =
        after_it MinPrefix (S ⋅ Whites0 ⋅ Byte 59) Rest t
        (λ q r. (refl, inside (S ⋅ Whites0) (S ⋅ Spaces0 White limit) (Byte 59) q (λ u. after_it S Whites0 (Spaces0 White limit) u spaces_many) r))
        (regroup3 MinPrefix S Whites0 (Byte 59) t h)
