-- The form of a written constraint. Offered to other crates.
use Rattle.pb_normal.proofs.Common.{ℕ, ℤ, ◌&&◌, ◌*◌, ◌++◌, ◌+ℤ◌, ◌+◌, ◌-ℤ◌, ◌-◌, ◌<◌, ◌^◌, ◌↔◌, ◌∙◌, ◌∷◌, ◌≡◌, ◌≤ℤ◌, ◌≤◌, [], ap, arith, Bool, cond, drop, eqb}
use Rattle.pb_normal.proofs.Common.{FitsSigned, get_or, inl, inr, length, List, map, neg_ℤ, not, of_z, pos, refl, slice_get, Some, sym, take, to_z, true, ints}
use Rattle.pb_normal.proofs.Common.{unsigned_abs, cases_lt, nat_tests, to_z-of_z, length-append, take-append-drop, true_sum, written_on, map-append, take_more}
use Rattle.pb_normal.proofs.{Common.All-cons, Common.All-nil, lemmas.terms.Totals.size-Adds, lemmas.rules.Sums.at_least_0-is, lemmas.rules.Sums.turned}
use Rattle.pb_normal.proofs.Common.{get_or_from_slice_get, slice_get-get_or, bytes_eq-Decides, w128, All, bytes_eq, Linear, Term, drop_read, Entry, Side}
use Rattle.pb_normal.proofs.Common.{AtLeast, AtMost, Adds, is_below_0, raw_of, shift, AreFormsOf, at_least_0, each, Form, Holds, IsNormal, IsRising, IsWithin}
use Rattle.pb_normal.proofs.Common.{negated_of, negative, plain_of, total, true_at, AreDistinct, has_name, HasNames, number_in, by_number, IsFormOf, IsSideOf}
use Rattle.pb_normal.proofs.Common.{linear_of, magnitude, names_of, on_negations, SameAsForm, SameAsForms, SameSolutions, side_number, side_terms, term_of}
use Rattle.pb_normal.proofs.lemmas.rules.{Unique.Balanced, Unique.IsRising-same, Unique.same_form, Keeps.total-balanced, Keeps.total-past, Keeps.All-below}
use Rattle.pb_normal.proofs.lemmas.names.Numbering.{slice_get-number, number_in-below, number_in-get, number_in-append, has_name-append, AreDistinct-prefix}
use Rattle.pb_sums.specs.declared.linear.Relation.TheVariants.{AtLeast as relation_least, Equal as relation_equal}

pub total-raw : (names : List (List ℕ)) (ts : List Term) → total each (map (raw_of names) ts) ≡ magnitude ts
total-raw names [] = refl
total-raw names (t ∷ ts) = omega (arith, total-raw names ts)

-- a term is on the variable x if and only if its name is the one with that number
same_test : (names : List (List ℕ)) (q name : List ℕ) (x : ℕ) → AreDistinct names → has_name names q ≡ true → slice_get names x ≡ Some name → eqb (number_in names q) x ≡ bytes_eq q name
same_test names q name x d has get = grind (arith, nat_tests, bytes_eq-Decides q name, number_in-get names x name d get, slice_get-number names q has)

signed_same : (z : ℤ) (n e d : Bool) → e ≡ d → (pos (cond (e && not (cond (is_below_0 z) (not n) n)) (unsigned_abs z) 0) -ℤ pos (cond (e && cond (is_below_0 z) (not n) n) (unsigned_abs z) 0)) ≡ cond d (cond n (neg_ℤ z) z) (pos 0)
signed_same z n e d h = grind (arith, ints)

signed-raw : (names : List (List ℕ)) (x : ℕ) (name : List ℕ) (ts : List Term) → AreDistinct names → HasNames names (names_of ts) → slice_get names x ≡ Some name → (pos (total (plain_of x) (map (raw_of names) ts)) -ℤ pos (total (negated_of x) (map (raw_of names) ts))) ≡ written_on name ts
signed-raw names x name [] d h get = refl
signed-raw names x name (t ∷ ts) d h get =
    omega (arith, ints, signed-raw names x name ts d h.1 get, signed_same t.coefficient t.literal.negated _ _ (same_test names t.literal.name name x d h.0 get))

low_one : (z : ℤ) (n : Bool) → pos (cond (cond (is_below_0 z) (not n) n) (unsigned_abs z) 0) ≡ (cond n z (pos 0) +ℤ pos (cond (is_below_0 z) (unsigned_abs z) 0))
low_one z n = grind (arith, ints)

low-raw : (names : List (List ℕ)) (ts : List Term) → pos (total negative (map (raw_of names) ts)) ≡ (on_negations ts +ℤ pos (shift ts))
low-raw names [] = refl
low-raw names (t ∷ ts) = omega (arith, ints, low-raw names ts, low_one t.coefficient t.literal.negated)

true_same : (z : ℤ) (n v w : Bool) → v ≡ w → pos (cond (cond (cond (is_below_0 z) (not n) n) (not v) v) (unsigned_abs z) 0) ≡ (cond (cond n (not w) w) z (pos 0) +ℤ pos (cond (is_below_0 z) (unsigned_abs z) 0))
true_same z n v w h = grind (arith, ints)

true-raw : (names : List (List ℕ)) (a : List ℕ → Bool) (ts : List Term) → HasNames names (names_of ts) → pos (total (true_at (by_number names a)) (map (raw_of names) ts)) ≡ (true_sum a ts +ℤ pos (shift ts))
true-raw names a [] h = refl
true-raw names a (t ∷ ts) h =
    let q = t.literal.name in
    let value : a (get_or names (number_in names q) []) ≡ a q = ap a (get_or_from_slice_get names (number_in names q) q [] (slice_get-number names q h.0)) in
    omega (arith, ints, true-raw names a ts h.1, true_same t.coefficient t.literal.negated _ _ value)

pub All-raw : (names : List (List ℕ)) (ts : List Term) → HasNames names (names_of ts) → All (λ (t : Entry). t.variable < length names) (map (raw_of names) ts)
All-raw names [] h = All-nil (λ (t : Entry). t.variable < length names)
All-raw names (t ∷ ts) h =
    All-cons (λ (u : Entry). u.variable < length names) (raw_of names t) (map (raw_of names) ts) (number_in-below names t.literal.name h.0) (All-raw names ts h.1)

-- what was collected from the terms is their form
pub IsFormOf-from : (names : List (List ℕ)) (ts : List Term) (d : ℤ) (rs : List Entry) (up down gone : ℕ) → AreDistinct names → HasNames names (names_of ts) → (d +ℤ pos down) ≡ pos up → IsRising 0 rs → Adds (map (raw_of names) ts) [] rs gone → IsFormOf names ts d record { terms = rs; degree = up + shift ts - (down + gone) }
IsFormOf-from names ts d rs up down gone distinct has e rising h =
    let raw = map (raw_of names) ts in
    record {
      ordered = rising;
      named = All-below (length names) 0 rs rising (λ x le. omega (arith, h.signed (plain_of x), turned x rs, turned x raw, total-past not x (length names) raw (All-raw names ts has) le, total-past (λ b. b) x (length names) raw (All-raw names ts has) le));
      coefficients = λ x name get. omega (arith, ints, h.signed (plain_of x), turned x rs, turned x raw, signed-raw names x name ts distinct has get);
      degree = sym (at_least_0-is ((d -ℤ on_negations ts) +ℤ pos (total negative rs)) (up + shift ts) (down + gone) (omega (arith, ints, h.lows, low-raw names ts)));
    }

-- a form of the terms has their coefficients
Balanced-raw : (names : List (List ℕ)) (ts : List Term) (d : ℤ) (r : Form) → AreDistinct names → HasNames names (names_of ts) → IsFormOf names ts d r → Balanced r.terms (map (raw_of names) ts)
Balanced-raw names ts d r distinct has f x =
    let raw = map (raw_of names) ts in
    elim (cases_lt x (length names)) [
      | inl lt ↦
          let get = slice_get-get_or names x [] lt in omega (arith, ints, f.coefficients x _ get, signed-raw names x _ ts distinct has get)
      | inr ge ↦
          omega (arith, total-past not x (length names) raw (All-raw names ts has) ge, total-past (λ b. b) x (length names) raw (All-raw names ts has) ge, total-past not x (length names) r.terms f.named ge, total-past (λ b. b) x (length names) r.terms f.named ge)
    ]

at_least_0-below : (z : ℤ) (n : ℕ) → (at_least_0 z ≤ n) ↔ (z ≤ℤ pos n)
at_least_0-below z n = grind (arith, ints)

-- a form of the terms holds if and only if their sum is at least the degree
pub Holds-form : (names : List (List ℕ)) (ts : List Term) (d : ℤ) (r : Form) → AreDistinct names → HasNames names (names_of ts) → IsFormOf names ts d r → (a : List ℕ → Bool) → Holds (by_number names a) r ↔ (d ≤ℤ true_sum a ts)
Holds-form names ts d r distinct has f a =
    let kept = total-balanced (by_number names a) r.terms (map (raw_of names) ts) (Balanced-raw names ts d r distinct has f) in
    grind (arith, ints, kept, f.degree, at_least_0-below, true-raw names a ts has, low-raw names ts)

pub IsFormOf-unique : (names : List (List ℕ)) (ts : List Term) (d : ℤ) (r s : Form) → IsFormOf names ts d r → IsFormOf names ts d s → r ≡ s
IsFormOf-unique names ts d r s p q =
    let balanced : Balanced r.terms s.terms = λ x.
    elim (cases_lt x (length names)) [
      | inl lt ↦
          let get = slice_get-get_or names x [] lt in omega (arith, ints, p.coefficients x _ get, q.coefficients x _ get)
      | inr ge ↦
          omega (arith, total-past not x (length names) s.terms q.named ge, total-past (λ b. b) x (length names) s.terms q.named ge, total-past not x (length names) r.terms p.named ge, total-past (λ b. b) x (length names) r.terms p.named ge)
    ] in
    let terms = IsRising-same 0 r.terms s.terms p.ordered q.ordered balanced in
    same_form r.terms s.terms r.degree s.degree terms (p.degree ∙ rw terms (sym q.degree))

-- forms of the same sides are equal if each sum has only one form
pub same_forms : ((names : List (List ℕ)) (ts : List Term) (d : ℤ) (r s : Form) → IsFormOf names ts d r → IsFormOf names ts d s → r ≡ s)
    → (names : List (List ℕ)) (sides : List (Side × Linear)) (fs gs : List Form) → AreFormsOf names sides fs → AreFormsOf names sides gs → fs ≡ gs
same_forms unique names [] [] [] h k = refl
same_forms unique names (s ∷ sides) (f ∷ fs) (g ∷ gs) h k = grind (arith, unique names _ _ f g h.0 k.0, same_forms unique names sides fs gs h.1 k.1)
same_forms unique names _ _ _ h k = grind arith

-- the two sides
pub names_of-side : (side : Side) (ts : List Term) → names_of (side_terms side ts) ≡ names_of ts
names_of-side side [] = refl
names_of-side side (t ∷ ts) = ap (λ (ns : List (List ℕ)). t.literal.name ∷ ns) (names_of-side side ts)

pub magnitude_one : (side : Side) (z : ℤ) → unsigned_abs (side_number side z) ≡ unsigned_abs z
magnitude_one side z = grind (arith, ints)

pub magnitude-side : (side : Side) (ts : List Term) → magnitude (side_terms side ts) ≡ magnitude ts
magnitude-side side [] = refl
magnitude-side side (t ∷ ts) = omega (arith, magnitude-side side ts, magnitude_one side t.coefficient)

true_sum-least : (a : List ℕ → Bool) (ts : List Term) → true_sum a (side_terms AtLeast ts) ≡ true_sum a ts
true_sum-least a [] = refl
true_sum-least a (t ∷ ts) = omega (arith, ints, true_sum-least a ts)

true_sum-most : (a : List ℕ → Bool) (ts : List Term) → true_sum a (side_terms AtMost ts) ≡ neg_ℤ (true_sum a ts)
true_sum-most a [] = refl
true_sum-most a (t ∷ ts) = grind (arith, ints, true_sum-most a ts)

HasNames-side : (names : List (List ℕ)) (side : Side) (ts : List Term) → HasNames names (names_of ts) → HasNames names (names_of (side_terms side ts))
HasNames-side names side ts h = rw (names_of-side side ts) h

-- the form of a side holds if and only if the side does
pub SameSolutions-side : (names : List (List ℕ)) (side : Side) (linear : Linear) (r : Form) → AreDistinct names → HasNames names (names_of linear.terms) → IsSideOf names side linear r → SameSolutions names side linear r
SameSolutions-side names side linear r distinct has f a =
    let whole = Holds-form names _ _ r distinct (HasNames-side names side linear.terms has) f a in
    grind (arith, ints, whole, side, true_sum-least a linear.terms, true_sum-most a linear.terms)

raw-append : (names more : List (List ℕ)) (ts : List Term) → HasNames names (names_of ts) → map (raw_of (names ++ more)) ts ≡ map (raw_of names) ts
raw-append names more [] h = refl
raw-append names more (t ∷ ts) h = grind (arith, number_in-append names more t.literal.name h.0, raw-append names more ts h.1)

pub HasNames-append : (names more ns : List (List ℕ)) → HasNames names ns → HasNames (names ++ more) ns
HasNames-append names more [] h = tt
HasNames-append names more (n ∷ ns) h = (has_name-append names more n h.0, HasNames-append names more ns h.1)

-- a form remains the form of its terms if more names appear
pub IsFormOf-append : (names more : List (List ℕ)) (ts : List Term) (d : ℤ) (r : Form) → AreDistinct (names ++ more) → HasNames names (names_of ts) → IsFormOf names ts d r → IsFormOf (names ++ more) ts d r
IsFormOf-append names more ts d r distinct has f =
    let balanced = Balanced-raw names ts d r (AreDistinct-prefix names more distinct) has f in
    record {
      ordered = f.ordered;
      named = λ i t lt. omega (arith, f.named i t lt, length-append names more);
      coefficients = λ x name get.
          let signed = rw (raw-append names more ts has) at (signed-raw (names ++ more) x name ts distinct (HasNames-append names more _ has) get) in
          omega (arith, ints, signed, balanced x);
      degree = f.degree;
    }

pub IsSideOf-append : (names more : List (List ℕ)) (side : Side) (linear : Linear) (r : Form) → AreDistinct (names ++ more) → HasNames names (names_of linear.terms) → IsSideOf names side linear r → IsSideOf (names ++ more) side linear r
IsSideOf-append names more side linear r distinct has f = IsFormOf-append names more _ _ r distinct (HasNames-side names side linear.terms has) f

-- a constraint, by its relation
pub SameAsForm-from : (names : List (List ℕ)) (linear : Linear) (r : Form) → linear.relation ≡ relation_least → SameSolutions names AtLeast linear r → SameAsForm names linear r
SameAsForm-from names linear r e h a = rw e ((h a).1, (h a).0)

pub SameAsForms-from : (names : List (List ℕ)) (linear : Linear) (r s : Form) → linear.relation ≡ relation_equal → SameSolutions names AtLeast linear r → SameSolutions names AtMost linear s → SameAsForms names linear r s
SameAsForms-from names linear r s e h k a = grind (arith, ints, e, h a, k a)

-- the magnitude of one term is at most that of the whole
pub magnitude-append : (xs ys : List Term) → magnitude (xs ++ ys) ≡ magnitude xs + magnitude ys
magnitude-append [] ys = omega arith
magnitude-append (x ∷ xs) ys = omega (arith, magnitude-append xs ys)

pub magnitude-read : (ts : List Term) (i : ℕ) (t : Term) → i < length ts → t ≡ get_or ts i t → unsigned_abs t.coefficient ≤ magnitude ts
magnitude-read ts i t lt e = grind (arith, magnitude-append (take i ts) (drop i ts), take-append-drop, drop_read)

pub shift-le : (ts : List Term) → shift ts ≤ magnitude ts
shift-le [] = omega arith
shift-le (t ∷ ts) = grind (arith, shift-le ts)

pub shift-side-le : (side : Side) (ts : List Term) → shift (side_terms side ts) ≤ magnitude ts
shift-side-le side ts = omega (arith, shift-le (side_terms side ts), magnitude-side side ts)

-- what holds for a side after all has been collected
pub record Collected (names : List (List ℕ)) (side : Side) (linear : Linear) (rs : List Entry) (up down gone limit : ℕ) : Type 0 where
  pub small : magnitude linear.terms + unsigned_abs linear.degree ≤ limit
  pub distinct : AreDistinct names
  pub named : HasNames names (names_of linear.terms)
  pub difference : (side_number side linear.degree +ℤ pos down) ≡ pos up
  pub parts : up + down ≡ unsigned_abs linear.degree
  pub rising : IsRising 0 rs
  pub adds : Adds (map (raw_of names) (side_terms side linear.terms)) [] rs gone

-- the same, derived from the contracts of the steps
pub Collected-from : (names : List (List ℕ)) (side : Side) (linear : Linear) (ts : List Term) (raw rs : List Entry) (z : ℤ) (up down gone limit : ℕ) → FitsSigned w128 linear.degree → FitsSigned w128 z → ts ≡ linear.terms → magnitude linear.terms + unsigned_abs linear.degree ≤ limit → AreDistinct names → HasNames names (names_of ts) → z ≡ side_number side (to_z w128 (of_z w128 linear.degree)) → (to_z w128 (of_z w128 z) +ℤ pos down) ≡ pos up → up + down ≡ unsigned_abs (to_z w128 (of_z w128 z)) → IsRising 0 rs → raw ≡ map (raw_of names) (side_terms side ts) → Adds raw [] rs gone → Collected names side linear rs up down gone limit
Collected-from names side linear ts raw rs z up down gone limit fits z_fits same small distinct named sign difference parts rising entries adds = grind (arith, to_z-of_z, linear.degree, magnitude_one)

-- the sizes of the collected terms and of what cancelled
pub size-Collected : (names : List (List ℕ)) (side : Side) (linear : Linear) (rs : List Entry) (up down gone limit : ℕ) → Collected names side linear rs up down gone limit → total each rs + 2 * gone ≡ magnitude linear.terms
size-Collected names side linear rs up down gone limit k =
    omega (arith, size-Adds _ _ _ _ k.adds, total-raw names (side_terms side linear.terms), magnitude-side side linear.terms)

pub IsNormal-Collected : (names : List (List ℕ)) (side : Side) (linear : Linear) (rs : List Entry) (up down gone limit : ℕ) → limit < 2 ^ 127 → Collected names side linear rs up down gone limit → IsNormal record { terms = rs; degree = up + shift (side_terms side linear.terms) - (down + gone) }
IsNormal-Collected names side linear rs up down gone limit room k =
    grind (arith, k.rising, k.small, k.parts, size-Collected names side linear rs up down gone limit k, shift-side-le side linear.terms)

pub IsWithin-Collected : (names : List (List ℕ)) (side : Side) (linear : Linear) (rs : List Entry) (up down gone limit : ℕ) → Collected names side linear rs up down gone limit → IsWithin limit record { terms = rs; degree = up + shift (side_terms side linear.terms) - (down + gone) }
IsWithin-Collected names side linear rs up down gone limit k =
    grind (arith, k.small, k.parts, size-Collected names side linear rs up down gone limit k, shift-side-le side linear.terms)

pub IsSideOf-Collected : (names : List (List ℕ)) (side : Side) (linear : Linear) (rs : List Entry) (up down gone limit : ℕ) → Collected names side linear rs up down gone limit → IsSideOf names side linear record { terms = rs; degree = up + shift (side_terms side linear.terms) - (down + gone) }
IsSideOf-Collected names side linear rs up down gone limit k =
    IsFormOf-from names (side_terms side linear.terms) (side_number side linear.degree) rs up down gone k.distinct (HasNames-side names side linear.terms k.named) k.difference k.rising k.adds

-- a form that is written with names holds if and only if the form does
true_sum-terms : (names : List (List ℕ)) (a : List ℕ → Bool) (ts : List Entry) → true_sum a (map (term_of names) ts) ≡ pos (total (true_at (by_number names a)) ts)
true_sum-terms names a [] = refl
true_sum-terms names a (t ∷ ts) = grind (arith, ints, true_sum-terms names a ts)

pub SameAsForm-linear_of : (names : List (List ℕ)) (f : Form) → SameAsForm names (linear_of names f) f
SameAsForm-linear_of names f a = grind (arith, true_sum-terms, f.terms)

-- the term of an entry whose variable has this name
abbrev pub term_named : List ℕ → Entry → Term
term_named name t = record { coefficient = pos t.coefficient; literal = record { name = name; negated = t.negated } }

-- one more term
pub terms_push : (names : List (List ℕ)) (ts : List Entry) (i : ℕ) (d : Entry) (out : List Term) (name : List ℕ) → i < length ts → slice_get names (get_or ts i d).variable ≡ Some name → out ≡ map (term_of names) (take i ts) → out ++ term_named name (get_or ts i d) ∷ [] ≡ map (term_of names) (take (i + 1) ts)
terms_push names ts i d out name lt get e =
    let t = get_or ts i d in
    let same = get_or_from_slice_get names t.variable name [] get in
    let last = ap (λ n. term_named n t) (sym same) in rw (take_more ts i d lt, map-append, e, last) refl
