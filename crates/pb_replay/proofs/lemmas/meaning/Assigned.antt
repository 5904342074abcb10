-- Names and their numbers, assignments of both, and sums of the terms that are true
use Rattle.{pb_normal.proofs.lemmas.names.Appearing.named, pb_text.proofs.lemmas.numbers.Numbers.largest_small, std.proofs.lemmas.List.length-take}
use Rattle.pb_replay.proofs.Common.{ℕ, ℤ, ◌++◌, ◌<◌, ◌∙◌, ◌∷◌, ◌≡◌, ◌≤◌, [], All, ap, append_assoc, arith, Bool, cond, get_or, length, length-append, List, not}
use Rattle.pb_replay.proofs.Common.{pos, refl, Some, sym, true, ◌↔◌, All-head, All-tail, slice_get-get_or, prefix, number_in-append, number_in-below}
use Rattle.pb_replay.proofs.Common.{number_in-get, SameSolutions-side, Side, Entry, Form, Holds, total, true_at, AreDistinct, has_name, HasNames, number_in}
use Rattle.pb_replay.proofs.Common.{with_names, by_number, IsSideOf, MeetsSide, names_of, true_sum, Linear, Term, IsNamePrefix, IsProblem, objective_of}
use Rattle.pb_replay.proofs.Common.{Problem, by_name, value, ◌+◌, subst, suc, take, zero, All-push, in_turn, NumberedLiteral, with_name, PolWord, Literal}
use Rattle.pb_replay.proofs.Common.{take_read, numbered, numbered_one, literal_names, word_names, None, Option, ◌+ℤ◌, ◌^◌, drop, FitsSigned, unsigned_abs}
use Rattle.pb_replay.proofs.Common.{option_map, fits_signed_from_abs, ints, take-append-drop, w128, HasNames-append, magnitude-append, magnitude, IsProper}
use Rattle.pb_replay.proofs.Common.{problem_of, Running, inl, Ok, present, IsFormOf, side_number, side_terms, largest, IsInside, HasObjective}

-- a prefix of the names stays one when more appear
pub IsNamePrefix-more : (names all others : List (List ℕ)) → IsNamePrefix names all
    → IsNamePrefix names (with_names all others)
IsNamePrefix-more names all others (more, e) =
    let last = prefix all others in (more ++ last.0, last.1 ∙ ap (λ (ns : List (List ℕ)). ns ++ last.0) e ∙ append_assoc names more last.0)

pub length-prefix : (names all : List (List ℕ)) → IsNamePrefix names all → length names ≤ length all
length-prefix names all (more, e) = omega (arith, ap length e, length-append names more)

-- a sum is the same at assignments that agree on its names
same_part : (b c : Bool) (n : Bool) (z : ℤ) → b ≡ c → cond (cond n (not b) b) z (pos 0) ≡ cond (cond n (not c) c) z (pos 0)
same_part b c n z e = rw e refl

pub true_sum-agree : (a b : List ℕ → Bool) (names : List (List ℕ)) (ts : List Term) → HasNames names (names_of ts) → ((q : List ℕ) → has_name names q ≡ true → a q ≡ b q) → true_sum a ts ≡ true_sum b ts
true_sum-agree a b names [] has h = refl
true_sum-agree a b names (t ∷ ts) has h =
    let first = same_part (a t.literal.name) (b t.literal.name) t.literal.negated t.coefficient (h t.literal.name has.0) in
    let rest = true_sum-agree a b names ts has.1 h in rw (first, rest) refl

-- a form depends only on its variables
true_at-agree : (a b : ℕ → Bool) (v : ℕ) (n : Bool) → a v ≡ b v → true_at a v n ≡ true_at b v n
true_at-agree a b v n e = grind arith

total-agree : (a b : ℕ → Bool) (n : ℕ) (ts : List Entry) → All (λ t. t.variable < n) ts → ((x : ℕ) → x < n → a x ≡ b x) → total (true_at a) ts ≡ total (true_at b) ts
total-agree a b n [] h e = refl
total-agree a b n (t ∷ ts) h e =
    let here : t.variable < n = All-head (λ (u : Entry). u.variable < n) t ts h in
    let first = ap (λ (c : Bool). cond c t.coefficient 0) (true_at-agree a b t.variable t.negated (e t.variable here)) in
    omega (arith, first, total-agree a b n ts (All-tail (λ (u : Entry). u.variable < n) t ts h) e)

pub Holds-agree : (a b : ℕ → Bool) (n : ℕ) (f : Form) → All (λ t. t.variable < n) f.terms → ((x : ℕ) → x < n → a x ≡ b x) → Holds a f → Holds b f
Holds-agree a b n f h e holds = omega (arith, holds, total-agree a b n f.terms h e)

-- from numbers to names and back
pub back : (names : List (List ℕ)) (a : ℕ → Bool) (x : ℕ) → AreDistinct names → x < length names → by_number names (by_name names a) x ≡ a x
back names a x d lt = ap a (number_in-get names x (get_or names x []) d (slice_get-get_or names x [] lt))

-- the form of a side holds at an assignment of numbers if and only if the side does
pub side-holds : (names : List (List ℕ)) (side : Side) (linear : Linear) (r : Form) (a : ℕ → Bool) → AreDistinct names → HasNames names (names_of linear.terms) → IsSideOf names side linear r → Holds a r ↔ MeetsSide (by_name names a) side linear
side-holds names side linear r a d has f =
    let same = SameSolutions-side names side linear r d has f (by_name names a) in (
      λ h. same.0 (Holds-agree a (by_number names (by_name names a)) (length names) r f.named (λ x lt. sym (back names a x d lt)) h),
      λ h. Holds-agree (by_number names (by_name names a)) a (length names) r f.named (λ x lt. back names a x d lt) (same.1 h),
    )

-- the objective's value
pub value-is : (v : Problem) (o : List Term) (a : ℕ → Bool) → v.objective ≡ Some o → value v a ≡ true_sum (by_name v.names a) o
value-is v o a e = ap (λ x. true_sum (by_name v.names a) (objective_of x)) e

pub objective-named : (v : Problem) (o : List Term) → IsProblem v → v.objective ≡ Some o → HasNames v.names (names_of o)
objective-named v o p e = grind (arith, v.names, v.objective, p.named)

pub value-over : (v : Problem) (names : List (List ℕ)) (o : List Term) (a : ℕ → Bool) → IsProblem v → IsNamePrefix v.names names → v.objective ≡ Some o → true_sum (by_name names a) o ≡ value v a
value-over v names o a p (more, e) is =
    let same : (q : List ℕ) → has_name v.names q ≡ true → by_name (v.names ++ more) a q ≡ by_name v.names a q = λ q h. ap a (number_in-append v.names more q h) in
    rw e (true_sum-agree (by_name (v.names ++ more) a) (by_name v.names a) v.names o (objective-named v o p is) same ∙ sym (value-is v o a is))

pub value-agree : (v : Problem) (a b : ℕ → Bool) → IsProblem v → ((k : ℕ) → k < length v.names → a k ≡ b k) → value v a ≡ value v b
value-agree v a b p same =
    true_sum-agree (by_name v.names a) (by_name v.names b) v.names (objective_of v.objective) p.named (λ q h. same (number_in v.names q) (number_in-below v.names q h))

pub words_named : (old new : List (List ℕ)) (ws vs us : List PolWord) → new ≡ with_names old (word_names ws) → ws ≡ us → vs ≡ us → HasNames new (word_names vs)
words_named old new ws vs us e f g = rw (e, g, ← f) (named old (word_names ws))

pub names_named : (old new : List (List ℕ)) (others : List (List ℕ)) → new ≡ with_names old others → HasNames new others
names_named old new others e = subst (λ (ns : List (List ℕ)). HasNames ns others) (sym e) (named old others)

literal_names-append : (xs ys : List Literal) → literal_names (xs ++ ys) ≡ literal_names xs ++ literal_names ys
literal_names-append [] ys = refl
literal_names-append (x ∷ xs) ys = ap (λ (ns : List (List ℕ)). x.name ∷ ns) (literal_names-append xs ys)

numbered-append : (names : List (List ℕ)) (xs ys : List Literal) → numbered names (xs ++ ys) ≡ numbered names xs ++ numbered names ys
numbered-append names [] ys = refl
numbered-append names (x ∷ xs) ys = ap (λ (ls : List NumberedLiteral). numbered_one names x ∷ ls) (numbered-append names xs ys)

module _ (given : List Literal) (i : ℕ) (l : Literal) (lt : i < length given) (e : l ≡ get_or given i l) where
  pub next-names : (old names new : List (List ℕ)) → names ≡ with_names old (literal_names (take i given)) → new ≡ with_name names l.name → new ≡ with_names old (literal_names (take (i + 1) given))
  next-names old names new before k =
      let all = ap literal_names (take_read given i l l lt e) ∙ literal_names-append (take i given) (l ∷ []) in
      k ∙ ap (λ (ns : List (List ℕ)). with_name ns l.name) before ∙ sym (in_turn old (literal_names (take i given)) (l.name ∷ [])) ∙ ap (with_names old) (sym all)

  pub one-named : (names : List (List ℕ)) → HasNames names (literal_names given) → has_name names l.name ≡ true
  one-named names h = at given i l lt e h
    where
      at : (ls : List Literal) (j : ℕ) (k : Literal) → j < length ls → k ≡ get_or ls j k → HasNames names (literal_names ls) → has_name names k.name ≡ true
      at [] j k less is has = absurd (omega (arith, less))
      at (x ∷ ls) zero k less is has = subst (λ (y : Literal). has_name names y.name ≡ true) (sym is) has.0
      at (x ∷ ls) (suc j) k less is has = at ls j k (omega (arith, less)) is has.1

  pub next-numbers : (names : List (List ℕ)) → HasNames names (literal_names given) → (n : ℕ) → n ≡ number_in names l.name → (out new : List NumberedLiteral) → (out ≡ numbered names (take i given)) × All (λ x. x.variable < length names) out → new ≡ out ++ record { variable = n; negated = l.negated } ∷ []
      → (new ≡ numbered names (take (i + 1) given)) × All (λ x. x.variable < length names) new
  next-numbers names h n is out new before k = (
    k ∙ ap (λ (ls : List NumberedLiteral). ls ++ record { variable = n; negated = l.negated } ∷ []) before.0 ∙ ap (λ m. numbered names (take i given) ++ record { variable = m; negated = l.negated } ∷ []) is
        ∙ sym (ap (numbered names) (take_read given i l l lt e) ∙ numbered-append names (take i given) (l ∷ [])),
    subst (λ (ls : List NumberedLiteral). All (λ x. x.variable < length names) ls) (sym k)
        (All-push (λ (x : NumberedLiteral). x.variable < length names) out (record { variable = n; negated = l.negated }) before.1 (omega (arith, is, number_in-below names l.name (one-named names h)))),
  )

pub position-none : (names : List (List ℕ)) (name : List ℕ) (o : Option ℕ) → has_name names name ≡ true → o ≡ cond (has_name names name) (Some (number_in names name)) None → o ≡ None → ⊥
position-none names name o has e none = grind (arith)

pub true_sum-append : (a : List ℕ → Bool) (xs ys : List Term) → true_sum a (xs ++ ys) ≡ (true_sum a xs +ℤ true_sum a ys)
true_sum-append a [] ys = omega (arith, ints)
true_sum-append a (x ∷ xs) ys = omega (arith, ints, true_sum-append a xs ys)

pub magnitude-prefix : (ts : List Term) (k : ℕ) → magnitude (take k ts) ≤ magnitude ts
magnitude-prefix ts k = omega (arith, magnitude-append (take k ts) (drop k ts), ap magnitude (take-append-drop k ts))

-- one more term
module _ (ts : List Term) (i : ℕ) (t : Term) (lt : i < length ts) (e : t ≡ get_or ts i t) where
  pub sum-more : (a : List ℕ → Bool) → true_sum a (take (i + 1) ts) ≡ (true_sum a (take i ts) +ℤ true_sum a (t ∷ []))
  sum-more a = ap (true_sum a) (take_read ts i t t lt e) ∙ true_sum-append a (take i ts) (t ∷ [])

  pub magnitude-more : magnitude (take (i + 1) ts) ≡ magnitude (take i ts) + unsigned_abs t.coefficient
  magnitude-more = let all = ap magnitude (take_read ts i t t lt e) ∙ magnitude-append (take i ts) (t ∷ []) in omega (arith, all)

  pub next-small : (sum part : ℤ) → unsigned_abs sum ≤ magnitude (take i ts) → unsigned_abs part ≤ unsigned_abs t.coefficient → unsigned_abs (sum +ℤ part) ≤ magnitude (take (i + 1) ts)
  next-small sum part h k = omega (arith, ints, magnitude-more, h, k)

  pub next-fits : (sum part : ℤ) → unsigned_abs sum ≤ magnitude (take i ts) → unsigned_abs part ≤ unsigned_abs t.coefficient → magnitude ts < 2 ^ 127 → FitsSigned w128 (sum +ℤ part)
  next-fits sum part h k small = fits_signed_from_abs w128 (sum +ℤ part) (omega (arith, next-small sum part h k, magnitude-prefix ts (i + 1), small))

  pub has-one : (names : List (List ℕ)) → HasNames names (names_of ts) → has_name names t.literal.name ≡ true
  has-one names h = at ts i t lt e h
    where
      at : (us : List Term) (j : ℕ) (u : Term) → j < length us → u ≡ get_or us j u → HasNames names (names_of us) → has_name names u.literal.name ≡ true
      at [] j u l is k = absurd (omega (arith, l))
      at (x ∷ us) zero u l is k = subst (λ (y : Term). has_name names y.literal.name ≡ true) (sym is) k.0
      at (x ∷ us) (suc j) u l is k = at us j u (omega (arith, l)) is k.1

  pub inside-one : (P : Term → Type 0) → All P ts → P t
  inside-one P h = subst P (sym e) (h i t lt)

-- the objective of a replay
pub objective-has : (r : Running) (o : List Term) → IsProper r → (problem_of r).objective ≡ Some o → HasNames r.names (names_of o)
objective-has r o p e =
    subst (λ (ns : List (List ℕ)). HasNames ns (names_of o)) (take-append-drop r.own r.names) (HasNames-append (take r.own r.names) (drop r.own r.names) (names_of o) (objective-named (problem_of r) o p.problem e))

each-below : (own : ℕ) (names more : List (List ℕ)) (ts : List Term) → HasNames names (names_of ts) → length names ≤ own → All (λ t. number_in (names ++ more) t.literal.name < own) ts
each-below own names more [] h le k d lt = absurd (omega (arith, lt))
each-below own names more (t ∷ ts) h le zero d lt = omega (arith, number_in-append names more t.literal.name h.0, number_in-below names t.literal.name h.0, le)
each-below own names more (t ∷ ts) h le (suc k) d lt = each-below own names more ts h.1 le k d (omega (arith, lt))

pub objective-inside : (r : Running) (o : List Term) (n : ℕ) → IsProper r → (problem_of r).objective ≡ Some o → r.own ≤ n → All (λ t. number_in r.names t.literal.name < n) o
objective-inside r o n p e le =
    subst (λ (ns : List (List ℕ)). All (λ t. number_in ns t.literal.name < n) o) (take-append-drop r.own r.names)
    (each-below n (take r.own r.names) (drop r.own r.names) o (objective-named (problem_of r) o p.problem e) (omega (arith, le, length-take r.own r.names)))

pub objective-small : (r : Running) (linear : Linear) → IsProper r → r.objective ≡ Some linear → magnitude linear.terms < 2 ^ 127
objective-small r linear p e = grind (arith, linear.terms, r.limits, p.fits, largest_small)

pub objective-value : (r : Running) (linear : Linear) → IsProper r → r.objective ≡ Some linear → (a : ℕ → Bool) → true_sum (by_name r.names a) linear.terms ≡ value (problem_of r) a
objective-value r linear p e a =
    value-over (problem_of r) r.names linear.terms a p.problem (drop r.own r.names, sym (take-append-drop r.own r.names)) (ap (option_map (λ (x : Linear). x.terms)) e)

module _ (r : Running) (linear : Linear) where
  terms-are : r.objective ≡ Some linear → (problem_of r).objective ≡ Some linear.terms
  terms-are e = ap (option_map (λ (x : Linear). x.terms)) e

  pub unchanged : (names : List (List ℕ)) → IsProper r → r.objective ≡ Some linear → names ≡ with_names r.names (names_of linear.terms) → names ≡ r.names
  unchanged names p e h = h ∙ present r.names (names_of linear.terms) (objective-has r linear.terms p (terms-are e))

  pub objective-made : (degree given : ℤ) (side : Side) (names : List (List ℕ)) (form : Form) → IsProper r → r.objective ≡ Some linear → names ≡ with_names r.names (names_of linear.terms) → given ≡ degree
      → magnitude linear.terms + unsigned_abs given ≤ largest r.limits → IsFormOf names (side_terms side linear.terms) (side_number side given) form
      → HasObjective (largest r.limits) r.names (problem_of r).objective side degree (Ok form)
  objective-made degree given side names form p e h same fits is =
      let at : IsFormOf r.names (side_terms side linear.terms) (side_number side given) form = subst (λ (ns : List (List ℕ)). IsFormOf ns (side_terms side linear.terms) (side_number side given) form) (unchanged names p e h) is in
      inl (
        linear.terms,
        terms-are e,
        inl (subst (λ (z : ℤ). magnitude linear.terms + unsigned_abs z ≤ largest r.limits) same fits, (form, subst (λ (z : ℤ). IsFormOf r.names (side_terms side linear.terms) (side_number side z) form) same at, refl)),
      )

  pub objective-within : (names : List (List ℕ)) (form : Form) (side : Side) (given : ℤ) → IsProper r → r.objective ≡ Some linear → names ≡ with_names r.names (names_of linear.terms) → IsFormOf names (side_terms side linear.terms) (side_number side given) form → IsInside (length r.names) form
  objective-within names form side given p e h is = subst (λ (ns : List (List ℕ)). IsInside (length ns) form) (unchanged names p e h) is.named
