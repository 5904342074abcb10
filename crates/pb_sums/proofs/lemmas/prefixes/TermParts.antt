-- Whole terms that are taken at once, and the run that they form.
use Rattle.pb_sums.proofs.Common.{arith, ℕ, ℤ, ◌++◌, ◌+◌, ◌<◌, ◌∷◌, ◌≡◌, ◌≤◌, [], Bool, false, get_or, length, List, None, Option, refl, Some, subst, sym, take}
use Rattle.pb_sums.proofs.Common.{true, if◌then◌else◌, is_err, is_ok, IsTrue, Result, runs_further, Go, IsState, Runs, value_from, is_digit, is_letter}
use Rattle.pb_sums.proofs.Common.{is_name_byte, Each, signed, relation_bytes, Relation, AtLeast, Equal, Term, Phase, Part, Spaces, after_name, after_number}
use Rattle.pb_sums.proofs.Common.{begins_number, begins_relation, HasSign, role, sign_read, text_after, sums, SumState, begins_term, IsLiteral, IsSpacedLiteral}
use Rattle.pb_sums.proofs.Common.{EndsLinear, IsDegree}
use Rattle.pb_sums.{proofs.Common.IsSpacedNumber, proofs.Common.IsTilde, proofs.Common.standing, proofs.Common.allows, specs.declared.linear.Literal.Literal}
use Rattle.pb_sums.proofs.lemmas.{machine.States.goes_then, machine.States.midway_state, prefixes.Digits.number_runs, prefixes.Names.name_runs}
use Rattle.pb_text.proofs.lemmas.machine.Running.{runs_on}

pub grown : {A T E : Type 0} (r : Result T E) (new more old : List A) → new ≡ (if is_ok r then more else old) → is_err r ≡ false → new ≡ more
grown r new more old h e = grind arith

no-role : (p : Phase) → begins_term p ≡ true → role p ≡ None
no-role p e = grind arith

space-on : (spaces : Spaces) (part : Part) (limit : ℕ) (xs : List Term) (r : Option Relation) (negative : Bool) (v : ℕ)
    → sums.step (standing spaces part limit xs [] (Phase.Digits r negative v)) 32 ≡ Go (standing spaces part limit xs [] (after_number r (signed negative v)))
space-on spaces part limit xs r negative v = grind arith

pub number_state : (spaces : Spaces) (part : Part) (limit : ℕ) (xs : List Term) (r : Option Relation) (z : ℤ) → IsState sums (standing spaces part limit xs [] (after_number r z))
number_state spaces part limit xs None z = midway_state spaces part limit xs [] (Phase.Gap z) tt refl
number_state spaces part limit xs (Some r) z = midway_state spaces part limit xs [] (Phase.Tail r z) tt refl

pub spaced_number_runs : (limit : ℕ) (p : Phase) (text : List ℕ) (i j v : ℕ) (negative : Bool) → begins_number p ≡ true → HasSign (sign_read p) text i negative
    → Each (λ b. IsTrue (is_digit b)) (take j (text_after i text)) → v ≡ value_from 0 (take j (text_after i text)) → j ≤ length (text_after i text) → (j ≡ 0 → ⊥) → v ≤ limit
    → i + j < length text → get_or text (i + j) 0 ≡ 32 → IsSpacedNumber limit p (take (i + j + 1) text) (signed negative v)
spaced_number_runs limit p text i j v negative b s h g l n m within e spaces part xs =
    let digits : SumState = standing spaces part limit xs [] (Phase.Digits (role p) negative v) in
    let next : SumState = standing spaces part limit xs [] (after_number (role p) (signed negative v)) in
    runs_on sums (standing spaces part limit xs [] p) text (i + j) digits next within
    (number_runs spaces part limit xs [] p (role p) negative text i j v b refl refl s h g l n m)
    (subst (λ (x : ℕ). sums.step digits x ≡ Go next) (sym e) (space-on spaces part limit xs (role p) negative v))
    (number_state spaces part limit xs (role p) (signed negative v))

abbrev after-tilde : Bool → ℤ → Phase
after-tilde false z = Phase.Gap z
after-tilde true z = Phase.Tilde z

tilde-runs : (spaces : Spaces) (part : Part) (limit : ℕ) (xs : List Term) (z : ℤ) (negated : Bool) (text : List ℕ) → IsTilde negated text
    → Runs sums (standing spaces part limit xs [] (Phase.Gap z)) text (standing spaces part limit xs [] (after-tilde negated z))
tilde-runs spaces part limit xs z false text e =
    subst (λ (t : List ℕ). Runs sums (standing spaces part limit xs [] (Phase.Gap z)) t (standing spaces part limit xs [] (Phase.Gap z))) (sym e) refl
tilde-runs spaces part limit xs z true text e =
    let at : Phase → SumState = standing spaces part limit xs [] in
    subst (λ (t : List ℕ). Runs sums (at (Phase.Gap z)) t (at (Phase.Tilde z))) (sym e)
    (goes_then spaces part limit (at (Phase.Gap z)) (at (Phase.Tilde z)) xs [] (Phase.Tilde z) 126 [] refl tt refl refl)

after-both : (negated : Bool) (z : ℤ) → Some (Phase.More z negated) ≡ after_name (after-tilde negated z)
after-both negated z = grind arith

literal_runs : (text : List ℕ) (i j : ℕ) (negated : Bool) (name : List ℕ) → IsTilde negated (take i text) → 2 ≤ length (take j (text_after i text))
    → IsTrue (is_letter (get_or (take j (text_after i text)) 0 0)) → Each (λ b. IsTrue (is_name_byte b)) (take j (text_after i text)) → name ≡ take j (text_after i text)
    → IsLiteral (take (i + j) text) (record { name = name; negated = negated })
literal_runs text i j negated name s l h g e spaces part limit xs z =
    runs_further sums (standing spaces part limit xs [] (Phase.Gap z)) text i j (standing spaces part limit xs [] (after-tilde negated z))
    (standing spaces part limit xs name (Phase.More z negated)) (tilde-runs spaces part limit xs z negated (take i text) s)
    (name_runs spaces part limit xs [] name (after-tilde negated z) (Phase.More z negated) (take j (text_after i text)) (after-both negated z) l h g e)

-- a literal and a space
pub spaced_literal_runs : (text : List ℕ) (i j : ℕ) (negated : Bool) (name : List ℕ) → IsTilde negated (take i text) → 2 ≤ length (take j (text_after i text))
    → IsTrue (is_letter (get_or (take j (text_after i text)) 0 0)) → Each (λ b. IsTrue (is_name_byte b)) (take j (text_after i text)) → name ≡ take j (text_after i text)
    → i + j < length text → get_or text (i + j) 0 ≡ 32 → IsSpacedLiteral (take (i + j + 1) text) (record { name = name; negated = negated })
spaced_literal_runs text i j negated name s l h g e within f spaces part limit xs z =
    let gap : SumState = standing spaces part limit xs [] (Phase.Gap z) in
    let more : SumState = standing spaces part limit xs name (Phase.More z negated) in
    let terms : List Term = xs ++ (record { coefficient = z; literal = record { name = name; negated = negated } }) ∷ [] in
    let last : SumState = standing spaces part limit terms [] Phase.Between in
    runs_on sums gap text (i + j) more last within (literal_runs text i j negated name s l h g e spaces part limit xs z)
    (subst (λ (x : ℕ). sums.step more x ≡ Go last) (sym f) refl)
    (midway_state spaces part limit terms [] Phase.Between tt refl)

-- a coefficient, a space, a literal and a space
pub term_runs : (spaces : Spaces) (part : Part) (limit : ℕ) (xs ys : List Term) (old new : List ℕ) (p : Phase) (text : List ℕ) (i j : ℕ) (z : ℤ) (l : Literal)
    → begins_term p ≡ true → old ≡ [] → new ≡ [] → IsSpacedNumber limit p (take i text) z → IsSpacedLiteral (take j (text_after i text)) l
    → ys ≡ xs ++ (record { coefficient = z; literal = l }) ∷ []
    → Runs sums (standing spaces part limit xs old p) (take (i + j) text) (standing spaces part limit ys new Phase.Between)
term_runs spaces part limit xs ys old new p text i j z l b e f prefix literal h =
    let gap : SumState = standing spaces part limit xs [] (Phase.Gap z) in
    let last : SumState = standing spaces part limit (xs ++ (record { coefficient = z; literal = l }) ∷ []) [] Phase.Between in
    let first : Runs sums (standing spaces part limit xs [] p) (take i text) gap =
    subst (λ (r : Option Relation). Runs sums (standing spaces part limit xs [] p) (take i text) (standing spaces part limit xs [] (after_number r z))) (no-role p b) (prefix spaces part xs) in
    rw (e, f, h) (runs_further sums (standing spaces part limit xs [] p) text i j gap last first (literal spaces part limit xs z))

-- a relation
pub relation_runs : (spaces : Spaces) (part : Part) (limit : ℕ) (xs : List Term) (name : List ℕ) (p : Phase) (text : List ℕ) (r : Relation)
    → begins_relation p ≡ true → name ≡ [] → allows part r ≡ true → text ≡ relation_bytes r
    → Runs sums (standing spaces part limit xs name p) text (standing spaces part limit xs name (Phase.Relation r))
relation_runs spaces part limit xs name Phase.Between text AtLeast b n h e =
    let at : Phase → SumState = standing spaces part limit xs [] in
    let last = goes_then spaces part limit (at Phase.Greater) (at (Phase.Relation AtLeast)) xs [] (Phase.Relation AtLeast) 61 [] refl tt refl refl in
    rw (n, e) (goes_then spaces part limit (at Phase.Between) (at (Phase.Relation AtLeast)) xs [] Phase.Greater 62 (61 ∷ []) (rw h refl) tt refl last)
relation_runs spaces part limit xs name Phase.Between text Equal b n h e =
    let at : Phase → SumState = standing spaces part limit xs [] in
    rw (n, e) (goes_then spaces part limit (at Phase.Between) (at (Phase.Relation Equal)) xs [] (Phase.Relation Equal) 61 [] (rw h refl) tt refl refl)
relation_runs spaces part limit xs name _ text r b n h e = cc b

-- a relation and a space
pub spaced_relation_runs : (spaces : Spaces) (part : Part) (limit : ℕ) (xs : List Term) (name : List ℕ) (p : Phase) (text : List ℕ) (i : ℕ) (r : Relation)
    → begins_relation p ≡ true → name ≡ [] → allows part r ≡ true → take i text ≡ relation_bytes r → i < length text → get_or text i 0 ≡ 32
    → Runs sums (standing spaces part limit xs name p) (take (i + 1) text) (standing spaces part limit xs name (Phase.Relation r))
spaced_relation_runs spaces part limit xs name p text i r b n h e l s =
    let next : SumState = standing spaces part limit xs name (Phase.Relation r) in
    runs_on sums (standing spaces part limit xs name p) text i next next l (relation_runs spaces part limit xs name p (take i text) r b n h e)
    (rw (n, s) refl) (midway_state spaces part limit xs name (Phase.Relation r) tt refl)

-- a degree
pub degree_runs : (limit : ℕ) (r : Relation) (text : List ℕ) (i j v : ℕ) (negative : Bool) → HasSign None text i negative → Each (λ b. IsTrue (is_digit b)) (take j (text_after i text))
    → v ≡ value_from 0 (take j (text_after i text)) → j ≤ length (text_after i text) → (j ≡ 0 → ⊥) → v ≤ limit → IsDegree limit r (take (i + j) text) (signed negative v)
degree_runs limit r text i j v negative s h g l n m spaces part xs =
    (negative, v, refl, number_runs spaces part limit xs [] (Phase.Relation r) (Some r) negative text i j v refl refl refl s h g l n m)

-- the `;` after it, or after a space
pub degree_ends : (spaces : Spaces) (part : Part) (limit : ℕ) (xs : List Term) (r : Relation) (z : ℤ) (text : List ℕ) (i j : ℕ)
    → Runs sums (standing spaces part limit xs [] Phase.Between) (take i text) (standing spaces part limit xs [] (Phase.Relation r)) → IsDegree limit r (take j (text_after i text)) z
    → EndsLinear spaces part limit (standing spaces part limit xs [] Phase.Between) (take (i + j) text) (record { terms = xs; relation = r; degree = z })
degree_ends spaces part limit xs r z text i j runs degree =
    let (negative, v, e, more) = degree spaces part xs in
    let digits : SumState = standing spaces part limit xs [] (Phase.Digits (Some r) negative v) in (
      digits,
      runs_further sums (standing spaces part limit xs [] Phase.Between) text i j (standing spaces part limit xs [] (Phase.Relation r)) digits runs more,
      rw e refl,
    )

pub spaced_degree_ends : (spaces : Spaces) (part : Part) (limit : ℕ) (xs : List Term) (r : Relation) (z : ℤ) (text : List ℕ) (i j : ℕ)
    → Runs sums (standing spaces part limit xs [] Phase.Between) (take i text) (standing spaces part limit xs [] (Phase.Relation r)) → IsDegree limit r (take j (text_after i text)) z
    → i + j < length text → get_or text (i + j) 0 ≡ 32
    → EndsLinear spaces part limit (standing spaces part limit xs [] Phase.Between) (take (i + j + 1) text) (record { terms = xs; relation = r; degree = z })
spaced_degree_ends spaces part limit xs r z text i j runs degree inside space =
    let (negative, v, e, more) = degree spaces part xs in
    let between : SumState = standing spaces part limit xs [] Phase.Between in
    let digits : SumState = standing spaces part limit xs [] (Phase.Digits (Some r) negative v) in
    let tail : SumState = standing spaces part limit xs [] (Phase.Tail r (signed negative v)) in (
      tail,
      runs_on sums between text (i + j) digits tail inside (runs_further sums between text i j (standing spaces part limit xs [] (Phase.Relation r)) digits runs more)
          (subst (λ (x : ℕ). sums.step digits x ≡ Go tail) (sym space) (space-on spaces part limit xs (Some r) negative v)) (number_state spaces part limit xs (Some r) (signed negative v)),
      rw e refl,
    )
