-- Literals and their codes, their truth, and the marks of those that are falsified.
use Rattle.pb_propagate.proofs.{Common.is_failed, lemmas.engine.Literals.negation-negation, lemmas.store.Gets.push-default}
use Rattle.pb_propagate.proofs.Common.{ℕ, ◌*◌, ◌+◌, ◌/◌, ◌∙◌, ◌≡◌, ◌⊎◌, ap, arith, Bool, cond, List, not, refl, sym, ◌%◌, ◌==◌, Option, nat_tests}
use Rattle.pb_propagate.proofs.Common.{NumberedLiteral, negation, Group, Long, Short, code_in, literal_at, offset, falsified_code, has, ◌++◌, ◌<◌}
use Rattle.pb_propagate.proofs.Common.{◌∷◌, [], true, false, length, length-append, length-set, set, None, get_or-set_other, get_or_past, AreMarked}
use Rattle.pb_propagate.specs.engine.{clauses.Truths.true_at, clauses.Truths.false_at, clauses.Truths.flip, engine.Lists.says}
use Rattle.std.proofs.lemmas.Grind.{get_or-set_at}

-- the variable and the sign of a code
pub half-of : (g : Group) (v : ℕ) (b : Bool) → (4 * v + offset g + cond b 1 0) / 4 ≡ v
half-of g v b = grind arith

pub parity-of : (g : Group) (v : ℕ) (b : Bool) → not ((4 * v + offset g + cond b 1 0) % 2 == 0) ≡ b
parity-of g v b = grind (arith, nat_tests)

pub code-back : (g : Group) (l : NumberedLiteral) → literal_at (code_in g l) ≡ l
code-back g l = rw (half-of g l.variable l.negated, parity-of g l.variable l.negated) refl

pub code-injective : (g : Group) (k l : NumberedLiteral) → code_in g k ≡ code_in g l → k ≡ l
code-injective g k l e = sym (code-back g k) ∙ ap literal_at e ∙ code-back g l

-- a literal has different codes in the groups
pub groups-apart : (k l : NumberedLiteral) → code_in Short k ≡ code_in Long l → ⊥
groups-apart k l e = grind (arith, e)

-- a code is one of its literal's
pub code-of : (c : ℕ) → (code_in Short (literal_at c) ≡ c) ⊎ (code_in Long (literal_at c) ≡ c)
code-of c = grind (arith, nat_tests)

-- the values are those that the list gives
abbrev pub Agree : List (Option Bool) → List NumberedLiteral → Type 0
Agree values list = (l : NumberedLiteral) → has list l ≡ says values l

pub true-listed : (values : List (Option Bool)) (list : List NumberedLiteral) (c : ℕ) → Agree values list → true_at values c ≡ has list (literal_at c)
unfolding true_at says
true-listed values list c a = grind (arith, a (literal_at c))

pub false-listed : (values : List (Option Bool)) (list : List NumberedLiteral) (c : ℕ) → Agree values list → false_at values c ≡ has list (negation (literal_at c))
unfolding false_at says
false-listed values list c a = grind (arith, a (negation (literal_at c)))

-- the code of a falsified literal
pub false-code : (values : List (Option Bool)) (list : List NumberedLiteral) (g : Group) (l : NumberedLiteral) → Agree values list → false_at values (falsified_code g l) ≡ has list l
false-code values list g l a = false-listed values list (falsified_code g l) a ∙ ap (λ k. has list (negation k)) (code-back g (negation l)) ∙ ap (has list) (negation-negation l)

-- ---- Literals, coded, their truth, and the marks of those that are falsified.
pub flip-half : (c : ℕ) → flip c / 2 ≡ c / 2
unfolding flip
flip-half c = grind (arith, nat_tests)

pub flip-flip : (c : ℕ) → flip (flip c) ≡ c
unfolding flip
flip-flip c = grind (arith, nat_tests)

pub flip-apart : (c : ℕ) → flip c ≡ c → ⊥
unfolding flip
flip-apart c = grind (arith, nat_tests)

-- the two watches of a slot
pub same-slot : (a b : ℕ) → a / 2 ≡ b / 2 → (a ≡ b → ⊥) → a ≡ flip b
unfolding flip
same-slot a b = grind (arith, nat_tests)

-- the other literal of a variable has a value too
pub flip-inside : (c n : ℕ) → c < 4 * n → flip c < 4 * n
unfolding flip
flip-inside c n = grind (arith, nat_tests)

-- a literal is true if the other one of its variable is falsified
pub true-flipped : (values : List (Option Bool)) (c : ℕ) → true_at values c ≡ false_at values (flip c)
unfolding true_at false_at flip
true-flipped values c = grind (arith, nat_tests)

-- the codes of a variable's literals are marked again, with two values in turn
abbrev pub marks_set : List Bool → ℕ → Bool → Bool → List Bool
marks_set failed i a b = set (set (set (set failed i a) (i + 1) b) (i + 2) a) (i + 3) b

pub marked-set : {values : List (Option Bool)} {failed : List Bool} {v : ℕ} {a b : Bool} (o : Option Bool) → v < length values → a ≡ is_failed o true →
    b ≡ is_failed o false → AreMarked values failed → AreMarked (set values v o) (marks_set failed (4 * v) a b)
unfolding false_at
marked-set o less plain negated m = grind (arith, nat_tests, get_or-set_at, get_or-set_other, length-set, m.sizes, m.each)

-- one more variable has no value, and its literals are not marked
pub marked-wider : (values values' : List (Option Bool)) (failed failed' : List Bool) → values' ≡ values ++ (None ∷ []) →
    failed' ≡ (((failed ++ (false ∷ [])) ++ (false ∷ [])) ++ (false ∷ [])) ++ (false ∷ []) → AreMarked values failed → AreMarked values' failed'
unfolding false_at
marked-wider values values' failed failed' e f m = rw (e, f) (grind (arith, m.sizes, m.each, push-default, length-append))

-- without variables nothing is marked
pub marked-start : (values : List (Option Bool)) (failed : List Bool) → values ≡ [] → failed ≡ [] → AreMarked values failed
unfolding false_at
marked-start values failed e f = grind (arith, get_or_past)
