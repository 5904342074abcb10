-- Literals that count once each.
use Rattle.pb_normal.proofs.Common.{nat_tests, ℕ, ◌+◌, ◌<◌, ◌^◌, ◌∷◌, ◌≡◌, [], arith, Bool, cond, false, length, List, map, not, refl, true, Entry, Adds, flip}
use Rattle.pb_normal.proofs.Common.{each, IsNormal, IsRising, total, IsCountOf, on, only, unit_of, with_coefficient}
use Rattle.pb_normal.proofs.lemmas.{rules.Unique.none_below, terms.Maps.IsRising-map, terms.Totals.total-same}
use Rattle.pb_normal.specs.declared.numbered.NumberedLiteral.{NumberedLiteral}

abbrev pub ones : List Entry → List Entry
ones ts = map (λ t. with_coefficient t 1) ts

pub total-units : (ls : List NumberedLiteral) → total each (map unit_of ls) ≡ length ls
total-units [] = refl
total-units (l ∷ ls) = omega (arith, total-units ls)

pub total-ones : (ts : List Entry) → total each (ones ts) ≡ length ts
total-ones [] = refl
total-ones (t ∷ ts) = omega (arith, total-ones ts)

pub IsRising-ones : (n : ℕ) (ts : List Entry) → IsRising n ts → IsRising n (ones ts)
IsRising-ones n ts h = IsRising-map (λ t. with_coefficient t 1) n ts (λ t. refl) (λ t p. omega arith) h

-- a literal has a coefficient among the given ones if and only if it is given
given_counts : (ls : List NumberedLiteral) (x : ℕ) (n : Bool) → (on ls x n ≡ true → 0 < total (only x n) (map unit_of ls)) × (on ls x n ≡ false → total (only x n) (map unit_of ls) ≡ 0)
given_counts [] x n = (λ e. absurd cc, λ e. refl)
given_counts (l ∷ ls) x n = grind (arith, nat_tests, given_counts ls x n)

-- the terms after the first one have no coefficient on its variable
nothing_after : (x : ℕ) (n : Bool) (t : Entry) (ts : List Entry) → IsRising (t.variable + 1) ts → t.variable ≡ x → total (only x n) ts ≡ 0
nothing_after x n t ts h e = none_below (λ m. cond n m (not m)) x (t.variable + 1) ts h (omega (arith, e))

-- in a rising list a literal appears once
once : (k x : ℕ) (n : Bool) (ts : List Entry) → IsRising k ts → (0 < total (only x n) ts → total (only x n) (ones ts) ≡ 1) × (total (only x n) ts ≡ 0 → total (only x n) (ones ts) ≡ 0)
once k x n [] h = (λ e. absurd (omega (arith, e)), λ e. refl)
once k x n (t ∷ ts) h = grind (arith, nat_tests, once (t.variable + 1) x n ts h.2, nothing_after x n t ts h.2)

-- and its negation does not appear with it
apart : (k x : ℕ) (n : Bool) (ts : List Entry) → IsRising k ts → 0 < total (only x n) ts → total (only x (not n)) ts ≡ 0
apart k x n [] h e = refl
apart k x n (t ∷ ts) h e = grind (arith, nat_tests, apart (t.variable + 1) x n ts h.2, nothing_after x n t ts h.2, nothing_after x (not n) t ts h.2)

flipped : (x : ℕ) (n : Bool) (ts : List Entry) → total (flip (only x n)) ts ≡ total (only x (not n)) ts
flipped x n ts = total-same (flip (only x n)) (only x (not n)) (λ v m. grind arith) ts

-- what remains of the literals, each with coefficient 1
counts : (x : ℕ) (n : Bool) (ls : List NumberedLiteral) (rs : List Entry) (gone : ℕ) → (on ls x true ≡ true → on ls x false ≡ true → ⊥) → IsRising 0 rs → Adds (map unit_of ls) [] rs gone →
    total (only x n) (ones rs) ≡ cond (on ls x n) 1 0
counts x n ls rs gone never h adds = grind (arith, given_counts ls x n, given_counts ls x (not n), never, adds.signed (only x n), once 0 x n rs h, apart 0 x n rs h, flipped x n (map unit_of ls), flipped x n rs)

pub IsCountOf-ones : (ls : List NumberedLiteral) (d gone : ℕ) (rs ts : List Entry) → ((x : ℕ) → on ls x true ≡ true → on ls x false ≡ true → ⊥) → IsRising 0 rs → Adds (map unit_of ls) [] rs gone → ts ≡ ones rs →
    IsCountOf ls d record { terms = ts; degree = d }
IsCountOf-ones ls d gone rs ts apart h adds e = rw e record {
  ordered = IsRising-ones 0 rs h;
  coefficients = λ x n. counts x n ls rs gone (apart x) h adds;
  degree_is = refl;
}

pub IsNormal-ones : (d : ℕ) (rs ts : List Entry) → IsRising 0 rs → ts ≡ ones rs → length rs < 2 ^ 64 → d < 2 ^ 127 → IsNormal record { terms = ts; degree = d }
IsNormal-ones d rs ts h e few small = grind (arith, IsRising-ones, total-ones)
