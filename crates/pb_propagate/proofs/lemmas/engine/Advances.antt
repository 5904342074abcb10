-- What a part of a run does: it adds literals, does nothing, goes on after another part, or pays for more.
use Rattle.pb_propagate.proofs.Common.{take_all, ℕ, ◌++◌, ◌∙◌, ◌∷◌, ◌≡◌, ◌≤◌, [], ap, arith, cond, drop, get_or, length, List, map, refl, sym, take}
use Rattle.pb_propagate.proofs.Common.{true, count_by, both_ways, append-nil, append_assoc, map-append, take-append-drop, sum_by-append}
use Rattle.pb_propagate.proofs.Common.{NumberedLiteral, negation, Long, Short, Heads, fallen, falsified_code, killed, place, spent, Extends, IsWithin}
use Rattle.pb_propagate.proofs.Common.{reached, same, Weighted, list_any, list_any-append, or_left, sum_by-le-sum_by, rules, ◌+◌, Err, Ok, OnErr}
use Rattle.pb_propagate.proofs.Common.{Result, sum, Advances, Costs, Database, Progress, ◌*◌, ◌-◌, ◌<◌, Clauses, list_at, watch_lists, passed_of}
use Rattle.pb_propagate.specs.engine.{clauses.Walked.has, engine.Lists.has as listed}

pub extends-none : (a : List NumberedLiteral) → Extends a a
extends-none a = ([], sym (append-nil a))

pub extends-within : (a b : List NumberedLiteral) → Extends a b → IsWithin a b
unfolding listed
extends-within a b (r, e) l h = rw (e, list_any-append (λ x. same x l) a r) (or_left (list_any (λ x. same x l) a) (list_any (λ x. same x l) r) h)

pub extends-then : (a b c : List NumberedLiteral) → Extends a b → Extends b c → Extends a c
extends-then a b c (r, e) (s, f) = (r ++ s, f ∙ ap (λ xs. xs ++ s) e ∙ append_assoc a r s)

pub spent-extends : (lists : List (List Weighted)) (a b : List NumberedLiteral) → Extends a b → spent lists a ≤ spent lists b
spent-extends lists a b (r, e) = omega (arith, ap (spent lists) e, sum_by-append (λ l. length (get_or lists (place (negation l)) [])) a r)

-- more codes
killed-within : (clauses : List (List ℕ)) (a b : List ℕ) → ((x : ℕ) → has a x ≡ true → has b x ≡ true) → killed clauses a ≤ killed clauses b
killed-within clauses a b h = sum_by-le-sum_by (λ ys. count_by (λ x. has a x) ys) (λ ys. count_by (λ x. has b x) ys) clauses (λ ys.
    sum_by-le-sum_by (λ x. cond (has a x) 1 0) (λ x. cond (has b x) 1 0) ys (λ x. grind (arith, h x)))

has-prefix : (a b : List ℕ) (x : ℕ) → has a x ≡ true → has (a ++ b) x ≡ true
has-prefix [] b x h = absurd (both_ways _ refl h)
has-prefix (y ∷ ys) b x h = grind (arith, has-prefix ys b x)

killed-first : (clauses : List (List ℕ)) (f : NumberedLiteral → ℕ) (a b : List NumberedLiteral) (n : ℕ) → Extends a b → killed clauses (map f (take n a)) ≤ killed clauses (map f b)
killed-first clauses f a b n (r, e) =
    let codes : map f b ≡ map f (take n a) ++ map f (drop n a ++ r) = grind (arith, take-append-drop n a, append_assoc (take n a) (drop n a) r, map-append f (take n a) (drop n a ++ r)) in
    rw codes (killed-within clauses (map f (take n a)) (map f (take n a) ++ map f (drop n a ++ r)) (has-prefix (map f (take n a)) (map f (drop n a ++ r))))

pub reached-extends : (clauses : List (List ℕ)) (a b : List NumberedLiteral) (h : Heads) → Extends a b → reached clauses h a ≤ fallen clauses b
reached-extends clauses a b h more =
    omega (arith, killed-first clauses (falsified_code Short) a b h.short more, killed-first clauses (falsified_code Long) a b h.long more)

-- more literals have more codes
pub killed-longer : (clauses : List (List ℕ)) (f : NumberedLiteral → ℕ) (a b : List NumberedLiteral) → Extends a b → killed clauses (map f a) ≤ killed clauses (map f b)
killed-longer clauses f a b more = rw (take_all (length a) a (omega arith)) at (killed-first clauses f a b (length a) more)

-- ---- What a part of a run does: nothing, one part after another, and more that pays.
pub on-err : {A E P : Type 0} (r : Result A E) → P → OnErr r P
on-err (Ok _) p = tt
on-err (Err _) p = p

-- only the rest of the run has changed
pub costs-none : {d : Database} (old new : Progress) → new.list ≡ old.list → new.candidates ≡ old.candidates → new.visits ≡ old.visits → Costs d 0 0 old new
costs-none {d} old new list candidates visits = search (rules, list, candidates, visits, extends-none old.list)

pub costs-then : {d : Database} {m n k l : ℕ} {a b c : Progress} → Costs d m n a b → Costs d k l b c → Costs d (m + k) (n + l) a c
costs-then {d} {m} {n} {k} {l} {a} {b} {c} p q = search (rules, extends-then a.list b.list c.list p.extends q.extends, p.single, q.single)

pub costs-as : {d : Database} {m n : ℕ} {a b : Progress} (k l : ℕ) → n + k ≤ l + m → Costs d m n a b → Costs d k l a b
costs-as k l h p = record { extends = p.extends; single = p.single; paid = omega (arith, p.paid, h) }

pub advances-then : {d : Database} {m n k l : ℕ} {a b c : Progress} → Advances d m n a b → Advances d k l b c → Advances d (m + k) (n + l) a c
advances-then p q = let costs = costs-then p.costs q.costs in search (rules, p.absent, q.absent)

pub advances-as : {d : Database} {m n : ℕ} {a b : Progress} (k l : ℕ) → n + k ≤ l + m → Advances d m n a b → Advances d k l a b
advances-as k l h p = let costs = costs-as k l h p.costs in search rules

-- some visits were made, and terms passed
pub advances-counted : (d : Database) (p : Progress) (passed : List ℕ) (seen m n : ℕ) → length passed ≡ length p.candidates → p.visits ≤ seen → seen + m + sum p.candidates ≤ p.visits + n + sum passed → Advances d m n p (record p { candidates = passed; visits = seen })
advances-counted d p passed seen m n sizes rising most = search (rules, extends-none p.list)

pub advances-refl : (d : Database) (p : Progress) → Advances d 0 0 p p
advances-refl d p = advances-counted d p p.candidates p.visits 0 0 refl (omega arith) (omega arith)

-- some visits were made
pub advances-visit : (d : Database) (p : Progress) (seen m n : ℕ) → p.visits ≤ seen → seen + m ≤ p.visits + n → Advances d m n p (record p { visits = seen })
advances-visit d p seen m n rising most = advances-counted d p p.candidates seen m n refl rising (omega (arith, most))

-- What a walk over the watches of a literal costs.

-- the length of a literal's list of watches
abbrev pub size_at : Clauses → ℕ → ℕ
size_at c l = length (list_at (watch_lists c.lists) l)

-- two visits are left for each watch from a position on
abbrev pub WalkIsAt : Database → Clauses → Clauses → ℕ → ℕ → Progress → Progress → Type 0
WalkIsAt d c0 c l index start now = Advances d (sum (passed_of c0) + 2 * (size_at c l - index)) (2 * size_at c0 l + sum (passed_of c)) start now

abbrev pub WalkIsDone : Database → Clauses → Clauses → ℕ → Progress → Progress → Type 0
WalkIsDone d c0 c l start now = Advances d (sum (passed_of c0)) (2 * size_at c0 l + sum (passed_of c)) start now

pub walk-start : (d : Database) (c : Clauses) (l : ℕ) (start : Progress) → WalkIsAt d c c l 0 start start
walk-start d c l start = advances-as (sum (passed_of c) + 2 * (size_at c l - 0)) (2 * size_at c l + sum (passed_of c)) (omega arith) (advances-refl d start)

-- a visit to the watch at a position
pub walk-next : (d : Database) (c0 c c' : Clauses) (l index index' seen : ℕ) {start now : Progress} → index < size_at c l → index' ≤ size_at c' l → size_at c' l + index + 1 ≡ size_at c l + index' → seen + sum (passed_of c) ≤ now.visits + 2 + sum (passed_of c') → now.visits ≤ seen → WalkIsAt d c0 c l index start now → WalkIsAt d c0 c' l index' start (record now { visits = seen })
walk-next d c0 c c' l index index' seen {start} {now} inside within count covered rising a = grind (arith, advances-as, advances-then, advances-visit)

-- watches that are passed
pub walk-pass : (d : Database) (c0 c : Clauses) (l index j seen : ℕ) {start now : Progress} → index ≤ j → j ≤ size_at c l → seen ≤ now.visits + (j - index) → now.visits ≤ seen → WalkIsAt d c0 c l index start now → WalkIsAt d c0 c l j start (record now { visits = seen })
walk-pass d c0 c l index j seen {start} {now} after within few rising a = grind (arith, advances-as, advances-then, advances-visit)

-- a visit that ends the walk
pub walk-ends : (d : Database) (c0 c c' : Clauses) (l index seen : ℕ) {start now : Progress} → index < size_at c l → seen + sum (passed_of c) ≤ now.visits + 2 + sum (passed_of c') → now.visits ≤ seen → WalkIsAt d c0 c l index start now → WalkIsDone d c0 c' l start (record now { visits = seen })
walk-ends d c0 c c' l index seen {start} {now} inside covered rising a = grind (arith, advances-as, advances-then, advances-visit)

-- what costs nothing more
pub walk-then : {d : Database} {m n : ℕ} {start now after : Progress} → Advances d m n start now → Advances d 0 0 now after → Advances d m n start after
walk-then {d} {m} {n} a b = advances-as m n (omega arith) (advances-then a b)

pub walk-costs : {d : Database} {m n : ℕ} {start now after : Progress} → Costs d m n start now → Costs d 0 0 now after → Costs d m n start after
walk-costs {d} {m} {n} a b = costs-as m n (omega arith) (costs-then a b)
