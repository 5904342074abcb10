-- A run of propagation: what it knows of the clauses, and what a visit to a watch finds.
use Rattle.pb_propagate.specs.{declared.clauses.watched.Pair.Pair, engine.clauses.Blocks.number_at}
use Rattle.pb_propagate.specs.declared.clauses.{Clauses.Clauses, lists.Watch.Watch, search.Search.Search, visiting.Visit.Visit}
use Rattle.pb_propagate.specs.declared.clauses.visiting.Visit.TheVariants.{Stays, Leaves, Forces, Falsified}
use Rattle.pb_propagate.specs.engine.clauses.Links.{watch_lists, list_at, watch_at, AreLinked, AreBlocked}
use Rattle.pb_propagate.specs.engine.clauses.Truths.{flip, true_at, false_at}
use Rattle.std.specs.Prelude.{◌≡◌, ℕ, ◌+◌, ◌*◌, ◌/◌, ◌<◌, ◌≤◌, ◌⊎◌, ◌++◌, ◌-◌, ◌^◌, nat_lt, if◌then◌else◌, true, false, List, map, length, take, drop, All, Contains, Bool, Option, Some, slice_get, slice_index, slice_index_or}

-- a list from a position on, and then from its beginning
abbrev pub turned : ℕ → List ℕ → List ℕ
turned start xs = drop start xs ++ take start xs

-- a position that goes round a clause of `count` literals
abbrev pub around : ℕ → ℕ → ℕ
around n count = if nat_lt n count then n else n - count

-- the search began at `start`, in a clause of `count` literals
pub record IsRound (start : ℕ) (search : Search) (count : ℕ) : Type 0 where
  pub inside : start < count
  pub is : search.position ≡ around (start + search.passed) count

-- the search in the clause of a slot
abbrev pub search_at : List Search → ℕ → Search
search_at searches s = slice_index_or searches s record { position = 0; passed = 0 }

-- the searches in some clauses began at `starts`
abbrev pub AreRound : List ℕ → List (List ℕ) → List Search → Type 0
AreRound starts clauses searches = (s : ℕ) → 0 < length (list_at clauses s) → IsRound (slice_index_or starts s 0) (search_at searches s) (length (list_at clauses s))

-- how many literals the search of each slot has passed
abbrev pub passed_of : Clauses → List ℕ
passed_of c = map (λ s. s.passed) c.blocks.searches

-- no search has passed more than its clause
abbrev pub AreWithin : List ℕ → List (List ℕ) → Type 0
AreWithin passed clauses = (s : ℕ) → slice_index_or passed s 0 ≤ length (list_at clauses s)

-- each clause has two watches, on different literals of it
pub record AreStored (clauses : List (List ℕ)) (watches : List Watch) (lists : List (List ℕ)) : Type 0 where
  pub linked : AreLinked watches lists
  pub pairs : length watches ≡ 2 * length clauses
  pub watched : (e : ℕ) → (watch_at watches e).live ≡ true → Contains (list_at clauses (e / 2)) (watch_at watches e).literal
  pub paired : (e : ℕ) → (watch_at watches e).live ≡ true → (watch_at watches (flip e)).live ≡ true
  pub apart : (e : ℕ) → (watch_at watches e).live ≡ true → (watch_at watches (flip e)).literal ≡ (watch_at watches e).literal → ⊥
  pub full : (s : ℕ) → 0 < length (list_at clauses s) → (watch_at watches (2 * s)).live ≡ true
  pub inside : (s : ℕ) → All (λ x. x < length lists) (list_at clauses s)

-- two positions with different literals
pub record IsPair (literals : List ℕ) (p : Pair) : Type 0 where
  pub first : p.first < length literals
  pub second : p.second < length literals
  pub apart : slice_index literals p.first ≡ slice_index literals p.second → ⊥

-- none of the literals at the two positions is falsified
pub record IsFreePair (values : List (Option Bool)) (literals : List ℕ) (p : Pair) : Type 0 where
  pub first : false_at values (slice_index literals p.first) ≡ false
  pub second : false_at values (slice_index literals p.second) ≡ false

-- the watches of a slot are on the literals at two positions, and no other watch has changed
pub record AreSet (old new : List Watch) (s : ℕ) (literals : List ℕ) (p : Pair) : Type 0 where
  pub mine : (e : ℕ) → e / 2 ≡ s → ((watch_at new e).literal ≡ slice_index literals p.first) ⊎ ((watch_at new e).literal ≡ slice_index literals p.second)
  pub others : (e : ℕ) → (e / 2 ≡ s → ⊥) → watch_at new e ≡ watch_at old e

-- no watch of the slot is on a falsified literal
abbrev pub AreFree : List (Option Bool) → List Watch → ℕ → Type 0
AreFree values watches s = (e : ℕ) → e / 2 ≡ s → (watch_at watches e).live ≡ true → false_at values (watch_at watches e).literal ≡ false

-- what is known of a literal that the search of a slot has passed: it is falsified, or one of the two watched ones
abbrev pub IsPassed : List (Option Bool) → List Watch → ℕ → ℕ → Type 0
IsPassed values watches s x = (false_at values x ≡ true) ⊎ (((watch_at watches (2 * s)).literal ≡ x) ⊎ ((watch_at watches (2 * s + 1)).literal ≡ x))

-- the literals that searches have passed, if they began at `starts`, are falsified or watched
pub record ArePassed (values : List (Option Bool)) (starts : List ℕ) (clauses : List (List ℕ)) (passed : List ℕ) (watches : List Watch) : Type 0 where
  pub sizes : length passed ≡ length clauses
  pub bounded : AreWithin passed clauses
  pub each : (s k d : ℕ) → k < slice_index_or passed s 0 → IsPassed values watches s (slice_index_or (turned (slice_index_or starts s 0) (list_at clauses s)) k d)

pub record IsRunning (values : List (Option Bool)) (c : Clauses) : Type 0 where
  -- where the searches of this run began
  pub starts : List ℕ
  pub stored : AreStored c.blocks.literals c.blocks.watches (watch_lists c.lists)
  pub blocked : AreBlocked c.blocks.literals c.lists
  pub passed : ArePassed values starts c.blocks.literals (passed_of c) c.blocks.watches
  pub round : AreRound starts c.blocks.literals c.blocks.searches
  pub sizes : length c.lists ≡ 4 * length values

-- some literal of the clause is true
abbrev pub HasTrue : List (Option Bool) → List (List ℕ) → ℕ → Type 0
HasTrue values clauses s = (x : ℕ) × Contains (list_at clauses s) x × (true_at values x ≡ true)

-- if a walked literal is watched, its clause has a true one; in the list being walked this holds before `index`
pub record AreServed (values : List (Option Bool)) (clauses : List (List ℕ)) (watches : List Watch) (walked : List ℕ) (l index : ℕ) : Type 0 where
  pub failed : (x : ℕ) → Contains walked x → false_at values x ≡ true
  pub now : false_at values l ≡ true
  pub done : (e : ℕ) → (watch_at watches e).live ≡ true → Contains walked (watch_at watches e).literal → HasTrue values clauses (e / 2)
  pub here : (e : ℕ) → (watch_at watches e).live ≡ true → (watch_at watches e).literal ≡ l → (watch_at watches e).spot < index → HasTrue values clauses (e / 2)

-- the same of the watches of a literal that a walk has visited
abbrev pub IsServedTo : List (Option Bool) → Clauses → List ℕ → ℕ → ℕ → Type 0
IsServedTo values c walked l index = AreServed values c.blocks.literals c.blocks.watches walked l index

-- all literals of a slot's clause but one are falsified, and that one is open
pub record IsUnit (values : List (Option Bool)) (clauses : List (List ℕ)) (slot x : ℕ) : Type 0 where
  pub stands : Contains (list_at clauses slot) x
  pub others : (k d : ℕ) → k < length (list_at clauses slot) → (false_at values (slice_index_or (list_at clauses slot) k d) ≡ true) ⊎ (slice_index_or (list_at clauses slot) k d ≡ x)
  pub not_true : true_at values x ≡ false
  pub not_false : false_at values x ≡ false

-- all literals of a clause are falsified
pub record IsBroken (values : List (Option Bool)) (clauses : List (List ℕ)) : Type 0 where
  pub slot : ℕ
  pub some : 0 < length (list_at clauses slot)
  pub all : (k d : ℕ) → k < length (list_at clauses slot) → false_at values (slice_index_or (list_at clauses slot) k d) ≡ true

-- the watch at a position of a list is of a clause with the literal
abbrev pub Awaits : Clauses → ℕ → ℕ → ℕ → Type 0
Awaits c l index x = (e : ℕ) × (slice_get (list_at (watch_lists c.lists) l) index ≡ Some e) × Contains (list_at c.blocks.literals (e / 2)) x

-- what a visit has found, and what it leaves
abbrev pub HasFound : List (Option Bool) → Clauses → Clauses → ℕ → ℕ → Visit → Type 0
HasFound values old new l index Stays = length (list_at (watch_lists new.lists) l) ≡ length (list_at (watch_lists old.lists) l)
HasFound values old new l index Leaves = length (list_at (watch_lists new.lists) l) + 1 ≡ length (list_at (watch_lists old.lists) l)
HasFound values old new l index (Forces f) = (length (list_at (watch_lists new.lists) l) ≡ length (list_at (watch_lists old.lists) l)) × IsUnit values new.blocks.literals f.slot f.code × Awaits new l index f.code
HasFound values old new l index Falsified = IsBroken values new.blocks.literals

-- the position of the next visit
abbrev pub index_after : ℕ → Visit → ℕ
index_after index Stays = index + 1
index_after index r = index

-- no search has begun
pub record AreReady (c : Clauses) : Type 0 where
  pub stored : AreStored c.blocks.literals c.blocks.watches (watch_lists c.lists)
  pub blocked : AreBlocked c.blocks.literals c.lists
  pub sizes : length c.blocks.searches ≡ length c.blocks.literals
  pub inside : (s : ℕ) → 0 < length (list_at c.blocks.literals s) → (search_at c.blocks.searches s).position < length (list_at c.blocks.literals s)
  pub none : (s : ℕ) → slice_index_or (passed_of c) s 0 ≡ 0

-- what was true or falsified still is
pub record Grows (old new : List (Option Bool)) : Type 0 where
  pub met : (x : ℕ) → true_at old x ≡ true → true_at new x ≡ true
  pub failed : (x : ℕ) → false_at old x ≡ true → false_at new x ≡ true

-- if a walked literal is watched, its clause has a true one
pub record AreWalked (values : List (Option Bool)) (clauses : List (List ℕ)) (watches : List Watch) (walked : List ℕ) : Type 0 where
  pub failed : (x : ℕ) → Contains walked x → false_at values x ≡ true
  pub done : (e : ℕ) → (watch_at watches e).live ≡ true → Contains walked (watch_at watches e).literal → HasTrue values clauses (e / 2)

-- the same literal is watched
abbrev pub IsSameWatch : Watch → Watch → Type 0
IsSameWatch old new = (new.live ≡ old.live) × (new.literal ≡ old.literal)

-- no watch has moved to a falsified literal
abbrev pub KeepsWalked : List (Option Bool) → Clauses → Clauses → Type 0
KeepsWalked values old new = (e : ℕ) → (watch_at new.blocks.watches e).live ≡ true → false_at values (watch_at new.blocks.watches e).literal ≡ true → IsSameWatch (watch_at old.blocks.watches e) (watch_at new.blocks.watches e)

-- what a visit to the watch at a position of a list leaves, and what it has found
pub record HasVisited (values : List (Option Bool)) (old new : Clauses) (l index : ℕ) (r : Visit) : Type 0 where
  pub lists : length new.lists ≡ length old.lists
  pub running : IsRunning values new
  pub served : (walked : List ℕ) → AreServed values old.blocks.literals old.blocks.watches walked l index → AreServed values new.blocks.literals new.blocks.watches walked l (index_after index r)
  pub found : HasFound values old new l index r
  pub kept : KeepsWalked values old new

-- the slot can store a clause of that number of literals
abbrev pub CanHold : Clauses → ℕ → ℕ → Type 0
CanHold c s count = (count ≤ number_at c.blocks.rooms s) × (count < 2 ^ 32) × (s < 2 ^ 31 - 1)

-- the clauses and their watches are as before
pub record IsRefitted (old new : Clauses) : Type 0 where
  pub ready : AreReady new
  pub literals : new.blocks.literals ≡ old.blocks.literals
  pub watches : new.blocks.watches ≡ old.blocks.watches
  pub lists : new.lists ≡ old.lists
