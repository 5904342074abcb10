-- Clauses, searches and watches in blocks of words.
use Rattle.{pb_propagate.specs.declared.clauses.lists.Watch.Watch, pb_propagate.specs.declared.clauses.search.Search.Search, std.specs.List.range_with_len}
use Rattle.{pb_propagate.specs.engine.clauses.Links.idle, pb_propagate.specs.engine.clauses.Links.list_at, std.specs.Prelude.slice_set}
use Rattle.std.specs.Prelude.{◌≡◌, ℕ, ◌+◌, ◌-◌, ◌*◌, ◌/◌, ◌%◌, ◌^◌, ◌<◌, ◌≤◌, ◌⊎◌, ◌==◌, if◌then◌else◌, true, List, map, length, take, drop, slice_index_or}

-- what blocks store: for each slot a clause, its search, how many literals its block has room for, and two watches
pub record Contents : Type 0 where
  pub literals : List (List ℕ)
  pub searches : List Search
  pub watches : List Watch
  pub rooms : List ℕ

-- a search at the first literal
abbrev pub begun : Search
begun = record { position = 0; passed = 0 }

abbrev pub number_at : List ℕ → ℕ → ℕ
number_at xs i = slice_index_or xs i 0

-- the slot has a block of its own
abbrev pub HasBlock : Contents → ℕ → Type 0
HasBlock c s = (0 < length (list_at c.literals s)) ⊎ (0 < number_at c.rooms s)

-- the watches are others, and all else is as before
abbrev pub rewatched : Contents → List Watch → Contents
rewatched c watches = record { literals = c.literals; searches = c.searches; watches = watches; rooms = c.rooms }

-- the search in one clause is another
abbrev pub searched : Contents → ℕ → Search → Contents
searched c s search = record { literals = c.literals; searches = slice_set c.searches s search; watches = c.watches; rooms = c.rooms }

-- each search is where it was, and has passed nothing
pub record IsRenewed (old new : Contents) : Type 0 where
  pub literals : new.literals ≡ old.literals
  pub watches : new.watches ≡ old.watches
  pub rooms : new.rooms ≡ old.rooms
  pub sizes : length new.searches ≡ length old.searches
  pub searches : (s : ℕ) → slice_index_or new.searches s begun ≡ record { position = (slice_index_or old.searches s begun).position; passed = 0 }

-- the clause of one slot is another
abbrev pub rewritten : Contents → ℕ → List ℕ → Contents
rewritten c s literals = record { literals = slice_set c.literals s literals; searches = c.searches; watches = c.watches; rooms = c.rooms }

-- the first values of a function
abbrev pub table : {A : Type 0} → ℕ → (ℕ → A) → List A
table n f = map f (range_with_len 0 n)

-- the position of a watch that is in no list
abbrev pub nowhere : ℕ
nowhere = 2 ^ 32 - 1

-- a watch as a block stores it
abbrev pub watch_of : ℕ → ℕ → Watch
watch_of literal spot = if spot == nowhere then idle else record { literal = literal; live = true; spot = spot }

-- where a watch of the slot is stored
abbrev pub watch_place : List ℕ → ℕ → ℕ
watch_place starts e = number_at starts (e / 2) + 2 * (e % 2)

-- what a search has passed in a run, if it has passed `passed` in its own
abbrev pub passed_by : ℕ → ℕ → ℕ → ℕ
passed_by run own passed = if own == run then passed else 0

-- A block begins with the literal and the position of each watch, the position of the search, how many literals this has
-- passed, the number of literals, and the run of the search. The literals come last.
abbrev pub stored_watch : List ℕ → List ℕ → ℕ → Watch
stored_watch words starts e = watch_of (number_at words (watch_place starts e)) (number_at words (watch_place starts e + 1))

abbrev pub stored_search : List ℕ → List ℕ → ℕ → ℕ → Search
stored_search words starts run s = record {
  position = number_at words (number_at starts s + 4);
  passed = passed_by run (number_at words (number_at starts s + 7)) (number_at words (number_at starts s + 5));
}

abbrev pub stored_clause : List ℕ → List ℕ → ℕ → List ℕ
stored_clause words starts s = take (number_at words (number_at starts s + 6)) (drop (number_at starts s + 8) words)

-- what the slots store; `starts` and `rooms` may leave out the last numbers, which are 0
abbrev pub contents : List ℕ → List ℕ → List ℕ → ℕ → ℕ → Contents
contents words starts rooms run count = record {
  literals = table count (stored_clause words starts);
  searches = table count (stored_search words starts run);
  watches = table (2 * count) (stored_watch words starts);
  rooms = rooms;
}

-- a block with no clause begins there
pub record IsBare (words : List ℕ) (start : ℕ) : Type 0 where
  pub first : number_at words (start + 1) ≡ nowhere
  pub second : number_at words (start + 3) ≡ nowhere
  pub position : number_at words (start + 4) ≡ 0
  pub passed : number_at words (start + 5) ≡ 0
  pub count : number_at words (start + 6) ≡ 0
  pub run : number_at words (start + 7) ≡ 0

-- the block of a slot ends before that of another begins
abbrev pub IsBefore : List ℕ → List ℕ → ℕ → ℕ → Type 0
IsBefore starts rooms s t = number_at starts s + 8 + number_at rooms s ≤ number_at starts t

-- Each slot has a block of its own, or a common one, which is first. A slot whose watches have numbers of 32 bits may have one.
-- What is no slot yet has the common one.
pub record AreBlocks (words starts rooms : List ℕ) (run count : ℕ) : Type 0 where
  pub past : (s : ℕ) → count ≤ s → number_at starts s ≡ 0
  pub common : 0 < count → IsBare words 0
  pub shared : (s : ℕ) → number_at rooms s ≡ 0 → number_at starts s ≡ 0
  pub small : (s : ℕ) → 0 < number_at rooms s → s < 2 ^ 31 - 1
  pub apart : (s t : ℕ) → (s ≡ t → ⊥) → 0 < number_at rooms s → IsBefore starts rooms t s ⊎ IsBefore starts rooms s t
  pub inside : (s : ℕ) → s < count → number_at starts s + 8 + number_at rooms s ≤ length words
  pub within : (s : ℕ) → s < count → number_at words (number_at starts s + 6) ≤ number_at rooms s
  pub begun_by : (s : ℕ) → s < count → number_at words (number_at starts s + 7) ≤ run
