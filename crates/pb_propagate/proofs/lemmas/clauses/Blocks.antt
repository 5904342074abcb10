-- What blocks of words store, what their writes change, and how blocks come and are used again.
use Rattle.pb_propagate.proofs.Common.{ℕ, ◌*◌, ◌+◌, ◌/◌, ◌<◌, ◌≡◌, ◌≤◌, ◌⊎◌, ◌%◌, [], arith, cases_lt, drop, ext_get_or, get_or, get_or-drop, get_or-take}
use Rattle.pb_propagate.proofs.Common.{get_or_past, get_or_read, length, length-drop, length-take, List, nat_tests, refl, set-get_or, subst, sym, take, true}
use Rattle.pb_propagate.proofs.Common.{AreBlocks, begun, Contents, contents, HasBlock, idle, IsRenewed, list_at, number_at, passed_by, Search, search_at}
use Rattle.pb_propagate.proofs.Common.{searched, stored_clause, stored_search, stored_watch, Watch, watch_at, watch_of, ◌++◌, ◌-◌, ◌^◌, ◌∷◌, cases_eq}
use Rattle.pb_propagate.proofs.Common.{get_or-set_other, get_or-set_same, length-append, length-set, set, IsBare, nowhere, rewatched, rewritten}
use Rattle.pb_propagate.proofs.lemmas.store.Gets.{push-default}
use Rattle.std.proofs.lemmas.{Grind.get_or-set_at, List.FromFn.fill_by_all, List.FromFn.get_or-map-range_with_len, List.FromFn.length-map-range_with_len}

-- what a block stores for a slot: its clause, its search and its watches
pub record IsBlock (words : List ℕ) (start run s : ℕ) (xs : List ℕ) (x : Search) (ws : List Watch) : Type 0 where
  pub count : number_at words (start + 6) ≡ length xs
  pub literal : (k : ℕ) → k < length xs → number_at words (start + (8 + k)) ≡ number_at xs k
  pub position : number_at words (start + 4) ≡ x.position
  pub passed : passed_by run (number_at words (start + 7)) (number_at words (start + 5)) ≡ x.passed
  pub watch : (e : ℕ) → e / 2 ≡ s →
      watch_of (number_at words (start + 2 * (e % 2))) (number_at words (start + (2 * (e % 2) + 1))) ≡ watch_at ws e

-- what all blocks store, slot by slot
pub record Stores (words starts rooms : List ℕ) (run count : ℕ) (v : Contents) : Type 0 where
  pub blocks : AreBlocks words starts rooms run count
  pub clauses : length v.literals ≡ count
  pub searches : length v.searches ≡ count
  pub watches : length v.watches ≡ 2 * count
  pub rooms_are : v.rooms ≡ rooms
  pub slot : (s : ℕ) → s < count →
      IsBlock words (number_at starts s) run s (list_at v.literals s) (search_at v.searches s) v.watches

-- the same as one value
pub record Store (words starts rooms : List ℕ) (run count : ℕ) (v : Contents) : Type 0 where
  pub blocks : AreBlocks words starts rooms run count
  pub is : contents words starts rooms run count ≡ v

slice-is : (ws : List ℕ) (a : ℕ) (xs : List ℕ) → a + length xs ≤ length ws →
    ((k : ℕ) → k < length xs → number_at ws (a + k) ≡ number_at xs k) → take (length xs) (drop a ws) ≡ xs
slice-is ws a xs room each = ext_get_or 0 (take (length xs) (drop a ws)) xs (omega (arith, length-take {A = ℕ}, length-drop {A = ℕ}))
    (λ k h. grind (arith, get_or-take, get_or-drop, each k, length-take))

contents-are : (a b : Contents) → a.literals ≡ b.literals → a.searches ≡ b.searches → a.watches ≡ b.watches → a.rooms ≡ b.rooms → a ≡ b
contents-are a b p q r s = rw (p, q, r, s) refl

pub stored : {words starts rooms : List ℕ} {run count : ℕ} {v : Contents} → Stores words starts rooms run count v → Store words starts rooms run count v
stored {words} {starts} {rooms} {run} {count} {v} st = record {
  blocks = st.blocks;
  is = sym (contents-are v (contents words starts rooms run count)
      (fill_by_all (stored_clause words starts) v.literals count [] st.clauses
      (λ s h. grind (arith, st.slot s h, slice-is, st.blocks.within s h, st.blocks.inside s h)))
      (fill_by_all (stored_search words starts run) v.searches count begun st.searches (λ s h. grind (arith, st.slot s h)))
      (fill_by_all (stored_watch words starts) v.watches (2 * count) idle st.watches (λ e h. grind (arith, st.slot (e / 2))))
      st.rooms_are);
}

pub half : (n : ℕ) → (n % 2 ≡ 0) ⊎ (n % 2 ≡ 1)
half n = grind arith

-- where the program finds the block of a slot, and what this stores
pub record IsAt (words starts rooms : List ℕ) (run slots : ℕ) (v : Contents) (s start : ℕ) : Type 0 where
  pub slot : s < slots
  pub at : start ≡ number_at starts s
  pub end : start + 8 + number_at rooms s ≤ length words
  pub count : number_at words (start + 6) ≤ number_at rooms s
  pub room_is : number_at v.rooms s ≡ number_at rooms s
  pub stamp : number_at words (start + 7) ≤ run
  pub block : IsBlock words start run s (list_at v.literals s) (search_at v.searches s) v.watches

-- the block is the slot's own
pub record IsOwn (words starts rooms : List ℕ) (run slots : ℕ) (v : Contents) (s start : ℕ) : Type 0 where
  pub room : 0 < number_at rooms s
  pub at : IsAt words starts rooms run slots v s start

-- the block of a slot that has room is not the common one, and its number is stored
module _ {words starts rooms : List ℕ} {run count : ℕ} (old : AreBlocks words starts rooms run count) where
  room-start : (s : ℕ) → 0 < number_at rooms s → 8 ≤ number_at starts s
  room-start s some = grind (arith, some, old.apart s (count + s + 1), old.past (count + s + 1))

  room-slot : (s : ℕ) → 0 < number_at rooms s → s < length starts
  room-slot s some = grind (arith, get_or_past, room-start s some)

  no-room : (s : ℕ) → count ≤ s → number_at rooms s ≡ 0
  no-room s past = grind (arith, past, room-start s, old.past s)

  -- a block that is not the common one is a slot's own
  pub start-own : {v : Contents} (s start : ℕ) → IsAt words starts rooms run count v s start → 0 < start → IsOwn words starts rooms run count v s start
  start-own s start b some = record { room = grind (arith, b.at, old.shared s, some); at = b }

module _ {words starts rooms : List ℕ} {run count : ℕ} {v : Contents} (old : AreBlocks words starts rooms run count)
    (is : contents words starts rooms run count ≡ v) where
  pub stores : Stores words starts rooms run count v
  stores = subst (Stores words starts rooms run count) is
      (grind (arith, old, length-take, length-drop, get_or-take, get_or-drop, get_or-map-range_with_len, length-map-range_with_len))

  pub slot-stored : (s : ℕ) → s < length v.literals → s < count
  slot-stored s inside = omega (arith, inside, stores.clauses)

  block-at : (s start : ℕ) → s < count → start ≡ number_at starts s → IsAt words starts rooms run count v s start
  block-at s start inside here = rw here (grind (arith, inside, stores.slot s, stores.rooms_are, old))

  pub slot-at : (s start : ℕ) → s < length v.literals → start ≡ number_at starts s → IsAt words starts rooms run count v s start
  slot-at s start inside here = block-at s start (slot-stored s inside) here

  -- one with room
  room-at : (s start : ℕ) → 0 < number_at rooms s → start ≡ get_or starts s start → IsOwn words starts rooms run count v s start
  room-at s start some read = record {
    room = some;
    at = block-at s start (grind (arith, some, no-room old s)) (get_or_read starts s start (room-slot old s some) read 0);
  }

  block-room : (s : ℕ) → HasBlock v s → 0 < number_at rooms s
  block-room s some = grind (arith, stores.rooms_are, some, cases_lt, get_or_past, stores.clauses, stores.slot s, old.within s)

  pub own-slot : (s : ℕ) → HasBlock v s → s < length starts
  own-slot s some = room-slot old s (block-room s some)

  pub own-at : (s start : ℕ) → HasBlock v s → start ≡ get_or starts s start → IsOwn words starts rooms run count v s start
  own-at s start some read = room-at s start (block-room s some) read

  live-room : (e : ℕ) → (watch_at v.watches e).live ≡ true → 0 < number_at rooms (e / 2)
  live-room e live = grind (arith, nat_tests, half e, cases_lt (e / 2) count, get_or_past, stores.watches, stores.slot (e / 2), old.shared, old.common)

  pub live-slot : (e : ℕ) → (watch_at v.watches e).live ≡ true → e / 2 < length starts
  live-slot e live = room-slot old (e / 2) (live-room e live)

  pub live-at : (e start : ℕ) → (watch_at v.watches e).live ≡ true → start ≡ get_or starts (e / 2) start →
      IsOwn words starts rooms run count v (e / 2) start
  live-at e start live read = room-at (e / 2) start (live-room e live) read

  -- the common block is not written, and its search has passed nothing
  pub shared-begun : (s : ℕ) → s < count → number_at starts s ≡ 0 →
      v ≡ searched v s (record { position = (search_at v.searches s).position; passed = 0 })
  shared-begun s inside none = let st = stores in grind (arith, nat_tests, st.slot s, old.common, contents-are, set-get_or)

-- what is read of a block
module _ {words starts rooms : List ℕ} {run count s start : ℕ} {v : Contents} (b : IsAt words starts rooms run count v s start) where
  pub clause-read : (n : ℕ) → n ≡ number_at words (start + 6) → take n (drop (start + 8) words) ≡ list_at v.literals s
  clause-read n is = rw (is, b.block.count) (slice-is words (start + 8) (list_at v.literals s) (omega (arith, b.end, b.count, b.block.count))
      (λ k h. grind (arith, b.block.literal k)))

  pub search-read : (header : List ℕ) (passed : ℕ) → ((k : ℕ) → k < 8 → number_at header k ≡ number_at words (start + k)) →
      passed ≡ passed_by run (number_at header 7) (number_at header 5) →
      ◌≡◌ {A = Search} (record { position = number_at header 4; passed = passed }) (search_at v.searches s)
  search-read header passed each is = grind (arith, each 4, each 5, each 7, is, b.block)

pub watch-read : {words starts rooms : List ℕ} {run count : ℕ} {v : Contents} (e start place : ℕ) → IsAt words starts rooms run count v (e / 2) start →
    (watch_at v.watches e).live ≡ true → place ≡ start + 2 * (e % 2) →
    (number_at words place ≡ (watch_at v.watches e).literal) × (number_at words (place + 1) ≡ (watch_at v.watches e).spot)
watch-read e start place b live is = grind (arith, nat_tests, b.block.watch e, live, is)

-- another run
pub next-run : {words starts rooms : List ℕ} {run count : ℕ} → AreBlocks words starts rooms run count → AreBlocks words starts rooms (run + 1) count
next-run old = grind (arith, old)

pub renewed-by : {words starts rooms : List ℕ} {run count : ℕ} {v : Contents} → AreBlocks words starts rooms run count →
    contents words starts rooms run count ≡ v → IsRenewed v (contents words starts rooms (run + 1) count)
renewed-by old is = let st = stores old is in let now = stores (next-run old) refl in
    grind (arith, nat_tests, cases_lt, get_or_past, st, now, old.begun_by)

-- ---- Blocks are written, and come.
-- the words of a block are the same, but elsewhere
block-kept : (words words' : List ℕ) (start start' run s : ℕ) (xs : List ℕ) (x : Search) (ws ws' : List Watch) →
    ((i : ℕ) → i < 8 + length xs → number_at words' (start' + i) ≡ number_at words (start + i)) →
    ((e : ℕ) → e / 2 ≡ s → watch_at ws' e ≡ watch_at ws e) → IsBlock words start run s xs x ws → IsBlock words' start' run s xs x ws'
block-kept words words' start start' run s xs x ws ws' same watches b = grind (arith, same, watches, b)

-- one with no clause is
bare-kept : (words words' : List ℕ) (start start' run s : ℕ) (xs : List ℕ) (x : Search) (ws : List Watch) →
    IsBare words start → IsBare words' start' → IsBlock words start run s xs x ws → IsBlock words' start' run s xs x ws
bare-kept words words' start start' run s xs x ws old new b = grind (arith, nat_tests, old, new, b, half)

bare-block : (words : List ℕ) (start run s : ℕ) (xs : List ℕ) (x : Search) (ws : List Watch) → IsBare words start →
    xs ≡ [] → x ≡ begun → ((e : ℕ) → e / 2 ≡ s → watch_at ws e ≡ idle) → IsBlock words start run s xs x ws
bare-block words start run s xs x ws bare no_literal no_search no_watch = grind (arith, nat_tests, bare, no_literal, no_search, no_watch, half)

-- the block of a slot is written
record IsWritten (words words' starts rooms : List ℕ) (run s start : ℕ) (xs : List ℕ) (x : Search) (ws ws' : List Watch) : Type 0 where
  size : length words' ≡ length words
  outside : (i : ℕ) → (i < start) ⊎ (start + 8 + number_at rooms s ≤ i) → number_at words' i ≡ number_at words i
  block : IsBlock words' start run s xs x ws'
  fits : length xs ≤ number_at rooms s
  stamp : number_at words' (start + 7) ≤ run
  watches : length ws' ≡ length ws
  others : (e : ℕ) → (e / 2 ≡ s → ⊥) → watch_at ws' e ≡ watch_at ws e

module _ {words starts rooms : List ℕ} {run count s start : ℕ} {v : Contents} (old : AreBlocks words starts rooms run count)
    (is : contents words starts rooms run count ≡ v) (own : IsOwn words starts rooms run count v s start) where
  module _ {words' : List ℕ} (xs : List ℕ) (x : Search) (ws : List Watch)
      (new : IsWritten words words' starts rooms run s start xs x v.watches ws) where
    written : Store words' starts rooms run count
        (record { literals = set v.literals s xs; searches = set v.searches s x; watches = ws; rooms = v.rooms })
    written =
        let st = stores old is in
        let first : 8 ≤ start = grind (arith, own, room-start old s) in
        stored (grind (arith, first, cases_eq, get_or-set_same, get_or-set_other, length-set, new, own, st, old, block-kept))

  pub seek-written : (x : Search) → Store (set (set (set words (start + 4) x.position) (start + 5) x.passed) (start + 7) run) starts rooms run count
      (searched v s x)
  seek-written x = rw (← set-get_or v.literals s [])
      (written _ _ _ (grind (arith, nat_tests, get_or-set_same, get_or-set_other, length-set, own.at)))

  pub begin-written : Store (set words (start + 5) 0) starts rooms run count
      (searched v s (record { position = (search_at v.searches s).position; passed = 0 }))
  begin-written = rw (← set-get_or v.literals s [])
      (written _ _ _ (grind (arith, nat_tests, get_or-set_same, get_or-set_other, length-set, own.at)))

  pub clear-written : Store (set words (start + 6) 0) starts rooms run count (rewritten v s [])
  clear-written = rw (← set-get_or v.searches s begun)
      (written _ _ _ (grind (arith, nat_tests, get_or-set_same, get_or-set_other, length-set, own.at)))

  pub whole-written : (words' xs : List ℕ) → length xs ≤ number_at v.rooms s → length words' ≡ length (set words (start + 6) (length xs)) →
      ((i : ℕ) → (i < start + 8) ⊎ (start + 8 + length xs ≤ i) → number_at words' i ≡ number_at (set words (start + 6) (length xs)) i) →
      ((k : ℕ) → k < length xs → number_at words' (start + 8 + k) ≡ number_at xs k) → Store words' starts rooms run count (rewritten v s xs)
  whole-written words' xs fits size outside each = rw (← set-get_or v.searches s begun)
      (written _ _ _ (grind (arith, nat_tests, get_or-set_same, get_or-set_other, length-set, own.at, size, outside, each, fits)))

-- one of its watches is
module _ {words starts rooms : List ℕ} {run count : ℕ} {v : Contents} (e start place : ℕ) (old : AreBlocks words starts rooms run count)
    (is : contents words starts rooms run count ≡ v) (own : IsOwn words starts rooms run count v (e / 2) start) (there : place ≡ start + 2 * (e % 2)) where
  pub idle-written : Store (set words (place + 1) nowhere) starts rooms run count (rewatched v (set v.watches e idle))
  idle-written = rw (← set-get_or v.literals (e / 2) [], ← set-get_or v.searches (e / 2) begun) (written old is own _ _ _
      (grind (arith, nat_tests, get_or-set_same, get_or-set_other, length-set, own.at, (stores old is).watches, cases_eq)))

  pub place-written : (spot : ℕ) → (watch_at v.watches e).live ≡ true → spot < nowhere → Store (set words (place + 1) spot) starts rooms run count
      (rewatched v (set v.watches e (record { literal = (watch_at v.watches e).literal; live = true; spot = spot })))
  place-written spot live small = rw (← set-get_or v.literals (e / 2) [], ← set-get_or v.searches (e / 2) begun) (written old is own _ _ _
      (grind (arith, nat_tests, get_or-set_same, get_or-set_other, length-set, own.at, (stores old is).watches, cases_eq, small, live)))

  pub both-written : (literal spot : ℕ) → spot < nowhere → Store (set (set words place literal) (place + 1) spot) starts rooms run count
      (rewatched v (set v.watches e (record { literal = literal; live = true; spot = spot })))
  both-written literal spot small = rw (← set-get_or v.literals (e / 2) [], ← set-get_or v.searches (e / 2) begun) (written old is own _ _ _
      (grind (arith, nat_tests, get_or-set_same, get_or-set_other, length-set, own.at, (stores old is).watches, cases_eq, small)))

-- one more slot
abbrev pub grown : Contents → Contents
grown v = record {
  literals = v.literals ++ ([] ∷ []);
  searches = v.searches ++ (begun ∷ []);
  watches = (v.watches ++ (idle ∷ [])) ++ (idle ∷ []);
  rooms = v.rooms;
}

module _ {words starts rooms : List ℕ} {run count : ℕ} {v : Contents} (words' : List ℕ) (old : AreBlocks words starts rooms run count)
    (is : contents words starts rooms run count ≡ v) (first : count ≡ 0 → (length words' ≡ 8) × IsBare words' 0)
    (kept : 0 < count → words' ≡ words) where
  pub extended : Store words' starts rooms run (count + 1) (grown v)
  extended =
      let st = stores old is in
      let common : IsBare words' 0 = grind (arith, cases_eq count 0, first, kept, old.common) in
      let least : 8 ≤ length words' = grind (arith, cases_eq count 0, first, kept, old.inside 0) in
      stored (grind (arith, cases_lt, common, least, no-room old, old, kept, push-default, length-append, get_or_past, st, bare-block, block-kept))

-- the rooms are others, and all else is as before
abbrev pub roomed : Contents → List ℕ → Contents
roomed v rooms = record { literals = v.literals; searches = v.searches; watches = v.watches; rooms = rooms }

-- the same numbers of slots are stored in other lists
pub renumbered : {words starts rooms : List ℕ} {run count : ℕ} {v : Contents} (starts' rooms' : List ℕ) → AreBlocks words starts rooms run count →
    contents words starts rooms run count ≡ v → ((s : ℕ) → number_at starts' s ≡ number_at starts s) →
    ((s : ℕ) → number_at rooms' s ≡ number_at rooms s) → Store words starts' rooms' run count (roomed v rooms')
renumbered starts' rooms' old is starts_are rooms_are =
    let st = stores old is in stored (grind (arith, starts_are, rooms_are, old, st))

-- words are added, which begin with a block for a slot that has none
module _ {words words' starts rooms : List ℕ} {run count : ℕ} {v : Contents} (s start room : ℕ) (old : AreBlocks words starts rooms run count)
    (is : contents words starts rooms run count ≡ v) (inside : s < length v.literals) (there : s < length starts) (held : s < length rooms)
    (none : number_at rooms s ≡ 0) (low : s < 2 ^ 31 - 1) (end : start ≡ length words) (size : length words' ≡ length words + 8 + room)
    (kept : (i : ℕ) → i < length words → number_at words' i ≡ number_at words i) (bare : IsBare words' (length words)) (some : 0 < room) where
  pub fitted : Store words' (set starts s start) (set rooms s room) run count (roomed v (set rooms s room))
  fitted =
      let st = stores old is in
      let ends : (t : ℕ) → number_at starts t + 8 + number_at rooms t ≤ length words =
      λ t. grind (arith, cases_lt t count, old.past t, no-room old t, old.inside t, old.inside s, st.clauses) in
      stored (grind (arith, cases_eq, get_or-set_at, get_or-set_other, length-set, ends, old, kept, bare, st, block-kept, bare-kept))
