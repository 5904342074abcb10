-- Clauses are added and removed.
use Rattle.pb_propagate.proofs.Common.{ℕ, ◌*◌, ◌++◌, ◌+◌, ◌/◌, ◌<◌, ◌∙◌, ◌∷◌, ◌≡◌, ◌≤◌, ◌⊎◌, [], ap, arith, Bool, false, get_or, get_or-set_other}
use Rattle.pb_propagate.proofs.Common.{length, length-set, List, map, refl, set, sym, true, All, Contains, Option, nat_tests, set-get_or, both_ways}
use Rattle.pb_propagate.proofs.Common.{cases_Bool, cases_eq, get_or_past, Contains-get_or, Clauses, Listed, Watch, Pair, Search, begun, Contents}
use Rattle.pb_propagate.proofs.Common.{AreBlocked, AreFewer, AreLinked, AreMore, entries_at, list_at, IsRenewed, IsSameWatch, watch_at, watch_lists, AreReady}
use Rattle.pb_propagate.proofs.Common.{AreStored, IsPair, IsRunning, search_at, length-map}
use Rattle.pb_propagate.proofs.lemmas.{clauses.Literals.flip-half, clauses.Visited.passed-at, clauses.Visited.round-inside, store.Gets.push-default}
use Rattle.pb_propagate.proofs.lemmas.clauses.Listed.{lists-length, watch-entries, listed-live, blocked-set, blocked-more}
use Rattle.{pb_propagate.specs.engine.clauses.Truths.flip, std.proofs.lemmas.Grind.get_or-set_at}

-- what is known of clauses depends only on the element at each position
stored-same : {clauses clauses' : List (List ℕ)} {ws ws' : List Watch} {ls ls' : List (List ℕ)} → ((s : ℕ) → list_at clauses' s ≡ list_at clauses s) →
    ((e : ℕ) → watch_at ws' e ≡ watch_at ws e) → ((l : ℕ) → list_at ls' l ≡ list_at ls l) → length ws' ≡ 2 * length clauses' → length ls ≤ length ls' →
    AreStored clauses ws ls → AreStored clauses' ws' ls'
stored-same same same_w same_l pairs longer r = grind (arith, r.linked.sits, r.linked.named, r.linked.small, r.watched, r.paired, r.apart, r.full, r.inside)

pub rest-same : (c c' : Clauses) → AreReady c → ((s : ℕ) → list_at c'.blocks.literals s ≡ list_at c.blocks.literals s) →
    ((e : ℕ) → watch_at c'.blocks.watches e ≡ watch_at c.blocks.watches e) → ((l : ℕ) → entries_at c'.lists l ≡ entries_at c.lists l) →
    ((s : ℕ) → search_at c'.blocks.searches s ≡ search_at c.blocks.searches s) → length c'.blocks.watches ≡ 2 * length c'.blocks.literals →
    length c.lists ≤ length c'.lists → length c'.blocks.searches ≡ length c'.blocks.literals → AreReady c'
rest-same c c' r same same_w same_l same_s pairs longer sizes =
    let listed : (l : ℕ) → list_at (watch_lists c'.lists) l ≡ list_at (watch_lists c.lists) l = λ l.
    watch-entries c'.lists l ∙ ap (map (λ (x : Listed). x.watch)) (same_l l) ∙ sym (watch-entries c.lists l) in
    record {
      stored = stored-same same same_w listed pairs (omega (arith, longer, lists-length)) r.stored;
      blocked = λ x there. rw (same (x.watch / 2)) (r.blocked x (there.0, there.1, rw (same_l there.0) at there.2));
      sizes = sizes;
      inside = λ s some. grind (arith, same s, same_s s, r.inside s, some);
      none = λ s. grind (arith, passed-at, same_s s, r.none s);
    }

-- one more empty list
pub lists-push : (occ : List (List Listed)) {occ' : List (List Listed)} → occ' ≡ occ ++ [] ∷ [] → (l : ℕ) → entries_at occ' l ≡ entries_at occ l
lists-push occ pushed l = rw pushed (push-default occ l [])

-- only the room in blocks is another
pub rest-fit : (c : Clauses) (b : Contents) → AreReady c → b.literals ≡ c.blocks.literals → b.searches ≡ c.blocks.searches → b.watches ≡ c.blocks.watches →
    AreReady (record { blocks = b; lists = c.lists })
rest-fit c b r literals searches watches = rest-same c (record { blocks = b; lists = c.lists }) r (λ s. rw literals refl) (λ e. rw watches refl)
    (λ l. refl) (λ s. rw searches refl) (rw (literals, watches) r.stored.pairs) (omega arith) (rw (literals, searches) r.sizes)

-- once no search has passed anything, the clauses are ready
pub rest-ready : (values : List (Option Bool)) (c : Clauses) (b : Contents) → IsRunning values c → IsRenewed c.blocks b → AreReady (record { blocks = b; lists = c.lists })
rest-ready values c b run r = record {
  stored = rw (r.literals, r.watches) run.stored;
  blocked = rw r.literals run.blocked;
  sizes = omega (arith, r.sizes, ap length r.literals, run.passed.sizes, length-map c.blocks.searches (λ (x : Search). x.passed));
  inside = λ s some. grind (arith, r.literals, r.searches s, round-inside, run.round s, run.passed.bounded s, passed-at c.blocks.searches s);
  none = λ s. passed-at b.searches s ∙ ap (λ (x : Search). x.passed) (r.searches s);
}

-- an empty slot's watches are dead
pub empty-dead : (clauses : List (List ℕ)) (ws : List Watch) (ls : List (List ℕ)) (s e : ℕ) → AreStored clauses ws ls → list_at clauses s ≡ [] → e / 2 ≡ s → (watch_at ws e).live ≡ false
empty-dead clauses ws ls s e stored none slot = grind (arith, cases_Bool (watch_at ws e).live, stored.watched e, slot, none)

-- a slot with literals is one of them
pub slot-room : (clauses : List (List ℕ)) (s : ℕ) → 0 < length (list_at clauses s) → s < length clauses
slot-room clauses s some = grind (arith, get_or_past)

-- a slot has two watches
two-of : (k s : ℕ) → k / 2 ≡ s → ((k ≡ 2 * s) × (flip k ≡ 2 * s + 1)) ⊎ ((k ≡ 2 * s + 1) × (flip k ≡ 2 * s))
unfolding flip
two-of k s h = grind (arith, nat_tests)

-- the watches of a slot with literals are live
pub slot-sits : (clauses : List (List ℕ)) (ws : List Watch) (ls : List (List ℕ)) (s e : ℕ) → AreStored clauses ws ls → 0 < length (list_at clauses s) → e / 2 ≡ s →
    (watch_at ws e).live ≡ true
slot-sits clauses ws ls s e stored some slot = grind (arith, two-of e s slot, two-of (2 * s) s, stored.full s some, stored.paired (2 * s))

-- a live watch
abbrev on : ℕ → ℕ → Watch
on literal spot = record { literal = literal; live = true; spot = spot }

module _ {c : Clauses} {s : ℕ} (r : AreReady c) (room : s < length c.blocks.literals) where
  -- The slot has another clause, or none. Its watches are live, on two different literals of the clause, or both are dead.
  rest-set : {c' : Clauses} (xs : List ℕ) {v w : Watch} (q : Search) → c'.blocks.literals ≡ set c.blocks.literals s xs →
      c'.blocks.searches ≡ set c.blocks.searches s q → q.passed ≡ 0 → (0 < length xs → q.position < length xs) →
      AreLinked c'.blocks.watches (watch_lists c'.lists) → length c'.blocks.watches ≡ length c.blocks.watches → length c'.lists ≡ length c.lists →
      All (λ z. z < length c.lists) xs → watch_at c'.blocks.watches (2 * s) ≡ v → watch_at c'.blocks.watches (2 * s + 1) ≡ w → (0 < length xs → v.live ≡ true) →
      w.live ≡ v.live → (v.live ≡ true → Contains xs v.literal × Contains xs w.literal × (v.literal ≡ w.literal → ⊥)) →
      ((k : ℕ) → (k / 2 ≡ s → ⊥) → IsSameWatch (watch_at c.blocks.watches k) (watch_at c'.blocks.watches k)) →
      AreBlocked (set c.blocks.literals s xs) c'.lists → AreReady c'
  rest-set {c'} xs q filled searching none begins linked sizes sizes_l small is_v is_w full paired two same blocked = record {
    stored = rw filled (record {
      linked = linked;
      pairs = omega (arith, sizes, r.stored.pairs, length-set c.blocks.literals s xs);
      watched = λ k live. grind (arith, cases_eq (k / 2) s, two-of k s, get_or-set_at, get_or-set_other, is_v, is_w, two, paired, same k, r.stored.watched k, live);
      paired = λ k live. grind (arith, cases_eq (k / 2) s, two-of k s, same k, same (flip k), flip-half k, r.stored.paired k, is_v, is_w, paired, live);
      apart = λ k live h. grind (arith, cases_eq (k / 2) s, two-of k s, same k, same (flip k), flip-half k, r.stored.apart k, is_v, is_w, paired, two, live, h);
      full = λ t some. grind (arith, cases_eq t s, get_or-set_at, get_or-set_other, same (2 * t), r.stored.full t, is_v, full);
      inside = λ t k d h. grind (arith, cases_eq t s, get_or-set_at, get_or-set_other, small k d, r.stored.inside t k d, lists-length, sizes_l);
    });
    blocked = rw filled blocked;
    sizes = rw (filled, searching) (omega (arith, r.sizes, length-set {A = Search}, length-set {A = List ℕ}));
    inside = λ t. rw (filled, searching) (λ some. grind (arith, begins, cases_eq t s, get_or-set_at, get_or-set_other, r.inside t, r.sizes, room, some));
    none = λ t. grind (arith, passed-at, searching, none, cases_eq t s, get_or-set_at, get_or-set_other, r.none t, r.sizes, room);
  }

  -- a clause, of which two literals are watched
  pub rest-fill : (lists1 : List (List Listed)) {lists' : List (List Listed)} {b : Contents} {x y : ℕ} (i j : ℕ) {xs : List ℕ} {p : Pair} →
      list_at c.blocks.literals s ≡ [] → IsPair xs p → x ≡ get_or xs p.first 0 → y ≡ get_or xs p.second 0 → All (λ z. z < length c.lists) xs →
      b.literals ≡ set c.blocks.literals s xs → b.searches ≡ set c.blocks.searches s begun → length lists' ≡ length c.lists →
      b.watches ≡ set (set c.blocks.watches (2 * s) (on x i)) (2 * s + 1) (on y j) → AreLinked b.watches (watch_lists lists') →
      AreMore (record { watch = 2 * s; blocker = y }) c.lists lists1 → AreMore (record { watch = 2 * s + 1; blocker = x }) lists1 lists' →
      AreReady (record { blocks = b; lists = lists' })
  rest-fill lists1 {lists'} {b} {x} {y} i j {xs} {p} empty pair is_x is_y inside filled searching sizes both linked more_1 more_2 =
      let first : watch_at b.watches (2 * s) ≡ on x i = grind (arith, both, r.stored.pairs, get_or-set_at, get_or-set_other, length-set) in
      let second : watch_at b.watches (2 * s + 1) ≡ on y j = grind (arith, both, r.stored.pairs, get_or-set_at, length-set) in
      let x_in : Contains xs x = rw is_x (Contains-get_or xs p.first 0 pair.first) in
      let y_in : Contains xs y = rw is_y (Contains-get_or xs p.second 0 pair.second) in
      let old = blocked-set c.blocks.literals s xs c.lists room (λ e there is. absurd (both_ways _ (empty-dead _ _ _ s e.watch r.stored empty is)
      (listed-live c.blocks.watches c.lists e r.stored.linked there))) (λ e there off. r.blocked e there) in
      rest-set xs begun filled searching refl (λ some. some) linked (rw both (omega (arith, length-set {A = Watch}))) sizes inside
      first second (λ some. refl) refl (λ live. (x_in, y_in, rw (is_x, is_y) pair.apart)) (λ k off. rw both (grind (arith, get_or-set_other, off)))
      (blocked-more _ _ lists1 _ more_2 (grind (arith, x_in, room, get_or-set_at))
      (blocked-more _ _ c.lists _ more_1 (grind (arith, y_in, room, get_or-set_at)) old))

  -- none
  pub rest-cleared : {b : Contents} {lists' : List (List Listed)} → b.literals ≡ set c.blocks.literals s [] → b.searches ≡ c.blocks.searches →
      AreLinked b.watches (watch_lists lists') → length b.watches ≡ length c.blocks.watches → length lists' ≡ length c.lists →
      (watch_at b.watches (2 * s)).live ≡ false → (watch_at b.watches (2 * s + 1)).live ≡ false → AreFewer c.lists lists' →
      ((k : ℕ) → (k / 2 ≡ s → ⊥) → IsSameWatch (watch_at c.blocks.watches k) (watch_at b.watches k)) → AreReady (record { blocks = b; lists = lists' })
  rest-cleared {b} {lists'} vacated searching linked sizes sizes_l dead_1 dead_2 fewer same =
      rest-set [] (search_at c.blocks.searches s) vacated (searching ∙ sym (set-get_or c.blocks.searches s begun)) (sym (passed-at c.blocks.searches s) ∙ r.none s)
      (λ h. absurd (omega (arith, h))) linked sizes sizes_l (λ k d h. absurd (omega (arith, h)))
      refl refl (λ h. absurd (omega (arith, h))) (dead_2 ∙ sym dead_1) (λ live. absurd (both_ways _ dead_1 live)) same
      (blocked-set c.blocks.literals s [] lists' room (λ e there is. absurd (both_ways (watch_at b.watches e.watch).live
      (grind (arith, two-of e.watch s is, dead_1, dead_2)) (listed-live b.watches lists' e linked there))) (λ e there off. r.blocked e (fewer e there)))
