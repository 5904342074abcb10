-- Searches go round their clauses: where one stands, what it has found, and what it leaves.
use Rattle.pb_propagate.proofs.Common.{ℕ, ◌*◌, ◌+◌, ◌/◌, ◌<◌, ◌≡◌, ◌≤◌, ap, arith, Bool, drop, get_or, inl, inr, length, List, length-append, length-drop, map}
use Rattle.pb_propagate.proofs.Common.{subst, sym, take, take-append-drop, true, Option, nat_tests, All, All-contains, Contains, Contains-append_cases, true_at}
use Rattle.pb_propagate.proofs.Common.{Contains-append_left, Contains-append_right, get_or-append_right, get_or-drop, get_or-take, get_or_append_left, Clauses}
use Rattle.pb_propagate.proofs.Common.{Search, Watch, AreStored, around, flip, IsRound, IsRunning, list_at, passed_of, search_at, turned, watch_at, watch_lists}
use Rattle.pb_propagate.proofs.Common.{AreWithin, map-set, set, sum, rules, ◌∙◌, ◌⊎◌, sum_by-set, both_ways, cases_eq, cases_lt, false, get_or_default}
use Rattle.pb_propagate.proofs.Common.{get_or-set_other, get_or-set_same, length-map, length-set, min, refl, Contains-get_or, slice_get, Some, Listed}
use Rattle.pb_propagate.proofs.Common.{Falsified, Forces, Leaves, Stays, rewatched, searched, AreLinked, AreMore, Remains, Sits, AreBlocked, HasVisited, IsUnit}
use Rattle.{pb_propagate.proofs.Common.IsBroken, pb_propagate.proofs.Common.false_at, std.proofs.Math.ListN.get_or-map, std.proofs.lemmas.Grind.get_or-set_at}
use Rattle.pb_propagate.proofs.lemmas.clauses.Literals.{flip-half, flip-apart, flip-flip}
use Rattle.pb_propagate.proofs.lemmas.clauses.{Walks.served-true, Listed.sits-within, Listed.lists-length, Listed.blocked-more}
use Rattle.pb_propagate.specs.engine.clauses.{Runs.IsPassed, Runs.ArePassed, Runs.AreRound, Truths.flip}

pub turned-length : (start : ℕ) (xs : List ℕ) → length (turned start xs) ≡ length xs
turned-length start xs = omega (arith, length-append (drop start xs) (take start xs), length-append (take start xs) (drop start xs), ap length (take-append-drop start xs))

-- they are the same literals
pub turned-contains : (start : ℕ) (xs : List ℕ) (x : ℕ) → Contains xs x → Contains (turned start xs) x
turned-contains start xs x h =
    elim (Contains-append_cases (take start xs) (drop start xs) x (subst (λ ys. Contains ys x) (sym (take-append-drop start xs)) h)) [
      | inl t ↦ Contains-append_right (drop start xs) (take start xs) x t
      | inr d ↦ Contains-append_left (drop start xs) (take start xs) x d
    ]

pub round-inside : (start : ℕ) (s : Search) (count : ℕ) → IsRound start s count → s.passed ≤ count → s.position < count
round-inside start s count r most = grind (arith, nat_tests, r.is, r.inside)

-- one literal further
pub round-next : (start : ℕ) (s next : Search) (count : ℕ) → IsRound start s count → s.passed < count → next.position ≡ around (s.position + 1) count → next.passed ≡ s.passed + 1 → IsRound start next count
round-next start s next count r less at passed = record { inside = r.inside; is = grind (arith, nat_tests, r.is, r.inside) }

-- the literal at the position of a search is the next in its order
pub turned-round : (start : ℕ) (s : Search) (xs : List ℕ) (d : ℕ) → IsRound start s (length xs) → s.passed < length xs → get_or (turned start xs) s.passed d ≡ get_or xs s.position d
turned-round start s xs d r less = grind (arith, nat_tests, r.is, r.inside, get_or_append_left, get_or-append_right, get_or-drop, get_or-take, length-drop)

-- the searches of all slots
pub passed-at : (ss : List Search) (s : ℕ) → get_or (map (λ (x : Search). x.passed) ss) s 0 ≡ (search_at ss s).passed
passed-at ss s = get_or-map (λ (x : Search). x.passed) ss s (record { position = 0; passed = 0 })

-- a search that has passed nothing began where it stands
pub ready-round : (ss : List Search) (s count : ℕ) → (search_at ss s).passed ≡ 0 → (search_at ss s).position < count → IsRound (get_or (map (λ (x : Search). x.position) ss) s 0) (search_at ss s) count
ready-round ss s count none inside =
    let start : get_or (map (λ (x : Search). x.position) ss) s 0 ≡ (search_at ss s).position = get_or-map (λ (x : Search). x.position) ss s (record { position = 0; passed = 0 }) in
    record { inside = omega (arith, inside, start); is = grind (arith, nat_tests, start) }

pub slot-within : (clauses : List (List ℕ)) (ws : List Watch) (ls : List (List ℕ)) (e : ℕ) → AreStored clauses ws ls → (watch_at ws e).live ≡ true → e / 2 < length clauses
slot-within clauses ws ls e stored live = grind (arith, sits-within, stored.pairs)

-- a literal of a clause is one of those that have lists
pub running-inside : {c : Clauses} {values : List (Option Bool)} → IsRunning values c → (s : ℕ) → All (λ x. x < 4 * length values) (list_at c.blocks.literals s)
running-inside {c} run s = λ k d h. omega (arith, run.stored.inside s k d h, lists-length c.lists, run.sizes)

pub running-small : {c : Clauses} {values : List (Option Bool)} (s x : ℕ) → IsRunning values c → Contains (list_at c.blocks.literals s) x → x < 4 * length values
running-small {c} {values} s x run there = All-contains (λ y. y < 4 * length values) (list_at c.blocks.literals s) x (running-inside run s) there

-- the watch that is read
module _ {c : Clauses} {values : List (Option Bool)} (run : IsRunning values c) (e : ℕ) (live : (watch_at c.blocks.watches e).live ≡ true) where
  pub entry-slot : (e / 2 < length c.blocks.literals) × (e / 2 < length (passed_of c))
  entry-slot =
      let inside = slot-within c.blocks.literals c.blocks.watches (watch_lists c.lists) e run.stored live in
      (inside, omega (arith, inside, run.passed.sizes))

  pub entry-round : IsRound (get_or run.starts (e / 2) 0) (search_at c.blocks.searches (e / 2)) (length (list_at c.blocks.literals (e / 2)))
  entry-round = run.round (e / 2) (omega (arith, (run.stored.watched e live).1))

  -- the other watched literal is one of the clause
  pub other-watched : Contains (list_at c.blocks.literals (e / 2)) (watch_at c.blocks.watches (flip e)).literal
  other-watched = rw (flip-half e) at (run.stored.watched (flip e) (run.stored.paired e live))

-- ---- What a search in a clause has found, and what it leaves.
-- the clause of a watch, its search, where that began, and the literals in its order
abbrev pub clause_of : Clauses → ℕ → List ℕ
clause_of c e = list_at c.blocks.literals (e / 2)

abbrev pub search_of : Clauses → ℕ → Search
search_of c e = search_at c.blocks.searches (e / 2)

abbrev pub start_of : {c : Clauses} {values : List (Option Bool)} → IsRunning values c → ℕ → ℕ
start_of run e = get_or run.starts (e / 2) 0

abbrev pub ordered : {c : Clauses} {values : List (Option Bool)} → IsRunning values c → ℕ → List ℕ
ordered {c} run e = turned (start_of run e) (clause_of c e)

-- a search for a literal to watch in place of a falsified one
pub record IsSought (c : Clauses) (values : List (Option Bool)) (l index e other : ℕ) (stop : Search) (v0 v1 : ℕ) : Type 0 where
  pub run : IsRunning values c
  pub failed : false_at values l ≡ true
  pub item : slice_get (list_at (watch_lists c.lists) l) index ≡ Some e
  pub other_is : other ≡ (watch_at c.blocks.watches (flip e)).literal
  pub within : ((search_of c e).passed ≤ stop.passed) × (stop.passed ≤ length (clause_of c e))
  pub round : (start : ℕ) → IsRound start (search_of c e) (length (clause_of c e)) → IsRound start stop (length (clause_of c e))
  pub passed : (start k d : ℕ) → IsRound start (search_of c e) (length (clause_of c e)) → (search_of c e).passed ≤ k → k < stop.passed →
      (false_at values (get_or (turned start (clause_of c e)) k d) ≡ true) ⊎ (get_or (turned start (clause_of c e)) k d ≡ other)
  pub few : v1 + (search_of c e).passed ≤ v0 + min (stop.passed + 1) (length (clause_of c e))
  pub found : stop.passed < length (clause_of c e) → (d : ℕ) →
      (false_at values (get_or (clause_of c e) stop.position d) ≡ false) × (get_or (clause_of c e) stop.position d ≡ other → ⊥)

-- the watch has moved to another literal
pub record HasMoved (c : Clauses) (index e other x : ℕ) (ws : List Watch) (lists' : List (List Listed)) : Type 0 where
  pub linked : AreLinked ws (watch_lists lists')
  pub moved : ((watch_at ws e).literal ≡ x) × ((watch_at ws e).live ≡ true)
  pub others : (k : ℕ) → (k ≡ e → ⊥) → Remains index (watch_at c.blocks.watches k) (watch_at ws k)
  pub sizes : (length ws ≡ length c.blocks.watches) × (length lists' ≡ length c.lists)
  pub more : AreMore (record { watch = e; blocker = other }) c.lists lists'

-- each clause has two watches, once one of them has moved to another literal of its clause
stored-move : {c : Clauses} {index e other x : ℕ} {ws : List Watch} {lists' : List (List Listed)} → AreStored c.blocks.literals c.blocks.watches
    (watch_lists c.lists) → (watch_at c.blocks.watches e).live ≡ true →
    Contains (clause_of c e) x → (x ≡ (watch_at c.blocks.watches (flip e)).literal → ⊥) → HasMoved c index e other x ws lists' →
    AreStored c.blocks.literals ws (watch_lists lists')
stored-move {c} {index} {e} {other} {x} {ws} {lists'} old on there away m = record {
  linked = m.linked;
  pairs = m.sizes.0 ∙ old.pairs;
  watched = λ k live. elim (cases_eq k e) [
    | inl is ↦ rw (is, m.moved.0) there
    | inr n ↦ rw (m.others k n).literal (old.watched k (sym (m.others k n).live ∙ live))
  ];
  paired = λ k live. grind (arith, cases_eq k e, cases_eq (flip k) e, m.others k, m.others (flip k), flip-apart, old.paired k, m.moved.1, on);
  apart = λ k live h. grind (arith, cases_eq k e, cases_eq (flip k) e, m.others k, m.others (flip k), flip-apart, flip-flip, old.apart k, m.moved, on, away, h);
  full = λ t some. grind (arith, cases_eq (2 * t) e, m.others (2 * t), old.full t, m.moved.1);
  inside = λ t k d h. omega (arith, old.inside t k d h, lists-length lists', lists-length c.lists, m.sizes.1);
}

-- a watch and the other one of its slot
halves : (e : ℕ) → ((e ≡ 2 * (e / 2)) × (flip e ≡ 2 * (e / 2) + 1)) ⊎ ((e ≡ 2 * (e / 2) + 1) × (flip e ≡ 2 * (e / 2)))
unfolding flip
halves e = grind (arith, nat_tests)

module _ {c : Clauses} {values : List (Option Bool)} {l index e other : ℕ} {stop : Search} {v0 v1 : ℕ} (s : IsSought c values l index e other stop v0 v1) where
  -- the watch that is visited is on the falsified literal
  was : Sits (watch_at c.blocks.watches e) l index
  was = s.run.stored.linked.named e l index s.item

  pub stopped : IsRound (start_of s.run e) stop (length (clause_of c e))
  stopped = s.round (start_of s.run e) (entry-round s.run e was.live)

  -- what is known of the literals that the search has passed
  seen : (k d : ℕ) → k < stop.passed → IsPassed values c.blocks.watches (e / 2) (get_or (ordered s.run e) k d)
  seen k d h =
      let passed = s.passed (start_of s.run e) k d (entry-round s.run e was.live) in
      grind (arith, cases_lt k (search_of c e).passed, s.run.passed.each (e / 2) k d, passed, passed-at c.blocks.searches (e / 2), halves e, s.other_is)

  -- the searches and watches, once that of the clause has gone on, and a watch may have moved
  resumed : {ws : List Watch} {lists' : List (List Listed)} (next : Search) → IsRound (start_of s.run e) next (length (clause_of c e)) →
      next.passed ≤ length (clause_of c e) →
      AreStored c.blocks.literals ws (watch_lists lists') → AreBlocked c.blocks.literals lists' → length lists' ≡ length c.lists →
      ((t x : ℕ) → IsPassed values c.blocks.watches t x → IsPassed values ws t x) →
      ((k d : ℕ) → stop.passed ≤ k → k < next.passed → IsPassed values ws (e / 2) (get_or (ordered s.run e) k d)) →
      IsRunning values (record { blocks = rewatched (searched c.blocks (e / 2) next) ws; lists = lists' })
  resumed {ws} next round most stored blocked lists still last =
      let room = (entry-slot s.run e was.live).1 in
      let passed : ArePassed values s.run.starts c.blocks.literals (set (passed_of c) (e / 2) next.passed) ws = record {
        sizes = length-set (passed_of c) (e / 2) next.passed ∙ s.run.passed.sizes;
        bounded = λ t. grind (arith, cases_eq t (e / 2), get_or-set_at, get_or-set_other, s.run.passed.bounded t, most, room);
        each = λ t k d h.
            let old = still t (get_or (turned (get_or s.run.starts t 0) (list_at c.blocks.literals t)) k d) in
            grind (arith, h, cases_eq t (e / 2), cases_lt k stop.passed, get_or-set_at, get_or-set_other, room, seen k d, last k d, s.run.passed.each t k d, old);
      } in
      let inside : e / 2 < length c.blocks.searches = omega (arith, room, length-map c.blocks.searches (λ (x : Search). x.passed)) in
      let rounds : AreRound s.run.starts c.blocks.literals (set c.blocks.searches (e / 2) next) = λ t some. elim (cases_eq t (e / 2)) [
        | inl is ↦ rw (is, get_or-set_same c.blocks.searches (e / 2) next (record { position = 0; passed = 0 }) inside) round
        | inr off ↦ rw (get_or-set_other c.blocks.searches (e / 2) t next (record { position = 0; passed = 0 }) off) (s.run.round t some)
      ] in
      let now = rw (← map-set (λ (x : Search). x.passed) c.blocks.searches (e / 2) next) at passed in
      record { starts = s.run.starts; stored = stored; blocked = blocked; passed = now; round = rounds; sizes = lists ∙ s.run.sizes }

  -- what pays for the visits of a search
  pub sought-left : (next : Search) → next.passed ≡ min (stop.passed + 1) (length (clause_of c e)) →
      (v1 + sum (passed_of c) ≤ v0 + sum (map (λ (x : Search). x.passed) (set c.blocks.searches (e / 2) next))) ×
      AreWithin (map (λ (x : Search). x.passed) (set c.blocks.searches (e / 2) next)) c.blocks.literals
  sought-left next is =
      let room = (entry-slot s.run e was.live).1 in
      rw (map-set (λ (x : Search). x.passed) c.blocks.searches (e / 2) next) (
        omega (arith, sum_by-set (λ y. y) (passed_of c) (e / 2) next.passed 0 room, passed-at c.blocks.searches (e / 2), s.few, is),
        λ t. grind (arith, cases_eq t (e / 2), get_or-set_at, get_or-set_other, s.run.passed.bounded t, is, room),
      )

  module _ (end : length (clause_of c e) ≤ stop.passed) where
    -- no literal is left that may be watched
    ended : IsRunning values (record { blocks = searched c.blocks (e / 2) stop; lists = c.lists })
    ended = resumed stop stopped s.within.1 s.run.stored s.run.blocked refl (λ t x p. p) (λ k d at less. absurd (omega (arith, at, less)))

    -- all but the other watched literal are falsified
    all-but : (k d : ℕ) → k < length (clause_of c e) → (false_at values (get_or (clause_of c e) k d) ≡ true) ⊎ (get_or (clause_of c e) k d ≡ other)
    all-but k d h =
        let x = get_or (clause_of c e) k d in
        let there = turned-contains (start_of s.run e) (clause_of c e) x (Contains-get_or (clause_of c e) k d h) in
        let here : IsPassed values c.blocks.watches (e / 2) x =
        rw there.2 at (seen there.0 x (omega (arith, there.1, end, turned-length (start_of s.run e) (clause_of c e)))) in
        grind (arith, here, halves e, was.literal, s.failed, s.other_is)

    -- all literals are falsified
    pub visited-falsified : false_at values other ≡ true → HasVisited values c (record { blocks = searched c.blocks (e / 2) stop; lists = c.lists }) l index Falsified
    visited-falsified low =
        let broken : IsBroken values c.blocks.literals =
        record { slot = e / 2; some = omega (arith, (s.run.stored.watched e was.live).1); all = λ k d h. grind (arith, all-but k d h, low) } in
        search (rules, ended, broken)

    -- all but one are falsified
    pub visited-forces : true_at values other ≡ false → false_at values other ≡ false →
        HasVisited values c (record { blocks = searched c.blocks (e / 2) stop; lists = c.lists }) l index (Forces record { code = other; slot = e / 2 })
    visited-forces untrue unfailed =
        let there : Contains (clause_of c e) other = rw s.other_is (other-watched s.run e was.live) in
        let unit : IsUnit values c.blocks.literals (e / 2) other = record { stands = there; others = all-but; not_true = untrue; not_false = unfailed } in
        record { lists = refl; running = ended; served = λ walked old. old; found = (refl, unit, (e, s.item, there)); kept = λ k live failed. (refl, refl) }

  -- the watch has moved
  module _ (less : stop.passed < length (clause_of c e)) {next : Search} (round : IsRound (start_of s.run e) next (length (clause_of c e)))
      (one : next.passed ≡ stop.passed + 1)
      {ws : List Watch} {lists' : List (List Listed)} (m : HasMoved c index e other (get_or (clause_of c e) stop.position 0) ws lists') where
    inside : stop.position < length (clause_of c e)
    inside = round-inside (start_of s.run e) stop (length (clause_of c e)) stopped s.within.1

    -- what was passed is passed, as the watch has left a falsified literal
    still : (t x : ℕ) → IsPassed values c.blocks.watches t x → IsPassed values ws t x
    still t x p = grind (arith, p, cases_eq (2 * t) e, cases_eq (2 * t + 1) e, m.others (2 * t), m.others (2 * t + 1), was.literal, s.failed)

    -- a watch that is on a falsified literal stayed
    stayed : (k : ℕ) → false_at values (watch_at ws k).literal ≡ true → Remains index (watch_at c.blocks.watches k) (watch_at ws k)
    stayed k low = elim (cases_eq k e) [
      | inl is ↦ absurd (both_ways _ (s.found less 0).0 (rw (is, m.moved.0) at low))
      | inr n ↦ m.others k n
    ]

    pub visited-leaves : length (list_at (watch_lists lists') l) + 1 ≡ length (list_at (watch_lists c.lists) l) →
        HasVisited values c (record { blocks = rewatched (searched c.blocks (e / 2) next) ws; lists = lists' }) l index Leaves
    visited-leaves shorter = record {
      lists = m.sizes.1;
      running = resumed next round (omega (arith, one, less)) (stored-move s.run.stored was.live (Contains-get_or (clause_of c e) stop.position 0 inside)
          (λ h. (s.found less 0).1 (h ∙ sym s.other_is)) m) (blocked-more c.blocks.literals (record { watch = e; blocker = other }) c.lists lists' m.more
          (rw s.other_is (other-watched s.run e was.live)) s.run.blocked) m.sizes.1 still (λ k d at now.
          let place : k ≡ stop.passed = omega (arith, at, now, one) in
          let next_is = turned-round (start_of s.run e) stop (clause_of c e) d stopped less ∙ get_or_default (clause_of c e) stop.position d 0 inside in
          let same : get_or (ordered s.run e) k d ≡ (watch_at ws e).literal = rw place (next_is ∙ sym m.moved.0) in
          grind (arith, same, halves e));
      served = λ walked old. record {
        failed = old.failed;
        now = old.now;
        done = λ k live h. let r = stayed k (old.failed (watch_at ws k).literal h) in old.done k (sym r.live ∙ live) (subst (Contains walked) r.literal h);
        here = λ k live h less. let r = stayed k (ap (false_at values) h ∙ s.failed) in old.here k (sym r.live ∙ live) (sym r.literal ∙ h)
            (omega (arith, r.spot less, less));
      };
      found = shorter;
      kept = λ k live failed. let r = stayed k failed in (r.live, r.literal);
    }

-- an entry has another blocker, a literal of its clause
pub running-blocked : (c : Clauses) (values : List (Option Bool)) (entry : Listed) (lists' : List (List Listed)) → IsRunning values c → watch_lists lists' ≡ watch_lists c.lists → AreMore entry c.lists lists' → Contains (list_at c.blocks.literals (entry.watch / 2)) entry.blocker → IsRunning values (record { blocks = c.blocks; lists = lists' })
running-blocked c values entry lists' run same more here =
    let blocked = blocked-more c.blocks.literals entry c.lists lists' more here run.blocked in
    let sizes : length lists' ≡ 4 * length values = omega (arith, run.sizes, lists-length c.lists, lists-length lists', ap length same) in
    record { starts = run.starts; stored = rw same run.stored; blocked = blocked; passed = run.passed; round = run.round; sizes = sizes }

-- a true literal of the clause was read
pub visited-stays : (c : Clauses) (values : List (Option Bool)) (l index e x : ℕ) (lists' : List (List Listed)) →
    IsRunning values (record { blocks = c.blocks; lists = lists' }) → watch_lists lists' ≡ watch_lists c.lists →
    slice_get (list_at (watch_lists c.lists) l) index ≡ Some e → Contains (clause_of c e) x → true_at values x ≡ true →
    HasVisited values c (record { blocks = c.blocks; lists = lists' }) l index Stays
visited-stays c values l index e x lists' run same item here met = search (rules, lists-length, served-true, run.stored.linked)
