-- Entries of watch lists are written, added and removed, and so are watches.
use Rattle.pb_propagate.proofs.Common.{ℕ, ◌++◌, ◌+◌, ◌-◌, ◌<◌, ◌^◌, ◌∙◌, ◌∷◌, ◌≡◌, ◌≤◌, [], ap, arith, false, get_or-set_other, get_or-set_same, length}
use Rattle.pb_propagate.proofs.Common.{length-set, List, refl, set, true, slice_get, Some, swap_remove, get_or_past, slice_get_within, Watch, AreLinked, idle}
use Rattle.pb_propagate.proofs.Common.{inl, inr, None, option_map}
use Rattle.pb_propagate.proofs.Common.{list_at, Remains, Sits, watch_at, ◌==◌, eqb-true, get_or, nat_tests, slice_get-get_or, ◌/◌, ◌⊎◌, map, suc, sym}
use Rattle.pb_propagate.proofs.Common.{zero, Contains, cases_eq, cases_lt, length-map, map-set, set-get_or, get_or_from_slice_get, none-some}
use Rattle.pb_propagate.proofs.Common.{slice_get-map, Listed, AreBlocked, AreFewer, AreMore, entries_at, IsListed, watch_lists}
use Rattle.std.proofs.lemmas.Option.{slice_get_cases, slice_get_read}
use Rattle.pb_propagate.proofs.lemmas.store.Gets.{get-push_other, get-push_same, swap-other, swap-here, swap-past, get-take_less, get-set_at, get-set_other}
use Rattle.{pb_propagate.proofs.lemmas.store.Gets.swap-map, std.proofs.lemmas.Grind.get_or-set_at}
use Rattle.std.proofs.lemmas.{Map.Keys.IsDistinct-from_apart, Map.Steps.length-le_from_distinct_below, Map.Views.Contains-from_any, Option.slice_get_read}

-- a live watch is one of the stored ones
pub sits-within : (ws : List Watch) (e l i : ℕ) → Sits (watch_at ws e) l i → e < length ws
sits-within ws e l i s = grind (arith, get_or_past, s.live)

-- an entry's list is one of the lists
pub list-within : (ls : List (List ℕ)) (l i e : ℕ) → slice_get (list_at ls l) i ≡ Some e → l < length ls
list-within ls l i e h = grind (arith, get_or_past, slice_get_within)

-- two positions of one watch are equal
pub one-place : (ws : List Watch) (ls : List (List ℕ)) (e l i k j : ℕ) → AreLinked ws ls → slice_get (list_at ls l) i ≡ Some e → slice_get (list_at ls k) j ≡ Some e → (l ≡ k) × (i ≡ j)
one-place ws ls e l i k j old a b = grind (arith, old.named e l i a, old.named e k j b)

-- a watch that is in no list is appended to one
pub put-linked : (ws : List Watch) (ls ls' : List (List ℕ)) (e l : ℕ) (w : Watch) → AreLinked ws ls → (watch_at ws e).live ≡ false → e < length ws → e < 2 ^ 32 - 2 → w.live ≡ true → w.literal ≡ l → w.spot ≡ length (list_at ls l) → list_at ls' l ≡ list_at ls l ++ (e ∷ []) → ((k : ℕ) → (k ≡ l → ⊥) → list_at ls' k ≡ list_at ls k) → AreLinked (set ws e w) ls'
put-linked ws ls ls' e l w old dead inside tiny live literal spot now others =
    grind (arith, get_or-set_at, get_or-set_other, others, now, old.sits, old.named, old.small, get-push_same, get-push_other, slice_get_within)

-- the watches and lists once the watch at a position is removed
pub record IsTakenOut (ws ws' : List Watch) (ls ls' : List (List ℕ)) (l i : ℕ) : Type 0 where
  pub linked : AreLinked ws' ls'
  pub taken : (k : ℕ) → slice_get (list_at ls l) i ≡ Some k → (watch_at ws' k).live ≡ false
  pub remain : (k j : ℕ) → slice_get (list_at ls l) i ≡ Some k → (j ≡ k → ⊥) → Remains i (watch_at ws j) (watch_at ws' j)

-- the last of the list has the position of the removed one
abbrev pub placed : List Watch → ℕ → ℕ → ℕ → List Watch
placed ws e m i = set (set ws e idle) m (record { literal = (watch_at (set ws e idle) m).literal; live = true; spot = i })

module _ {ws : List Watch} {ls ls' : List (List ℕ)} {e : ℕ} (l i : ℕ) (old : AreLinked ws ls) (item : slice_get (list_at ls l) i ≡ Some e)
    (removed : ls' ≡ set ls l (swap_remove (list_at ls l) i e)) where
  -- the last of the list, which may be the removed watch, is moved to its position
  taking : {ws' : List Watch} (m : ℕ) → slice_get (list_at ls l) (length (list_at ls l) - 1) ≡ Some m → (watch_at ws' e).live ≡ false →
      ((k : ℕ) → (k ≡ e → ⊥) → (k ≡ m → ⊥) → watch_at ws' k ≡ watch_at ws k) → ((m ≡ e → ⊥) → watch_at ws' m ≡ record (watch_at ws m) { spot = i }) →
      IsTakenOut ws ws' ls ls' l i
  taking {ws'} m last dead same moved =
      let now : list_at ls' l ≡ swap_remove (list_at ls l) i e = rw removed (get_or-set_same ls l (swap_remove (list_at ls l) i e) [] (list-within ls l i e item)) in
      let others : (k : ℕ) → (k ≡ l → ⊥) → list_at ls' k ≡ list_at ls k = λ k n. rw removed (get_or-set_other ls l k (swap_remove (list_at ls l) i e) [] n) in
      grind (arith, others, now, dead, item, last, old.sits, old.named, old.small, swap-here, swap-other, swap-past, slice_get_within, same, moved)

  -- it is the removed one
  pub taken-last : {ws' : List Watch} → i + 1 ≡ length (list_at ls l) → ws' ≡ set ws e idle → IsTakenOut ws ws' ls ls' l i
  taken-last end now = rw now (taking e (ap (slice_get (list_at ls l)) (omega (arith, end)) ∙ item)
      (grind (arith, sits-within ws e l i (old.named e l i item), get_or-set_same)) (λ k n n_m. get_or-set_other ws e k idle idle n) (λ off. absurd (off refl)))

  -- it is another, `m`
  module _ {m : ℕ} (more : i + 1 < length (list_at ls l)) (last : slice_get (list_at ls l) (length (list_at ls l) - 1) ≡ Some m) where
    pub moved-apart : m ≡ e → ⊥
    moved-apart is = absurd (omega (arith, (one-place ws ls e l (length (list_at ls l) - 1) l i old (last ∙ ap (λ x. Some x) is) item).1, more))

    pub taken-moved : {ws' : List Watch} → ws' ≡ placed ws e m i → IsTakenOut ws ws' ls ls' l i
    taken-moved now = rw now (taking m last (grind (arith, moved-apart, sits-within ws e l i (old.named e l i item), get_or-set_same, get_or-set_other))
        (λ k n n_m. grind (arith, n, n_m, get_or-set_other))
        (λ off. grind (arith, sits-within, old.named m l (length (list_at ls l) - 1) last, get_or-set_same, get_or-set_other, length-set)))

-- a list has fewer entries than there are numbers of watches
pub list-small : (ws : List Watch) (ls : List (List ℕ)) (l : ℕ) → AreLinked ws ls → length (list_at ls l) ≤ 2 ^ 32 - 2
list-small ws ls l old = length-le_from_distinct_below (list_at ls l) (2 ^ 32 - 2)
    (IsDistinct-from_apart (λ x y. x == y) (list_at ls l) (λ i j d less inside. grind (arith, nat_tests, one-place ws ls (get_or (list_at ls l) j d) l i l j old, slice_get-get_or)))
    (λ q h. let w = Contains-from_any eqb-true q (list_at ls l) h in old.small q (old.named q l w.0 (grind (arith, w.1, w.2, slice_get-get_or))).live)

-- ---- Entries of lists are written, added and removed.
pub lists-length : (occ : List (List Listed)) → length (watch_lists occ) ≡ length occ
lists-length occ = length-map occ (λ (v : List Listed). map (λ (x : Listed). x.watch) v)

-- the watches of a list are those of its entries
pub watch-entries : (occ : List (List Listed)) (p : ℕ) → list_at (watch_lists occ) p ≡ map (λ (x : Listed). x.watch) (entries_at occ p)
watch-entries [] p = refl
watch-entries (v ∷ occ) zero = refl
watch-entries (v ∷ occ) (suc p) = watch-entries occ p

-- an entry's watch is in the list of watches
pub listed-watch : (occ : List (List Listed)) (x : Listed) (there : IsListed occ x) → slice_get (list_at (watch_lists occ) there.0) there.1 ≡ Some x.watch
listed-watch occ x there =
    ap (λ xs. slice_get xs there.1) (watch-entries occ there.0)
    ∙ (slice_get-map (λ (y : Listed). y.watch) (entries_at occ there.0) there.1 ∙ ap (option_map (λ (y : Listed). y.watch)) there.2)

pub watch-set : (occ : List (List Listed)) (p : ℕ) (v : List Listed) (xs : List ℕ) → map (λ (y : Listed). y.watch) v ≡ xs → watch_lists (set occ p v) ≡ set (watch_lists occ) p xs
watch-set occ p v xs now = map-set (λ (x : List Listed). map (λ (y : Listed). y.watch) x) occ p v ∙ ap (set (watch_lists occ) p) now

-- where an element of a changed list was before
pub set-older : (es : List Listed) (q i : ℕ) (y x : Listed) → slice_get (set es q y) i ≡ Some x → (x ≡ y) ⊎ ((j : ℕ) × (slice_get es j ≡ Some x))
set-older es q i y x h = grind (arith, slice_get_within, length-set, get-set_at, get-set_other, cases_eq i q)

pub push-older : {X : Type 0} (es : List X) (i : ℕ) (y x : X) → slice_get (es ++ (y ∷ [])) i ≡ Some x → (x ≡ y) ⊎ ((j : ℕ) × (slice_get es j ≡ Some x))
push-older es i y x h = grind (arith, get-push_same, get-push_other, cases_eq i (length es))

pub swap-older : (es : List Listed) (q i : ℕ) (d x : Listed) → slice_get (swap_remove es q d) i ≡ Some x → (j : ℕ) × (slice_get es j ≡ Some x)
swap-older es q i d x h = grind (arith, none-some, swap-past, set-older, get-take_less, slice_get-get_or, cases_lt i (length es - 1))

-- each entry of a changed list is an old one or another
pub list-older : (occ : List (List Listed)) (p : ℕ) (new : List Listed) (P : Listed → Type 0) → p < length occ → ((i : ℕ) (x : Listed) → slice_get new i ≡ Some x → P x ⊎ ((j : ℕ) × (slice_get (entries_at occ p) j ≡ Some x))) → (x : Listed) → IsListed (set occ p new) x → P x ⊎ IsListed occ x
list-older occ p new P room each x there = by_case (cases_eq there.0 p)
  where
    here : P x ⊎ ((j : ℕ) × (slice_get (entries_at occ p) j ≡ Some x)) → P x ⊎ IsListed occ x
    here (inl y) = inl y
    here (inr (j, is)) = inr (p, j, is)

    by_case : (there.0 ≡ p) ⊎ (there.0 ≡ p → ⊥) → P x ⊎ IsListed occ x
    by_case (inl same) = here (each there.1 x (ap (λ l. slice_get l there.1) (sym (ap (λ l. get_or (set occ p new) l []) same ∙ get_or-set_same occ p new [] room)) ∙ there.2))
    by_case (inr other) = inr (there.0, there.1, ap (λ l. slice_get l there.1) (sym (get_or-set_other occ p there.0 new [] other)) ∙ there.2)

-- an entry is appended
pub pushed-more : (occ : List (List Listed)) (p : ℕ) (entry : Listed) → p < length occ → AreMore entry occ (set occ p (entries_at occ p ++ entry ∷ []))
pushed-more occ p entry room = list-older occ p (entries_at occ p ++ entry ∷ []) (λ x. x ≡ entry) room (λ i x h. push-older (entries_at occ p) i entry x h)

-- an entry is another
pub set-more : (occ : List (List Listed)) (p i : ℕ) (entry : Listed) → p < length occ → AreMore entry occ (set occ p (set (entries_at occ p) i entry))
set-more occ p i entry room = list-older occ p (set (entries_at occ p) i entry) (λ x. x ≡ entry) room (λ j x h. set-older (entries_at occ p) i j entry x h)

-- an entry is removed
pub removed-fewer : (occ : List (List Listed)) (p q : ℕ) (d : Listed) → p < length occ → AreFewer occ (set occ p (swap_remove (entries_at occ p) q d))
removed-fewer occ p q d room x there = only (list-older occ p (swap_remove (entries_at occ p) q d) (λ x. ⊥) room (λ i y h. inr (swap-older (entries_at occ p) q i d y h)) x there)
  where
    only : ⊥ ⊎ IsListed occ x → IsListed occ x
    only (inl never) = absurd never
    only (inr is) = is

pub removed-watch : (occ : List (List Listed)) (p q : ℕ) (d : Listed) → watch_lists (set occ p (swap_remove (entries_at occ p) q d)) ≡ set (watch_lists occ) p (swap_remove (list_at (watch_lists occ) p) q d.watch)
removed-watch occ p q d = watch-set occ p (swap_remove (entries_at occ p) q d) (swap_remove (list_at (watch_lists occ) p) q d.watch) (rw (watch-entries occ p) (swap-map (λ (x : Listed). x.watch) (entries_at occ p) q d))

pub blocked-more : (clauses : List (List ℕ)) (entry : Listed) (old new : List (List Listed)) → AreMore entry old new → Contains (list_at clauses (entry.watch / 2)) entry.blocker → AreBlocked clauses old → AreBlocked clauses new
blocked-more clauses entry old new more here b x there = grind (arith, more x there, b x)

-- an entry that was read from its list
pub entry-listed : (occ : List (List Listed)) (list : List Listed) (p i : ℕ) (x : Listed) → list ≡ get_or occ p [] → i < length list → x ≡ get_or list i x → IsListed occ x
entry-listed occ list p i x is inside read = (p, i, slice_get_read (get_or occ p []) _ i x refl (rw is at inside) (rw is at read))

pub entry-watch : (occ : List (List Listed)) (list : List Listed) (p i : ℕ) (x : Listed) → list ≡ get_or occ p [] → i < length list → x ≡ get_or list i x → slice_get (list_at (watch_lists occ) p) i ≡ Some x.watch
entry-watch occ list p i x is inside read = listed-watch occ x (p, i, slice_get_read (get_or occ p []) _ i x refl (rw is at inside) (rw is at read))

pub list-long : (occ : List (List Listed)) (list : List Listed) (p : ℕ) → list ≡ get_or occ p [] → length list ≡ length (list_at (watch_lists occ) p)
list-long occ list p is = ap length is ∙ (sym (length-map (entries_at occ p) (λ (x : Listed). x.watch)) ∙ sym (ap length (watch-entries occ p)))

-- the list has ended
pub list-ended : {X : Type 0} (xs : List X) (i : ℕ) → slice_get xs i ≡ None → length xs ≤ i
list-ended xs i none =
    elim (slice_get_cases xs i).1 [
      | inl some ↦ absurd (none-some some.0 (sym none ∙ some.2))
      | inr past ↦ past.0
    ]

-- the watch of the last entry
pub last-watch : (occ : List (List Listed)) (p q : ℕ) (m : Listed) → q + 1 < length (entries_at occ p) → m ≡ get_or (entries_at occ p) (length (entries_at occ p) - 1) m → (q + 1 < length (list_at (watch_lists occ) p)) × (slice_get (list_at (watch_lists occ) p) (length (list_at (watch_lists occ) p) - 1) ≡ Some m.watch)
last-watch occ p q m more is =
    let es = entries_at occ p in
    let long : length es ≡ length (list_at (watch_lists occ) p) = list-long occ es p refl in (
      omega (arith, long, more),
      ap (λ n. slice_get (list_at (watch_lists occ) p) (n - 1)) (sym long) ∙ entry-watch occ es p (length es - 1) m refl (omega (arith, more)) is,
    )

-- a live watch is that of each entry
pub listed-live : (ws : List Watch) (occ : List (List Listed)) (x : Listed) → AreLinked ws (watch_lists occ) → IsListed occ x → (watch_at ws x.watch).live ≡ true
listed-live ws occ x linked there = (linked.named x.watch there.0 there.1 (listed-watch occ x there)).live

-- one clause is another, which has the blockers of its entries
pub blocked-set : (clauses : List (List ℕ)) (s : ℕ) (xs : List ℕ) (occ : List (List Listed)) → s < length clauses → ((x : Listed) → IsListed occ x → x.watch / 2 ≡ s → Contains xs x.blocker) → ((x : Listed) → IsListed occ x → (x.watch / 2 ≡ s → ⊥) → Contains (list_at clauses (x.watch / 2)) x.blocker) → AreBlocked (set clauses s xs) occ
blocked-set clauses s xs occ room here others x there = grind (arith, x.watch, x.blocker, get_or-set_same, get_or-set_other, cases_eq (x.watch / 2) s)

-- an entry that is read
pub watch-read : (occ : List (List Listed)) (p i : ℕ) (x : Listed) → i < length (list_at (watch_lists occ) p) → x ≡ get_or (entries_at occ p) i x → slice_get (list_at (watch_lists occ) p) i ≡ Some x.watch
watch-read occ p i x inside is =
    let long : i < length (entries_at occ p) = omega (arith, inside, ap length (watch-entries occ p), length-map (entries_at occ p) (λ (y : Listed). y.watch)) in
    listed-watch occ x (p, i, slice_get_read (entries_at occ p) _ i x refl long is)

-- the same watch with another blocker
pub watch-kept : (occ : List (List Listed)) (p i : ℕ) (x : Listed) → slice_get (list_at (watch_lists occ) p) i ≡ Some x.watch → watch_lists (set occ p (set (entries_at occ p) i x)) ≡ watch_lists occ
watch-kept occ p i x item =
    let was = get_or_from_slice_get (list_at (watch_lists occ) p) i x.watch 0 item in
    grind (arith, watch-set, watch-entries, was, map-set, set-get_or)
