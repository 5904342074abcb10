-- How far the literals of a list are walked: in longer lists, after visits, and by the heads.
use Rattle.pb_propagate.proofs.Common.{ℕ, ◌++◌, ◌-◌, ◌/◌, ◌<◌, ◌∙◌, ◌≡◌, ◌≤◌, [], ap, arith, Bool, drop, get_or, length, rules, List, map, refl, sym, take}
use Rattle.pb_propagate.proofs.Common.{take_all, true, Contains, Option, cases_lt, get_or_append_left, get_or_from_slice_get, length-append, length-map}
use Rattle.pb_propagate.proofs.Common.{length-take, length-take-le, slice_get_within, take-append-drop, take-append-le, get_or-map, slice_get-get_or}
use Rattle.pb_propagate.proofs.Common.{Contains-append_cases, NumberedLiteral, Group, Long, Short, Clauses, Watch, Heads, Walked, list_at, negation, watch_at}
use Rattle.pb_propagate.proofs.Common.{AreWalked, IsSameWatch, KeepsWalked, literal_at, Extends, IsWithin, AreMarks, IsMark, IsWalkedTo, KeepsMarks}
use Rattle.pb_propagate.proofs.Common.{falsified_code, heads_at, reached_codes, append_assoc, AreWithin, IsAhead, Run, list_of, values_of, ◌*◌, ◌+◌, ◌∷◌, false}
use Rattle.pb_propagate.proofs.Common.{sum, sum_by, map-append, take_more, Contains-append_left, Contains-append_right, Search, watch_lists, AreReady, Grows}
use Rattle.pb_propagate.proofs.Common.{IsRunning, passed_of, clause_shape, clauses_of, code_in, false_at, flip, AreSingle, more, none, IsSettled, same}
use Rattle.pb_propagate.proofs.Common.{Contains-permutation, get_or_default, HasTrue}
use Rattle.pb_propagate.proofs.lemmas.engine.Literals.{says-inside, has-get, negation-negation, same-true}
use Rattle.pb_propagate.proofs.lemmas.{store.Gets.get-take_less, store.Gets.last-is, engine.Advances.extends-within, engine.Advances.extends-none}
use Rattle.pb_propagate.proofs.lemmas.clauses.{Shapes.served-settled, Visited.ready-round, Visited.passed-at, Walks.running-grow, Walks.walked-grow}
use Rattle.pb_propagate.proofs.lemmas.clauses.Counts.{killed-more, occurs, list-short, passed-most, stands-fresh}
use Rattle.pb_propagate.proofs.lemmas.clauses.Literals.{Agree, true-listed, false-listed, code-back, flip-half, false-code, code-injective, code-of}
use Rattle.pb_propagate.specs.{declared.heads.Ahead.Ahead, engine.clauses.Runs.AreRound, engine.engine.Lists.has, engine.engine.Progress.HasWalked}
use Rattle.pb_propagate.specs.engine.clauses.Walked.{has as stands, falsified_code, heads_at, reached_codes, reached, head, advanced}
use Rattle.std.proofs.{Math.ListN.replicate, lemmas.List.get_or-replicate, lemmas.List.length-replicate, lemmas.List.take-take, lemmas.List.get_or-append_right}
use Rattle.std.proofs.lemmas.List.{Folds.Any-from_list_any, Sorted.IsPermutation-append_comm, Sorted.IsPermutation-append_right}

-- heads with the same numbers
pub heads-is : (h : Heads) (n : ℕ) → h.short ≡ n → h.long ≡ n → h ≡ heads_at n
heads-is h n a b = ap (λ m. record { short = m; long = h.long }) a ∙ ap (λ m. record { short = n; long = m }) b

-- the first literals of a list
pub take-whole : (n : ℕ) (list : List NumberedLiteral) → Extends (take n list) list
take-whole n list = (drop n list, sym (take-append-drop n list))

take-extends : (m n : ℕ) (list : List NumberedLiteral) → m ≤ n → Extends (take m list) (take n list)
take-extends m n list h = rw (take-take m n list h) at (take-whole m (take n list))

take-within : (n : ℕ) (list : List NumberedLiteral) → IsWithin (take n list) list
take-within n list = extends-within (take n list) list (take-whole n list)

-- the codes that heads reach are those of falsified literals
code-listed : (g : Group) (list : List NumberedLiteral) (x : ℕ) → Contains (map (falsified_code g) list) x → has list (negation (literal_at x)) ≡ true
code-listed g list x at =
    let l : NumberedLiteral = get_or list at.0 (literal_at x) in
    let code = get_or-map (falsified_code g) list at.0 (literal_at x) x in
    grind (arith, at.1, at.2, length-map, code, has-get list at.0 (literal_at x), code-back g (negation l), negation-negation l)

pub codes-listed : (list first : List NumberedLiteral) (h : Heads) (x : ℕ) → IsWithin first list → Contains (reached_codes h first) x → has list (negation (literal_at x)) ≡ true
codes-listed list first h x within there =
    let cases = Contains-append_cases (map (falsified_code Short) (take h.short first)) (map (falsified_code Long) (take h.long first)) x there in
    grind (arith, within, cases, code-listed Short (take h.short first) x, code-listed Long (take h.long first) x, take-within h.short first, take-within h.long first)

-- heads and values
pub mark-walked : (values : List (Option Bool)) (clauses : List (List ℕ)) (ws : List Watch) (list : List NumberedLiteral) (h : Heads) → Agree values list → IsMark clauses ws list h → AreWalked values clauses ws (reached_codes h list)
mark-walked values clauses ws list h a m =
    let failed = λ (x : ℕ) (there : Contains (reached_codes h list) x). false-listed values list x a ∙ codes-listed list list h x (λ l on. on) there in
    grind (arith, failed, true-listed, m.done)

pub walked-mark : (values : List (Option Bool)) (clauses : List (List ℕ)) (ws : List Watch) (list : List NumberedLiteral) (h : Heads) → Agree values list → h.short ≤ length list → h.long ≤ length list → AreWalked values clauses ws (reached_codes h list) → IsMark clauses ws list h
walked-mark values clauses ws list h a short long w = grind (arith, w.done, true-listed)

-- no literal is walked
pub mark-none : (clauses : List (List ℕ)) (ws : List Watch) (list : List NumberedLiteral) → IsMark clauses ws list (heads_at 0)
mark-none clauses ws list = grind (arith)

-- a longer list
pub mark-more : (clauses : List (List ℕ)) (ws : List Watch) (a b : List NumberedLiteral) (h : Heads) → Extends a b → IsMark clauses ws a h → IsMark clauses ws b h
mark-more clauses ws a b h (r, e) m = grind (arith, m.short, m.long, m.done, extends-within, length-append, take-append-le, h.short, h.long)

-- Each watch on a literal that the list falsifies was there before, on the same clause.
abbrev pub KeepsFallen : Clauses → Clauses → List NumberedLiteral → Type 0
KeepsFallen c c' list = (e : ℕ) → (watch_at c'.blocks.watches e).live ≡ true → has list (negation (literal_at (watch_at c'.blocks.watches e).literal)) ≡ true → IsSameWatch (watch_at c.blocks.watches e) (watch_at c'.blocks.watches e) × (list_at c'.blocks.literals (e / 2) ≡ list_at c.blocks.literals (e / 2))

pub mark-kept : (c c' : Clauses) (list first : List NumberedLiteral) (h : Heads) → IsWithin first list → KeepsFallen c c' list → IsMark c.blocks.literals c.blocks.watches first h → IsMark c'.blocks.literals c'.blocks.watches first h
mark-kept c c' list first h within kept m =
    let codes = λ (e : ℕ). codes-listed list first h (watch_at c'.blocks.watches e).literal within in
    record { short = m.short; long = m.long; done = λ e live there. grind (arith, live, there, kept e live (codes e there), m.done e) }

-- visits move no watch to a literal that was walked, and what undoes them keeps the watches
pub visits-back : (values : List (Option Bool)) (c between after : Clauses) (list : List NumberedLiteral) → Agree values list →
    after.blocks.literals ≡ c.blocks.literals → after.blocks.watches ≡ between.blocks.watches → KeepsWalked values c between → KeepsFallen c after list
visits-back values c between after list a literals watches kept e live on =
    (rw watches (kept e (rw watches at live) (false-listed values list _ a ∙ rw watches at on)), ap (λ cs. list_at cs (e / 2)) literals)

pub marks-kept : (c c' : Clauses) (list : List NumberedLiteral) (marks : List Heads) → KeepsFallen c c' list → AreMarks c.blocks.literals c.blocks.watches list marks → AreMarks c'.blocks.literals c'.blocks.watches list marks
marks-kept c c' list marks kept old i h at = ((old i h at).0, mark-kept c c' list (take i list) h (take-within i list) kept (old i h at).1)

-- the same of the record of both
pub walks-kept : (c c' : Clauses) (list : List NumberedLiteral) (w : Walked) → KeepsFallen c c' list → IsWalkedTo c list w → IsWalkedTo c' list w
walks-kept c c' list w kept old = search (rules, mark-kept, w.heads, old.now, marks-kept, old.marks, old.level)

-- no literal is walked, and none is on the list
pub walks-none : (c : Clauses) (w : Walked) → w.heads ≡ heads_at 0 → w.marks.items ≡ [] → IsWalkedTo c [] w
walks-none c w heads marks = grind (arith, mark-none, slice_get_within)

pub marks-more : (clauses : List (List ℕ)) (ws : List Watch) (a b : List NumberedLiteral) (marks : List Heads) → Extends a b → AreMarks clauses ws a marks → AreMarks clauses ws b marks
marks-more clauses ws a b marks (r, e) old i h at = grind (arith, take-append-le, length-append)

-- new literals get the heads as their marks
pub marks-push : (clauses : List (List ℕ)) (ws : List Watch) (list : List NumberedLiteral) (marks : List Heads) (n m : ℕ) (h : Heads) → length marks ≡ n → m ≤ length list → IsMark clauses ws (take n list) h → AreMarks clauses ws list marks → AreMarks clauses ws list (marks ++ replicate (m - n) h)
marks-push clauses ws list marks n m h long most one old i k at =
    let more = replicate (m - n) h in
    let after = λ (o : n ≤ i). mark-more clauses ws (take n list) (take i list) h (take-extends n i list o) one in
    let less = slice_get_within (marks ++ more) i k at in
    let read = get_or_from_slice_get (marks ++ more) i k k at in
    let past = get_or-append_right marks more (length marks) i k refl in
    let new = get_or-replicate (m - n) (i - length marks) h k in
    grind (arith, cases_lt i (length marks), old i k, after, slice_get-get_or marks i k, get_or_append_left, length-append, length-replicate, less, read, past, new)

-- a shorter list
pub marks-take : (clauses : List (List ℕ)) (ws : List Watch) (list : List NumberedLiteral) (marks : List Heads) (n : ℕ) → n ≤ length list → AreMarks clauses ws list marks → AreMarks clauses ws (take n list) (take n marks)
marks-take clauses ws list marks n within old i h at = grind (arith, slice_get_within, length-take, get-take_less, take-take, old i h, at, within)

-- The marks of a propagation in progress: the first literals have theirs, and the heads are walked under these alone.
pub record IsMarking (c0 c : Clauses) (list0 list : List NumberedLiteral) (marks0 marks : List Heads) (marked : ℕ) (h : Heads) : Type 0 where
  pub first : length list0 ≤ marked
  pub within : marked ≤ length list
  pub now : IsMark c.blocks.literals c.blocks.watches (take marked list) h
  pub level : length marks0 ≡ length list0 → length marks ≡ marked
  pub kept : KeepsMarks c0 c list0 list marks0 marks

pub marking-start : (c : Clauses) (list : List NumberedLiteral) (marks : List Heads) (n : ℕ) (h : Heads) → n ≡ length list → IsMark c.blocks.literals c.blocks.watches list h → IsMarking c c list list marks marks n h
marking-start c list marks n h is m = grind (arith, take_all)

module _ {c0 c : Clauses} {list0 list : List NumberedLiteral} {marks0 marks : List Heads} {marked : ℕ} {h : Heads} (m : IsMarking c0 c list0 list marks0 marks marked h) where
  -- literals were put, and no clause was visited
  pub marking-grow : (list' : List NumberedLiteral) → Extends list list' → IsMarking c0 c list0 list' marks0 marks marked h
  marking-grow list' e = grind (arith, m.first, m.within, m.now, m.level, m.kept, marks-more, take-append-le, length-append, e.1)

  -- a literal was walked
  pub marking-found : (values : List (Option Bool)) (c' : Clauses) → Agree values list → c'.blocks.literals ≡ c.blocks.literals → KeepsWalked values c c' → IsMarking c0 c' list0 list marks0 marks marked h
  marking-found values c' a same kept =
      let later = marks-kept c c' list marks (visits-back values c c' c' list a same refl kept) in
      let now = mark-kept c c' list (take marked list) h (take-within marked list) (visits-back values c c' c' list a same refl kept) m.now in
      grind (arith, m.first, m.within, m.level, m.kept, later, now)

  -- the literals that were put since have their marks
  pub marking-next : (marks' : List Heads) (n : ℕ) (h' : Heads) → n ≡ length list → marks' ≡ marks ++ replicate (n - marked) h → IsMark c.blocks.literals c.blocks.watches list h' → IsMarking c0 c list0 list marks0 marks' n h'
  marking-next marks' n h' is pushed one =
      let more = marks-push c.blocks.literals c.blocks.watches list marks marked n h in
      grind (arith, m.first, m.within, m.level, m.kept, m.now, take_all, length-append, length-replicate, more)

-- after a propagation that has ended without a conflict
pub walks-ended : (c c' : Clauses) (list list' : List NumberedLiteral) (w w' : Walked) (marks : List Heads) → IsWalkedTo c list w → KeepsMarks c c' list list' w.marks.items marks → IsMark c'.blocks.literals c'.blocks.watches list' (heads_at (length list')) → w'.heads ≡ heads_at (length list') → w'.marks.items ≡ marks ++ replicate (length list' - length marks) (heads_at 0) → IsWalkedTo c' list' w'
walks-ended c c' list list' w w' marks old kept whole heads pushed =
    let m = (kept old.level old.marks).1 in
    let start = mark-none c'.blocks.literals c'.blocks.watches (take (length marks) list') in
    let all = marks-push c'.blocks.literals c'.blocks.watches list' marks (length marks) (length list') (heads_at 0) refl (omega arith) start m in
    grind (arith, cases_lt 0 (length marks), slice_get-get_or marks (length marks - 1) (heads_at 0), m (length marks - 1), all, length-append, length-replicate)

-- a propagation was undone, and the marks of its literals are gone
pub walks-back : (c c' : Clauses) (list list' : List NumberedLiteral) (w w' : Walked) (marks : List Heads) → IsWalkedTo c list w → Extends list list' → KeepsFallen c c' list → KeepsMarks c c' list list' w.marks.items marks → w'.heads ≡ w.heads → w'.marks.items ≡ take (length list) marks → IsWalkedTo c' list w'
walks-back c c' list list' w w' marks old (r, e) fallen kept heads cut =
    let k = kept old.level old.marks in
    let first : take (length list) list' ≡ list = grind (arith, e, take-append-le, take_all) in
    record {
      now = rw heads (mark-kept c c' list list w.heads (λ l on. on) fallen old.now);
      marks = rw cut (rw first at (marks-take c'.blocks.literals c'.blocks.watches list' marks (length list) (omega (arith, ap length e, length-append list r)) k.1));
      level = rw cut (length-take-le (length list) marks (omega (arith, k.0, old.level)));
    }

-- the list is cut
pub walks-cut : (c : Clauses) (list : List NumberedLiteral) (n : ℕ) (w w' : Walked) → n < length list → IsWalkedTo c list w → w'.heads ≡ get_or w.marks.items n (heads_at 0) → w'.marks.items ≡ take n w.marks.items → IsWalkedTo c (take n list) w'
walks-cut c list n w w' less old heads cut =
    let first = marks-take c.blocks.literals c.blocks.watches list w.marks.items n (omega (arith, less)) old.marks in
    let mark = get_or w.marks.items n (heads_at 0) in
    grind (arith, heads, cut, old.level, length-take-le, slice_get-get_or w.marks.items n (heads_at 0), old.marks n mark, first)

-- ---- The first literals of the list are walked.
-- what the walks may have cost
abbrev pub cost : Clauses → Clauses → Heads → List NumberedLiteral → ℕ
cost c0 c h list = 2 * reached (clauses_of c0) h list + sum (passed_of c)

pub record IsWatching (c0 c : Clauses) (values : List (Option Bool)) (list : List NumberedLiteral) (h : Heads) : Type 0 where
  pub literals : c.blocks.literals ≡ c0.blocks.literals
  pub running : IsRunning values c
  pub short : h.short ≤ length list
  pub long : h.long ≤ length list
  pub served : AreWalked values c.blocks.literals c.blocks.watches (reached_codes h list)

-- between two calls
pub ready-running : (c : Clauses) (values : List (Option Bool)) → AreReady c → length c.lists ≡ 4 * length values → IsRunning values c
ready-running c values r sizes =
    let round : AreRound (map (λ (x : Search). x.position) c.blocks.searches) c.blocks.literals c.blocks.searches =
    λ s some. ready-round c.blocks.searches s _ (sym (passed-at c.blocks.searches s) ∙ r.none s) (r.inside s some) in
    record { starts = map (λ (x : Search). x.position) c.blocks.searches; stored = r.stored; blocked = r.blocked; passed = grind (arith, r.none, r.sizes, length-map); round = round; sizes = sizes }

-- the list gets longer, and the literals that are walked are the same
extends-longer : (list list' : List NumberedLiteral) → Extends list list' → length list ≤ length list'
extends-longer list list' (r, e) = omega (arith, ap length e, length-append list r)

first-same : (list list' : List NumberedLiteral) (n : ℕ) → n ≤ length list → Extends list list' → take n list' ≡ take n list
first-same list list' n within (r, e) = ap (take n) e ∙ take-append-le n list r within

pub same-reached : (h : Heads) (list list' : List NumberedLiteral) → h.short ≤ length list → h.long ≤ length list → Extends list list' →
    (reached_codes h list' ≡ reached_codes h list) × ((clauses : List (List ℕ)) → reached clauses h list' ≡ reached clauses h list)
same-reached h list list' a b extends = rw (first-same list list' h.short a extends, first-same list list' h.long b extends) (refl, λ clauses. refl)

pub watching-grow : {c0 c : Clauses} {values values' : List (Option Bool)} {list list' : List NumberedLiteral} {h : Heads} → length values' ≡ length values → Grows values values' → Extends list list' → IsWatching c0 c values list h → IsWatching c0 c values' list' h
watching-grow {c0} {c} {values} {values'} {list} {list'} {h} sizes g extends w =
    grind (arith, w.literals, running-grow, w.running, w.short, extends-longer, w.long, (same-reached h list list' w.short w.long extends).0, walked-grow, w.served)

-- one more literal is walked
pub next-codes : (f : NumberedLiteral → ℕ) (list : List NumberedLiteral) (n : ℕ) (l : NumberedLiteral) → n < length list → l ≡ get_or list n l → map f (take (n + 1) list) ≡ map f (take n list) ++ (f l ∷ [])
next-codes f list n l inside is =
    ap (map f) (take_more list n l inside ∙ ap (λ k. take n list ++ (k ∷ [])) (sym is)) ∙ map-append f (take n list) (l ∷ [])

reached-next : (g : Group) (h : Heads) (list : List NumberedLiteral) (l : NumberedLiteral) (x : ℕ) → head g h < length list → l ≡ get_or list (head g h) l → Contains (reached_codes (advanced g h) list) x → Contains (reached_codes h list ++ (falsified_code g l ∷ [])) x
reached-next Short h list l x inside is there =
    let short = map (falsified_code Short) (take h.short list) in
    let long = map (falsified_code Long) (take h.long list) in
    let y = falsified_code Short l ∷ [] in
    rw (append_assoc short long y) (Contains-permutation (short ++ (y ++ long)) (short ++ (long ++ y)) x
    (IsPermutation-append_right short (y ++ long) (long ++ y) (IsPermutation-append_comm y long))
    (rw (next-codes (falsified_code Short) list h.short l inside is, append_assoc short y long) at there))
reached-next Long h list l x inside is there = rw (next-codes (falsified_code Long) list h.long l inside is, ← append_assoc) at there

pub ahead-within : {h : Heads} {list : List NumberedLiteral} {ahead : Ahead} → IsAhead h list ahead → h.short ≤ length list → h.long ≤ length list →
    (ahead.heads.short ≤ length list) × (ahead.heads.long ≤ length list) × (ahead.heads.short + ahead.heads.long ≡ h.short + h.long + 1)
ahead-within {h} {list} a short long = grind (arith, a.after, a.inside, a.group)

-- the next literal is not walked yet
pub fresh-take : (list : List NumberedLiteral) (n : ℕ) (l : NumberedLiteral) → AreSingle list → n < length list → l ≡ get_or list n l → has (take n list) l ≡ false
fresh-take _ n l none inside is = absurd (omega (arith, inside))
fresh-take _ n l (more {list} k s absent) inside is =
    grind (arith, cases_lt n (length list), take-append-le, fresh-take list n l s, get_or_append_left, last-is, take_all, absent, length-append)

fresh : (g : Group) (list : List NumberedLiteral) (n : ℕ) (l : NumberedLiteral) → AreSingle list → n < length list → l ≡ get_or list n l → stands (map (falsified_code g) (take n list)) (falsified_code g l) ≡ false
fresh g list n l single inside is = stands-fresh (falsified_code g) (take n list) l
    (λ k e. grind (arith, code-injective g (negation k) (negation l) e, negation-negation)) (fresh-take list n l single inside is)

-- the next literal is falsified
pub next-of : {h : Heads} {list : List NumberedLiteral} {ahead : Ahead} (values : List (Option Bool)) → Agree values list → IsAhead h list ahead → (false_at values ahead.code ≡ true) × (ahead.code < 4 * length values)
next-of {h} {list} values agree a =
    let l = a.literal in
    let on : has list l ≡ true = ap (has list) a.is ∙ has-get list (head a.group h) l a.inside in
    let variable : l.variable < length values = says-inside values l (sym (agree l) ∙ on) in
    rw a.code (false-code values list a.group l agree ∙ on, grind (arith, variable, a.group))

pub watching-next : {c0 c : Clauses} {h : Heads} {ahead : Ahead} (c' : Clauses) (old new : Run) → IsAhead h (list_of old) ahead → Extends (list_of old) (list_of new) → c'.blocks.literals ≡ c.blocks.literals → IsRunning (values_of new) c' → HasWalked c c' ahead.code old new →
    IsWatching c0 c (values_of old) (list_of old) h → IsWatching c0 c' (values_of new) (list_of new) ahead.heads
watching-next {c0} {c} {h} {ahead} c' old new a extends literals running walked w =
    let list = list_of old in
    let ends = ahead-within a w.short w.long in
    let longer = extends-longer list (list_of new) extends in
    let next = next-of (values_of old) old.assignment.agrees a in
    let all = walked (reached_codes h list)
    (record { failed = w.served.failed; now = next.0; done = w.served.done; here = λ k live at less. absurd (omega (arith, less)) }) in
    let within : (x : ℕ) → Contains (reached_codes ahead.heads list) x → Contains (reached_codes h list ++ (ahead.code ∷ [])) x = λ x there. rw a.code
    (reached-next a.group h list a.literal x a.inside a.is (rw a.after at there)) in
    record {
      literals = literals ∙ w.literals;
      running = running;
      short = omega (arith, ends.0, longer);
      long = omega (arith, ends.1, longer);
      served = rw (same-reached ahead.heads list (list_of new) ends.0 ends.1 extends).0
          (record { failed = λ x there. all.failed x (within x there); done = λ e live there. all.done e live (within _ there) });
    }

-- the variable of a literal of the list has a value
pub listed-small : (values : List (Option Bool)) (list : List NumberedLiteral) (k : ℕ) (d : NumberedLiteral) → Agree values list → k < length list → (get_or list k d).variable < length values
listed-small values list k d a inside = says-inside values (get_or list k d) (sym (a (get_or list k d)) ∙ has-get list k d inside)

-- one more code is walked
pub reached-more : (g : Group) (clauses : List (List ℕ)) (h : Heads) (list : List NumberedLiteral) (l : NumberedLiteral) → AreSingle list → head g h < length list → l ≡ get_or list (head g h) l → reached clauses (advanced g h) list ≡ reached clauses h list + occurs clauses (falsified_code g l)
reached-more Short clauses h list l single inside is = grind (arith, killed-more, fresh Short, next-codes (falsified_code Short) list h.short l inside is)
reached-more Long clauses h list l single inside is = grind (arith, killed-more, fresh Long, next-codes (falsified_code Long) list h.long l inside is)

-- what a walk costs: the watches of its literal
pub reached-ahead : {c0 c : Clauses} {values : List (Option Bool)} {list : List NumberedLiteral} {h : Heads} {ahead : Ahead} (list' : List NumberedLiteral) → AreSingle list → IsAhead h list ahead → Extends list list' → IsWatching c0 c values list h →
    length (list_at (watch_lists c.lists) ahead.code) + reached (clauses_of c0) h list ≤ reached (clauses_of c0) ahead.heads list'
reached-ahead {c0} {c} {values} {list} {h} {ahead} list' single a extends w =
    let clauses = clauses_of c0 in
    let few = list-short clauses c.blocks.watches (watch_lists c.lists) (falsified_code a.group a.literal) (rw w.literals at w.running.stored) in
    let grown = reached-more a.group clauses h list a.literal single a.inside a.is in
    let ends = ahead-within a w.short w.long in
    rw a.code (omega (arith, few, grown, ap (λ k. reached clauses k list) a.after, (same-reached ahead.heads list list' ends.0 ends.1 extends).1 clauses))

-- what a walk costs that was abandoned
pub cost-broken : {c0 c : Clauses} {values : List (Option Bool)} {list : List NumberedLiteral} {h : Heads} {ahead : Ahead} (c' : Clauses) → AreSingle list → IsAhead h list ahead → AreWithin (passed_of c') (clauses_of c) → IsWatching c0 c values list h →
    2 * length (list_at (watch_lists c.lists) ahead.code) + cost c0 c h list + sum (passed_of c') ≤ sum (passed_of c) + (2 * reached (clauses_of c0) ahead.heads list + sum_by length (clauses_of c0))
cost-broken {c0} {c} {values} {list} c' single a bounded w =
    omega (arith, reached-ahead list single a (extends-none list) w, passed-most (passed_of c') (clauses_of c0) (rw w.literals at bounded))

pub cost-most : (c0 c : Clauses) (values : List (Option Bool)) (list : List NumberedLiteral) (h : Heads) → IsWatching c0 c values list h → cost c0 c h list ≤ 2 * reached (clauses_of c0) h list + sum_by length (clauses_of c0)
cost-most c0 c values list h w = omega (arith, passed-most (passed_of c) (clauses_of c0) (rw w.literals at w.running.passed.bounded))

-- the position of a literal of the list
pub has-place : (xs : List NumberedLiteral) (l : NumberedLiteral) → has xs l ≡ true → (i : ℕ) × (i < length xs) × (get_or xs i l ≡ l)
unfolding has
has-place xs l h = let w = Any-from_list_any (λ x. same x l) xs h in (w.0, w.2, get_or_default xs w.0 l w.1 w.2 ∙ w.3 ∙ same-true w.1 l w.4)

-- the code of a falsified literal is walked
code-walked : (g : Group) (list : List NumberedLiteral) (n y : ℕ) → length list ≤ n → has list (negation (literal_at y)) ≡ true → code_in g (literal_at y) ≡ y → Contains (map (falsified_code g) (take n list)) y
code-walked g list n y end on at = grind (arith, has-place, negation-negation, length-map, get_or-map, take_all)

all-walked : (values : List (Option Bool)) (list : List NumberedLiteral) (h : Heads) (y : ℕ) → Agree values list → length list ≤ h.short → length list ≤ h.long → false_at values y ≡ true → Contains (reached_codes h list) y
all-walked values list h y a short long failed = grind (arith, false-listed values list y a, code-of y, Contains-append_left, Contains-append_right, code-walked)

-- if all falsified literals are walked, each clause is settled
pub watching-settled : (c0 c : Clauses) (values : List (Option Bool)) (list : List NumberedLiteral) (h : Heads) (s : ℕ) → Agree values list → ((l : NumberedLiteral) → has list l ≡ true → has list (negation l) ≡ false) → length list ≤ h.short → length list ≤ h.long → 0 < length (list_at (clauses_of c0) s) → IsWatching c0 c values list h → IsSettled (clause_shape (list_at (clauses_of c0) s)) list
watching-settled c0 c values list h s a one short long some w =
    let ws = c.blocks.watches in
    let stored = rw w.literals at w.running.stored in
    let served = rw w.literals at w.served in
    let live = stored.full s some in
    let half : 2 * s / 2 ≡ s = omega arith in
    let half' : flip (2 * s) / 2 ≡ s = omega (arith, flip-half (2 * s)) in
    let by : (e : ℕ) → (watch_at ws e).live ≡ true → e / 2 ≡ s → false_at values (watch_at ws e).literal ≡ true → HasTrue values (clauses_of c0) s =
    λ e on at failed. rw at at (served.done e on (all-walked values list h (watch_at ws e).literal a short long failed)) in
    served-settled values list _ (watch_at ws (2 * s)).literal (watch_at ws (flip (2 * s))).literal a one (rw half at (stored.watched (2 * s) live))
    (rw half' at (stored.watched (flip (2 * s)) (stored.paired (2 * s) live))) (stored.apart (2 * s) live) (by (2 * s) live half)
    (by (flip (2 * s)) (stored.paired (2 * s) live) half')

-- at the end all literals are walked
pub walked-whole : (values : List (Option Bool)) (clauses : List (List ℕ)) (ws : List Watch) (list : List NumberedLiteral) (h : Heads) → h.short ≡ length list → h.long ≡ length list → AreWalked values clauses ws (reached_codes h list) → AreWalked values clauses ws (reached_codes (heads_at (length list)) list)
walked-whole values clauses ws list h short long w = rw (short, long) at w
