-- Terms in a map by their variables: what an insertion and a removal change, and what cancels in the sum with a list, from
-- lookups in the map alone.
use Rattle.pb_normal.proofs.Common.{cond_both, ℕ, ◌++◌, ◌+◌, ◌<◌, ◌∷◌, ◌≡◌, ◌≤◌, [], arith, Bool, get_or, length, Less, List, None, Option, refl, Some, sym}
use Rattle.pb_normal.proofs.Common.{take, nat_cmp_total, ranked, All-cons, All-head, All-tail, sum_by-insert_entry, sum_by-remove_entry, BTreeMap, get}
use Rattle.pb_normal.proofs.Common.{insert_entry, is_at, values, All, AllByRecursion, keys_of, lookup, remove_entry, values_of, option_map, option_to_list}
use Rattle.pb_normal.proofs.Common.{unwrap_or, nat_cmp, take_read, Entry, Adds, IsAtItsKey, IsKeyed, counted, each, IsRising, plain_of, total, eqb, not}
use Rattle.pb_normal.proofs.Common.{nat_tests, filter, of_variable, ◌∙◌, ap, append_assoc, false, Greater, IfSome, lookup_tail, nat_cmp_is, is_eq, Cancels}
use Rattle.pb_normal.proofs.{Common.TermCancels, lemmas.rules.Sums.turned, lemmas.rules.Unique.IsRising-same, lemmas.terms.Maps.IsRising-filter}
use Rattle.pb_normal.proofs.lemmas.terms.Totals.{total-sum, total-prefix, total-append, Adds-apart, size-Adds, IsRising-from, IsRising-positive}
use Rattle.std.{proofs.lemmas.Map.Keys.sorted_head, proofs.lemmas.Map.Keys.sorted_tail, specs.BTreeMap.IsOrdered, specs.List.Sorted.IsStrictlySortedBy}

pub All-insert : (k : ℕ) (t : Entry) (es : List (ℕ × Entry)) → IsAtItsKey (k, t) → All IsAtItsKey es → All IsAtItsKey (insert_entry nat_cmp es k t)
All-insert k t [] new h = All-cons IsAtItsKey (k, t) [] new h
All-insert k t (e ∷ es) new h =
    grind (arith, ranked k e.0, All-cons IsAtItsKey, All-head IsAtItsKey e es h, All-tail IsAtItsKey e es h, All-insert k t es new (All-tail IsAtItsKey e es h))

pub All-remove : (test : ℕ → Bool) (es : List (ℕ × Entry)) → All IsAtItsKey es → All IsAtItsKey (remove_entry test es)
All-remove test [] h = h
All-remove test (e ∷ es) h =
    cond_both (test e.0) _ _ (All IsAtItsKey) (λ same. All-tail IsAtItsKey e es h) (λ apart. All-cons IsAtItsKey e _ (All-head IsAtItsKey e es h) (All-remove test es (All-tail IsAtItsKey e es h)))

pub IsKeyed-insert : (m n : BTreeMap ℕ Entry) (k : ℕ) (t : Entry) → IsKeyed m → k ≡ t.variable → 0 < t.coefficient → n.entries ≡ insert_entry nat_cmp m.entries k t → IsKeyed n
IsKeyed-insert m n k t h same p e = rw e (All-insert k t m.entries (same, p) h)

pub IsKeyed-remove : (m n : BTreeMap ℕ Entry) (k : ℕ) → IsKeyed m → n.entries ≡ remove_entry (is_at (nat_cmp k)) m.entries → IsKeyed n
IsKeyed-remove m n k h e = rw e (All-remove (is_at (nat_cmp k)) m.entries h)

found_in : (k : ℕ) (es : List (ℕ × Entry)) (x : Entry) → All IsAtItsKey es → lookup (is_at (nat_cmp k)) es ≡ Some x → (k ≡ x.variable) × (0 < x.coefficient)
found_in k [] x h is = absurd cc
found_in k (e ∷ es) x h is = grind (arith, ranked k e.0, All-head IsAtItsKey e es h, found_in k es x (All-tail IsAtItsKey e es h))

pub IsKeyed-get : (m : BTreeMap ℕ Entry) (k : ℕ) (x : Entry) → IsKeyed m → Some x ≡ get nat_cmp m k → (k ≡ x.variable) × (0 < x.coefficient)
IsKeyed-get m k x h is = found_in k m.entries x h (sym is)

-- the terms rise
above : (k : ℕ) (ks : List ℕ) → AllByRecursion (λ y. nat_cmp k y ≡ Less) ks → AllByRecursion (λ y. k + 1 ≤ y) ks
above k [] h = tt
above k (y ∷ ks) h = grind (arith, ranked k y Less, above k ks)

IsRising-sorted : (n : ℕ) (es : List (ℕ × Entry)) → AllByRecursion (λ y. n ≤ y) (keys_of es) → IsStrictlySortedBy nat_cmp (keys_of es) → All IsAtItsKey es → IsRising n (values_of es)
IsRising-sorted n [] low sorted h = tt
IsRising-sorted n (e ∷ es) low sorted h =
    let more = above e.0 (keys_of es) (sorted_head nat_cmp e.0 (keys_of es) sorted) in
    let rest = IsRising-sorted (e.0 + 1) es more (sorted_tail nat_cmp e.0 (keys_of es) sorted) (All-tail IsAtItsKey e es h) in
    grind (arith, rest, All-head IsAtItsKey e es h)

from_0 : (ks : List ℕ) → AllByRecursion (λ y. 0 ≤ y) ks
from_0 [] = tt
from_0 (k ∷ ks) = (omega arith, from_0 ks)

pub IsKeyed-rising : (m : BTreeMap ℕ Entry) → IsOrdered nat_cmp m → IsKeyed m → IsRising 0 (values m)
IsKeyed-rising m sorted h = IsRising-sorted 0 m.entries (from_0 (keys_of m.entries)) sorted h

-- ys is xs without the terms of o and with those of n, for any choice of the literals that count
abbrev pub Replaces : List Entry → List Entry → List Entry → List Entry → Type 0
Replaces xs ys o n = (p : ℕ → Bool → Bool) → total p ys + total p o ≡ total p xs + total p n

counted-option : (p : ℕ → Bool → Bool) (o : Option Entry) → unwrap_or (option_map (counted p) o) 0 ≡ total p (option_to_list o)
counted-option p o = grind arith

pub Replaces-put : (es : List (ℕ × Entry)) (k : ℕ) (t : Entry) → IsStrictlySortedBy nat_cmp (keys_of es) → Replaces (values_of es) (values_of (insert_entry nat_cmp es k t)) (option_to_list (lookup (is_at (nat_cmp k)) es)) (t ∷ [])
Replaces-put es k t sorted p = grind (arith, sum_by-insert_entry (counted p) nat_cmp_total es k t sorted, total-sum, counted-option)

pub Replaces-insert : (m n : BTreeMap ℕ Entry) (k : ℕ) (t : Entry) → IsOrdered nat_cmp m → n.entries ≡ insert_entry nat_cmp m.entries k t → Replaces (values m) (values n) (option_to_list (get nat_cmp m k)) (t ∷ [])
Replaces-insert m n k t sorted e = rw e (Replaces-put m.entries k t sorted)

pub Replaces-drop : (es : List (ℕ × Entry)) (k : ℕ) → Replaces (values_of es) (values_of (remove_entry (is_at (nat_cmp k)) es)) (option_to_list (lookup (is_at (nat_cmp k)) es)) []
Replaces-drop es k p = grind (arith, sum_by-remove_entry, total-sum, counted-option)

pub Replaces-remove : (m n : BTreeMap ℕ Entry) (k : ℕ) → n.entries ≡ remove_entry (is_at (nat_cmp k)) m.entries → Replaces (values m) (values n) (option_to_list (get nat_cmp m k)) []
Replaces-remove m n k e = rw e (Replaces-drop m.entries k)

-- the sum with one term, from the sum with the term of its variable
pub Adds-replaced : (xs ys o n : List Entry) (t : Entry) (g : ℕ) → Replaces xs ys o n → Adds o (t ∷ []) n g → Adds xs (t ∷ []) ys g
Adds-replaced xs ys o n t g h a = grind (arith, a.signed, a.lows)

-- one more term of a list
pub Adds-then : (xs ts ys zs : List Entry) (t : Entry) (c g : ℕ) → Adds xs ts ys c → Adds ys (t ∷ []) zs g → Adds xs (ts ++ t ∷ []) zs (c + g)
Adds-then xs ts ys zs t c g h k = grind (arith, total-append, h.signed, k.signed, h.lows, k.lows)

-- the lookup and the change, by what was found
pub Adds-absent : (m n : BTreeMap ℕ Entry) (t : Entry) (o : Option Entry) → IsOrdered nat_cmp m → o ≡ get nat_cmp m t.variable → o ≡ None → n.entries ≡ insert_entry nat_cmp m.entries t.variable t → Adds (values m) (t ∷ []) (values n) 0
Adds-absent m n t o sorted found none e = grind (arith, Adds-apart [] (t ∷ []), Replaces-insert m n t.variable t sorted e)

-- the term t was inserted where x was, and then o instead of t
pub Adds-present : (m i n : BTreeMap ℕ Entry) (x t : Entry) (o : Option Entry) (g : ℕ) → IsOrdered nat_cmp m → Some x ≡ get nat_cmp m t.variable → i.entries ≡ insert_entry nat_cmp m.entries t.variable t → Replaces (values i) (values n) (t ∷ []) (option_to_list o) → Adds (x ∷ []) (t ∷ []) (option_to_list o) g → Adds (values m) (t ∷ []) (values n) g
Adds-present m i n x t o g sorted found e second a =
    let first : Replaces (values m) (values i) (x ∷ []) (t ∷ []) = rw (← found) at (Replaces-insert m i t.variable t sorted e) in
    grind (arith, first, second, a.signed, a.lows)

-- a coefficient is within the size
pub get-le-total : (m : BTreeMap ℕ Entry) (k : ℕ) (x : Entry) → Some x ≡ get nat_cmp m k → x.coefficient ≤ total each (values m)
get-le-total m k x found = grind (arith, sum_by-remove_entry (counted each) (is_at (nat_cmp k)) m.entries, total-sum)

pub Putting-fits : (xs list ys : List Entry) (i c n : ℕ) (d x : Entry) → Adds xs (take i list) ys c → i < length list → x ≡ get_or list i d → total each xs + total each list < n → total each ys + x.coefficient < n
Putting-fits xs list ys i c n d x h lt e fits = omega (arith, size-Adds xs (take i list) ys c h, total-prefix list i d x lt e)

pub Putting-next : (xs list ys zs : List Entry) (i c g : ℕ) (d x : Entry) → Adds xs (take i list) ys c → i < length list → x ≡ get_or list i d → Adds ys (x ∷ []) zs g → Adds xs (take (i + 1) list) zs (c + g)
Putting-next xs list ys zs i c g d x h lt e k = rw (take_read list i d x lt e) (Adds-then xs (take i list) ys zs x c g h k)

pub Putting-cancels : (xs list ys zs : List Entry) (i c g n : ℕ) (d x : Entry) → Adds xs (take i list) ys c → i < length list → x ≡ get_or list i d → Adds ys (x ∷ []) zs g → total each xs + total each list < n → c + g < n
Putting-cancels xs list ys zs i c g n d x h lt e k fits =
    omega (arith, size-Adds xs (take i list) ys c h, size-Adds ys (x ∷ []) zs g k, total-prefix list i d x lt e)

-- what is added to nothing is the list
pub Adds-from_none : (ys rs : List Entry) (c : ℕ) → IsRising 0 ys → IsRising 0 rs → Adds [] ys rs c → rs ≡ ys
Adds-from_none ys rs c p q h = IsRising-same 0 rs ys q p (λ x. omega (arith, h.signed (plain_of x), turned x ys, turned x rs))

-- the terms on other variables
abbrev without : ℕ → List Entry → List Entry
without k ts = filter (λ t. not (eqb t.variable k)) ts

without-below : (k n : ℕ) (ts : List Entry) → IsRising n ts → k < n → without k ts ≡ ts
without-below k n [] h lt = refl
without-below k n (t ∷ ts) h lt = grind (arith, nat_tests, without-below k (t.variable + 1) ts h.2)

pub values-removed : (k n : ℕ) (es : List (ℕ × Entry)) → IsRising n (values_of es) → All IsAtItsKey es → values_of (remove_entry (is_at (nat_cmp k)) es) ≡ without k (values_of es)
values-removed k n [] rising h = refl
values-removed k n (e ∷ es) rising h =
    grind (arith, nat_tests, ranked k e.0, All-head IsAtItsKey e es h, without-below k (e.1.variable + 1) (values_of es) rising.2, values-removed k (e.1.variable + 1) es rising.2 (All-tail IsAtItsKey e es h))

pub values-remove : (m n : BTreeMap ℕ Entry) (k : ℕ) → IsRising 0 (values m) → IsKeyed m → n.entries ≡ remove_entry (is_at (nat_cmp k)) m.entries → values n ≡ filter (λ t. not (eqb t.variable k)) (values m)
values-remove m n k rising h e = rw e (values-removed k 0 m.entries rising h)

none_left : (k : ℕ) (ts : List Entry) → total (of_variable k) (without k ts) ≡ 0
none_left k [] = refl
none_left k (t ∷ ts) = grind (arith, nat_tests, none_left k ts)

-- the coefficient on the variable, by what was found
pub dropped-none : (m n : BTreeMap ℕ Entry) (k : ℕ) → IsRising 0 (values m) → IsKeyed m → None ≡ get nat_cmp m k → n.entries ≡ remove_entry (is_at (nat_cmp k)) m.entries → 0 ≡ total (of_variable k) (values m)
dropped-none m n k rising h found e = grind (arith, Replaces-remove m n k e (of_variable k), values-remove m n k rising h e, none_left k (values m))

pub dropped-some : (m n : BTreeMap ℕ Entry) (k : ℕ) (x : Entry) → IsRising 0 (values m) → IsKeyed m → Some x ≡ get nat_cmp m k → n.entries ≡ remove_entry (is_at (nat_cmp k)) m.entries → x.coefficient ≡ total (of_variable k) (values m)
dropped-some m n k x rising h found e =
    grind (arith, nat_tests, Replaces-remove m n k e (of_variable k), values-remove m n k rising h e, none_left k (values m), IsKeyed-get m k x h found)

pub size-some : (m n : BTreeMap ℕ Entry) (k : ℕ) (x : Entry) → Some x ≡ get nat_cmp m k → n.entries ≡ remove_entry (is_at (nat_cmp k)) m.entries → total each (values n) + x.coefficient ≡ total each (values m)
size-some m n k x found e = let changes = rw (← found) at (Replaces-remove m n k e each) in omega (arith, changes)

-- a change at one key leaves the lookups of larger ones
miss : (q k : ℕ) → k < q → is_eq (nat_cmp q k) ≡ false
miss q k lt = ap is_eq (sym (nat_cmp_is q k Greater lt))

lookup-put : (q k : ℕ) (s : Entry) (es : List (ℕ × Entry)) → k < q → lookup (is_at (nat_cmp q)) (insert_entry nat_cmp es k s) ≡ lookup (is_at (nat_cmp q)) es
lookup-put q k s [] lt = lookup_tail (is_at (nat_cmp q)) (k, s) [] (miss q k lt)
lookup-put q k s (e ∷ es) lt = grind (arith, ranked k e.0, miss q k, miss q e.0, lookup-put q k s es lt)

lookup-drop : (q k : ℕ) (es : List (ℕ × Entry)) → k < q → lookup (is_at (nat_cmp q)) (remove_entry (is_at (nat_cmp k)) es) ≡ lookup (is_at (nat_cmp q)) es
lookup-drop q k [] lt = refl
lookup-drop q k (e ∷ es) lt = grind (arith, ranked k e.0, miss q e.0, lookup-drop q k es lt)

rising-put : (n k : ℕ) (s : Entry) (es : List (ℕ × Entry)) → All IsAtItsKey es → k ≡ s.variable → 0 < s.coefficient → n ≤ k → IsRising n (values_of es) → IsRising n (values_of (insert_entry nat_cmp es k s))
rising-put n k s [] keyed same p le h = (omega arith, p, tt)
rising-put n k s (e ∷ es) keyed same p le h =
    grind (arith, ranked k e.0, All-head IsAtItsKey e es keyed, IsRising-from (s.variable + 1) (e.1.variable + 1) (values_of es), rising-put (e.1.variable + 1) k s es (All-tail IsAtItsKey e es keyed) same p)

-- so the keys do
ascending : (k m : ℕ) (es : List (ℕ × Entry)) → All IsAtItsKey es → IsRising m (values_of es) → k < m → AllByRecursion (λ y. nat_cmp k y ≡ Less) (keys_of es)
ascending k m [] keyed h lt = tt
ascending k m (e ∷ es) keyed h lt = grind (arith, nat_cmp_is k e.0 Less, All-head IsAtItsKey e es keyed, ascending k (e.1.variable + 1) es (All-tail IsAtItsKey e es keyed))

sorted : (m : ℕ) (es : List (ℕ × Entry)) → All IsAtItsKey es → IsRising m (values_of es) → IsStrictlySortedBy nat_cmp (keys_of es)
unfolding IsStrictlySortedBy
sorted m [] keyed h = tt
sorted m (e ∷ es) keyed h =
    let tail = All-tail IsAtItsKey e es keyed in
    (ascending e.0 (e.1.variable + 1) es tail h.2 (let key = All-head IsAtItsKey e es keyed in omega (arith, key.0)), sorted (e.1.variable + 1) es tail h.2)

-- g is what cancels in the sum of a term and the one on its variable, if the entries have one
abbrev Crosses : List (ℕ × Entry) → Entry → ℕ → Type 0
Crosses es t g = (o : Option Entry) × Adds (option_to_list (lookup (is_at (nat_cmp t.variable)) es)) (t ∷ []) (option_to_list o) g
    × IfSome o (λ s. (s.variable ≡ t.variable) × (0 < s.coefficient)) × (g ≤ t.coefficient)

-- the entries with one more term
abbrev WithTerm : List (ℕ × Entry) → Entry → ℕ → Type 0
WithTerm es t g = (new : List (ℕ × Entry)) × All IsAtItsKey new × IsRising 0 (values_of new) × Adds (values_of es) (t ∷ []) (values_of new) g
    × ((q : ℕ) → t.variable < q → lookup (is_at (nat_cmp q)) new ≡ lookup (is_at (nat_cmp q)) es)

with_term : (es : List (ℕ × Entry)) (t : Entry) (g : ℕ) → All IsAtItsKey es → IsRising 0 (values_of es) → Crosses es t g → WithTerm es t g
with_term es t g keyed rising (Some s, adds, entry, le) =
    let k = t.variable in
    let changes = Replaces-put es k s (sorted 0 es keyed rising) in (
      insert_entry nat_cmp es k s,
      All-insert k s es (sym entry.0, entry.1) keyed,
      rising-put 0 k s es keyed (sym entry.0) entry.1 (omega arith) rising,
      Adds-replaced (values_of es) (values_of (insert_entry nat_cmp es k s)) (option_to_list (lookup (is_at (nat_cmp k)) es)) (s ∷ []) t g changes adds,
      λ q lt. lookup-put q k s es lt,
    )
with_term es t g keyed rising (None, adds, entry, le) =
    let k = t.variable in (
      remove_entry (is_at (nat_cmp k)) es,
      All-remove (is_at (nat_cmp k)) es keyed,
      rw (values-removed k 0 es rising keyed) (IsRising-filter _ 0 (values_of es) rising),
      Adds-replaced (values_of es) (values_of (remove_entry (is_at (nat_cmp k)) es)) (option_to_list (lookup (is_at (nat_cmp k)) es)) [] t g (Replaces-drop es k) adds,
      λ q lt. lookup-drop q k es lt,
    )

-- c is what cancels in the sum of the map and each of the terms
abbrev pub AllCancel : BTreeMap ℕ Entry → List Entry → ℕ → Type 0
AllCancel m [] c = c ≡ 0
AllCancel m (t ∷ ts) c = (g : ℕ) × TermCancels m t g × (d : ℕ) × (c ≡ g + d) × AllCancel m ts d

pub AllCancel-more : (m : BTreeMap ℕ Entry) (ts : List Entry) (t : Entry) (c g : ℕ) → AllCancel m ts c → TermCancels m t g → AllCancel m (ts ++ t ∷ []) (c + g)
AllCancel-more m [] t c g h one = (g, one, 0, omega (arith, h), refl)
AllCancel-more m (u ∷ ts) t c g (k, first, d, is, more) one = (k, first, d + g, omega (arith, is), AllCancel-more m ts t d g more one)

pub AllCancel-le : (m : BTreeMap ℕ Entry) (ts : List Entry) (c : ℕ) → AllCancel m ts c → c ≤ total each ts
AllCancel-le m [] c h = omega (arith, h)
AllCancel-le m (t ∷ ts) c (g, one, d, is, more) = omega (arith, is, one.3, AllCancel-le m ts d more)

Adds-after : (xs ys zs : List Entry) (t : Entry) (ts : List Entry) (g d : ℕ) → Adds xs (t ∷ []) ys g → Adds ys ts zs d → Adds xs (t ∷ ts) zs (g + d)
Adds-after xs ys zs t ts g d h k = grind (arith, h.signed, k.signed, h.lows, k.lows)

along : (m : BTreeMap ℕ Entry) (es : List (ℕ × Entry)) (k : ℕ) (ts : List Entry) (c : ℕ) → All IsAtItsKey es → IsRising 0 (values_of es) → ((q : ℕ) → k ≤ q → lookup (is_at (nat_cmp q)) es ≡ get nat_cmp m q) → IsRising k ts → AllCancel m ts c → Cancels (values_of es) ts c
along m es k [] c keyed rising same h e = (values_of es, rising, record { signed = λ p. omega arith; lows = omega (arith, e) })
along m es k (t ∷ ts) c keyed rising same h (g, one, d, is, more) =
    let here : Crosses es t g = (one.0, rw (same t.variable h.0) one.1, one.2, one.3) in
    let put = with_term es t g keyed rising here in
    let rest = along m put.0 (t.variable + 1) ts d put.1 put.2 (λ q le. put.4 q (omega arith) ∙ same q (omega (arith, h.0))) h.2 more in
    (rest.0, rest.1, rw is (Adds-after (values_of es) (values_of put.0) rest.0 t ts g d put.3 rest.2))

pub Cancels-AllCancel : (m : BTreeMap ℕ Entry) (ts : List Entry) (c : ℕ) → IsKeyed m → IsRising 0 (values m) → IsRising 0 ts → AllCancel m ts c → Cancels (values m) ts c
Cancels-AllCancel m ts c keyed rising h cancels = along m m.entries 0 ts c keyed rising (λ q le. refl) h cancels

-- the term on the variable, by what was found
pub TermCancels-absent : (m : BTreeMap ℕ Entry) (t : Entry) → 0 < t.coefficient → None ≡ get nat_cmp m t.variable → TermCancels m t 0
TermCancels-absent m t positive found = (Some t, rw (← found) (Adds-apart [] (t ∷ [])), (refl, positive), omega arith)

pub TermCancels-present : (m : BTreeMap ℕ Entry) (t x : Entry) (o : Option Entry) (g : ℕ) → IsKeyed m → Some x ≡ get nat_cmp m t.variable → Adds (x ∷ []) (t ∷ []) (option_to_list o) g → IfSome o (λ s. (s.variable ≡ x.variable) × (0 < s.coefficient)) → g ≤ t.coefficient → TermCancels m t g
TermCancels-present m t x (Some s) g keyed found adds entry le = (Some s, rw (← found) adds, grind (arith, IsKeyed-get m t.variable x keyed found, entry), le)
TermCancels-present m t x None g keyed found adds entry le = (None, rw (← found) adds, tt, le)

-- one more term of a list
pub AllCancel-next : (m : BTreeMap ℕ Entry) (list : List Entry) (i c g : ℕ) (d x : Entry) → AllCancel m (take i list) c → i < length list → x ≡ get_or list i d → TermCancels m x g → AllCancel m (take (i + 1) list) (c + g)
AllCancel-next m list i c g d x h lt e one = rw (take_read list i d x lt e) (AllCancel-more m (take i list) x c g h one)

pub AllCancel-fits : (m : BTreeMap ℕ Entry) (list : List Entry) (i c g : ℕ) (d x : Entry) → AllCancel m (take i list) c → i < length list → x ≡ get_or list i d → TermCancels m x g → c + g ≤ total each list
AllCancel-fits m list i c g d x h lt e one = omega (arith, AllCancel-le m (take i list) c h, one.3, total-prefix list i d x lt e)

-- a list of which some terms are counted: the next one
pub split-positive : (all done more rest : List Entry) (t : Entry) → IsRising 0 all → all ≡ done ++ more → more ≡ t ∷ rest → 0 < t.coefficient
split-positive all done more rest t h e f = IsRising-positive 0 done t rest (rw (e, f) at h)

pub split-le : (all done more rest : List Entry) (t : Entry) → all ≡ done ++ more → more ≡ t ∷ rest → total each done + t.coefficient ≤ total each all
split-le all done more rest t e f = rw (e, f) (let s = total-append each done (t ∷ rest) in omega arith)

pub split-next : (all done more rest : List Entry) (t : Entry) → all ≡ done ++ more → more ≡ t ∷ rest → all ≡ (done ++ t ∷ []) ++ rest
split-next all done more rest t e f = rw (e, f) (simp append_assoc)
