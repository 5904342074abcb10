-- Tables of names: their texts in one list of bytes, the chains of equal hashes, and the changes of a table.
use Rattle.pb_normal.proofs.Common.{ℕ, ◌++◌, ◌+◌, ◌-◌, ◌<◌, ◌∙◌, ◌∷◌, ◌≡◌, ◌≤◌, [], ap, arith, drop, get_or, length, List, refl, slice_get, Some, suc, take}
use Rattle.pb_normal.proofs.Common.{take_all, zero, AreEnds, ends_of, hashes_of, length-map, names_in, nexts_of, texts, ◌≢◌, cases_eq, get_or_append_left}
use Rattle.pb_normal.proofs.Common.{map-set, subst, sym, chain_at, chain_of, IsChained, IsLast, All, All-head, All-push, All-tail, cond, false, Global, IfOk}
use Rattle.pb_normal.proofs.Common.{IfSome, length-append, map, map-append, None, Ok, Err, OnOk, Option, Result, true, get_or_from_slice_get, slice_get_within}
use Rattle.pb_normal.proofs.Common.{AreDistinct, has_name, hash_by, IsTable, listed, number_in, drop-append-le, get_or-map, length-drop, take-append-le}
use Rattle.pb_normal.proofs.Common.{get_or-set_other, get_or-set_same, length-set, drop-append_seam, map-set_same, NameEntry, IsUtf8}
use Rattle.pb_normal.proofs.lemmas.names.Numbering.{AreDistinct-push, has_name-get, number_in-get, slice_get-number}
use Rattle.pb_normal.specs.declared.names.{hasher.NameHasher.NameHasher, table.NameTable.NameTable}
use Rattle.std.{proofs.Math.ListN.set, specs.Prelude.IfNone, specs.declared.vec.Vec.Vec}

pub text_within : (start : ℕ) (ends bytes : List ℕ) (i : ℕ) → i < length ends → slice_get (texts start ends bytes) i ≡ Some (take (get_or ends i 0 - get_or (start ∷ ends) i 0) (drop (get_or (start ∷ ends) i 0) bytes))
text_within start [] bytes i lt = absurd (omega (arith, lt))
text_within start (e ∷ ends) bytes zero lt = refl
text_within start (e ∷ ends) bytes (suc i) lt = text_within e ends bytes i (omega (arith, lt))

pub ends_rise : (start : ℕ) (ends : List ℕ) (count i : ℕ) → AreEnds start ends count → i < length ends → (get_or (start ∷ ends) i 0 ≤ get_or ends i 0) × (get_or ends i 0 ≤ count)
ends_rise start [] count i h lt = absurd (omega (arith, lt))
ends_rise start (e ∷ ends) count zero h lt = (h.0, h.1)
ends_rise start (e ∷ ends) count (suc i) h lt = ends_rise e ends count i h.2 (omega (arith, lt))

pub length-texts : (start : ℕ) (ends bytes : List ℕ) → length (texts start ends bytes) ≡ length ends
length-texts start [] bytes = refl
length-texts start (e ∷ ends) bytes = ap suc (length-texts e ends bytes)

-- one more end
pub AreEnds-push : (start : ℕ) (ends : List ℕ) (count more : ℕ) → AreEnds start ends count → AreEnds start (ends ++ (count + more) ∷ []) (count + more)
AreEnds-push start [] count more h = (omega (arith, h), omega arith, refl)
AreEnds-push start (e ∷ ends) count more h = (h.0, omega (arith, h.1), AreEnds-push e ends count more h.2)

last_text : (start : ℕ) (bytes name : List ℕ) → start ≡ length bytes → take (length bytes + length name - start) (drop start (bytes ++ name)) ≡ name
last_text start bytes name e =
    let rest : drop start (bytes ++ name) ≡ name = rw e (drop-append_seam bytes name) in
    let enough : length name ≤ length bytes + length name - start = omega (arith, e) in rw rest (take_all _ name enough)

-- the names before stay if one more follows
pub texts-push : (start : ℕ) (ends bytes name : List ℕ) → AreEnds start ends (length bytes) → texts start (ends ++ (length bytes + length name) ∷ []) (bytes ++ name) ≡ texts start ends bytes ++ name ∷ []
texts-push start [] bytes name h = ap (λ (n : List ℕ). n ∷ []) (last_text start bytes name h)
texts-push start (e ∷ ends) bytes name h = grind (arith, drop-append-le, length-drop, take-append-le, texts-push e ends bytes name h.2)

before : (x : ℕ) (xs : List ℕ) (n : ℕ) → 0 < n → get_or (x ∷ xs) n 0 ≡ get_or xs (n - 1) 0
before x xs zero lt = absurd (omega (arith, lt))
before x xs (suc n) lt = let e : suc n - 1 ≡ n = omega arith in rw e refl

-- the entry past the end
abbrev pub no_entry : NameEntry
no_entry = record { hash = 0; next = 0; end = 0 }

pub end_at : (entries : List NameEntry) (n : ℕ) → n < length entries → get_or (ends_of entries) n 0 ≡ (get_or entries n no_entry).end
end_at entries n lt = get_or-map (λ (e : NameEntry). e.end) entries n no_entry 0 lt

pub hash_at : (entries : List NameEntry) (n : ℕ) → n < length entries → get_or (hashes_of entries) n 0 ≡ (get_or entries n no_entry).hash
hash_at entries n lt = get_or-map (λ (e : NameEntry). e.hash) entries n no_entry 0 lt

pub next_at : (entries : List NameEntry) (n : ℕ) → n < length entries → get_or (nexts_of entries) n 0 ≡ (get_or entries n no_entry).next
next_at entries n lt = get_or-map (λ (e : NameEntry). e.next) entries n no_entry 0 lt

start_at : (entries : List NameEntry) (n : ℕ) → n < length entries → 0 < n → get_or (0 ∷ ends_of entries) n 0 ≡ (get_or entries (n - 1) no_entry).end
start_at entries n lt some = before 0 (ends_of entries) n some ∙ end_at entries (n - 1) (omega (arith, lt))

inside_ends : (entries : List NameEntry) (n : ℕ) → n < length entries → n < length (ends_of entries)
inside_ends entries n lt = rw length-map lt

pub span_within : (entries : List NameEntry) (n count : ℕ) → n < length entries → 0 < n → AreEnds 0 (ends_of entries) count → ((get_or entries (n - 1) no_entry).end ≤ (get_or entries n no_entry).end) × ((get_or entries n no_entry).end ≤ count)
span_within entries n count lt some h = rw (← end_at entries n lt, ← start_at entries n lt some) (ends_rise 0 (ends_of entries) count n h (inside_ends entries n lt))

pub span_text : (entries : List NameEntry) (n : ℕ) (bytes : List ℕ) → n < length entries → 0 < n → slice_get (names_in bytes entries) n ≡ Some (take ((get_or entries n no_entry).end - (get_or entries (n - 1) no_entry).end) (drop (get_or entries (n - 1) no_entry).end bytes))
span_text entries n bytes lt some = rw (← end_at entries n lt, ← start_at entries n lt some) (text_within 0 (ends_of entries) bytes n (inside_ends entries n lt))

-- the heads after the name n was put at the head of its chain
new_head : (heads hashes : List ℕ) (count n chain : ℕ) → chain_at hashes count n < length heads → IsLast hashes count chain n (get_or heads chain 0) → IsLast hashes count chain (n + 1) (get_or (set heads (chain_at hashes count n) (n + 1)) chain 0)
new_head heads hashes count n chain inside h =
    grind (arith, get_or-set_same, get_or-set_other, cases_eq chain (chain_at hashes count n), h.within, h.above, h.own)

new_next : (heads hashes nexts : List ℕ) (count n number : ℕ) → n < length nexts → IsLast hashes count (chain_at hashes count n) n (get_or heads (chain_at hashes count n) 0) → ((k : ℕ) → k < n → IsLast hashes count (chain_at hashes count k) k (get_or nexts k 0)) → number < n + 1 → IsLast hashes count (chain_at hashes count number) number (get_or (set nexts n (get_or heads (chain_at hashes count n) 0)) number 0)
new_next heads hashes nexts count n number inside last before below = grind (arith, get_or-set_same, get_or-set_other, cases_eq number n)

pub linked : (heads hashes nexts : List ℕ) (n : ℕ) → n < length nexts → chain_at hashes (length heads) n < length heads → IsChained heads hashes nexts n → IsChained (set heads (chain_at hashes (length heads) n) (n + 1)) hashes (set nexts n (get_or heads (chain_at hashes (length heads) n) 0)) (n + 1)
linked heads hashes nexts n inside chain h = grind (arith, length-set, new_head, h.head, new_next, h.next)

-- names further on change no chain
chain-more : (hashes : List ℕ) (hash count number : ℕ) → number < length hashes → chain_at (hashes ++ hash ∷ []) count number ≡ chain_at hashes count number
chain-more hashes hash count number below = ap (λ k. chain_of count k) (get_or_append_left hashes (hash ∷ []) 0 number below)

last-more : (hashes : List ℕ) (hash count chain n at : ℕ) → n ≤ length hashes → IsLast hashes count chain n at → IsLast (hashes ++ hash ∷ []) count chain n at
last-more hashes hash count chain n at most h = grind (arith, h.within, h.above, chain-more, h.own)

pub chained-more : (heads hashes nexts : List ℕ) (n hash next : ℕ) → n ≡ length hashes → n ≡ length nexts → IsChained heads hashes nexts n → IsChained heads (hashes ++ hash ∷ []) (nexts ++ next ∷ []) n
chained-more heads hashes nexts n hash next e f h = grind (arith, last-more, h.head, get_or_append_left, chain-more, h.next)

-- a name was not found from `at` on, and the search goes on below, in its chain
pub record IsSearched (names : List (List ℕ)) (hashes : List ℕ) (count n hash : ℕ) (name : List ℕ) (at : ℕ) : Type 0 where
  pub within : at ≤ n
  pub absent : (number : ℕ) → at ≤ number → number < n → get_or hashes number 0 ≡ hash → slice_get names number ≢ Some name
  pub own : (number : ℕ) → at ≡ suc number → chain_at hashes count number ≡ chain_of count hash

pub search-goes : (names : List (List ℕ)) (heads hashes nexts : List ℕ) (n hash : ℕ) (name : List ℕ) (at : ℕ) → IsChained heads hashes nexts n → 0 < at → IsSearched names hashes (length heads) n hash name at → ((get_or hashes (at - 1) 0 ≡ hash) × (slice_get names (at - 1) ≡ Some name) → ⊥) → IsSearched names hashes (length heads) n hash name (get_or nexts (at - 1) 0)
search-goes names heads hashes nexts n hash name at h some s unlike = grind (arith, h.next (at - 1), s.within, s.absent, s.own, unlike)

-- the entry n with another link
abbrev pub led_to : List NameEntry → ℕ → ℕ → NameEntry
led_to entries n next = record { hash = (get_or entries n no_entry).hash; next = next; end = (get_or entries n no_entry).end }

pub entries_linked : (heads : List ℕ) (entries : List NameEntry) (n chain : ℕ) → n < length entries → chain < length heads → chain ≡ chain_of (length heads) (get_or entries n no_entry).hash → IsChained heads (hashes_of entries) (nexts_of entries) n → IsChained (set heads chain (n + 1)) (hashes_of (set entries n (led_to entries n (get_or heads chain 0)))) (nexts_of (set entries n (led_to entries n (get_or heads chain 0)))) (n + 1)
entries_linked heads entries n chain inside below is h = grind (arith, linked, hash_at entries n, map-set_same, map-set, length-map)

-- a table of these parts
abbrev pub made : Global → NameHasher → Vec ℕ Global → Vec NameEntry Global → Vec ℕ Global → NameTable
made alloc hasher bytes entries heads = record { alloc = alloc; hasher = hasher; bytes = bytes; entries = entries; heads = heads }

-- the names stay if only the chains change
pub IsTable-linked : (t : NameTable) (alloc : Global) (bytes : Vec ℕ Global) (entries : Vec NameEntry Global) (heads : Vec ℕ Global) (es : List NameEntry) (hs : List ℕ) → entries.items ≡ es → heads.items ≡ hs → bytes.items ≡ t.bytes.items → ends_of es ≡ ends_of t.entries.items → hashes_of es ≡ hashes_of t.entries.items → IsChained hs (hashes_of es) (nexts_of es) (length es) → length es ≤ length hs → IsTable t → IsTable (made alloc t.hasher bytes entries heads)
IsTable-linked t alloc bytes entries heads es hs f g b e k chained sized o = record {
  ends = rw (b, f, e) o.ends;
  readable = rw (b, f, e) o.readable;
  distinct = rw (b, f, e) o.distinct;
  hashed = rw (b, f, e, k) o.hashed;
  chained = rw (f, g) chained;
  sized = rw (f, g) sized;
}

pub IsTable-same : (t : NameTable) (alloc : Global) (bytes : Vec ℕ Global) (entries : Vec NameEntry Global) (heads : Vec ℕ Global) → bytes.items ≡ t.bytes.items → entries.items ≡ t.entries.items → heads.items ≡ t.heads.items → IsTable t → IsTable (made alloc t.hasher bytes entries heads)
IsTable-same t alloc bytes entries heads b e k o = IsTable-linked t alloc bytes entries heads t.entries.items t.heads.items e k b refl refl o.chained o.sized o

pub numbers_after : (part : NameEntry → ℕ) (xs entries : List NameEntry) (e : NameEntry) (n : ℕ) → xs ≡ entries ++ e ∷ [] → part e ≡ n
    → map part xs ≡ map part entries ++ n ∷ []
numbers_after part xs entries e n is at = ap (map part) is ∙ map-append part entries (e ∷ []) ∙ ap (λ m. map part entries ++ m ∷ []) at

pub entries_after : (heads : List ℕ) (xs entries : List NameEntry) (e : NameEntry) (n : ℕ) → xs ≡ entries ++ e ∷ [] → n ≡ length entries → IsChained heads (hashes_of entries) (nexts_of entries) (length entries) → IsChained heads (hashes_of xs) (nexts_of xs) n
entries_after heads xs entries e n is number h = rw (is, number) (grind (arith, h, e.hash, map-append, e.next, chained-more, length-map))

-- the names after one more name was put at the end
pub listed-push : (t : NameTable) (bytes name : List ℕ) (es : List NameEntry) → bytes ≡ t.bytes.items ++ name → ends_of es ≡ ends_of t.entries.items ++ (length t.bytes.items + length name) ∷ [] → IsTable t → names_in bytes es ≡ listed t ++ name ∷ []
listed-push t bytes name es b e o = rw (b, e) (texts-push 0 (ends_of t.entries.items) t.bytes.items name o.ends)

pub IsTable-push : (t : NameTable) (name : List ℕ) (alloc : Global) (bytes : Vec ℕ Global) (entries : Vec NameEntry Global) (heads : Vec ℕ Global) (es : List NameEntry) (hs : List ℕ) → entries.items ≡ es → heads.items ≡ hs → bytes.items ≡ t.bytes.items ++ name → ends_of es ≡ ends_of t.entries.items ++ (length t.bytes.items + length name) ∷ [] → hashes_of es ≡ hashes_of t.entries.items ++ hash_by t.hasher name ∷ [] → IsChained hs (hashes_of es) (nexts_of es) (length es) → length es ≤ length hs → IsUtf8 name → has_name (listed t) name ≡ false → IsTable t → IsTable (made alloc t.hasher bytes entries heads)
IsTable-push t name alloc bytes entries heads es hs f g b e k chained sized utf8 absent o =
    let names = listed-push t bytes.items name es b e o in
    let hashed : hashes_of es ≡ map (hash_by t.hasher) (listed t ++ name ∷ []) = k ∙ ap (λ ks. ks ++ hash_by t.hasher name ∷ []) o.hashed ∙ sym (map-append (hash_by t.hasher) (listed t) (name ∷ [])) in
    record {
      ends = rw (f, b, e, length-append) (AreEnds-push 0 (ends_of t.entries.items) (length t.bytes.items) (length name) o.ends);
      readable = rw f (subst (λ (ns : List (List ℕ)). All IsUtf8 ns) (sym names) (All-push IsUtf8 (listed t) name o.readable utf8));
      distinct = rw f (subst (λ (ns : List (List ℕ)). AreDistinct ns) (sym names) (AreDistinct-push (listed t) name o.distinct absent));
      hashed = rw f (hashed ∙ sym (ap (λ (ns : List (List ℕ)). map (hash_by t.hasher) ns) names));
      chained = rw (f, g) chained;
      sized = rw (f, g) sized;
    }

pub length-listed : (t : NameTable) → length (listed t) ≡ length t.entries.items
length-listed t = length-texts 0 (ends_of t.entries.items) t.bytes.items ∙ length-map t.entries.items _

-- a name of the table has its hash there
hash_at_name : (t : NameTable) (n : ℕ) (name : List ℕ) → IsTable t → slice_get (listed t) n ≡ Some name → get_or (hashes_of t.entries.items) n 0 ≡ hash_by t.hasher name
hash_at_name t n name o at = grind (arith, slice_get_within, t.hasher, get_or-map, o.hashed, get_or_from_slice_get)

-- what a search says of a name
pub looked_up : (t : NameTable) (name : List ℕ) (hash : ℕ) (r : Option ℕ) → IsTable t → hash ≡ hash_by t.hasher name → IfSome r (λ n. slice_get (listed t) n ≡ Some name) → IfNone r ((n : ℕ) → n < length t.entries.items → get_or (hashes_of t.entries.items) n 0 ≡ hash → slice_get (listed t) n ≢ Some name) → r ≡ cond (has_name (listed t) name) (let o : Option ℕ = Some (number_in (listed t) name) in o) None
looked_up t name hash (Some n) o e some none = rw (has_name-get (listed t) n name some, number_in-get (listed t) n name o.distinct some) refl
looked_up t name hash None o e some none = grind (arith, e, slice_get-number (listed t) name, slice_get_within (listed t) (number_in (listed t) name) name, length-listed t, hash_at_name t (number_in (listed t) name) name o, none (number_in (listed t) name))

last_at : (names : List (List ℕ)) (name : List ℕ) → slice_get (names ++ name ∷ []) (length names) ≡ Some name
last_at [] name = refl
last_at (n ∷ names) name = last_at names name

-- a new name has the next number
pub added_at : (t u : NameTable) (name : List ℕ) {E : Type 0} (r : Result ℕ E) → OnOk r (listed u ≡ listed t ++ name ∷ []) → IfOk r (λ n. n ≡ length t.entries.items) → IfOk r (λ n. slice_get (listed u) n ≡ Some name)
added_at t u name (Ok n) names number = rw (number ∙ sym (length-listed t), names) (last_at (listed t) name)
added_at t u name (Err _) names number = tt

pub added_number : (u : NameTable) (name : List ℕ) {E : Type 0} (r : Result ℕ E) → IsTable u → IfOk r (λ n. slice_get (listed u) n ≡ Some name) → IfOk r (λ n. n ≡ number_in (listed u) name)
added_number u name (Ok n) o at = sym (number_in-get (listed u) n name o.distinct at)
added_number u name (Err _) o at = tt

pub added_has : (u : NameTable) (name : List ℕ) {E : Type 0} (r : Result ℕ E) → IfOk r (λ n. slice_get (listed u) n ≡ Some name) → OnOk r (has_name (listed u) name ≡ true)
added_has u name (Ok n) at = has_name-get (listed u) n name at
added_has u name (Err _) at = tt

-- what holds of all holds of each
pub All-at : (P : List ℕ → Type 0) (names : List (List ℕ)) (n : ℕ) (name : List ℕ) → All P names → slice_get names n ≡ Some name → P name
All-at P [] n name h at = absurd cc
All-at P (x ∷ names) zero name h at = let same : x ≡ name = cc in subst P same (All-head P x names h)
All-at P (x ∷ names) (suc n) name h at = All-at P names n name (All-tail P x names h) at
