-- What is stored grows by at most one unit per byte. Offered to other crates.
use Rattle.pb_sums.proofs.Common.{ℕ, ◌++◌, ◌+◌, ◌-◌, ◌<◌, ◌^◌, ◌∙◌, ◌∷◌, ◌≡◌, ◌≤◌, [], ap, arith, get_or, length, length-append, List, min, sym, take}
use Rattle.pb_sums.proofs.Common.{take_more, end_or_go, one_state, refuse_or_go, Go, Term, Action, Kind, Phase, Part, Spaces, act, flushed, transition, Work}
use Rattle.pb_sums.proofs.{Common.all_units, Common.in_hand, Common.ready, Common.units, lemmas.machine.Flags.IsSane, lemmas.machine.Flags.transition-sane}

pub units-append : (xs : List Term) (x : Term) → units (xs ++ x ∷ []) ≡ units xs + (1 + length x.literal.name)
units-append [] x = omega arith
units-append (y ∷ xs) x = omega (arith, units-append xs x)

abbrev pub potential : Work → ℕ
potential w = all_units w + ready w.phase

abbrev count : List Term → List ℕ → Phase → ℕ
count xs name ph = units xs + in_hand ph + length name + ready ph

pub flushed-units : (ph : Phase) (xs : List Term) (name : List ℕ) → units (flushed ph xs name) ≤ units xs + in_hand ph + length name
flushed-units ph xs name = grind (arith, units-append)

ready-one : (ph : Phase) → ready ph ≤ 1
ready-one ph = grind arith

pub to-grows : (u x h l r ih ir : ℕ) → u ≤ x + h + l → ih ≡ 0 → ir ≤ 1 → u + ih + 0 + ir ≤ x + h + l + r + 1
to-grows u x h l r ih ir a b c = omega arith

pub begin-grows : (x h l r ih ir : ℕ) → ih + ir ≡ 1 → r ≡ 1 → x + ih + 1 + ir ≤ x + h + l + r + 1
begin-grows x h l r ih ir a b = omega arith

pub add-grows : (x h l r ih ir m : ℕ) → ih + ir ≡ 1 → h ≡ 1 → m ≡ l + 1 → x + ih + m + ir ≤ x + h + l + r + 1
add-grows x h l r ih ir m a b c = omega arith

act-grows : (ph : Phase) (k : Kind) (xs : List Term) (name : List ℕ) (m : Action) (w : Work) → IsSane ph k m → act (flushed ph xs name) xs name m ≡ Go w
    → potential w ≤ count xs name ph + 1
act-grows ph k xs name m w h e = grind (arith, one_state, to-grows, flushed-units, ready-one, begin-grows, add-grows, length-append, end_or_go, refuse_or_go)

pub letter-grows : (spaces : Spaces) (want : Part) (limit : ℕ) (w v : Work) (k : Kind) → act (flushed w.phase w.terms w.name) w.terms w.name (transition want limit w.phase k) ≡ Go v
    → potential v ≤ potential w + 1
letter-grows spaces want limit w v k e = act-grows w.phase k w.terms w.name (transition want limit w.phase k) v (transition-sane want limit w.phase k) e

-- a count that saturates
pub counted : (u n c m r : ℕ) → c ≡ min u (2 ^ 64 - 1) → m ≡ min (n + 1) (2 ^ 64 - 1) → r ≡ min (c + m) (2 ^ 64 - 1) → r ≡ min (u + (1 + n)) (2 ^ 64 - 1)
counted u n c m r e f g = omega arith

pub count_more : (xs : List Term) (i : ℕ) (d : Term) (c m r : ℕ) → i < length xs → c ≡ min (units (take i xs)) (2 ^ 64 - 1) → m ≡ min (length (get_or xs i d).literal.name + 1) (2 ^ 64 - 1)
    → r ≡ min (c + m) (2 ^ 64 - 1) → r ≡ min (units (take (i + 1) xs)) (2 ^ 64 - 1)
count_more xs i d c m r h e f g =
    counted (units (take i xs)) (length (get_or xs i d).literal.name) c m r e f g
    ∙ ap (λ n. min n (2 ^ 64 - 1)) (sym (ap units (take_more xs i d h) ∙ units-append (take i xs) (get_or xs i d)))
