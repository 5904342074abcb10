-- Numbers that are taken at once, and the run that they form.
use Rattle.pb_sums.proofs.Common.{ℕ, ◌*◌, ◌++◌, ◌+◌, ◌-◌, ◌<◌, ◌==◌, ◌∙◌, ◌∷◌, ◌≡◌, ◌≤◌, [], ap, arith, Bool, drop, false, length, List, Option, refl, subst}
use Rattle.pb_sums.proofs.Common.{sym, take, true, IsTrue, eqb-true, le-leb, length-take-le, prefix_parts, Runs, value_from, is_digit, Relation, Term, To, Kind}
use Rattle.pb_sums.proofs.Common.{Digit, Minus, Plus, Phase, Part, Spaces, digits, flushed, is_numeric, kind, letter_at, transition, begins_number, HasSign}
use Rattle.pb_sums.proofs.{Common.IsSign, Common.role, Common.sign_read, Common.SumState, lemmas.machine.Pushes.goes_to, lemmas.machine.States.midway_state}
use Rattle.{pb_sums.proofs.Common.sums, pb_text.proofs.lemmas.numbers.DigitValues.AreDigits, pb_text.proofs.lemmas.numbers.DigitValues.value-grows}

pub none_there : (name : List ℕ) → (length name == 0) ≡ true → name ≡ []
none_there [] e = refl
none_there (b ∷ name) e = let f : length (b ∷ name) ≡ 0 = eqb-true (length (b ∷ name)) 0 e in absurd (omega (arith, f))

module _ (spaces : Spaces) (part : Part) (limit : ℕ) (xs : List Term) where
  abbrev at : Phase → SumState
  at p = record { spaces = spaces; part = part; limit = limit; work = record { terms = xs; name = []; phase = p } }

  -- what a state does with the first letter of a number
  pub record Begins (p : Phase) (r : Option Relation) (negative : Bool) (n : ℕ) : Type 0 where
    pub numeric : is_numeric p ≡ true
    pub same : flushed p xs [] ≡ xs
    pub on_digit : (d : ℕ) → transition part limit p (Digit d) ≡ digits limit r negative n d

  -- a digit, and what follows it
  digit-then : (p : Phase) (r : Option Relation) (negative : Bool) (n b : ℕ) (text : List ℕ) (t : SumState) → Begins p r negative n → IsTrue (is_digit b)
      → 10 * n + (b - 48) ≤ limit → Runs sums (at (Phase.Digits r negative (10 * n + (b - 48)))) text t → Runs sums (at p) (b ∷ text) t
  digit-then p r negative n b text t s e h rest =
      let q : Phase = Phase.Digits r negative (10 * n + (b - 48)) in
      let k : kind spaces (letter_at true b) ≡ Digit (b - 48) = rw e refl in
      let f : digits limit r negative n (b - 48) ≡ To q = rw (le-leb (10 * n + (b - 48)) limit h) refl in
      let goes = goes_to spaces part limit xs xs [] p q b true (Digit (b - 48)) [] refl (sym s.numeric) (sym k) (sym (s.on_digit (b - 48) ∙ f)) (sym s.same) in
      (at q, goes, midway_state spaces part limit xs [] q h refl, rest)

  digits-run : (r : Option Relation) (negative : Bool) (n : ℕ) (text : List ℕ) → AreDigits text → value_from n text ≤ limit
      → Runs sums (at (Phase.Digits r negative n)) text (at (Phase.Digits r negative (value_from n text)))
  digits-run r negative n [] h l = refl
  digits-run r negative n (b ∷ text) h l =
      digit-then (Phase.Digits r negative n) r negative n b text _ (record { numeric = refl; same = refl; on_digit = λ d. refl }) h.0
      (omega (arith, value-grows (10 * n + (b - 48)) text)) (digits-run r negative (10 * n + (b - 48)) text h.1 l)

  number-run : (p : Phase) (r : Option Relation) (negative : Bool) (text : List ℕ) → Begins p r negative 0 → AreDigits text → 0 < length text → value_from 0 text ≤ limit
      → Runs sums (at p) text (at (Phase.Digits r negative (value_from 0 text)))
  number-run p r negative [] s h i l = absurd (omega arith)
  number-run p r negative (b ∷ text) s h i l =
      digit-then p r negative 0 b text _ s h.0 (omega (arith, value-grows (10 * 0 + (b - 48)) text)) (digits-run r negative (10 * 0 + (b - 48)) text h.1 l)

  -- the states in which a sign may appear
  abbrev begins_unread : Phase → Bool
  begins_unread Phase.Start = true
  begins_unread Phase.Between = true
  begins_unread (Phase.Relation r) = true
  begins_unread _ = false

  begins : (p : Phase) → begins_unread p ≡ true → Begins p (role p) false 0
  begins Phase.Start e = record { numeric = refl; same = refl; on_digit = λ d. refl }
  begins Phase.Between e = record { numeric = refl; same = refl; on_digit = λ d. refl }
  begins (Phase.Relation r) e = record { numeric = refl; same = refl; on_digit = λ d. refl }
  begins _ e = cc e

  on-plus : (p : Phase) → begins_unread p ≡ true → transition part limit p Plus ≡ To (Phase.Signed (role p) false)
  on-plus p e = grind arith

  on-minus : (p : Phase) → begins_unread p ≡ true → transition part limit p Minus ≡ To (Phase.Signed (role p) true)
  on-minus p e = grind arith

  sign-then : (p : Phase) (negative : Bool) (b : ℕ) (k : Kind) (text : List ℕ) → begins_unread p ≡ true → k ≡ kind spaces (letter_at true b)
      → transition part limit p k ≡ To (Phase.Signed (role p) negative) → AreDigits text → 0 < length text → value_from 0 text ≤ limit
      → Runs sums (at p) (b ∷ text) (at (Phase.Digits (role p) negative (value_from 0 text)))
  sign-then p negative b k text e f g h i l =
      let q : Phase = Phase.Signed (role p) negative in
      let s : Begins p (role p) false 0 = begins p e in
      let goes = goes_to spaces part limit xs xs [] p q b true k [] refl (sym s.numeric) f (sym g) (sym s.same) in
      let rest = number-run q (role p) negative text (record { numeric = refl; same = refl; on_digit = λ d. refl }) h i l in
      (at q, goes, midway_state spaces part limit xs [] q tt refl, rest)

  signed-run : (p : Phase) (negative : Bool) (sign text : List ℕ) → begins_unread p ≡ true → IsSign negative sign → AreDigits text → 0 < length text → value_from 0 text ≤ limit
      → Runs sums (at p) (sign ++ text) (at (Phase.Digits (role p) negative (value_from 0 text)))
  signed-run p negative [] text e s h i l = grind (arith, number-run, begins)
  signed-run p false (b ∷ []) text e s h i l =
      sign-then p false b Plus text e (sym (ap (λ (x : ℕ). kind spaces (letter_at true x)) s)) (on-plus p e) h i l
  signed-run p true (b ∷ []) text e s h i l =
      sign-then p true b Minus text e (sym (ap (λ (x : ℕ). kind spaces (letter_at true x)) s)) (on-minus p e) h i l
  signed-run p negative (b ∷ c ∷ sign) text e s h i l = absurd s

  -- the same, or the digits after a sign that was read
  digits-after : (p : Phase) (negative : Bool) (text : List ℕ) (i : ℕ) (digits : List ℕ) → begins_number p ≡ true → HasSign (sign_read p) text i negative → AreDigits digits
      → 0 < length digits → value_from 0 digits ≤ limit
      → Runs sums (at p) (take i text ++ digits) (at (Phase.Digits (role p) negative (value_from 0 digits)))
  digits-after (Phase.Signed r read) negative text i digits e s h k l = grind (arith, number-run)
  digits-after Phase.Start negative text i digits e s h k l = signed-run Phase.Start negative (take i text) digits refl s.0 h k l
  digits-after Phase.Between negative text i digits e s h k l = signed-run Phase.Between negative (take i text) digits refl s.0 h k l
  digits-after (Phase.Relation r) negative text i digits e s h k l = signed-run (Phase.Relation r) negative (take i text) digits refl s.0 h k l
  digits-after _ negative text i digits e s h k l = cc e

-- a number, if one may begin, or its digits
pub number_runs : (spaces : Spaces) (part : Part) (limit : ℕ) (xs : List Term) (name : List ℕ) (p : Phase) (r : Option Relation) (negative : Bool) (text : List ℕ) (i j v : ℕ)
    → begins_number p ≡ true → name ≡ [] → r ≡ role p → HasSign (sign_read p) text i negative → AreDigits (take j (take (length text - i) (drop i text)))
    → v ≡ value_from 0 (take j (take (length text - i) (drop i text))) → j ≤ length (take (length text - i) (drop i text)) → (j ≡ 0 → ⊥) → v ≤ limit
    → Runs sums (record { spaces = spaces; part = part; limit = limit; work = record { terms = xs; name = name; phase = p } }) (take (i + j) text)
    (record { spaces = spaces; part = part; limit = limit; work = record { terms = xs; name = name; phase = Phase.Digits r negative v } })
number_runs spaces part limit xs name p r negative text i j v b e f s h g l n m =
    let some : 0 < length (take j (take (length text - i) (drop i text))) = rw (length-take-le j (take (length text - i) (drop i text)) l) (omega arith) in
    let fits : value_from 0 (take j (take (length text - i) (drop i text))) ≤ limit = subst (λ (x : ℕ). x ≤ limit) g m in
    rw (e, f, g, prefix_parts text i j) (digits-after spaces part limit xs p negative text i (take j (take (length text - i) (drop i text))) b s h some fits)
