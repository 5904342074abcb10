-- A push does what the transition says.
use Rattle.pb_sums.proofs.{Common.sums, Common.SumState, lemmas.machine.States.admits}
use Rattle.pb_sums.proofs.Common.{ℕ, ◌||◌, ◌∙◌, ◌≡◌, [], ap, Bool, List, sym, true, IsTrue, arith, end_or_refuse, go_or_refuse, Admits, Go, Refuse, Term}
use Rattle.pb_sums.proofs.Common.{Action, Stop, To, Kind, Phase, Part, Spaces, act, adds, flushed, is_more, is_numeric, kind, letter_at, transition, asks, over}

abbrev pub IsTaken : Action → Type 0
IsTaken Stop = ⊥
IsTaken _ = Unit {0}

taken-acts : (s : SumState) (ys xs : List Term) (name : List ℕ) (m : Action) → IsTaken m → over s (act ys xs name m) ≡ Refuse → ⊥
taken-acts s ys xs name m h e = grind (arith, end_or_refuse, go_or_refuse)

module _ (s : Spaces) (w : Part) (limit : ℕ) (xs : List Term) (name : List ℕ) (p : Phase) (b : ℕ) (n : Bool) (k : Kind) (m : Action) where
  abbrev state : SumState
  state = record { spaces = s; part = w; limit = limit; work = record { terms = xs; name = name; phase = p } }

  planned : n ≡ is_numeric p → k ≡ kind s (letter_at n b) → m ≡ transition w limit p k → transition w limit p (kind s (letter_at (is_numeric p) b)) ≡ m
  planned e f g = ap (λ x. transition w limit p x) (ap (λ x. kind s (letter_at x b)) (sym e) ∙ sym f) ∙ sym g

  pub moved : n ≡ is_numeric p → k ≡ kind s (letter_at n b) → m ≡ transition w limit p k → sums.step state b ≡ over state (act (flushed p xs name) xs name m)
  moved e f g = ap (λ x. over state (act (flushed p xs name) xs name x)) (planned e f g)

  -- a push may allocate at a byte of a name or one that ends a literal, and only if the byte is taken
  pub wants : n ≡ is_numeric p → k ≡ kind s (letter_at n b) → m ≡ transition w limit p k → IsTaken m → (adds m || is_more p) ≡ true → IsTrue (asks state b) × Admits sums state b
  wants e f g t a = (
    ap (λ x. adds x || is_more p) (planned e f g) ∙ a,
    admits state b (over state (act (flushed p xs name) xs name m)) (moved e f g) (taken-acts state (flushed p xs name) xs name m t),
  )

pub goes_to : (s : Spaces) (w : Part) (limit : ℕ) (xs ys : List Term) (name : List ℕ) (p q : Phase) (b : ℕ) (n : Bool) (k : Kind) (new : List ℕ) → new ≡ [] →
    n ≡ is_numeric p → k ≡ kind s (letter_at n b) → To q ≡ transition w limit p k → ys ≡ flushed p xs name →
    sums.step (state s w limit xs name p b n k (To q)) b ≡ Go (record { spaces = s; part = w; limit = limit; work = record { terms = ys; name = new; phase = q } })
goes_to s w limit xs ys name p q b n k new z e f g i = grind (arith)
