-- Names that are taken at once, and the run that they form.
use Rattle.pb_sums.proofs.Common.{ℕ, ℤ, ◌++◌, ◌∷◌, ◌≡◌, ◌≤◌, ◌⊎◌, [], ap, append-nil, append_assoc, arith, Bool, get_or, length, List, refl, Some, subst, sym}
use Rattle.pb_sums.proofs.Common.{true, IsTrue, Go, IsState, Runs, is_letter, is_name_byte, Each, unmarked, Term, Kind, PhaseFits, is_midway, Inner, Start}
use Rattle.pb_sums.proofs.Common.{Phase, Part, Spaces, action, is_more, kind, after_name, over, sums, SumState}
use Rattle.pb_sums.proofs.lemmas.machine.{LetterKinds.kind-name, LetterKinds.kind-letter, States.goes_then, States.midway_state}

module _ (spaces : Spaces) (part : Part) (limit : ℕ) (xs : List Term) where
  abbrev at : List ℕ → Phase → SumState
  at name p = record { spaces = spaces; part = part; limit = limit; work = record { terms = xs; name = name; phase = p } }

  -- a byte of a name after its first two
  more-on : (name : List ℕ) (z : ℤ) (negated : Bool) (b : ℕ) (k : Kind) → (k ≡ Start b) ⊎ (k ≡ Inner b)
      → over (at name (Phase.More z negated)) (action part limit xs name (Phase.More z negated) k) ≡ Go (at (name ++ b ∷ []) (Phase.More z negated))
  more-on name z negated b k h = grind arith

  more-run : (name : List ℕ) (z : ℤ) (negated : Bool) (text : List ℕ) → Each (λ b. IsTrue (is_name_byte b)) text
      → Runs sums (at name (Phase.More z negated)) text (at (name ++ text) (Phase.More z negated))
  more-run name z negated [] h = ap (λ n. at n (Phase.More z negated)) (append-nil name)
  more-run name z negated (b ∷ text) h =
      let more : Phase = Phase.More z negated in
      let goes = more-on name z negated b (kind spaces (unmarked b)) (kind-name spaces b h.0) in
      goes_then spaces part limit (at name more) (at (name ++ b ∷ text) more) xs (name ++ b ∷ []) more b text goes tt refl
      (subst (λ n. Runs sums (at (name ++ b ∷ []) more) text (at n more)) (append_assoc name (b ∷ []) text) (more-run (name ++ b ∷ []) z negated text h.1))

  -- bytes of a name after its first two
  pub more_runs : (name new : List ℕ) (p : Phase) (text : List ℕ) → is_more p ≡ true → Each (λ b. IsTrue (is_name_byte b)) text → new ≡ name ++ text
      → Runs sums (at name p) text (at new p)
  more_runs name new p text e h f = grind (arith, more-run)

  -- the second byte of a name
  first-on : (b c : ℕ) (z : ℤ) (negated : Bool) (k : Kind) → (k ≡ Start c) ⊎ (k ≡ Inner c)
      → over (at (b ∷ []) (Phase.First z negated)) (action part limit xs (b ∷ []) (Phase.First z negated) k) ≡ Go (at (b ∷ c ∷ []) (Phase.More z negated))
  first-on b c z negated k h = grind arith

  name-run : (name : List ℕ) (p : Phase) (z : ℤ) (negated : Bool) (b c : ℕ) (text : List ℕ) → sums.step (at name p) b ≡ Go (at (b ∷ []) (Phase.First z negated))
      → IsTrue (is_name_byte c) → Each (λ d. IsTrue (is_name_byte d)) text → Runs sums (at name p) (b ∷ c ∷ text) (at (b ∷ c ∷ text) (Phase.More z negated))
  name-run name p z negated b c text e h hs =
      let first : Phase = Phase.First z negated in
      let more : Phase = Phase.More z negated in
      let goes = first-on b c z negated (kind spaces (unmarked c)) (kind-name spaces c h) in
      let rest = more-run (b ∷ c ∷ []) z negated text hs in
      goes_then spaces part limit (at name p) (at (b ∷ c ∷ text) more) xs (b ∷ []) first b (c ∷ text) e tt refl
      (goes_then spaces part limit (at (b ∷ []) first) (at (b ∷ c ∷ text) more) xs (b ∷ c ∷ []) more c text goes tt refl rest)

  abbrev Spells : List ℕ → Type 0
  Spells text = (2 ≤ length text) × IsTrue (is_letter (get_or text 0 0)) × Each (λ b. IsTrue (is_name_byte b)) text

  -- the first byte of a name
  name-starts : (name : List ℕ) (p q : Phase) (b : ℕ) → after_name p ≡ Some q → IsTrue (is_letter b)
      → (z : ℤ) × (negated : Bool) × (Phase.More z negated ≡ q) × (sums.step (at name p) b ≡ Go (at (b ∷ []) (Phase.First z negated)))
  name-starts name p q b e h = grind (arith, kind-letter)

  from-literal : (name : List ℕ) (p q : Phase) (text : List ℕ) → after_name p ≡ Some q → Spells text → Runs sums (at name p) text (at text q)
  from-literal name p q [] e h = absurd (omega (arith, h.0))
  from-literal name p q (b ∷ []) e h = absurd (omega (arith, h.0))
  from-literal name p q (b ∷ c ∷ text) e h =
      let (z, negated, f, g) = name-starts name p q b e h.1 in
      subst (λ (r : Phase). Runs sums (at name p) (b ∷ c ∷ text) (at (b ∷ c ∷ text) r)) f (name-run name p z negated b c text g h.2.1.0 h.2.1.1)

  -- a whole name
  pub name_runs : (name new : List ℕ) (p q : Phase) (text : List ℕ) → Some q ≡ after_name p → 2 ≤ length text → IsTrue (is_letter (get_or text 0 0))
      → Each (λ b. IsTrue (is_name_byte b)) text → new ≡ text → Runs sums (at name p) text (at new q)
  name_runs name new p q text e l i h f = subst (λ (n : List ℕ). Runs sums (at name p) text (at n q)) (sym f) (from-literal name p q text (sym e) (l, i, h))

  name-fits : (p q : Phase) → Some q ≡ after_name p → PhaseFits limit q × (is_midway q ≡ true)
  name-fits p q e = grind arith

  pub after_state : (name : List ℕ) (p q : Phase) → Some q ≡ after_name p → IsState sums (at name q)
  after_state name p q e = let h = name-fits p q e in midway_state spaces part limit xs name q h.0 h.1
