-- Texts that are written in parts. Offered to other crates.
use Rattle.pb_text.proofs.Common.{arith, ℕ, ◌++◌, ◌≡◌, List, Ok, Option, Result, subst, sym, IsErr, Failed, Broke, Writes, Wrote}
use Rattle.pb_text.proofs.lemmas.text.Writing.{writes_then, broke_more}

module _ {S : Type 0} (contents : S → Option (List ℕ)) (faults : S → ℕ) where
  -- a first part, and then the rest with its result
  pub part_then : (a b c : S) (x y t : List ℕ) (r : Result Unit Failed) → t ≡ x ++ y → Wrote contents faults a x b → Writes contents faults b y r c → Writes contents faults a t r c
  part_then a b c x y t r e h k = subst (λ (z : List ℕ). Writes contents faults a z r c) (sym e) (writes_then contents faults a b c x y r h k)

  -- a fault in the first part
  pub part_broke : (a b : S) (x y t : List ℕ) (r : Result Unit Failed) → t ≡ x ++ y → IsErr r → Broke contents faults a x b → Writes contents faults a t r b
  part_broke a b x y t r e i h = grind (arith, broke_more)

  -- a first part, and then a second one
  pub part_wrote : (a b c : S) (x y t : List ℕ) → t ≡ x ++ y → Wrote contents faults a x b → Wrote contents faults b y c → Wrote contents faults a t c
  part_wrote a b c x y t e h k = subst (λ (z : List ℕ). Wrote contents faults a z c) (sym e) (writes_then contents faults a b c x y (Ok tt) h k)
