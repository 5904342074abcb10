-- Texts that are written consecutively. Offered to other crates.
use Rattle.pb_text.proofs.Common.{arith, ℕ, ◌++◌, ◌-◌, ◌≡◌, [], append-nil, append_assoc, drop, length, List, Ok, Option, refl, Result, take, take-append-drop}
use Rattle.pb_text.proofs.Common.{take_rest, Appends, Failed, Broke, Takes, Writes, Wrote}

pub Appends-nil : (a : Option (List ℕ)) → Appends a a []
Appends-nil a = grind (arith, append-nil)

pub Appends-append : (a b c : Option (List ℕ)) (x y : List ℕ) → Appends a b x → Appends b c y → Appends a c (x ++ y)
Appends-append a b c x y h k = grind (arith, append_assoc)

module _ {S : Type 0} (contents : S → Option (List ℕ)) (faults : S → ℕ) where
  pub writes_nothing : (s : S) → Writes contents faults s [] (Ok tt) s
  writes_nothing s = record { appends = Appends-nil (contents s); faults_are = refl }

  -- one text, and then another with its result
  pub writes_then : (a b c : S) (x y : List ℕ) (r : Result Unit Failed) → Wrote contents faults a x b → Writes contents faults b y r c → Writes contents faults a (x ++ y) r c
  writes_then a b c x y r h k = grind (arith, Appends-append, append_assoc)

  -- more of the text after a fault
  pub broke_more : (a b : S) (x y : List ℕ) → Broke contents faults a x b → Broke contents faults a (x ++ y) b
  broke_more a b x y h = grind (arith, append_assoc)

  -- one more piece at the start of the rest
  pub piece_taken : (a b c : S) (text prefix rest : List ℕ) (n : ℕ) → text ≡ prefix ++ rest → Wrote contents faults a prefix b → Takes contents faults b rest (Ok n) c
      → (x : List ℕ) × (text ≡ x ++ take (length rest - n) (drop n rest)) × Wrote contents faults a x c
  piece_taken a b c text prefix rest n e h k = grind (arith, take-append-drop, take_rest, append_assoc, Appends-append)
