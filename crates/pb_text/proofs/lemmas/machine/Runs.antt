-- What a machine over letters does with a text. Offered to other crates.
use Rattle.pb_text.proofs.Common.{arith, ◌++◌, ◌∷◌, ◌≡◌, [], append-nil, append_assoc, List, refl, sym, End, Go, Next, Refuse, ◌⋅◌, Language, Letter}

module _ {S E : Type 0} (step : S → Letter → Next S E) where
  -- the outcome of a text: nothing may follow an end
  abbrev pub run : Next S E → List Letter → Next S E
  run n [] = n
  run (Go s) (c ∷ t) = run (step s c) t
  run (End v s) (c ∷ t) = Refuse
  run Refuse (c ∷ t) = Refuse

module _ {S E : Type 0} (step : S → Letter → Next S E) where
  pub run-refuse : (t : List Letter) → run step Refuse t ≡ Refuse
  run-refuse [] = refl
  run-refuse (c ∷ t) = refl

  pub run-append : (n : Next S E) (a b : List Letter) → run step n (a ++ b) ≡ run step (run step n a) b
  run-append n [] b = refl
  run-append (Go s) (c ∷ a) b = run-append (step s c) a b
  run-append (End v s) (c ∷ a) b = sym (run-refuse b)
  run-append Refuse (c ∷ a) b = sym (run-refuse b)

  -- From each outcome of A, a text of P leads to one of B.
  abbrev pub Takes : (Next S E → Type 0) → Language → (Next S E → Type 0) → Type 0
  Takes A P B = (n : Next S E) (t : List Letter) → A n → P t → B (run step n t)

  pub takes_then : (A B C : Next S E → Type 0) (P Q : Language) → Takes A P B → Takes B Q C → Takes A (P ⋅ Q) C
  takes_then A B C P Q f g n t h (a, b, e, p, q) = grind (arith, run-append)

module _ {S E : Type 0} (Prefix : S → Language) (Spec : E → Language) where
  -- what is known of the text before an outcome
  abbrev pub OnPrefix : Next S E → Language
  OnPrefix (Go s) = Prefix s
  OnPrefix (End v s) = Spec v
  OnPrefix Refuse = λ t. Unit {0}

  abbrev pub Keeps : (S → Letter → Next S E) → Type 0
  Keeps step = (s : S) (c : Letter) (p : List Letter) → Prefix s p → OnPrefix (step s c) (p ++ c ∷ [])

  pub kept : (step : S → Letter → Next S E) → Keeps step → (n : Next S E) (t p : List Letter) → OnPrefix n p → OnPrefix (run step n t) (p ++ t)
  kept step k n [] p h = rw append-nil h
  kept step k (Go s) (c ∷ t) p h = grind (arith, append_assoc, kept step k (step s c) t (p ++ c ∷ []) (k s c p h))
  kept step k (End v s) (c ∷ t) p h = tt
  kept step k Refuse (c ∷ t) p h = tt
