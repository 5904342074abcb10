-- Literals that are read byte by byte.
use Rattle.pb_lines.proofs.Common.{ℕ, ◌++◌, ◌∷◌, ◌≡◌, [], Bool, IsTrue, List}
use Rattle.pb_lines.proofs.Common.{◌⋅◌, is_name_byte, Language, Letter, unmarked, grown, first-append, FirstOf, LiteralOf, name-append, name-bytes}

-- a second byte, and more of them
module _ (P : Language) (negated : Bool) (name : List ℕ) (b : ℕ) (l : Letter) (p : List Letter) (e : l ≡ unmarked b) (i : IsTrue (is_name_byte b)) where
  pub first_grown : (P ⋅ FirstOf negated name) p → (P ⋅ LiteralOf negated (name ++ b ∷ [])) (p ++ l ∷ [])
  first_grown h =
      grown P (FirstOf negated name) (LiteralOf negated (name ++ b ∷ [])) p l
      (λ q r. (first-append name b r.0 i, name-bytes negated name b l q e r.1)) h

  pub more_grown : (P ⋅ LiteralOf negated name) p → (P ⋅ LiteralOf negated (name ++ b ∷ [])) (p ++ l ∷ [])
  more_grown h =
      grown P (LiteralOf negated name) (LiteralOf negated (name ++ b ∷ [])) p l
      (λ q r. (name-append name b r.0 i, name-bytes negated name b l q e r.1)) h
