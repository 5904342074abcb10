-- The number of a flag, from its text.
use Rattle.pb_words.proofs.Common.{◌≡◌, ◌↔◌, ℕ, Bool, true, false, List, Option, Some, None, IsTrue, codes, ap, sym, ◌∙◌, subst, refl, inl, inr, IsSomeAnd, Row}
use Rattle.{pb_words.proofs.Common.bytes_eq, pb_words.proofs.Common.IsChecker, std.specs.Str.Parse.digits_value, std.specs.Str.Parse.without_leading_plus}
use Rattle.pb_words.proofs.Common.{bytes_eq-Decides, IsUnsignedIn, WordsFault, IsEntryFault, IsFlag, IsInstanceFault, IsNumberFault, IsSelectionFault, IsSwitch}

pub absent : (low high : ℕ) (found : Option (List ℕ)) → None ≡ found → IsFlag low high found None
absent low high found e = subst (λ (t : Option (List ℕ)). IsFlag low high t None) e refl

pub given : (low high n : ℕ) (text : List ℕ) (found : Option (List ℕ)) → Some text ≡ found → IsUnsignedIn low high text → n ≡ digits_value 10 (without_leading_plus text)
    → IsFlag low high found (Some n)
given low high n text found e inside is = subst (λ (t : Option (List ℕ)). IsFlag low high t (Some n)) e (inside, ap Some is)

pub outside : (low high : ℕ) (text : List ℕ) (found : Option (List ℕ)) → Some text ≡ found → ¬ IsUnsignedIn low high text
    → IsSomeAnd found (λ (t : List ℕ). ¬ IsUnsignedIn low high t)
outside low high text found e out = subst (λ (t : Option (List ℕ)). IsSomeAnd t (λ (x : List ℕ). ¬ IsUnsignedIn low high x)) e out

-- a flag without a value is on if its text is `true`
same_text : (b : Bool) (text want : List ℕ) → bytes_eq text want ≡ b → IsTrue b ↔ (Some text ≡ Some want)
same_text true text want e = (λ _. ap Some ((bytes_eq-Decides text want).0 e), λ _. refl)
same_text false text want e =
    (λ (t : false ≡ true). absurd cc, λ (k : Some text ≡ Some want). let same : text ≡ want = cc in let yes = (bytes_eq-Decides text want).1 same in let no : true ≡ false = sym yes ∙ e in absurd cc)

pub switched : (on : Bool) (text : List ℕ) (found : Option (List ℕ)) → Some text ≡ found → on ≡ bytes_eq text (codes "true") → IsSwitch found on
switched on text found e is = subst (λ (t : Option (List ℕ)). IsTrue on ↔ (t ≡ Some (codes "true"))) e (same_text on text (codes "true") (sym is))

pub not_switched : (found : Option (List ℕ)) → None ≡ found → IsSwitch found false
not_switched found e = subst (λ (t : Option (List ℕ)). IsTrue false ↔ (t ≡ Some (codes "true"))) e (λ (t : false ≡ true). absurd cc, λ k. absurd cc)

-- ---- a fault of one entry is one of the entries

pub wrong_number : (name : List ℕ) (rows : List Row) (fault : WordsFault) → IsNumberFault rows fault → IsEntryFault (name, rows) fault
wrong_number name rows fault is = inl is

pub lacks_instance : (name : List ℕ) (rows : List Row) (fault : WordsFault) → IsChecker name → IsInstanceFault rows fault → IsEntryFault (name, rows) fault
lacks_instance name rows fault named is = inr (inr (named, is))

pub wrong_selection : (name : List ℕ) (rows : List Row) (fault : WordsFault) → name ≡ codes "trace" → IsSelectionFault rows fault → IsEntryFault (name, rows) fault
wrong_selection name rows fault named is = inr (inl (named, is))
