-- A literal that is read byte by byte: the first byte of its name, and more of them. Offered to other crates.
use Rattle.pb_sums.proofs.Common.{arith, ℕ, ◌++◌, ◌∷◌, ◌≡◌, [], Bool, List, subst, sym, IsTrue, each-append, is_letter, is_name_byte, Bytes, Language, unmarked}
use Rattle.pb_sums.proofs.Common.{Letter, IsName, literal_bytes, SpellsLiteral}
use Rattle.pb_text.proofs.lemmas.text.Letters.{bytes_one_more}

abbrev pub IsFirst : List ℕ → Type 0
IsFirst [] = ⊥
IsFirst (b ∷ []) = IsTrue (is_letter b)
IsFirst (b ∷ c ∷ bs) = ⊥

pub name-append : (bs : List ℕ) (b : ℕ) → IsName bs → IsTrue (is_name_byte b) → IsName (bs ++ b ∷ [])
name-append bs b h k = grind (arith, each-append)

pub first-append : (bs : List ℕ) (b : ℕ) → IsFirst bs → IsTrue (is_name_byte b) → IsName (bs ++ b ∷ [])
first-append bs b h k = grind arith

pub literal-append : (negated : Bool) (name : List ℕ) (b : ℕ) → literal_bytes negated (name ++ b ∷ []) ≡ literal_bytes negated name ++ b ∷ []
literal-append negated name b = grind arith

-- a literal with the first byte of its name, and with a whole name
abbrev pub FirstOf : Bool → List ℕ → Language
FirstOf negated name = λ t. IsFirst name × Bytes (literal_bytes negated name) t

abbrev pub LiteralOf : Bool → List ℕ → Language
LiteralOf negated name = SpellsLiteral (record { negated = negated; name = name })

pub name-bytes : (negated : Bool) (name : List ℕ) (b : ℕ) (c : Letter) (q : List Letter) → c ≡ unmarked b → Bytes (literal_bytes negated name) q →
    Bytes (literal_bytes negated (name ++ b ∷ [])) (q ++ c ∷ [])
name-bytes negated name b c q e f =
    subst (λ bs. Bytes bs (q ++ c ∷ [])) (sym (literal-append negated name b)) (bytes_one_more (literal_bytes negated name) b c e q f)
