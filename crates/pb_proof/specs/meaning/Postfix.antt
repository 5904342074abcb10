-- Expressions of cutting planes and their postfix words.
use Rattle.{pb_proof.specs.declared.word.PolWord.PolWord, pb_sums.specs.declared.Literal.Literal}
use Rattle.std.specs.Prelude.{◌≡◌, ℕ, ℤ, List, [], ◌∷◌, ◌++◌}

-- a constraint, an axiom, a sum of two expressions, or one expression under a rule
pub data Tree : Type 0 where
  Constraint : (id : ℤ) → Tree
  LiteralAxiom : (literal : Literal) → Tree
  Sum : (a b : Tree) → Tree
  Product : (a : Tree) → (factor : ℤ) → Tree
  Quotient : (a : Tree) → (divisor : ℤ) → Tree
  Saturation : (a : Tree) → Tree
  Weakening : (a : Tree) → (name : List ℕ) → Tree

-- the postfix words of an expression
abbrev pub words : Tree → List PolWord
words (Constraint id) = PolWord.Id id ∷ []
words (LiteralAxiom literal) = PolWord.Axiom literal ∷ []
words (Sum a b) = words a ++ words b ++ (PolWord.Add ∷ [])
words (Product a factor) = words a ++ (PolWord.Multiply factor ∷ [])
words (Quotient a divisor) = words a ++ (PolWord.Divide divisor ∷ [])
words (Saturation a) = words a ++ (PolWord.Saturate ∷ [])
words (Weakening a name) = words a ++ (PolWord.Weaken name ∷ [])

-- the words of one expression
abbrev pub IsPostfix : List PolWord → Type 0
IsPostfix ws = (tree : Tree) × (ws ≡ words tree)
