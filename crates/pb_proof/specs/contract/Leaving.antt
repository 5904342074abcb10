-- How many expressions postfix words take and leave.
use Rattle.pb_proof.specs.{declared.word.PolWord.PolWord, meaning.Postfix.Tree, meaning.Postfix.words, meaning.Postfix.IsPostfix}
use Rattle.std.specs.Prelude.{◌≡◌, ℕ, ◌+◌, ◌-◌, ◌≤◌, ◌↔◌, List, [], ◌∷◌}

-- how many finished expressions a word takes
abbrev pub takes : PolWord → ℕ
takes (PolWord.Id id) = 0
takes (PolWord.Axiom literal) = 0
takes PolWord.Add = 2
takes (PolWord.Multiply factor) = 1
takes (PolWord.Divide divisor) = 1
takes PolWord.Saturate = 1
takes (PolWord.Weaken name) = 1

-- Starting with n expressions, each word finds those that it takes and leaves one more.
-- One expression is left at the end.
abbrev pub Leaves : ℕ → List PolWord → Type 0
Leaves n [] = n ≡ 1
Leaves n (w ∷ ws) = (takes w ≤ n) × Leaves (n + 1 - takes w) ws

-- The words of an expression determine it.
abbrev pub WordsReport : Type 0
WordsReport = (a b : Tree) → words a ≡ words b → a ≡ b

-- Words are those of one expression if and only if they leave one.
abbrev pub WordsLeaveOne : Type 0
WordsLeaveOne = (ws : List PolWord) → IsPostfix ws ↔ Leaves 0 ws
