-- Proofs in VeriPB: their statements, with the white space and comments before them.
use Rattle.pb_proof.specs.{declared.proof.Proof.Proof, declared.statement.Statement.Statement, meaning.Lines.SpellsStatement}
use Rattle.pb_text.specs.meaning.{Blank.IsBlank, Blank.in_comment, Spelling.Item, Whole.events_of}
use Rattle.std.specs.Prelude.{◌≡◌, ℕ, false, List, [], ◌∷◌, ◌++◌, All}

-- white space and comments; each comment has its line feed
abbrev pub IsGap : List ℕ → Type 0
IsGap gap = IsBlank gap × (in_comment gap ≡ false)

-- a statement that may appear between `f` and `output`
abbrev pub IsStep : Statement → Type 0
IsStep (Statement.Pol ws) = Unit {0}
IsStep (Statement.Rup c) = Unit {0}
IsStep (Statement.Soli ls) = Unit {0}
IsStep (Statement.Solx ls) = Unit {0}
IsStep (Statement.Delete ids) = Unit {0}
IsStep _ = ⊥

-- the statements of a proof
abbrev pub statements_of : Proof → List Statement
statements_of v = Statement.Header ∷ Statement.F v.count ∷ (v.steps ++ Statement.Output ∷ Statement.Conclude v.conclusion ∷ Statement.End ∷ [])

module _ (limit top : ℕ) where
  -- the text of each is that of its statement, after white space and comments
  abbrev pub AreSpelled : List (Item Statement) → Type 0
  AreSpelled items = All (λ i. IsGap i.gap × SpellsStatement limit top i.event i.text) items

  -- nothing comes before the first one
  abbrev pub BeginsAtOnce : List (Item Statement) → Type 0
  BeginsAtOnce [] = ⊥
  BeginsAtOnce (i ∷ items) = i.gap ≡ []

  -- a text of this proof
  abbrev pub SpellsProof : Proof → List (Item Statement) → Type 0
  SpellsProof v items = All IsStep v.steps × (events_of items ≡ statements_of v) × BeginsAtOnce items × AreSpelled items

  -- a proof
  abbrev pub IsProof : List (Item Statement) → Type 0
  IsProof items = (v : Proof) × SpellsProof v items

-- the proof that the statements make up
abbrev pub IsProofOf : List Statement → Proof → Type 0
IsProofOf statements v = statements ≡ statements_of v
