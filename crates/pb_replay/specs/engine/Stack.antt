-- The words of an expression on a stack of forms, the last one first. Their result is that of the expression.
use Rattle.pb_normal.specs.meaning.{Form.Form, Names.number_in, Rules.IsSum, Rules.multiplied, Rules.divided, Rules.saturated, Rules.weakened, Rules.axiom_on}
use Rattle.{pb_proof.specs.declared.PolWord.PolWord, pb_replay.specs.declared.fault.Fault.TheVariants.NoSuchId}
use Rattle.pb_proof.specs.declared.PolWord.TheVariants.{Id, Axiom, Add, Multiply, Divide, Saturate, Weaken}
use Rattle.pb_replay.specs.meaning.{Answer.Answer, Answer.gives, Answer.found, Answer.some, Answer.after, Replay.IsLive, Replay.limited}
use Rattle.std.specs.Prelude.{ℕ, unsigned_abs, List, [], ◌∷◌, Option}

module _ (limit : ℕ) (names : List (List ℕ)) (live : List (Option Form)) where
  -- a word that finds its operands
  abbrev pub Word : PolWord → List Form → Answer (List Form)
  Word (Id id) fs = found (IsLive live id) (NoSuchId id) (λ f. gives (f ∷ fs))
  Word (Axiom l) fs = gives (axiom_on (number_in names l.name) l.negated ∷ fs)
  Word Add (g ∷ f ∷ fs) = some (IsSum f g) (λ r. after (limited limit r) (λ s. gives (s ∷ fs)))
  Word (Multiply k) (f ∷ fs) = after (limited limit (multiplied (unsigned_abs k) f)) (λ s. gives (s ∷ fs))
  Word (Divide k) (f ∷ fs) = gives (divided (unsigned_abs k) f ∷ fs)
  Word Saturate (f ∷ fs) = gives (saturated f ∷ fs)
  Word (Weaken name) (f ∷ fs) = gives (weakened (number_in names name) f ∷ fs)
  Word _ fs = λ r. ⊥

  abbrev pub Words : List PolWord → List Form → Answer (List Form)
  Words [] fs = gives fs
  Words (w ∷ ws) fs = after (Word w fs) (Words ws)
