-- What each statement of a proof does to the state of a replay, or why it is rejected
use Rattle.pb_normal.specs.declared.Side.TheVariants.{AtLeast as least, AtMost as most}
use Rattle.pb_normal.specs.meaning.{Constraints.Fits, Names.with_names, Written.names_of}
use Rattle.pb_proof.specs.declared.{PolWord.PolWord, PolWord.TheVariants.Axiom, PolWord.TheVariants.Weaken, Statement.Statement}
use Rattle.pb_proof.specs.declared.Stage.{Stage, TheVariants.Formula, TheVariants.Steps, TheVariants.Concluding, TheVariants.Closing, TheVariants.Complete}
use Rattle.pb_proof.specs.declared.Conclusion.{Conclusion, TheVariants.NoClaim, TheVariants.Unsat, TheVariants.Sat, TheVariants.Bounds}
use Rattle.pb_proof.specs.declared.Statement.TheVariants.{Header, F, Pol, Rup, Soli, Solx, Delete, Output, Conclude, End}
use Rattle.{pb_proof.specs.meaning.Order.stage_of, pb_proof.specs.meaning.Postfix.words, pb_sums.specs.declared.Literal.Literal}
use Rattle.{pb_propagate.specs.meaning.Propagation.IsRup, pb_propagate.specs.meaning.Propagation.Live, pb_sums.specs.declared.Term.Term}
use Rattle.pb_replay.specs.declared.fault.Fault.TheVariants.{FormulaCount, NotImplied, NoObjective, IdsSpent, Order}
use Rattle.pb_replay.specs.meaning.Conclusions.{Concludes, objective_with, verdict_of}
use Rattle.pb_replay.specs.meaning.{Problem.Problem, Answer.Answer, Answer.gives, Answer.need, Answer.found, Answer.some, Answer.after}
use Rattle.pb_replay.specs.meaning.Replay.{State, FormOfExpression, normal_form, numbered, Completed, Excludes, Deleted, added}
use Rattle.std.specs.Prelude.{◌≡◌, ℕ, ◌≤◌, pos, ◌-ℤ◌, List, [], ◌∷◌, ◌++◌, length, map, Option, Some, None, Ok}

-- the names in literals, words and conclusions, as often as they are written
abbrev pub literal_names : List Literal → List (List ℕ)
literal_names ls = map (λ l. l.name) ls

abbrev pub word_names : List PolWord → List (List ℕ)
word_names [] = []
word_names (Axiom l ∷ ws) = l.name ∷ word_names ws
word_names (Weaken name ∷ ws) = name ∷ word_names ws
word_names (_ ∷ ws) = word_names ws

abbrev pub shown_names : Option (List Literal) → List (List ℕ)
shown_names None = []
shown_names (Some ls) = literal_names ls

abbrev pub conclusion_names : Conclusion → List (List ℕ)
conclusion_names (Sat shown) = shown_names shown
conclusion_names (Bounds lower id upper shown) = shown_names shown
conclusion_names _ = []

-- the names that a statement mentions, also those with coefficient 0 and those in a weakening
abbrev pub mentioned : Statement → List (List ℕ)
mentioned (Pol ws) = word_names ws
mentioned (Rup linear) = names_of linear.terms
mentioned (Soli ls) = literal_names ls
mentioned (Solx ls) = literal_names ls
mentioned (Conclude c) = conclusion_names c
mentioned _ = []

-- whether the statement may allocate
abbrev pub MayWant : Statement → Type 0
MayWant Header = ⊥
MayWant (Delete ids) = ⊥
MayWant Output = ⊥
MayWant (Conclude NoClaim) = ⊥
MayWant (Conclude (Unsat id)) = ⊥
MayWant (Conclude (Sat None)) = ⊥
MayWant End = ⊥
MayWant _ = Unit {0}

abbrev pub IsCount : Option ℕ → ℕ → Type 0
IsCount None n = Unit {0}
IsCount (Some m) n = m ≡ n

module _ (limit top : ℕ) (v : Problem) where
  -- what is tested, before anything is allocated, of a statement that may come
  abbrev pub PassesFirst : Statement → Type 0
  PassesFirst (F count) = IsCount count (length v.loaded) × (length v.loaded ≤ top)
  PassesFirst (Rup linear) = Fits limit linear
  PassesFirst (Soli given) = (o : List Term) × (v.objective ≡ Some o)
  PassesFirst (Conclude (Bounds lower id upper shown)) = (o : List Term) × (v.objective ≡ Some o)
  PassesFirst _ = Unit {0}

  -- The statement may allocate at this stage: it may come, and passes what is tested first.
  abbrev pub MayWantAt : Stage → Statement → Type 0
  MayWantAt next st = (next ≡ stage_of st) × MayWant st × PassesFirst st

  -- what a statement does if it may come, once its names have appeared
  abbrev pub Does : State → Statement → Answer State
  Does s Header = gives (record s { next = Formula })
  Does s (F count) =
      need (IsCount count (length v.loaded)) (FormulaCount (length v.loaded))
      (need (length v.loaded ≤ top) IdsSpent
      (gives (record s { live = map (λ f. Some f) v.loaded; next = Steps })))
  Does s (Pol ws) =
      some (λ tree. ws ≡ words tree) (λ tree.
      after (FormOfExpression limit s.names s.live tree) (added top s s.logged))
  Does s (Rup linear) =
      normal_form limit s.names least linear (λ r.
      need (IsRup (Live s.live) r) NotImplied (added top s s.logged r))
  Does s (Soli given) =
      found (λ o. v.objective ≡ Some o) NoObjective (λ o.
      after (Completed v (Live s.live) (length s.names) (numbered s.names given)) (λ g.
      normal_form limit s.names most (objective_with o (g.value -ℤ pos 1)) (added top s (s.logged ++ (g ∷ [])))))
  Does s (Solx given) =
      after (Completed v (Live s.live) (length s.names) (numbered s.names given)) (λ g.
      some (Excludes (numbered s.names given)) (added top s (s.logged ++ (g ∷ []))))
  Does s (Delete ids) = after (Deleted s.live ids) (λ live. gives (record s { live = live }))
  Does s Output = gives (record s { next = Concluding })
  Does s (Conclude c) = Concludes limit v s c (gives (record s { next = Closing; concluded = Some (verdict_of c) }))
  Does s End = gives (record s { next = Complete })

  -- the state after the statement, or its fault
  abbrev pub Outcome : State → Statement → Answer State
  Outcome s st = need (s.next ≡ stage_of st) Order (Does (record s { names = with_names s.names (mentioned st) }) st)

  -- the statements are accepted in order
  abbrev pub Accepts : State → List Statement → State → Type 0
  Accepts s [] t = s ≡ t
  Accepts s (st ∷ sts) t = (u : State) × Outcome s st (Ok u) × Accepts u sts t
