-- What a verdict means, and what is true of every state
use Rattle.pb_normal.specs.meaning.{Names.AreDistinct, Names.HasNames, Rules.assignment, Written.names_of, Written.by_number}
use Rattle.{pb_opb.specs.declared.Instance.Instance, pb_propagate.specs.meaning.Propagation.HoldAll, pb_propagate.specs.meaning.Propagation.Live}
use Rattle.pb_proof.specs.declared.Bound.{Bound, TheVariants.Finite, TheVariants.Infinite}
use Rattle.pb_replay.specs.declared.verdict.Verdict.{Verdict, TheVariants.NoClaim, TheVariants.Unsat, TheVariants.Sat, TheVariants.Bounds}
use Rattle.pb_replay.specs.meaning.{Problem.Problem, Problem.objective_of, Problem.Solves, Problem.written_value, Replay.State, Replay.value}
use Rattle.{pb_replay.specs.meaning.Replay.Logged, pb_replay.specs.meaning.Replay.by_name, pb_sums.specs.declared.Term.Term}
use Rattle.std.specs.Prelude.{◌≡◌, ℕ, ◌<◌, ℤ, ◌≤ℤ◌, Bool, List, ◌++◌, length, Contains, Some}

-- what a verdict means for solutions S and their values w
module _ {A : Type 0} (S : A → Type 0) (w : A → ℤ) where
  abbrev pub HasNone : Type 0
  HasNone = (a : A) → S a → ⊥

  abbrev pub IsAtLeast : Bound → Type 0
  IsAtLeast Infinite = HasNone
  IsAtLeast (Finite b) = (a : A) → S a → b ≤ℤ w a

  abbrev pub IsAtMost : Bound → Type 0
  IsAtMost Infinite = Unit {0}
  IsAtMost (Finite u) = (a : A) × S a × (w a ≤ℤ u)

  abbrev pub MeansOf : Verdict → Type 0
  MeansOf NoClaim = Unit {0}
  MeansOf Unsat = HasNone
  MeansOf Sat = (a : A) × S a
  MeansOf (Bounds lower upper) = IsAtLeast lower × IsAtMost upper

-- what a verdict means for an instance as written: an assignment says which names are true
abbrev pub MeansWritten : Instance → Verdict → Type 0
MeansWritten i = MeansOf (Solves i) (written_value i)

-- the same for its forms: an assignment says which numbers of names are true
abbrev pub IsSolution : Problem → (ℕ → Bool) → Type 0
IsSolution v a = HoldAll a (Contains v.loaded)

abbrev pub Means : Problem → Verdict → Type 0
Means v = MeansOf (IsSolution v) (value v)

-- a solution is a logged one on the instance's names, or no better than a logged one, or all live forms hold at it
pub data Accounted (v : Problem) (s : State) (a : ℕ → Bool) : Type 0 where
  known : (g : Logged) → Contains s.logged g → ((k : ℕ) → k < length v.names → a k ≡ assignment g.values k) → Accounted v s a
  beaten : (o : List Term) → v.objective ≡ Some o → (g : Logged) → Contains s.logged g → g.value ≤ℤ value v a → Accounted v s a
  allowed : HoldAll a (Live s.live) → Accounted v s a

abbrev pub AllAccounted : Problem → State → Type 0
AllAccounted v s = (a : ℕ → Bool) → IsSolution v a → Accounted v s a

-- the same for an instance as written
pub data AccountedWritten (i : Instance) (names : List (List ℕ)) (s : State) (a : List ℕ → Bool) : Type 0 where
  known_names : (g : Logged) → Contains s.logged g → ((name : List ℕ) → Contains names name → a name ≡ by_name s.names (assignment g.values) name) → AccountedWritten i names s a
  beaten_value : (o : List Term) → i.objective ≡ Some o → (g : Logged) → Contains s.logged g → g.value ≤ℤ written_value i a → AccountedWritten i names s a
  allowed_still : HoldAll (by_number s.names a) (Live s.live) → AccountedWritten i names s a

-- the first names are a prefix of the second
abbrev pub IsNamePrefix : List (List ℕ) → List (List ℕ) → Type 0
IsNamePrefix names all = (more : List (List ℕ)) × (all ≡ names ++ more)

-- what is true of every state of a replay
pub record IsSound (v : Problem) (s : State) : Type 0 where
  pub stands : AllAccounted v s
  pub names : IsNamePrefix v.names s.names
  pub distinct : AreDistinct s.names
  pub solutions : (g : Logged) → Contains s.logged g → IsSolution v (assignment g.values)
  pub values : (g : Logged) → Contains s.logged g → g.value ≡ value v (assignment g.values)
  pub meant : (w : Verdict) → s.concluded ≡ Some w → Means v w

-- no name occurs twice, and the objective's names are among them
pub record IsProblem (v : Problem) : Type 0 where
  pub distinct : AreDistinct v.names
  pub named : HasNames v.names (names_of (objective_of v.objective))
