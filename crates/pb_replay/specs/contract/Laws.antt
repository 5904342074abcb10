-- The laws of replay, over the definitions alone
use Rattle.pb_normal.specs.{declared.numbered.NumberedLiteral.NumberedLiteral, meaning.Form.Form, meaning.Names.AreDistinct, meaning.Rules.on}
use Rattle.{pb_opb.specs.declared.Instance.Instance, pb_replay.specs.contract.ReplayModel.verdict_at, pb_replay.specs.meaning.Replay.first_state}
use Rattle.pb_proof.specs.{contract.Values.IsStatementValue, declared.Proof.Proof, meaning.Proofs.statements_of}
use Rattle.pb_proof.specs.declared.{Stage.Stage, Stage.TheVariants.Opening, Stage.TheVariants.Closing, Stage.TheVariants.Complete, Statement.Statement}
use Rattle.pb_propagate.specs.meaning.Propagation.{Derivation, MeetsConflict, IsCompletion}
use Rattle.pb_replay.specs.declared.{fault.Fault.Fault, fault.Fault.TheVariants.NotTotal, verdict.Verdict.Verdict}
use Rattle.pb_replay.specs.meaning.{Answer.Answer, Meaning.Means, Meaning.MeansWritten, Meaning.AccountedWritten, Meaning.IsProblem, Meaning.IsSound}
use Rattle.pb_replay.specs.meaning.{Problem.Problem, Problem.Opened, Problem.Solves, Replay.State, Statements.Outcome, Statements.Accepts, Statements.MayWantAt}
use Rattle.std.specs.Prelude.{◌≡◌, ℕ, ◌≤◌, Bool, List, All, Contains, Some, Result, Ok, Err, ◌<◌, length, Option, IsSome}

-- what an instance opens as follows the rules of a problem
abbrev pub ProblemsAreProper : Type 0
ProblemsAreProper = (limit : ℕ) (i : Instance) (v : Problem) → Opened limit i (Ok v) → IsProblem v

-- the first state is sound, and each accepted statement preserves this
abbrev pub FirstIsSound : Type 0
FirstIsSound = (v : Problem) → IsProblem v → IsSound v (first_state v)

abbrev pub StatementsAreSound : Type 0
StatementsAreSound = (limit top : ℕ) (v : Problem) (s t : State) (st : Statement) →
    IsProblem v → IsStatementValue limit top st → IsSound v s → Outcome limit top v s st (Ok t) → IsSound v t

-- What a verdict means for the forms of an instance, it means for the instance as written.
abbrev pub MeaningsAgree : Type 0
MeaningsAgree = (limit : ℕ) (i : Instance) (v : Problem) (w : Verdict) → Opened limit i (Ok v) → Means v w → MeansWritten i w

-- What accepted statements conclude is true of the instance as written.
abbrev pub VerdictsMean : Type 0
VerdictsMean = (limit top : ℕ) (i : Instance) (v : Problem) (sts : List Statement) (t : State) (w : Verdict) →
    Opened limit i (Ok v) → All (IsStatementValue limit top) sts → Accepts limit top v (first_state v) sts t → t.concluded ≡ Some w → MeansWritten i w

-- In each sound state each solution of the instance as written is accounted for.
abbrev pub SolutionsAreAccounted : Type 0
SolutionsAreAccounted = (limit : ℕ) (i : Instance) (v : Problem) (s : State) → Opened limit i (Ok v) → IsSound v s →
    (a : List ℕ → Bool) → Solves i a → AccountedWritten i v.names s a

-- an answer has at most one value or fault
abbrev pub IsSingle : {A : Type 0} → Answer A → Type 0
IsSingle {A} m = (r s : Result A Fault) → m r → m s → r ≡ s

abbrev pub OpeningsAreSingle : Type 0
OpeningsAreSingle = (limit : ℕ) (i : Instance) → IsSingle (Opened limit i)

abbrev pub OutcomesAreSingle : Type 0
OutcomesAreSingle = (limit top : ℕ) (v : Problem) (s : State) (st : Statement) → IsSingle (Outcome limit top v s st)

-- Larger limits accept what smaller ones accept, with the same state.
abbrev pub OpensMore : Type 0
OpensMore = (limit more : ℕ) (i : Instance) (v : Problem) → limit ≤ more → Opened limit i (Ok v) → Opened more i (Ok v)

abbrev pub AcceptsMore : Type 0
AcceptsMore = (limit top limit' top' : ℕ) (v : Problem) (s t : State) (st : Statement) → limit ≤ limit' → top ≤ top' →
    Outcome limit top v s st (Ok t) → Outcome limit' top' v s st (Ok t)

-- the set of the forms of a list
abbrev pub InList : List Form → Form → Type 0
InList fs f = Contains fs f

-- If one derivation meets a conflict, each can be extended until it meets one. If none does, the completion is one set of
-- literals.
abbrev pub OrderIsFree : Type 0
OrderIsFree = (fs : List Form) (given list : List NumberedLiteral) →
    MeetsConflict (InList fs) given → Derivation (InList fs) given list → MeetsConflict (InList fs) list

abbrev pub CompletionIsOne : Type 0
CompletionIsOne = (fs : List Form) (given a b : List NumberedLiteral) → (MeetsConflict (InList fs) given → ⊥) →
    IsCompletion (InList fs) given a → IsCompletion (InList fs) given b → (x : ℕ) (negated : Bool) → on a x negated ≡ on b x negated

-- A name that gets no value existed before the statement, as the statement's own names get one.
abbrev pub UnvaluedAreOld : Type 0
UnvaluedAreOld = (limit top : ℕ) (v : Problem) (s : State) (st : Statement) (n : ℕ) → AreDistinct s.names →
    Outcome limit top v s st (Err (NotTotal n)) → n < length s.names

-- Only a statement that may allocate leaves a name without a value.
abbrev pub UnvaluedMayWant : Type 0
UnvaluedMayWant = (limit top : ℕ) (v : Problem) (s : State) (st : Statement) (n : ℕ) →
    Outcome limit top v s st (Err (NotTotal n)) → MayWantAt limit top v s.next st

-- after a conclusion there is a verdict; this holds from any state before the header
abbrev pub HasConclusion : Stage → Option Verdict → Type 0
HasConclusion Closing concluded = IsSome concluded
HasConclusion Complete concluded = IsSome concluded
HasConclusion _ concluded = Unit {0}

abbrev pub VerdictsAreThere : Type 0
VerdictsAreThere = (limit top : ℕ) (v : Problem) (sts : List Statement) (s t : State) → s.next ≡ Opening → Accepts limit top v s sts t → HasConclusion t.next t.concluded

-- If all statements of a proof are accepted, from whatever state, there is a verdict.
abbrev pub WholeProofsConclude : Type 0
WholeProofsConclude = (limit top : ℕ) (v : Problem) (p : Proof) (s t : State) →
    Accepts limit top v s (statements_of p) t → IsSome (verdict_at t.next t.concluded)
