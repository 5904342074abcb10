-- What occurrence lists, open sums and candidates hold, and which forms need no visit.
use Rattle.pb_normal.specs.{declared.numbered.NumberedLiteral.NumberedLiteral, meaning.Rules.negation}
use Rattle.pb_propagate.specs.declared.{rests.Rests.Rests, term.Term.Term}
use Rattle.pb_propagate.specs.engine.engine.Lists.{Shape, Weighted, same, has, open_sum, size}
use Rattle.std.specs.Prelude.{◌≡◌, ℕ, ◌+◌, ◌-◌, ◌*◌, ◌^◌, ◌<◌, ◌≤◌, ◌==◌, ◌||◌, ◌++◌, ◌∷◌, [], true, false, if◌then◌else◌, List, length, sum_by, All, slice_index_or, slice_index}

-- the index of a literal's list among the occurrence lists
abbrev pub place : NumberedLiteral → ℕ
place l = 2 * l.variable + (if l.negated then 1 else 0)

-- what an entry subtracts from a form's open sum
unfoldable pub entry_weight : ℕ → Weighted → ℕ
entry_weight form e = if e.form == form then e.coefficient else 0

abbrev pub weight_in : ℕ → List Weighted → ℕ
weight_in form entries = sum_by (entry_weight form) entries

-- the coefficients on a literal
unfoldable pub term_weight : NumberedLiteral → Term → ℕ
term_weight l t = if same t.literal l then t.coefficient else 0

abbrev pub weight_on : NumberedLiteral → List Term → ℕ
weight_on l terms = sum_by (term_weight l) terms

-- each literal's list has the coefficients that the forms have on it
abbrev pub AreLinked : List Shape → List (List Weighted) → Type 0
AreLinked forms lists = (s : ℕ) (d : Shape) (l : NumberedLiteral) → s < length forms → weight_in s (slice_index_or lists (place l) []) ≡ weight_on l (slice_index_or forms s d).terms

-- each entry names a form
abbrev pub NameForms : ℕ → List (List Weighted) → Type 0
NameForms count lists = (p : ℕ) → All (λ e. e.form < count) (slice_index_or lists p [])

-- the coefficients fall
abbrev pub AreFalling : List Term → Type 0
AreFalling terms = (i j : ℕ) (d : Term) → i ≤ j → j < length terms → (slice_index_or terms j d).coefficient ≤ (slice_index_or terms i d).coefficient

-- the coefficients are equal
abbrev pub AreEven : List Term → Type 0
AreEven terms = (i : ℕ) (d : Term) → i < length terms → (slice_index_or terms i d).coefficient ≡ (slice_index_or terms 0 d).coefficient

-- a form that needs no visit: it is not falsified, and its candidate requires nothing
pub record IsCalm (form : Shape) (opened candidate : ℕ) : Type 0 where
  pub met : form.degree ≤ opened
  pub waiting : (d : Term) → candidate < length form.terms → form.degree + (slice_index_or form.terms candidate d).coefficient ≤ opened

-- the variable of the literal has a value
abbrev pub IsDone : List NumberedLiteral → NumberedLiteral → Type 0
IsDone list l = (has list l || has list (negation l)) ≡ true

-- the variables of the terms before the candidate have values
abbrev pub ArePassed : List Term → ℕ → List NumberedLiteral → Type 0
ArePassed terms candidate list = (k : ℕ) (d : Term) → k < candidate → k < length terms → IsDone list (slice_index_or terms k d).literal

-- the form is not on the work list from a position on
abbrev pub IsAbsent : List ℕ → ℕ → ℕ → Type 0
IsAbsent work from s = (i : ℕ) → from ≤ i → i < length work → slice_index work i ≡ s → ⊥

-- the open sums are those of the list, except for the entries that are not yet subtracted
pub record IsCounted (forms : List Shape) (opens : List ℕ) (list : List NumberedLiteral) (rest : List Weighted) : Type 0 where
  pub each : (s : ℕ) (d : Shape) → s < length forms → slice_index opens s ≡ open_sum list (slice_index_or forms s d).terms + weight_in s rest

-- a number is appended to a list, which stays unchanged only if the number is needless
pub data Grown (needless : Type 0) (x : ℕ) (old : List ℕ) : List ℕ → Type 0 where
  pushed : Grown needless x old (old ++ (x ∷ []))
  spared : needless → Grown needless x old old

-- the open sum and the candidate to which a form returns
abbrev pub rest_open : Rests → ℕ → Shape → ℕ
rest_open rests s f = slice_index_or rests.opens s (size f.terms)

abbrev pub rest_start : Rests → ℕ → ℕ
rest_start rests s = slice_index_or rests.starts s 0

-- the forms that are set aside, and the state to which forms return
pub record Aside : Type 0 where
  pub waiting : List ℕ
  pub rests : Rests

abbrev pub beside : Rests → List ℕ → Aside
beside rests waiting = record { waiting = waiting; rests = rests }

-- Each form is calm, except those set aside, the one that is visited, and those that wait on the work list from `next` on.
-- None is visited if `busy` is no form's number. A form that is not on the trail is as it is at rest.
pub record IsTidy (aside : Aside) (forms : List Shape) (opens candidates : List ℕ) (list : List NumberedLiteral) (work trail : List ℕ) (next busy : ℕ) : Type 0 where
  pub calm : (s : ℕ) (d : Shape) → s < length forms → (s ≡ busy → ⊥) → IsAbsent aside.waiting 0 s → IsAbsent work next s → IsCalm (slice_index_or forms s d) (slice_index opens s) (slice_index candidates s)
  pub passed : (s : ℕ) (d : Shape) → s < length forms → ArePassed (slice_index_or forms s d).terms (slice_index candidates s) list
  pub bounded : (s : ℕ) (d : Shape) → s < length forms → slice_index candidates s ≤ length (slice_index_or forms s d).terms
  pub clean : (s : ℕ) (d : Shape) → s < length forms → IsAbsent trail 0 s → (slice_index opens s ≡ rest_open aside.rests s (slice_index_or forms s d)) × (slice_index candidates s ≡ rest_start aside.rests s)
  pub named : All (λ s. s < length forms) work
  pub marked : All (λ s. s < length forms) trail
  pub traced : (s : ℕ) → IsAbsent trail 0 s → IsAbsent work 0 s

-- the number of entries that the list's literals subtract
abbrev pub spent : List (List Weighted) → List NumberedLiteral → ℕ
spent lists list = sum_by (λ l. length (slice_index_or lists (place (negation l)) [])) list

-- what trying a literal does to the list
pub data Adopted (l : NumberedLiteral) (old : List NumberedLiteral) : List NumberedLiteral → Type 0 where
  kept : IsDone old l → Adopted l old old
  added : has old l ≡ false → has old (negation l) ≡ false → Adopted l old (old ++ (l ∷ []))

-- the list has gained no more literals than there were visits, unless the count has reached its maximum
abbrev pub AreFound : ℕ → ℕ → ℕ → ℕ → Type 0
AreFound length0 length1 visits0 visits1 = visits1 < 2 ^ 64 - 1 → length1 + visits0 ≤ length0 + visits1

-- no literal is on the list twice
pub data AreSingle : List NumberedLiteral → Type 0 where
  none : AreSingle []
  more : {list : List NumberedLiteral} (l : NumberedLiteral) → AreSingle list → has list l ≡ false → AreSingle (list ++ (l ∷ []))

-- the forms that are not on the trail from a position on are as they are at rest
pub record IsUndone (rests : Rests) (forms : List Shape) (opens candidates trail : List ℕ) (from : ℕ) : Type 0 where
  pub clean : (s : ℕ) (d : Shape) → s < length forms → IsAbsent trail from s → (slice_index opens s ≡ rest_open rests s (slice_index_or forms s d)) × (slice_index candidates s ≡ rest_start rests s)
  pub named : All (λ s. s < length forms) trail
