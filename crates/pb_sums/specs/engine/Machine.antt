-- The machine of a sum: what it does with one byte.
use Rattle.pb_sums.specs.declared.{phase.Phase.Phase, sum_kind.Part.Part, sum_kind.Spaces.Spaces, phase.Action.Action, phase.Kind.Kind}
use Rattle.pb_sums.specs.declared.linear.{Relation.Relation, Relation.TheVariants.AtLeast, Relation.TheVariants.Equal, SumEvent.SumEvent, Term.Term}
use Rattle.pb_sums.specs.declared.phase.Action.TheVariants.{To, Begin, Add, EndSum, EndLinear, Stop}
use Rattle.pb_sums.specs.declared.phase.Kind.TheVariants.{Space, Digit, Start, Inner, Tilde, Plus, Minus, Greater, Equals, Semicolon, Other}
use Rattle.pb_sums.specs.meaning.Sums.{is_space, reads_sums, allows}
use Rattle.pb_text.specs.contract.Automaton.{Next, Go, End, Refuse}
use Rattle.pb_text.specs.meaning.{Classes.is_digit, Classes.is_letter, Classes.is_name_byte, Numbers.signed, Spelling.Letter}
use Rattle.std.specs.Prelude.{◌≡◌, ℕ, ◌+◌, ◌-◌, ◌*◌, ◌<◌, ◌≤◌, Bool, true, false, cond, ◌&&◌, List, [], ◌∷◌, ◌++◌, ℤ, nat_eq, nat_le, Option, Some, None}

abbrev pub symbol : ℕ → Kind
symbol b =
    cond (nat_eq b 126) Tilde
    (cond (nat_eq b 43) Plus
    (cond (nat_eq b 45) Minus
    (cond (nat_eq b 62) Greater
    (cond (nat_eq b 61) Equals
    (cond (nat_eq b 59) Semicolon Other)))))

abbrev pub kind_of_plain : Spaces → ℕ → Kind
kind_of_plain spaces b =
    cond (is_space spaces b) Space
    (cond (is_letter b) (Start b)
    (cond (is_name_byte b) (Inner b) (symbol b)))

abbrev pub kind_of_numeral : ℕ → Kind
kind_of_numeral b = cond (is_digit b) (Digit (b - 48)) Other

abbrev pub kind : Spaces → Letter → Kind
kind spaces c = cond c.numeral (kind_of_numeral c.byte) (kind_of_plain spaces c.byte)

-- the letter of a byte, if digits are those of a number (numeric) or of a name
abbrev pub letter_at : Bool → ℕ → Letter
letter_at numeric b = record { byte = b; numeral = numeric && is_digit b }

-- the states in which digits are those of a number, and those after such a digit
abbrev pub is_numeric : Phase → Bool
is_numeric Phase.Start = true
is_numeric (Phase.Signed role negative) = true
is_numeric (Phase.Digits role negative n) = true
is_numeric Phase.Between = true
is_numeric (Phase.Relation r) = true
is_numeric _ = false

abbrev pub is_in_number : Phase → Bool
is_in_number (Phase.Digits role negative n) = true
is_in_number _ = false

-- the states within a text: something has been read, but not everything
abbrev pub is_midway : Phase → Bool
is_midway Phase.Start = false
is_midway Phase.Done = false
is_midway _ = true

abbrev pub is_done : Phase → Bool
is_done Phase.Done = true
is_done _ = false

-- What a machine stores: the terms so far, the name being read, and what it has read last.
pub record Work : Type 0 where
  pub terms : List Term
  pub name : List ℕ
  pub phase : Phase

abbrev pub fresh : Work
fresh = record { terms = []; name = []; phase = Phase.Start }

abbrev pub finished : Work
finished = record { terms = []; name = []; phase = Phase.Done }

abbrev pub term : ℤ → Bool → List ℕ → Term
term z negated name = record { coefficient = z; literal = record { negated = negated; name = name } }

abbrev pub Outcome : Type 0
Outcome = Next Work SumEvent

abbrev pub at_name : List Term → Phase → List ℕ → Outcome
at_name xs p name = Go (record { terms = xs; name = name; phase = p })

abbrev pub to : List Term → Phase → Outcome
to xs p = at_name xs p []

-- The action for a phase and a kind.
abbrev pub digits : ℕ → Option Relation → Bool → ℕ → ℕ → Action
digits limit role negative n d = cond (nat_le (10 * n + d) limit) (To (Phase.Digits role negative (10 * n + d))) Stop

-- the first letter of a number
abbrev pub number : ℕ → Option Relation → Kind → Action
number limit role Plus = To (Phase.Signed role false)
number limit role Minus = To (Phase.Signed role true)
number limit role (Digit d) = digits limit role false 0 d
number limit role _ = Stop

-- what may follow the terms
abbrev pub next_action : Part → Kind → Action
next_action want Greater = cond (allows want AtLeast) (To Phase.Greater) Stop
next_action want Equals = cond (allows want Equal) (To (Phase.Relation Equal)) Stop
next_action want Semicolon = cond (reads_sums want) EndSum Stop
next_action want _ = Stop

abbrev pub transition : Part → ℕ → Phase → Kind → Action
transition want limit Phase.Start Space = cond (reads_sums want) (To Phase.Empty) Stop
transition want limit Phase.Start Plus = number limit None Plus
transition want limit Phase.Start Minus = number limit None Minus
transition want limit Phase.Start (Digit d) = number limit None (Digit d)
transition want limit Phase.Start k = next_action want k
transition want limit (Phase.Signed role negative) (Digit d) = digits limit role negative 0 d
transition want limit (Phase.Digits role negative n) (Digit d) = digits limit role negative n d
transition want limit (Phase.Digits None negative n) Space = To (Phase.Gap (signed negative n))
transition want limit (Phase.Digits (Some r) negative n) Space = To (Phase.Tail r (signed negative n))
transition want limit (Phase.Digits (Some r) negative n) Semicolon = EndLinear r (signed negative n)
transition want limit (Phase.Gap z) Space = To (Phase.Gap z)
transition want limit (Phase.Gap z) Tilde = To (Phase.Tilde z)
transition want limit (Phase.Gap z) (Start b) = Begin (Phase.First z false) b
transition want limit (Phase.Tilde z) (Start b) = Begin (Phase.First z true) b
transition want limit (Phase.First z negated) (Start b) = Add (Phase.More z negated) b
transition want limit (Phase.First z negated) (Inner b) = Add (Phase.More z negated) b
transition want limit (Phase.More z negated) (Start b) = Add (Phase.More z negated) b
transition want limit (Phase.More z negated) (Inner b) = Add (Phase.More z negated) b
transition want limit (Phase.More z negated) Space = To Phase.Between
transition want limit (Phase.More z negated) k = next_action want k
transition want limit Phase.Between Space = To Phase.Between
transition want limit Phase.Between Plus = number limit None Plus
transition want limit Phase.Between Minus = number limit None Minus
transition want limit Phase.Between (Digit d) = number limit None (Digit d)
transition want limit Phase.Between k = next_action want k
transition want limit Phase.Greater Equals = To (Phase.Relation AtLeast)
transition want limit (Phase.Relation r) Space = To (Phase.Relation r)
transition want limit (Phase.Relation r) k = number limit (Some r) k
transition want limit (Phase.Tail r z) Space = To (Phase.Tail r z)
transition want limit (Phase.Tail r z) Semicolon = EndLinear r z
transition want limit Phase.Empty Space = To Phase.Empty
transition want limit Phase.Empty Semicolon = EndSum
transition _ _ _ _ = Stop

-- What it does: xs are the terms so far, ys those with the one that ends here.
abbrev pub act : List Term → List Term → List ℕ → Action → Outcome
act ys xs name (To p) = to ys p
act ys xs name (Begin p b) = at_name xs p (b ∷ [])
act ys xs name (Add p b) = at_name xs p (name ++ b ∷ [])
act ys xs name EndSum = End (SumEvent.Sum ys) finished
act ys xs name (EndLinear r z) = End (SumEvent.Linear (record { terms = ys; relation = r; degree = z })) finished
act ys xs name Stop = Refuse

-- with the term whose literal is complete
abbrev pub flushed : Phase → List Term → List ℕ → List Term
flushed (Phase.More z negated) xs name = xs ++ term z negated name ∷ []
flushed _ xs name = xs

abbrev pub action : Part → ℕ → List Term → List ℕ → Phase → Kind → Outcome
action want limit xs name p k = act (flushed p xs name) xs name (transition want limit p k)

abbrev pub step : Spaces → Part → ℕ → Work → ℕ → Outcome
step spaces want limit w b = action want limit w.terms w.name w.phase (kind spaces (letter_at (is_numeric w.phase) b))

-- The invariants of every machine for its numbers and the bytes of its names.
abbrev pub KindFits : Kind → Type 0
KindFits (Digit d) = d < 10
KindFits (Start b) = b < 128
KindFits (Inner b) = b < 128
KindFits _ = Unit {0}

abbrev pub PhaseFits : ℕ → Phase → Type 0
PhaseFits limit (Phase.Digits role negative n) = n ≤ limit
PhaseFits limit _ = Unit {0}

abbrev pub ActionFits : ℕ → Action → Type 0
ActionFits limit (To p) = PhaseFits limit p × (is_midway p ≡ true)
ActionFits limit (Begin p b) = PhaseFits limit p × (is_midway p ≡ true) × (b < 128)
ActionFits limit (Add p b) = PhaseFits limit p × (is_midway p ≡ true) × (b < 128)
ActionFits limit _ = Unit {0}

-- whether a byte may allocate: one of a name, or one that ends a literal
abbrev pub is_more : Phase → Bool
is_more (Phase.More z negated) = true
is_more _ = false

abbrev pub adds : Action → Bool
adds (Begin p b) = true
adds (Add p b) = true
adds _ = false
