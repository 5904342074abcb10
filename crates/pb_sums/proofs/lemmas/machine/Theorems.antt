-- Laws of the grammar and of the machine.
use Rattle.pb_sums.proofs.Common.{to, Work, Spells, ℕ, ℤ, ◌++◌, ◌↔◌, ◌∙◌, ◌∷◌, ◌≡◌, [], ap, arith, Bool, cond, false, List, None, Option, refl, Some, sym, true}
use Rattle.pb_sums.proofs.{Common.next_action, lemmas.machine.Complete.reads_each, lemmas.machine.LetterKinds.on_letter, lemmas.machine.Sound.reads_only}
use Rattle.pb_sums.proofs.Common.{le-leb, false≢true, one_end, run, run-append, End, Go, Next, digit, Language, unmarked, signed, Letter, Relation, AtLeast}
use Rattle.pb_sums.proofs.Common.{SumEvent, Term, Stop, To, Greater, Semicolon, Phase, Part, Spaces, act, at_name, digits, finished, fresh, is_done, term}

module _ (spaces : Spaces) (want : Part) (limit : ℕ) where
  abbrev G : SumEvent → Language
  G = Spells spaces limit want

  abbrev N : Type 0
  N = Next Work SumEvent

  abbrev go : N → List Letter → N
  go = run (on_letter spaces want limit)

  -- The first state accepts exactly the grammar.
  pub exact : (t : List Letter) (e : SumEvent) → G e t ↔ (go (Go fresh) t ≡ End e finished)
  exact t e = (reads_each spaces want limit t e, reads_only spaces want limit t e)

  -- A text has at most one value.
  pub one_value : (t : List Letter) (e f : SumEvent) → G e t → G f t → e ≡ f
  one_value t e f g h = (one_end e f finished finished (sym (reads_each spaces want limit t e g) ∙ reads_each spaces want limit t f h)).0

  -- No text of a value is a proper prefix of another.
  pub prefix_free : (t u : List Letter) (e f : SumEvent) → G e t → G f (t ++ u) → u ≡ []
  prefix_free t [] e f g h = refl
  prefix_free t (c ∷ u) e f g h = grind (arith, run-append, on_letter, reads_each)

  -- Each state except the last one accepts a text.
  abbrev Alive : N → Type 0
  Alive n = (t : List Letter) × (e : SumEvent) × (go n t ≡ End e finished)

  -- a text prepended
  before : (n m : N) (a : List Letter) → go n a ≡ m → Alive m → Alive n
  before n m a h (t, e, i) = (a ++ t, e, run-append (on_letter spaces want limit) n a t ∙ (ap (λ x. go x t) h ∙ i))

  zero_fits : (xs : List Term) (name : List ℕ) (role : Option Relation) (negative : Bool) → act xs xs name (digits limit role negative 0 0) ≡ to xs (Phase.Digits role negative 0)
  zero_fits xs name role negative = ap (λ b. act xs xs name (cond b (To (Phase.Digits role negative 0)) Stop)) (le-leb 0 limit (omega arith))

  alive-degree : (xs : List Term) (name : List ℕ) (r : Relation) (negative : Bool) (n : ℕ) → Alive (at_name xs (Phase.Digits (Some r) negative n) name)
  alive-degree xs name r negative n = (unmarked 59 ∷ [], SumEvent.Linear (record { terms = xs; relation = r; degree = signed negative n }), refl)

  alive-relation : (xs : List Term) (name : List ℕ) (r : Relation) → Alive (at_name xs (Phase.Relation r) name)
  alive-relation xs name r =
      before (at_name xs (Phase.Relation r) name) (to xs (Phase.Digits (Some r) false 0)) (digit 0 ∷ [])
      (zero_fits xs name (Some r) false) (alive-degree xs [] r false 0)

  alive-greater : (xs : List Term) (name : List ℕ) → Alive (at_name xs Phase.Greater name)
  alive-greater xs name = before (at_name xs Phase.Greater name) (to xs (Phase.Relation AtLeast)) (unmarked 61 ∷ []) refl (alive-relation xs [] AtLeast)

  -- what may follow terms can be completed
  alive-after : (xs : List Term) (n : N) (w : Part) (zs : List Term) (name : List ℕ) → go n (unmarked 59 ∷ []) ≡ act xs zs name (next_action w Semicolon) → go n (unmarked 62 ∷ []) ≡ act xs zs name (next_action w Greater) → Alive n
  alive-after xs n Part.Sum zs name h i = (unmarked 59 ∷ [], SumEvent.Sum xs, h)
  alive-after xs n Part.Linear zs name h i = before n (to xs Phase.Greater) (unmarked 62 ∷ []) i (alive-greater xs [])
  alive-after xs n Part.AtLeast zs name h i = before n (to xs Phase.Greater) (unmarked 62 ∷ []) i (alive-greater xs [])

  alive-more : (xs : List Term) (name : List ℕ) (z : ℤ) (negated : Bool) → Alive (at_name xs (Phase.More z negated) name)
  alive-more xs name z negated =
      alive-after (xs ++ term z negated name ∷ []) (at_name xs (Phase.More z negated) name) want xs name refl refl

  alive-gap : (xs : List Term) (name : List ℕ) (z : ℤ) → Alive (at_name xs (Phase.Gap z) name)
  alive-gap xs name z = before (at_name xs (Phase.Gap z) name) (at_name xs (Phase.More z false) (97 ∷ 97 ∷ [])) (unmarked 97 ∷ unmarked 97 ∷ []) refl (alive-more xs (97 ∷ 97 ∷ []) z false)

  alive-digits : (role : Option Relation) (xs : List Term) (name : List ℕ) (negative : Bool) (n : ℕ) → Alive (at_name xs (Phase.Digits role negative n) name)
  alive-digits None xs name negative n =
      before (at_name xs (Phase.Digits None negative n) name) (to xs (Phase.Gap (signed negative n))) (unmarked 32 ∷ []) refl (alive-gap xs [] (signed negative n))
  alive-digits (Some r) xs name negative n = alive-degree xs name r negative n

  pub alive : (ph : Phase) (xs : List Term) (name : List ℕ) → is_done ph ≡ false → Alive (at_name xs ph name)
  alive Phase.Start xs name h = alive-after xs (at_name xs Phase.Start name) want xs name refl refl
  alive (Phase.Signed role negative) xs name h =
      before (at_name xs (Phase.Signed role negative) name) (to xs (Phase.Digits role negative 0)) (digit 0 ∷ [])
      (zero_fits xs name role negative) (alive-digits role xs [] negative 0)
  alive (Phase.Digits role negative n) xs name h = alive-digits role xs name negative n
  alive (Phase.Gap z) xs name h = alive-gap xs name z
  alive (Phase.Tilde z) xs name h =
      before (at_name xs (Phase.Tilde z) name) (at_name xs (Phase.More z true) (97 ∷ 97 ∷ [])) (unmarked 97 ∷ unmarked 97 ∷ []) refl (alive-more xs (97 ∷ 97 ∷ []) z true)
  alive (Phase.First z negated) xs name h =
      before (at_name xs (Phase.First z negated) name) (at_name xs (Phase.More z negated) (name ++ 97 ∷ [])) (unmarked 97 ∷ []) refl (alive-more xs (name ++ 97 ∷ []) z negated)
  alive (Phase.More z negated) xs name h = alive-more xs name z negated
  alive Phase.Between xs name h = alive-after xs (at_name xs Phase.Between name) want xs name refl refl
  alive Phase.Greater xs name h = alive-greater xs name
  alive (Phase.Relation r) xs name h = alive-relation xs name r
  alive (Phase.Tail r z) xs name h = (unmarked 59 ∷ [], SumEvent.Linear (record { terms = xs; relation = r; degree = z }), refl)
  alive Phase.Empty xs name h = (unmarked 59 ∷ [], SumEvent.Sum xs, refl)
  alive Phase.Done xs name h = absurd (false≢true (sym h))
