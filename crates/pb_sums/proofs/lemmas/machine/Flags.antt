-- Which letter a byte is: digits of a number have their flag.
use Rattle.pb_sums.proofs.Common.{ℕ, ◌&&◌, ◌+◌, ◌-◌, ◌∙◌, ◌≡◌, ◌⊎◌, ap, arith, Bool, cond, false, inl, inr, List, refl, subst, sym, true, nat_tests, end_or_go}
use Rattle.pb_sums.proofs.Common.{go_or_end, one_end, one_state, refuse_or_end, refuse_or_go, End, Go, is_digit, is_letter, is_name_byte, unmarked, Letter}
use Rattle.pb_sums.proofs.Common.{SumEvent, Term, Action, Add, Begin, EndLinear, EndSum, Stop, To, Kind, Digit, Inner, Other, Semicolon, Phase, Part, Spaces}
use Rattle.pb_sums.proofs.Common.{act, finished, flushed, is_in_number, is_midway, is_numeric, kind, kind_of_numeral, kind_of_plain, letter_at, transition}
use Rattle.pb_sums.proofs.{Common.Work, lemmas.machine.LetterKinds.on_letter, lemmas.machine.LetterKinds.Means, lemmas.machine.LetterKinds.kind-means}
use Rattle.{pb_sums.proofs.Common.in_hand, pb_sums.proofs.Common.ready, pb_sums.proofs.Common.is_space, std.proofs.Math.Bool.and-false}

-- What the transition of a phase at a kind says about the next state. The byte was a digit of a number if and only if
-- the state is in a number. The text has begun. If a name has begun, a literal is being read. Only `;` ends a text.
abbrev pub is_digit_kind : Kind → Bool
is_digit_kind (Digit d) = true
is_digit_kind _ = false

abbrev pub Flags : Kind → Phase → Type 0
Flags k q = (is_in_number q ≡ is_digit_kind k) × (is_midway q ≡ true)

abbrev pub IsSane : Phase → Kind → Action → Type 0
IsSane ph k (To q) = Flags k q × (in_hand q ≡ 0)
IsSane ph k (Begin q b) = Flags k q × (in_hand q + ready q ≡ 1) × (ready ph ≡ 1)
IsSane ph k (Add q b) = Flags k q × (in_hand q + ready q ≡ 1) × (in_hand ph ≡ 1)
IsSane ph k EndSum = k ≡ Semicolon
IsSane ph k (EndLinear r z) = k ≡ Semicolon
IsSane ph k Stop = Unit {0}

module _ (want : Part) (limit : ℕ) where
  pub transition-sane : (ph : Phase) (k : Kind) → IsSane ph k (transition want limit ph k)
  transition-sane ph k = grind arith

  digit-needs : (ph : Phase) (d : ℕ) → (is_numeric ph ≡ true) ⊎ (transition want limit ph (Digit d) ≡ Stop)
  digit-needs ph d = grind arith

  inner-needs : (ph : Phase) (b : ℕ) → (is_numeric ph ≡ false) ⊎ (transition want limit ph (Inner b) ≡ Stop)
  inner-needs ph b = grind arith

  other-stops : (ph : Phase) → transition want limit ph Other ≡ Stop
  other-stops ph = grind arith

  digit-inner : (s : Spaces) (b : ℕ) → is_digit b ≡ true → kind_of_plain s b ≡ Inner b
  digit-inner s b e =
      let i : is_space s b ≡ false = space-no s b e in
      let j : is_letter b ≡ false = grind (arith, nat_tests) in
      let k : is_name_byte b ≡ true = grind (arith, nat_tests) in rw (i, k, j) refl
    where
      space-no : (s : Spaces) (b : ℕ) → is_digit b ≡ true → is_space s b ≡ false
      space-no s b e = grind (arith, nat_tests)

  -- A letter that the machine takes is the one that its byte is to the machine.
  pub flag : (s : Spaces) (ph : Phase) (c : Letter) → (c ≡ letter_at (is_numeric ph) c.byte) ⊎ (transition want limit ph (kind s c) ≡ Stop)
  flag s ph c = go c.byte c.numeral (is_digit c.byte) refl
    where
      go : (b : ℕ) (m : Bool) (x : Bool) → is_digit b ≡ x →
          (◌≡◌ {A = Letter} (record { byte = b; numeral = m }) (letter_at (is_numeric ph) b)) ⊎ (transition want limit ph (cond m (kind_of_numeral b) (kind_of_plain s b)) ≡ Stop)
      go b true true e = elim (digit-needs ph (b - 48)) [
        | inl f ↦ inl (ap (λ n. record { byte = b; numeral = n }) (sym (ap (λ y. y && is_digit b) f ∙ e)))
        | inr f ↦ inr (ap (λ y. transition want limit ph (cond y (Digit (b - 48)) Other)) e ∙ f)
      ]
      go b true false e = inr (ap (λ y. transition want limit ph (cond y (Digit (b - 48)) Other)) e ∙ other-stops ph)
      go b false true e = elim (inner-needs ph b) [
        | inl f ↦ inl (ap (λ n. record { byte = b; numeral = n }) (sym (ap (λ y. y && is_digit b) f)))
        | inr f ↦ inr (ap (λ y. transition want limit ph y) (digit-inner s b e) ∙ f)
      ]
      go b false false e = inl (ap (λ n. record { byte = b; numeral = n }) (sym (ap (λ y. is_numeric ph && y) e ∙ and-false (is_numeric ph))))

  go-sane : (ph : Phase) (k : Kind) (ys xs : List Term) (name : List ℕ) (m : Action) (w : Work) → IsSane ph k m → act ys xs name m ≡ Go w → Flags k w.phase
  go-sane ph k ys xs name m w h e = grind (arith, one_state, end_or_go, refuse_or_go)

  numeral-of : (s : Spaces) (c : Letter) (k : Kind) → Means s k c → (c.numeral ≡ is_digit_kind k) ⊎ (k ≡ Other)
  numeral-of s c k m = grind arith

  -- After a letter: in a number if and only if the letter is a digit of one, and within a text.
  pub gone : (s : Spaces) (w w' : Work) (c : Letter) → on_letter s want limit w c ≡ Go w' → (is_in_number w'.phase ≡ c.numeral) × (is_midway w'.phase ≡ true)
  gone s w w' c e =
      let ys : List Term = flushed w.phase w.terms w.name in
      let f : Flags (kind s c) w'.phase = go-sane w.phase (kind s c) ys w.terms w.name (transition want limit w.phase (kind s c)) w' (transition-sane w.phase (kind s c)) e in
      elim (numeral-of s c (kind s c) (kind-means s c)) [
        | inl g ↦ (f.0 ∙ sym g, f.1)
        | inr g ↦ refuse_or_go w' (sym (ap (λ m. act ys w.terms w.name m) (ap (λ k. transition want limit w.phase k) g ∙ other-stops w.phase)) ∙ e)
      ]

  end-sane : (ph : Phase) (k : Kind) (ys xs : List Term) (name : List ℕ) (m : Action) (v : SumEvent) (w : Work) → IsSane ph k m → act ys xs name m ≡ End v w → (k ≡ Semicolon) × (w ≡ finished)
  end-sane ph k ys xs name m v w h e = grind (arith, one_end, go_or_end, refuse_or_end)

  -- A text ends with a `;`, which is no digit, and then nothing is stored.
  pub ended : (s : Spaces) (w w' : Work) (v : SumEvent) (c : Letter) → on_letter s want limit w c ≡ End v w' → (c.numeral ≡ false) × (w' ≡ finished)
  ended s w w' v c e =
      let f : (kind s c ≡ Semicolon) × (w' ≡ finished) =
      end-sane w.phase (kind s c) (flushed w.phase w.terms w.name) w.terms w.name (transition want limit w.phase (kind s c)) v w' (transition-sane w.phase (kind s c)) e in
      let m : c ≡ unmarked 59 = subst (λ k. Means s k c) f.0 (kind-means s c) in (ap (λ x. x.numeral) m, f.1)
