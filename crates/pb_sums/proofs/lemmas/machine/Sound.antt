-- A machine has read a prefix of a text of the grammar: one lemma for each step that continues.
use Rattle.pb_sums.proofs.Common.{arith, ℕ, ℤ, ◌*◌, ◌++◌, ◌+◌, ◌∙◌, ◌∷◌, ◌≡◌, ◌≤◌, [], ap, Bool, cond, false, inl, inr, List, None, Option, refl, Some, subst}
use Rattle.pb_sums.proofs.Common.{sym, true, IsTrue, nat_le, leb-true, kept, OnPrefix, run, digits-grown, digits-one, letter_name, after_it, inside, many-grown}
use Rattle.pb_sums.proofs.Common.{next, none_yet, regroup, some-grown, some-many, some-one, End, Go, Next, is_name_byte, ◌⋅◌, Byte, Empty, Language, unmarked}
use Rattle.pb_sums.proofs.Common.{Digits, Number, Sign, signed, Letter, Relation, AtLeast, Equal, SumEvent, Term, Action, Stop, To, Kind, Digit, Equals}
use Rattle.pb_sums.proofs.Common.{Greater, Inner, Minus, Plus, Semicolon, Space, Start, Tilde, Phase, Part, Spaces, act, action, digits, finished, fresh, kind}
use Rattle.pb_sums.proofs.Common.{next_action, number, term, Work, allows, Head, is_space, reads_sums, Spaces0, Spaces1, Spells, SpellsRelation, SpellsSum}
use Rattle.{pb_sums.proofs.lemmas.machine.LetterKinds.on_letter, pb_sums.proofs.lemmas.machine.LetterKinds.Means, pb_text.proofs.lemmas.text.Languages.grown}
use Rattle.pb_sums.proofs.lemmas.machine.{LetterKinds.kind-means, Prefixes.IsCons, Prefixes.cons-append, Prefixes.Before, Prefixes.sum-append}
use Rattle.pb_sums.proofs.lemmas.machine.LiteralPrefixes.{first-append, name-append, FirstOf, LiteralOf, name-bytes}

module _ (spaces : Spaces) (want : Part) (limit : ℕ) where
  abbrev S0 : Language
  S0 = Spaces0 spaces limit

  abbrev S1 : Language
  S1 = Spaces1 spaces limit

  -- before a number: of a term, or after a relation
  abbrev Permits : Option Relation → Type 0
  Permits None = Unit {0}
  Permits (Some r) = IsTrue (allows want r)

  abbrev Lead : Option Relation → List Term → Language
  Lead None xs = Before spaces limit xs
  Lead (Some r) xs = Head spaces limit xs ⋅ SpellsRelation spaces limit r ⋅ S0

  abbrev Weighted : ℤ → List Term → Language
  Weighted z xs = Before spaces limit xs ⋅ Number limit z ⋅ S1

  -- what the machine has read
  abbrev prefix : Phase → List Term → List ℕ → Language
  prefix Phase.Start xs name = λ t. (xs ≡ []) × Empty t
  prefix (Phase.Signed role negative) xs name = λ t. Permits role × (Lead role xs ⋅ Sign negative) t
  prefix (Phase.Digits role negative n) xs name = λ t. Permits role × (n ≤ limit) × (Lead role xs ⋅ Sign negative ⋅ Digits n) t
  prefix (Phase.Gap z) xs name = Weighted z xs
  prefix (Phase.Tilde z) xs name = Weighted z xs ⋅ Byte 126
  prefix (Phase.First z negated) xs name = Weighted z xs ⋅ FirstOf negated name
  prefix (Phase.More z negated) xs name = Weighted z xs ⋅ LiteralOf negated name
  prefix Phase.Between xs name = λ t. IsCons xs × (SpellsSum spaces limit xs ⋅ S1) t
  prefix Phase.Greater xs name = λ t. IsTrue (allows want AtLeast) × (Head spaces limit xs ⋅ Byte 62) t
  prefix (Phase.Relation r) xs name = λ t. IsTrue (allows want r) × (Head spaces limit xs ⋅ SpellsRelation spaces limit r ⋅ S0) t
  prefix (Phase.Tail r z) xs name = λ t. IsTrue (allows want r) × (Head spaces limit xs ⋅ SpellsRelation spaces limit r ⋅ S0 ⋅ Number limit z ⋅ S0) t
  prefix Phase.Empty xs name = λ t. (xs ≡ []) × IsTrue (reads_sums want) × S0 t
  prefix Phase.Done xs name = λ t. ⊥

  abbrev Prefix : Work → Language
  Prefix w = prefix w.phase w.terms w.name

  abbrev On : Next Work SumEvent → Language
  On = OnPrefix Prefix (Spells spaces limit want)

  on_test : (ys xs : List Term) (name : List ℕ) (b : Bool) (m : Action) (p : List Letter) → (b ≡ true → On (act ys xs name m) p) → On (act ys xs name (cond b m Stop)) p
  on_test ys xs name b m p h = grind arith

  digits-sound : (role : Option Relation) (negative : Bool) (ys xs : List Term) (name : List ℕ) (n d : ℕ) (c : Letter) (p : List Letter) → Permits role →
      (Lead role ys ⋅ Sign negative ⋅ Digits (10 * n + d)) (p ++ c ∷ []) → On (act ys xs name (digits limit role negative n d)) (p ++ c ∷ [])
  digits-sound role negative ys xs name n d c p ok h =
      on_test ys xs name (nat_le (10 * n + d) limit) (To (Phase.Digits role negative (10 * n + d))) (p ++ c ∷ [])
      (λ e. (ok, leb-true (10 * n + d) limit e, h))

  number-sound : (role : Option Relation) (ys xs : List Term) (name : List ℕ) (k : Kind) (c : Letter) (p : List Letter) → Means spaces k c → Permits role → Lead role ys p →
      On (act ys xs name (number limit role k)) (p ++ c ∷ [])
  number-sound role ys xs name Plus c p m ok h = (ok, next (Lead role ys) (Sign false) p c h (inr (ap (λ x. x ∷ []) m)))
  number-sound role ys xs name Minus c p m ok h = (ok, next (Lead role ys) (Sign true) p c h (ap (λ x. x ∷ []) m))
  number-sound role ys xs name (Digit d) c p m ok h =
      digits-sound role false ys xs name 0 d c p ok
      (next (Lead role ys ⋅ Sign false) (Digits (10 * 0 + d)) p c (none_yet (Lead role ys) (Sign false) p (inl refl) h) (digits-one d c m.0 m.1))
  number-sound role ys xs name _ c p m ok h = tt

  after-sound : (ys xs : List Term) (name : List ℕ) (k : Kind) (c : Letter) (p : List Letter) → Means spaces k c → Head spaces limit ys p → (SpellsSum spaces limit ys ⋅ S0) p →
      On (act ys xs name (next_action want k)) (p ++ c ∷ [])
  after-sound ys xs name Greater c p m h i = grind (arith, on_test, next)
  after-sound ys xs name Equals c p m h i =
      on_test ys xs name (allows want Equal) (To (Phase.Relation Equal)) (p ++ c ∷ [])
      (λ e. (
        e,
        none_yet (Head spaces limit ys ⋅ SpellsRelation spaces limit Equal) S0 (p ++ c ∷ []) ([], tt, refl)
            (next (Head spaces limit ys) (SpellsRelation spaces limit Equal) p c h (ap (λ x. x ∷ []) m)),
      ))
  after-sound ys xs name Semicolon c p m h i = grind (arith, on_test, next)
  after-sound ys xs name _ c p m h i = tt

  -- a literal that is complete ends its term
  term-ends : (z : ℤ) (negated : Bool) (name : List ℕ) (xs : List Term) (p : List Letter) → (Weighted z xs ⋅ LiteralOf negated name) p →
      SpellsSum spaces limit (xs ++ term z negated name ∷ []) p
  term-ends z negated name xs p h =
      let B : Language = Before spaces limit xs in
      let N : Language = Number limit z in
      let L : Language = LiteralOf negated name in
      sum-append spaces limit xs (term z negated name) p
      (regroup B (N ⋅ S1) L p (inside (B ⋅ N ⋅ S1) (B ⋅ (N ⋅ S1)) L p (regroup B N S1) h))

  head-of : (xs : List Term) (p : List Letter) → IsCons xs → (SpellsSum spaces limit xs ⋅ S0) p → Head spaces limit xs p
  head-of xs p i h = grind arith

  before-of : (xs : List Term) (p : List Letter) → IsCons xs → (SpellsSum spaces limit xs ⋅ S1) p → Before spaces limit xs p
  before-of xs p i h = grind arith

  first-grown : (z : ℤ) (negated : Bool) (xs : List Term) (name : List ℕ) (b : ℕ) (c : Letter) (p : List Letter) → c ≡ unmarked b → IsTrue (is_name_byte b) →
      (Weighted z xs ⋅ FirstOf negated name) p → (Weighted z xs ⋅ LiteralOf negated (name ++ b ∷ [])) (p ++ c ∷ [])
  first-grown z negated xs name b c p e i h =
      grown (Weighted z xs) (FirstOf negated name) (LiteralOf negated (name ++ b ∷ [])) p c
      (λ q r. (first-append name b r.0 i, name-bytes negated name b c q e r.1)) h

  more-grown : (z : ℤ) (negated : Bool) (xs : List Term) (name : List ℕ) (b : ℕ) (c : Letter) (p : List Letter) → c ≡ unmarked b → IsTrue (is_name_byte b) →
      (Weighted z xs ⋅ LiteralOf negated name) p → (Weighted z xs ⋅ LiteralOf negated (name ++ b ∷ [])) (p ++ c ∷ [])
  more-grown z negated xs name b c p e i h =
      grown (Weighted z xs) (LiteralOf negated name) (LiteralOf negated (name ++ b ∷ [])) p c
      (λ q r. (name-append name b r.0 i, name-bytes negated name b c q e r.1)) h

  number-of : (role : Option Relation) (negative : Bool) (n : ℕ) (xs : List Term) (p : List Letter) → n ≤ limit → (Lead role xs ⋅ Sign negative ⋅ Digits n) p →
      (Lead role xs ⋅ Number limit (signed negative n)) p
  number-of role negative n xs p i h =
      after_it (Lead role xs) (Sign negative ⋅ Digits n) (Number limit (signed negative n)) p (λ q r. (negative, n, i, refl, r))
      (regroup (Lead role xs) (Sign negative) (Digits n) p h)

  abbrev IsSpace : ℕ → Type 0
  IsSpace = λ b. IsTrue (is_space spaces b)

  start-before : (xs : List Term) (p : List Letter) → prefix Phase.Start xs [] p → Before spaces limit xs p
  start-before xs p h = subst (λ y. Before spaces limit y p) (sym h.0) h.1

  start-head : (xs : List Term) (p : List Letter) → prefix Phase.Start xs [] p → Head spaces limit xs p
  start-head xs p h = subst (λ y. Head spaces limit y p) (sym h.0) h.1

  start-sum : (xs : List Term) (p : List Letter) → prefix Phase.Start xs [] p → (SpellsSum spaces limit xs ⋅ S0) p
  start-sum xs p h = subst (λ y. (SpellsSum spaces limit y ⋅ S0) p) (sym h.0) (none_yet Empty S0 p ([], tt, refl) h.1)

  between-sum : (xs : List Term) (p : List Letter) → (SpellsSum spaces limit xs ⋅ S1) p → (SpellsSum spaces limit xs ⋅ S0) p
  between-sum xs p h = after_it (SpellsSum spaces limit xs) S1 S0 p (some-many IsSpace) h

  -- space continues, and begins
  s0-grown : (P : Language) (c : Letter) (p : List Letter) → Means spaces Space c → (P ⋅ S0) p → (P ⋅ S0) (p ++ c ∷ [])
  s0-grown P c p m h = grown P S0 S0 p c (many-grown IsSpace c.byte c m.0 m.1) h

  s1-grown : (P : Language) (c : Letter) (p : List Letter) → Means spaces Space c → (P ⋅ S1) p → (P ⋅ S1) (p ++ c ∷ [])
  s1-grown P c p m h = grown P S1 S1 p c (some-grown IsSpace c.byte c m.0 m.1) h

  s0-next : (P : Language) (c : Letter) (p : List Letter) → Means spaces Space c → P p → (P ⋅ S0) (p ++ c ∷ [])
  s0-next P c p m h = next P S0 p c h (some-many IsSpace (c ∷ []) (some-one IsSpace c.byte c m.0 m.1))

  s1-next : (P : Language) (c : Letter) (p : List Letter) → Means spaces Space c → P p → (P ⋅ S1) (p ++ c ∷ [])
  s1-next P c p m h = next P S1 p c h (some-one IsSpace c.byte c m.0 m.1)

  s0-none : (P : Language) (p : List Letter) → P p → (P ⋅ S0) p
  s0-none P p h = none_yet P S0 p ([], tt, refl) h

  sound : (ph : Phase) (xs : List Term) (name : List ℕ) (k : Kind) (c : Letter) (p : List Letter) → Means spaces k c → prefix ph xs name p →
      On (action want limit xs name ph k) (p ++ c ∷ [])
  sound Phase.Start xs name Space c p m h =
      on_test xs xs name (reads_sums want) (To Phase.Empty) (p ++ c ∷ [])
      (λ e. (h.0, e, many-grown IsSpace c.byte c m.0 m.1 p ([], tt, h.1)))
  sound Phase.Start xs name Plus c p m h = number-sound None xs xs name Plus c p m tt (start-before xs p h)
  sound Phase.Start xs name Minus c p m h = number-sound None xs xs name Minus c p m tt (start-before xs p h)
  sound Phase.Start xs name (Digit d) c p m h = number-sound None xs xs name (Digit d) c p m tt (start-before xs p h)
  sound Phase.Start xs name k c p m h = after-sound xs xs name k c p m (start-head xs p h) (start-sum xs p h)
  sound (Phase.Signed role negative) xs name (Digit d) c p m h =
      digits-sound role negative xs xs name 0 d c p h.0 (next (Lead role xs ⋅ Sign negative) (Digits (10 * 0 + d)) p c h.1 (digits-one d c m.0 m.1))
  sound (Phase.Digits role negative n) xs name (Digit d) c p m h =
      digits-sound role negative xs xs name n d c p h.0
      (grown (Lead role xs ⋅ Sign negative) (Digits n) (Digits (10 * n + d)) p c (digits-grown n d c m.0 m.1) h.2)
  sound (Phase.Digits None negative n) xs name Space c p m h =
      s1-next (Lead None xs ⋅ Number limit (signed negative n)) c p m (number-of None negative n xs p h.1 h.2)
  sound (Phase.Digits (Some r) negative n) xs name Space c p m h =
      (h.0, s0-next (Lead (Some r) xs ⋅ Number limit (signed negative n)) c p m (number-of (Some r) negative n xs p h.1 h.2))
  sound (Phase.Digits (Some r) negative n) xs name Semicolon c p m h =
      let N : Language = Lead (Some r) xs ⋅ Number limit (signed negative n) in
      (h.0, next (N ⋅ S0) (Byte 59) p c (s0-none N p (number-of (Some r) negative n xs p h.1 h.2)) (ap (λ x. x ∷ []) m))
  sound (Phase.Gap z) xs name Space c p m h = s1-grown (Before spaces limit xs ⋅ Number limit z) c p m h
  sound (Phase.Gap z) xs name Tilde c p m h = next (Weighted z xs) (Byte 126) p c h (ap (λ x. x ∷ []) m)
  sound (Phase.Gap z) xs name (Start b) c p m h = next (Weighted z xs) (FirstOf false (b ∷ [])) p c h (m.1, ap (λ x. x ∷ []) m.0)
  sound (Phase.Tilde z) xs name (Start b) c p m h =
      grown (Weighted z xs) (Byte 126) (FirstOf true (b ∷ [])) p c (λ q r. (m.1, ap (λ x. x ++ c ∷ []) r ∙ ap (λ y. unmarked 126 ∷ y ∷ []) m.0)) h
  sound (Phase.First z negated) xs name (Start b) c p m h = first-grown z negated xs name b c p m.0 (letter_name b m.1) h
  sound (Phase.First z negated) xs name (Inner b) c p m h = first-grown z negated xs name b c p m.0 m.1 h
  sound (Phase.More z negated) xs name (Start b) c p m h = more-grown z negated xs name b c p m.0 (letter_name b m.1) h
  sound (Phase.More z negated) xs name (Inner b) c p m h = more-grown z negated xs name b c p m.0 m.1 h
  sound (Phase.More z negated) xs name Space c p m h =
      let ys : List Term = xs ++ term z negated name ∷ [] in
      (cons-append xs (term z negated name), s1-next (SpellsSum spaces limit ys) c p m (term-ends z negated name xs p h))
  sound (Phase.More z negated) xs name k c p m h =
      let ys : List Term = xs ++ term z negated name ∷ [] in
      let i : (SpellsSum spaces limit ys ⋅ S0) p = s0-none (SpellsSum spaces limit ys) p (term-ends z negated name xs p h) in
      after-sound ys xs name k c p m (head-of ys p (cons-append xs (term z negated name)) i) i
  sound Phase.Between xs name Space c p m h = (h.0, s1-grown (SpellsSum spaces limit xs) c p m h.1)
  sound Phase.Between xs name Plus c p m h = number-sound None xs xs name Plus c p m tt (before-of xs p h.0 h.1)
  sound Phase.Between xs name Minus c p m h = number-sound None xs xs name Minus c p m tt (before-of xs p h.0 h.1)
  sound Phase.Between xs name (Digit d) c p m h = number-sound None xs xs name (Digit d) c p m tt (before-of xs p h.0 h.1)
  sound Phase.Between xs name k c p m h = after-sound xs xs name k c p m (head-of xs p h.0 (between-sum xs p h.1)) (between-sum xs p h.1)
  sound Phase.Greater xs name Equals c p m h = (
    h.0,
    s0-none (Head spaces limit xs ⋅ SpellsRelation spaces limit AtLeast) (p ++ c ∷ [])
        (grown (Head spaces limit xs) (Byte 62) (SpellsRelation spaces limit AtLeast) p c (λ q r. ap (λ x. x ++ c ∷ []) r ∙ ap (λ y. unmarked 62 ∷ y ∷ []) m) h.1),
  )
  sound (Phase.Relation r) xs name Space c p m h = (h.0, s0-grown (Head spaces limit xs ⋅ SpellsRelation spaces limit r) c p m h.1)
  sound (Phase.Relation r) xs name k c p m h = number-sound (Some r) xs xs name k c p m h.0 h.1
  sound (Phase.Tail r z) xs name Space c p m h = (h.0, s0-grown (Lead (Some r) xs ⋅ Number limit z) c p m h.1)
  sound (Phase.Tail r z) xs name Semicolon c p m h =
      (h.0, next (Lead (Some r) xs ⋅ Number limit z ⋅ S0) (Byte 59) p c h.1 (ap (λ x. x ∷ []) m))
  sound Phase.Empty xs name Space c p m h = (h.0, h.1, many-grown IsSpace c.byte c m.0 m.1 p h.2)
  sound Phase.Empty xs name Semicolon c p m h =
      let i : (SpellsSum spaces limit xs ⋅ S0) p = subst (λ y. (SpellsSum spaces limit y ⋅ S0) p) (sym h.0) ([], p, refl, refl, h.2) in
      (h.1, next (SpellsSum spaces limit xs ⋅ S0) (Byte 59) p c i (ap (λ x. x ∷ []) m))
  sound _ xs name k c p m h = tt

  -- The text is a text of the value that the machine ends with.
  pub reads_only : (t : List Letter) (e : SumEvent) → run (on_letter spaces want limit) (Go fresh) t ≡ End e finished → Spells spaces limit want e t
  reads_only t e h =
      subst (λ n. On n t) h
      (kept Prefix (Spells spaces limit want) (on_letter spaces want limit)
      (λ w c p f. sound w.phase w.terms w.name (kind spaces c) c p (kind-means spaces c) f) (Go fresh) t [] (refl, refl))
