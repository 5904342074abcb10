-- The machine reads each text of the grammar: one lemma for each word of the grammar.
use Rattle.pb_sums.proofs.Common.{ℕ, ℤ, ◌*◌, ◌++◌, ◌+◌, ◌<◌, ◌^◌, ◌∙◌, ◌∷◌, ◌≡◌, ◌≤◌, ◌⊎◌, [], ap, append-nil, append_assoc, arith, Bool, cond, false, inl, inr}
use Rattle.pb_sums.proofs.Common.{length, List, map, None, Option, refl, Some, subst, suc, sym, true, IsTrue, le-mul_of_pos_right, pow-succ', le-leb, run}
use Rattle.pb_sums.proofs.Common.{run-append, run-refuse, Takes, takes_then, nil_first, End, Go, Next, Refuse, is_name_byte, ◌⋅◌, Byte, digit, Each, Language}
use Rattle.pb_sums.proofs.Common.{unmarked, Number, Sign, signed, value, Letter, Relation, AtLeast, Equal, SumEvent, Term, Action, Stop, Kind, Digit, Equals}
use Rattle.pb_sums.proofs.Common.{Greater, Inner, Minus, Plus, Semicolon, Space, Start, Tilde, Part, Spaces, act, action, at_name, digits, finished, fresh}
use Rattle.pb_sums.proofs.Common.{kind, next_action, to, Work, allows, Head, is_space, reads_sums, Spaces0, Spaces1, Spells, SpellsFurther, SpellsLinear}
use Rattle.pb_sums.proofs.Common.{SpellsLiteral, SpellsRelation, SpellsSum, SpellsTerm, Phase}
use Rattle.pb_sums.proofs.lemmas.machine.LetterKinds.{on_letter, kind-digit, kind-space, kind-letter, kind-name}
use Rattle.pb_text.proofs.lemmas.numbers.DigitWalks.{ten_pos}

module _ (spaces : Spaces) (want : Part) (limit : ℕ) where
  abbrev N : Type 0
  N = Next Work SumEvent

  abbrev go : N → List Letter → N
  go = run (on_letter spaces want limit)

  -- a test can be moved outside
  act-cond : (ys xs : List Term) (name : List ℕ) (b : Bool) (m : Action) → act ys xs name (cond b m Stop) ≡ cond b (act ys xs name m) Refuse
  act-cond ys xs name b m = grind arith

  abbrev whole : List Term → Relation → ℤ → N
  whole xs r z = End (SumEvent.Linear (record { terms = xs; relation = r; degree = z })) finished

  -- what an outcome does with a kind
  abbrev moves : N → Kind → N
  moves (Go w) k = action want limit w.terms w.name w.phase k
  moves (End v s) k = Refuse
  moves Refuse k = Refuse

  run-moves : (n : N) (c : Letter) (t : List Letter) → go n (c ∷ t) ≡ go (moves n (kind spaces c)) t
  run-moves (Go w) c t = refl
  run-moves (End v s) c t = sym (run-refuse (on_letter spaces want limit) t)
  run-moves Refuse c t = sym (run-refuse (on_letter spaces want limit) t)

  -- a letter of a known kind
  reads : (n m : N) (c : Letter) (k : Kind) (t : List Letter) → kind spaces c ≡ k → moves n k ≡ m → go n (c ∷ t) ≡ go m t
  reads n m c k t e f = run-moves n c t ∙ ap (λ x. go x t) (ap (moves n) e ∙ f)

  -- digits
  abbrev at_digits : List Term → Option Relation → Bool → ℕ → N
  at_digits xs role negative m = to xs (Phase.Digits role negative m)

  abbrev TakesDigits : List Term → Option Relation → Bool → ℕ → N → Type 0
  TakesDigits xs role negative m n = (d : ℕ) → moves n (Digit d) ≡ act xs xs [] (digits limit role negative m d)

  digit-fits : (xs : List Term) (role : Option Relation) (negative : Bool) (m d v : ℕ) → 10 * m + d ≡ v → v ≤ limit →
      act xs xs [] (digits limit role negative m d) ≡ at_digits xs role negative v
  digit-fits xs role negative m d v e h = rw (e, le-leb v limit h) refl

  digits-run : (xs : List Term) (role : Option Relation) (negative : Bool) (m d : ℕ) (ds : List ℕ) (n : N) (v : ℕ) → TakesDigits xs role negative m n →
      Each (λ e. e < 10) (d ∷ ds) → v ≡ m * 10 ^ length (d ∷ ds) + value (d ∷ ds) → v ≤ limit → go n (map digit (d ∷ ds)) ≡ at_digits xs role negative v
  digits-run xs role negative m d [] n v f h e l =
      reads n (at_digits xs role negative v) (digit d) (Digit d) [] (kind-digit spaces d h.0) (f d ∙ digit-fits xs role negative m d v (omega arith) l)
  digits-run xs role negative m d (x ∷ ds) n v f h e l =
      let q : 10 ^ suc (suc (length ds)) ≡ 10 * 10 ^ suc (length ds) = pow-succ' 10 (suc (length ds)) in
      let i : 10 * m + d ≤ (10 * m + d) * 10 ^ suc (length ds) = le-mul_of_pos_right (10 * m + d) (ten_pos (suc (length ds))) in
      let w : v ≡ (10 * m + d) * 10 ^ length (x ∷ ds) + value (x ∷ ds) = e ∙ rw q (omega arith) in
      let u : 10 * m + d ≤ limit = omega arith in
      let D : N = at_digits xs role negative (10 * m + d) in
      reads n D (digit d) (Digit d) (map digit (x ∷ ds)) (kind-digit spaces d h.0) (f d ∙ digit-fits xs role negative m d (10 * m + d) refl u)
      ∙ digits-run xs role negative (10 * m + d) x ds D v (λ y. refl) h.1 w l

  -- a number may begin
  abbrev Opens : Option Relation → List Term → N → Type 0
  Opens role xs n = (moves n Plus ≡ to xs (Phase.Signed role false)) × (moves n Minus ≡ to xs (Phase.Signed role true)) × TakesDigits xs role false 0 n

  abbrev Closed : Option Relation → List Term → ℤ → N → Type 0
  Closed role xs z n = (negative : Bool) × (m : ℕ) × (z ≡ signed negative m) × (n ≡ at_digits xs role negative m)

  abbrev T : (N → Type 0) → Language → (N → Type 0) → Type 0
  T = Takes (on_letter spaces want limit)

  sign-run : (role : Option Relation) (xs : List Term) (n : N) (negative : Bool) (a : List Letter) → Opens role xs n → Sign negative a
      → TakesDigits xs role negative 0 (go n a)
  sign-run role xs n true a o s d =
      ap (λ x. moves (go n x) (Digit d)) s ∙ ap (λ y. moves y (Digit d)) (reads n (to xs (Phase.Signed role true)) (unmarked 45) Minus [] refl o.1)
  sign-run role xs n false a o (inl s) d = ap (λ x. moves (go n x) (Digit d)) s ∙ o.2 d
  sign-run role xs n false a o (inr s) d =
      ap (λ x. moves (go n x) (Digit d)) s ∙ ap (λ y. moves y (Digit d)) (reads n (to xs (Phase.Signed role false)) (unmarked 43) Plus [] refl o.0)

  number-run : (role : Option Relation) (xs : List Term) (z : ℤ) → T (Opens role xs) (Number limit z) (Closed role xs z)
  number-run role xs z n t o (negative, m, l, e, (a, b, f, s, (d, ds, h, g, v))) =
      let first : TakesDigits xs role negative 0 (go n a) = sign-run role xs n negative a o s in (
        negative,
        m,
        e,
        ap (go n) f ∙ (run-append (on_letter spaces want limit) n a b
            ∙ (ap (go (go n a)) g ∙ digits-run xs role negative 0 d ds (go n a) m first h (omega (arith, v)) l)),
      )

  -- space
  spaces-run : (n : N) → moves n Space ≡ n → (bs : List ℕ) → Each (λ b. IsTrue (is_space spaces b)) bs → go n (map unmarked bs) ≡ n
  spaces-run n e [] h = refl
  spaces-run n e (b ∷ bs) h = reads n n (unmarked b) Space (map unmarked bs) (kind-space spaces b h.0) e ∙ spaces-run n e bs h.1

  some-run : (n n' : N) → moves n Space ≡ n' → moves n' Space ≡ n' → (t : List Letter) → Spaces1 spaces limit t → go n t ≡ n'
  some-run n n' e f t (b, bs, h, i, g) = rw g (reads n n' (unmarked b) Space (map unmarked bs) (kind-space spaces b h) e ∙ spaces-run n' f bs i)

  many-run : (n n' : N) → moves n Space ≡ n' → moves n' Space ≡ n' → (t : List Letter) → Spaces0 spaces limit t → (go n t ≡ n) ⊎ (go n t ≡ n')
  many-run n n' e f t ([], i, g) = inl (rw g refl)
  many-run n n' e f t (b ∷ bs, i, g) = inr (some-run n n' e f t (b, bs, i.0, i.1, g))

  -- a literal
  name-byte : (n m : N) (b : ℕ) (t : List Letter) → moves n (Start b) ≡ m → moves n (Inner b) ≡ m → IsTrue (is_name_byte b) → go n (unmarked b ∷ t) ≡ go m t
  name-byte n m b t e f h = elim (kind-name spaces b h) [ inl g ↦ reads n m (unmarked b) (Start b) t g e | inr g ↦ reads n m (unmarked b) (Inner b) t g f ]

  name-run : (z : ℤ) (negated : Bool) (xs : List Term) (name bs : List ℕ) → Each (λ b. IsTrue (is_name_byte b)) bs →
      go (at_name xs (Phase.More z negated) name) (map unmarked bs) ≡ at_name xs (Phase.More z negated) (name ++ bs)
  name-run z negated xs name [] h = ap (λ x. at_name xs (Phase.More z negated) x) (sym (append-nil name))
  name-run z negated xs name (b ∷ bs) h =
      let next : N = at_name xs (Phase.More z negated) (name ++ b ∷ []) in
      name-byte (at_name xs (Phase.More z negated) name) next b (map unmarked bs) refl refl h.0
      ∙ (name-run z negated xs (name ++ b ∷ []) bs h.1 ∙ ap (λ x. at_name xs (Phase.More z negated) x) (append_assoc name (b ∷ []) bs))

  first-run : (z : ℤ) (negated : Bool) (xs : List Term) (b : ℕ) (c : ℕ) (bs : List ℕ) → Each (λ b. IsTrue (is_name_byte b)) (c ∷ bs) →
      go (at_name xs (Phase.First z negated) (b ∷ [])) (map unmarked (c ∷ bs)) ≡ at_name xs (Phase.More z negated) (b ∷ c ∷ bs)
  first-run z negated xs b c bs h =
      name-byte (at_name xs (Phase.First z negated) (b ∷ [])) (at_name xs (Phase.More z negated) (b ∷ c ∷ [])) c (map unmarked bs) refl refl h.0
      ∙ name-run z negated xs (b ∷ c ∷ []) bs h.1

  literal-run : (z : ℤ) (xs : List Term) (negated : Bool) (name : List ℕ) (t : List Letter) → SpellsLiteral (record { negated = negated; name = name }) t →
      go (to xs (Phase.Gap z)) t ≡ at_name xs (Phase.More z negated) name
  literal-run z xs negated [] t h = absurd h.0
  literal-run z xs negated (b ∷ []) t h = absurd h.0
  literal-run z xs true (b ∷ c ∷ bs) t h =
      ap (go (to xs (Phase.Gap z))) h.1
      ∙ (reads (to xs (Phase.Gap z)) (to xs (Phase.Tilde z)) (unmarked 126) Tilde (map unmarked (b ∷ c ∷ bs)) refl refl
      ∙ (reads (to xs (Phase.Tilde z)) (at_name xs (Phase.First z true) (b ∷ [])) (unmarked b) (Start b) (map unmarked (c ∷ bs))
      (kind-letter spaces b h.0.0) refl
      ∙ first-run z true xs b c bs h.0.1))
  literal-run z xs false (b ∷ c ∷ bs) t h =
      ap (go (to xs (Phase.Gap z))) h.1
      ∙ (reads (to xs (Phase.Gap z)) (at_name xs (Phase.First z false) (b ∷ [])) (unmarked b) (Start b) (map unmarked (c ∷ bs))
      (kind-letter spaces b h.0.0) refl
      ∙ first-run z false xs b c bs h.0.1)

  -- terms
  -- the last term is still being read
  abbrev Held : List Term → N → Type 0
  Held zs n = (xs : List Term) × (x : Term) × (zs ≡ xs ++ x ∷ []) × (n ≡ at_name xs (Phase.More x.coefficient x.literal.negated) x.literal.name)

  abbrev Is : N → N → Type 0
  Is n m = m ≡ n

  gap-run : (xs : List Term) (z : ℤ) → T (Closed None xs z) (Spaces1 spaces limit) (Is (to xs (Phase.Gap z)))
  gap-run xs z n t (negative, m, e, f) h =
      ap (λ y. go y t) f
      ∙ (some-run (at_digits xs None negative m) (to xs (Phase.Gap (signed negative m))) refl refl t h
      ∙ ap (λ y. to xs (Phase.Gap y)) (sym e))

  term-run : (xs : List Term) (x : Term) → T (Opens None xs) (SpellsTerm spaces limit x) (Held (xs ++ x ∷ []))
  term-run xs x =
      let z : ℤ = x.coefficient in
      takes_then (on_letter spaces want limit) (Opens None xs) (Is (to xs (Phase.Gap z))) (Held (xs ++ x ∷ [])) (Number limit z ⋅ Spaces1 spaces limit) (SpellsLiteral x.literal)
      (takes_then (on_letter spaces want limit) (Opens None xs) (Closed None xs z) (Is (to xs (Phase.Gap z))) (Number limit z) (Spaces1 spaces limit)
      (number-run None xs z) (gap-run xs z))
      (λ n t e h. (xs, x, refl, ap (λ y. go y t) e ∙ literal-run z xs x.literal.negated x.literal.name t h))

  opens-between : (zs : List Term) → Opens None zs (to zs Phase.Between)
  opens-between zs = (refl, refl, λ d. refl)

  opens-relation : (r : Relation) (zs : List Term) → Opens (Some r) zs (to zs (Phase.Relation r))
  opens-relation r zs = (refl, refl, λ d. refl)

  held-space : (zs : List Term) (n : N) → Held zs n → moves n Space ≡ to zs Phase.Between
  held-space zs n (xs, x, e, f) = ap (λ y. moves y Space) f ∙ ap (λ ys. to ys Phase.Between) (sym e)

  between-run : (zs : List Term) → T (Held zs) (Spaces1 spaces limit) (Opens None zs)
  between-run zs n t h g =
      subst (λ y. Opens None zs y) (sym (some-run n (to zs Phase.Between) (held-space zs n h) refl t g)) (opens-between zs)

  further-run : (zs ys : List Term) → T (Held zs) (SpellsFurther spaces limit ys) (Held (zs ++ ys))
  further-run zs [] n t h g = subst (λ y. Held y (go n t)) (sym (append-nil zs)) (subst (λ u. Held zs (go n u)) (sym g) h)
  further-run zs (y ∷ ys) n t h g =
      subst (λ u. Held u (go n t)) (append_assoc zs (y ∷ []) ys)
      (takes_then (on_letter spaces want limit) (Held zs) (Held (zs ++ y ∷ [])) (Held ((zs ++ y ∷ []) ++ ys)) (Spaces1 spaces limit ⋅ SpellsTerm spaces limit y) (SpellsFurther spaces limit ys)
      (takes_then (on_letter spaces want limit) (Held zs) (Opens None zs) (Held (zs ++ y ∷ [])) (Spaces1 spaces limit) (SpellsTerm spaces limit y)
      (between-run zs) (term-run zs y))
      (further-run (zs ++ y ∷ []) ys) n t h g)

  sum-run : (x : Term) (xs : List Term) → T (Is (Go fresh)) (SpellsSum spaces limit (x ∷ xs)) (Held (x ∷ xs))
  sum-run x xs n t e h =
      takes_then (on_letter spaces want limit) (Opens None []) (Held (x ∷ [])) (Held (x ∷ xs)) (SpellsTerm spaces limit x) (SpellsFurther spaces limit xs)
      (term-run [] x) (further-run (x ∷ []) xs) n t (subst (λ y. Opens None [] y) (sym e) (refl, refl, λ d. refl)) h

  -- what may follow the terms
  abbrev Follows : List Term → N → Type 0
  Follows xs n = (moves n Greater ≡ cond (allows want AtLeast) (to xs Phase.Greater) Refuse)
      × (moves n Equals ≡ cond (allows want Equal) (to xs (Phase.Relation Equal)) Refuse)
      × (moves n Semicolon ≡ cond (reads_sums want) (End (SumEvent.Sum xs) finished) Refuse)

  follows-act : (ys xs : List Term) (name : List ℕ) → (act ys xs name (next_action want Greater) ≡ cond (allows want AtLeast) (to ys Phase.Greater) Refuse)
      × (act ys xs name (next_action want Equals) ≡ cond (allows want Equal) (to ys (Phase.Relation Equal)) Refuse)
      × (act ys xs name (next_action want Semicolon) ≡ cond (reads_sums want) (End (SumEvent.Sum ys) finished) Refuse)
  follows-act ys xs name = grind arith

  follows-held : (zs : List Term) (n : N) → Held zs n → Follows zs n
  follows-held zs n (xs, x, e, f) =
      subst (λ y. Follows y n) (sym e) (subst (λ m. Follows (xs ++ x ∷ []) m) (sym f) (follows-act (xs ++ x ∷ []) xs x.literal.name))

  after-run : (zs : List Term) → T (Held zs) (Spaces0 spaces limit) (Follows zs)
  after-run zs n t h g =
      elim (many-run n (to zs Phase.Between) (held-space zs n h) refl t g) [
        | inl e ↦ subst (λ m. Follows zs m) (sym e) (follows-held zs n h)
        | inr e ↦ subst (λ m. Follows zs m) (sym e) (follows-act zs zs [])
      ]

  head-run : (xs : List Term) → T (Is (Go fresh)) (Head spaces limit xs) (Follows xs)
  head-run [] n t e h = subst (λ u. Follows [] (go n u)) (sym h) (subst (λ m. Follows [] m) (sym e) (follows-act [] [] []))
  head-run (x ∷ xs) n t e h =
      takes_then (on_letter spaces want limit) (Is (Go fresh)) (Held (x ∷ xs)) (Follows (x ∷ xs)) (SpellsSum spaces limit (x ∷ xs)) (Spaces0 spaces limit)
      (sum-run x xs) (after-run (x ∷ xs)) n t e h

  -- a sum and `;`
  abbrev Finishes : List Term → N → Type 0
  Finishes xs n = moves n Semicolon ≡ End (SumEvent.Sum xs) finished

  finishes-run : IsTrue (reads_sums want) → (xs : List Term) → T (Is (Go fresh)) (SpellsSum spaces limit xs ⋅ Spaces0 spaces limit) (Finishes xs)
  finishes-run ok [] n t e h = grind (arith, act-cond, many-run, nil_first, follows-act)
  finishes-run ok (x ∷ xs) n t e h = (head-run (x ∷ xs) n t e h).2 ∙ ap (λ b. cond b (End (SumEvent.Sum (x ∷ xs)) finished) Refuse) ok

  semicolon-run : (n m : N) → moves n Semicolon ≡ m → (t : List Letter) → Byte 59 t → go n t ≡ m
  semicolon-run n m e t h = ap (go n) h ∙ reads n m (unmarked 59) Semicolon [] refl e

  -- a linear text
  relation-run : (xs : List Term) (r : Relation) → IsTrue (allows want r) → T (Follows xs) (SpellsRelation spaces limit r) (Is (to xs (Phase.Relation r)))
  relation-run xs AtLeast ok n t f h = grind (arith, reads)
  relation-run xs Equal ok n t f h = grind (arith, reads)

  after-relation : (xs : List Term) (r : Relation) → T (Is (to xs (Phase.Relation r))) (Spaces0 spaces limit) (Opens (Some r) xs)
  after-relation xs r n t e h =
      let O : N = to xs (Phase.Relation r) in
      let f : go n t ≡ O = ap (λ y. go y t) e ∙ elim (many-run O O refl refl t h) [ inl g ↦ g | inr g ↦ g ] in
      subst (λ y. Opens (Some r) xs y) (sym f) (opens-relation r xs)

  abbrev Ends : List Term → Relation → ℤ → N → Type 0
  Ends xs r z n = moves n Semicolon ≡ whole xs r z

  tail-run : (xs : List Term) (r : Relation) (z : ℤ) → T (Closed (Some r) xs z) (Spaces0 spaces limit) (Ends xs r z)
  tail-run xs r z n t (negative, m, e, f) h =
      let D : N = at_digits xs (Some r) negative m in
      let E : N = to xs (Phase.Tail r (signed negative m)) in
      ap (λ y. moves (go y t) Semicolon) f
      ∙ (elim (many-run D E refl refl t h) [ inl g ↦ ap (λ y. moves y Semicolon) g | inr g ↦ ap (λ y. moves y Semicolon) g ]
      ∙ ap (λ y. whole xs r y) (sym e))

  linear-run : (xs : List Term) (r : Relation) (z : ℤ) → IsTrue (allows want r) →
      T (Is (Go fresh)) (SpellsLinear spaces limit (record { terms = xs; relation = r; degree = z })) (Is (whole xs r z))
  linear-run xs r z ok =
      let M = on_letter spaces want limit in
      let S : Language = Spaces0 spaces limit in
      let H : Language = Head spaces limit xs in
      let O : Language = SpellsRelation spaces limit r in
      let Z : Language = Number limit z in
      takes_then M (Is (Go fresh)) (Ends xs r z) (Is (whole xs r z)) (H ⋅ O ⋅ S ⋅ Z ⋅ S) (Byte 59)
      (takes_then M (Is (Go fresh)) (Closed (Some r) xs z) (Ends xs r z) (H ⋅ O ⋅ S ⋅ Z) S
      (takes_then M (Is (Go fresh)) (Opens (Some r) xs) (Closed (Some r) xs z) (H ⋅ O ⋅ S) Z
      (takes_then M (Is (Go fresh)) (Is (to xs (Phase.Relation r))) (Opens (Some r) xs) (H ⋅ O) S
      (takes_then M (Is (Go fresh)) (Follows xs) (Is (to xs (Phase.Relation r))) H O (head-run xs) (relation-run xs r ok))
      (after-relation xs r))
      (number-run (Some r) xs z))
      (tail-run xs r z))
      (λ n t e h. semicolon-run n (whole xs r z) e t h)

  pub reads_each : (t : List Letter) (e : SumEvent) → Spells spaces limit want e t → run (on_letter spaces want limit) (Go fresh) t ≡ End e finished
  reads_each t (SumEvent.Sum xs) h =
      takes_then (on_letter spaces want limit) (Is (Go fresh)) (Finishes xs) (Is (End (SumEvent.Sum xs) finished)) (SpellsSum spaces limit xs ⋅ Spaces0 spaces limit) (Byte 59)
      (finishes-run h.0 xs) (λ n u e g. semicolon-run n (End (SumEvent.Sum xs) finished) e u g) (Go fresh) t refl h.1
  reads_each t (SumEvent.Linear c) h = linear-run c.terms c.relation c.degree h.0 (Go fresh) t refl h.1
