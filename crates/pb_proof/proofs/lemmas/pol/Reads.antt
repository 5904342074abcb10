-- The machine reads each line of postfix words.
use Rattle.pb_proof.proofs.lemmas.pol.{Postfix.Counts, Postfix.postfix_counts, Moves.with_last_append}
use Rattle.pb_proof.proofs.Common.{ℕ, ℤ, ◌-◌, ◌<◌, ◌≤◌, ◌≡◌, ◌∙◌, ◌∷◌, ◌++◌, [], ap, arith, pos, neg_ℤ, suc, sym, refl, subst, Bool, true, false, List, Some}
use Rattle.pb_proof.proofs.Common.{◌⋅◌, Blanks1, Byte, Bytes, Digits, Language, LineEnd, Letter, IsTrue, is_letter, after_it, regroup, regroup⁻¹, append-nil, append_assoc, nat_le, le-leb, le-max_left, le-max_right}
use Rattle.pb_proof.proofs.Common.{false≢true, Listed, Factor, SpellsId, SpellsWord, SpellsWords, SpellsLiteral, PolWord, Held, PolState, pol_automaton, pol_first, pol_last, ReadsStatement, reads_after, walks_then}
use Rattle.pb_proof.proofs.Common.{pol_at, pol_grammar, bound, held_number, held_name, is_free, turns, turned, with_number, with_mark}
use Rattle.pb_lines.proofs.lemmas.Ends.{not_zero}
use Rattle.pb_lines.proofs.lemmas.Walks as walks
use Rattle.pb_lines.specs.declared.part.Part.{Part}
use Rattle.pb_lines.specs.declared.part.Step.{Step}
use Rattle.pb_lines.specs.declared.Sign.{Sign}
use Rattle.pb_lines.specs.declared.Word.{Word}
use Rattle.pb_lines.specs.engine.Words.{WordsState, step_of}

-- numbers and literals leave no operator missing
free_number : (limit d n : ℕ) → is_free (held_number limit d n) ≡ true
free_number limit d n = grind (arith, nat_le)

free_name : (negated : Bool) (d : ℕ) → is_free (held_name negated d) ≡ true
free_name negated d = grind arith

-- ids and factors are within the bound of a number
pub bound_of_id : (limit top d n : ℕ) → n ≤ top → n ≤ bound limit top d
bound_of_id limit top d n h = grind (arith, le-max_right)

bound_of_factor : (limit top d n : ℕ) → n ≤ limit → n ≤ bound limit top (suc d)
bound_of_factor limit top d n h = let i = le-max_left limit top in omega (arith, i)

module _ (limit top : ℕ) where
  abbrev Led : WordsState PolState → PolState → List Letter → Type 0
  Led = walks.Led pol_grammar limit top

  abbrev IsAfter : PolState → WordsState PolState → Type 0
  IsAfter = walks.IsAfter pol_grammar limit top

  abbrev gap : PolState → WordsState PolState
  gap = walks.gap pol_grammar limit top

  -- a word of two parts
  chain : (s mid k : PolState) (i : WordsState PolState) (P Q : Language) (t : List Letter) → IsAfter s i → ((u : List Letter) → P u → Led (gap s) mid u) → ((u : List Letter) → Q u → Led (gap mid) k u)
      → (Blanks1 ⋅ (P ⋅ Blanks1 ⋅ Q)) t → Led i k t
  chain s mid k i P Q t h f q x = by (regroup⁻¹ Blanks1 P (Blanks1 ⋅ Q) t (after_it Blanks1 (P ⋅ Blanks1 ⋅ Q) (P ⋅ (Blanks1 ⋅ Q)) t (λ u. regroup P Blanks1 Q u) x))
    where
      by : (Blanks1 ⋅ P ⋅ (Blanks1 ⋅ Q)) t → Led i k t
      by (a, b, e, y, z) =
          let (j, w, r) = walks.further pol_grammar limit top s mid i P a h f y in
          let (n, v, o) = walks.further pol_grammar limit top mid k j Q b r q z in
          (n, rw e (walks_then pol_automaton a b i j n w v), o)

  -- the state in which a word and those after it are expected
  abbrev Reached : List PolWord → PolWord → List PolWord → WordsState PolState → List Letter → Type 0
  Reached vs w ws i t = (d : ℕ) × (h : Held) × (is_free h ≡ true) × Counts d ws × Led i (pol_at (vs ++ w ∷ []) d h) t

  -- numbers
  number_led : (s k : PolState) (n : ℕ) (t : List Letter) → is_free s.held ≡ true → 0 < n → n ≤ bound limit top s.depth → with_number limit top s Sign.Nothing n ≡ k → Digits n t → Led (gap s) k t
  number_led s k n t f h l e x =
      walks.number_led pol_grammar limit top s k Sign.Nothing n t (bound limit top s.depth, rw f refl, l) (λ name. rw (not_zero n h) (ap (λ y. Some y) e)) ([], t, refl, refl, x)

  id_reached : (vs : List PolWord) (d : ℕ) (h : Held) (id : ℤ) (ws : List PolWord) (i : WordsState PolState) (t : List Letter) → is_free h ≡ true → IsAfter (pol_at vs d h) i → Counts (suc d) ws
      → (Blanks1 ⋅ SpellsId top id) t → Reached vs (PolWord.Id id) ws i t
  id_reached vs d h id ws i t f a c (x, y, e, b, (false, n, some, l, same, (p, q, j, k, o))) =
      let s : PolState = pol_at vs d h in
      let to : PolState = pol_at (vs ++ PolWord.Id (pos n) ∷ []) (suc d) (held_number limit d n) in
      let digits : Digits n y = subst (λ z. Digits n z) (sym (j ∙ ap (λ z. z ++ q) k)) o in (
        suc d,
        held_number limit d n,
        free_number limit d n,
        c,
        subst (λ z. Led i (pol_at (vs ++ PolWord.Id z ∷ []) (suc d) (held_number limit d n)) t) (sym same)
            (walks.further pol_grammar limit top s to i (Digits n) t a (λ u. number_led s to n u f some (bound_of_id limit top d n l) (rw (le-leb n top l) refl)) (x, y, e, b, digits)),
      )
  id_reached vs d h id ws i t f a c (x, y, e, b, (true, n, some, l, same, k)) =
      let s : PolState = pol_at vs d h in
      let to : PolState = pol_at (vs ++ PolWord.Id (neg_ℤ (pos n)) ∷ []) (suc d) Held.Nothing in (
        suc d,
        Held.Nothing,
        refl,
        c,
        subst (λ z. Led i (pol_at (vs ++ PolWord.Id z ∷ []) (suc d) Held.Nothing) t) (sym same)
            (walks.further pol_grammar limit top s to i (Byte 45 ⋅ Digits n) t a
            (λ u. walks.number_led pol_grammar limit top s to Sign.Minus n u (top, rw f refl, l) (λ name. rw (not_zero n some) refl)) (x, y, e, b, k)),
      )

  -- literals
  opens : (s : PolState) (negated : Bool) (name : List ℕ) → is_free s.held ≡ true → walks.Opens pol_grammar limit top s negated name
  opens s negated name f = record { literal = f; plain = λ b. refl }

  literal_led : (vs : List PolWord) (d : ℕ) (h : Held) (negated : Bool) (name : List ℕ) (t : List Letter) → is_free h ≡ true → SpellsLiteral (record { negated = negated; name = name }) t
      → Led (gap (pol_at vs d h)) (pol_at (vs ++ PolWord.Axiom (record { negated = negated; name = name }) ∷ []) (suc d) (held_name negated d)) t
  literal_led vs d h negated name t f x =
      walks.literal_led pol_grammar limit top (pol_at vs d h) (pol_at (vs ++ PolWord.Axiom (record { negated = negated; name = name }) ∷ []) (suc d) (held_name negated d)) negated name t
      (opens (pol_at vs d h) negated name f) (rw f refl) x

  -- operators
  symbol_led : (s k : PolState) (b : ℕ) (t : List Letter) → step_of (pol_grammar limit top) s [] Part.Gap b ≡ Step.End (Some (Word.Mark b)) Part.Symbol → with_mark s b ≡ Some k → Byte b t → Led (gap s) k t
  symbol_led s k b t e f h = walks.symbol_led pol_grammar limit top s k b t e (λ name. f) h

  letter_led : (s k : PolState) (b : ℕ) (t : List Letter) → IsTrue (is_letter b) → with_mark s b ≡ Some k → Byte b t → Led (gap s) k t
  letter_led s k b t e f h = walks.letter_led pol_grammar limit top s k b t e refl (λ name. f) h

  sums_next : (vs : List PolWord) (d : ℕ) (h : Held) → is_free h ≡ true → 2 ≤ d → with_mark (pol_at vs d h) 43 ≡ Some (pol_at (vs ++ PolWord.Add ∷ []) (d - 1) Held.Nothing)
  sums_next vs d Held.Large f l = absurd (false≢true f)
  sums_next vs d h f l = rw (le-leb 2 d l) refl

  saturates_next : (vs : List PolWord) (d : ℕ) (h : Held) → is_free h ≡ true → 1 ≤ d → with_mark (pol_at vs d h) 115 ≡ Some (pol_at (vs ++ PolWord.Saturate ∷ []) d Held.Nothing)
  saturates_next vs d Held.Large f l = absurd (false≢true f)
  saturates_next vs d h f l = rw (le-leb 1 d l) refl

  -- an operator that takes the last word
  turns_next : (vs : List PolWord) (d b : ℕ) (h : Held) (w x : PolWord) → turns h b ≡ true → turned b w ≡ x → with_mark (pol_at (vs ++ w ∷ []) (suc d) h) b ≡ Some (pol_at (vs ++ x ∷ []) d Held.Nothing)
  turns_next vs d b h w x t e =
      let less : suc d - 1 ≡ d = omega arith in
      rw t (ap (λ z. Some (pol_at z (suc d - 1) Held.Nothing)) (with_last_append (turned b) vs w ∙ ap (λ y. vs ++ y ∷ []) e) ∙ ap (λ n. Some (pol_at (vs ++ x ∷ []) n Held.Nothing)) less)

  -- a factor, with what an operator makes of it
  factor_next : (vs : List PolWord) (d n b : ℕ) (h : Held) (x : PolWord) → n ≤ limit → turns Held.Number b ≡ true → turned b (PolWord.Id (pos n)) ≡ x → turned b (PolWord.Multiply (pos n)) ≡ x
      → with_mark (with_number limit top (pol_at vs (suc d) h) Sign.Nothing n) b ≡ Some (pol_at (vs ++ x ∷ []) (suc d) Held.Nothing)
  factor_next vs d n b h x l t e f = by (nat_le n top) refl
    where
      by : (y : Bool) → nat_le n top ≡ y → with_mark (with_number limit top (pol_at vs (suc d) h) Sign.Nothing n) b ≡ Some (pol_at (vs ++ x ∷ []) (suc d) Held.Nothing)
      by true i = rw (i, le-leb n limit l) (turns_next vs (suc d) b Held.Number (PolWord.Id (pos n)) x t e)
      by false i = rw i (turns_next vs (suc d) b Held.Large (PolWord.Multiply (pos n)) x t f)

  factor_reached : (vs : List PolWord) (d b : ℕ) (h : Held) (k : ℤ) (word : ℤ → PolWord) (ws : List PolWord) (i : WordsState PolState) (t : List Letter) → is_free h ≡ true → IsAfter (pol_at vs (suc d) h) i → Counts (suc d) ws
      → turns Held.Number b ≡ true → ((n : ℕ) → turned b (PolWord.Id (pos n)) ≡ word (pos n)) → ((n : ℕ) → turned b (PolWord.Multiply (pos n)) ≡ word (pos n))
      → ((s to : PolState) (u : List Letter) → with_mark s b ≡ Some to → Byte b u → Led (gap s) to u)
      → (Blanks1 ⋅ (Factor limit k ⋅ Blanks1 ⋅ Byte b)) t → Reached vs (word k) ws i t
  factor_reached vs d b h k word ws i t f a c turn from_id from_factor led (x, y, e, o, (pq, r, j, (p, q, g, (n, some, l, same, m), bs), v)) =
      let s : PolState = pol_at vs (suc d) h in
      let mid : PolState = with_number limit top s Sign.Nothing n in
      let to : PolState = pol_at (vs ++ word (pos n) ∷ []) (suc d) Held.Nothing in (
        suc d,
        Held.Nothing,
        refl,
        c,
        subst (λ z. Led i (pol_at (vs ++ word z ∷ []) (suc d) Held.Nothing) t) (sym same)
            (chain s mid to i (Digits n) (Byte b) t a (λ u. number_led s mid n u f some (bound_of_factor limit top d n l) refl)
            (λ u. led mid to u (factor_next vs d n b h (word (pos n)) l turn (from_id n) (from_factor n)))
            (x, y, e, o, (pq, r, j, (p, q, g, m, bs), v))),
      )

  weaken_reached : (vs : List PolWord) (d : ℕ) (h : Held) (name : List ℕ) (ws : List PolWord) (i : WordsState PolState) (t : List Letter) → is_free h ≡ true → IsAfter (pol_at vs (suc d) h) i → Counts (suc d) ws
      → (Blanks1 ⋅ SpellsWord limit top (PolWord.Weaken name)) t → Reached vs (PolWord.Weaken name) ws i t
  weaken_reached vs d h name ws i t f a c (x, y, e, o, (is, z)) =
      let s : PolState = pol_at vs (suc d) h in
      let w : PolWord = PolWord.Axiom (record { negated = false; name = name }) in
      let mid : PolState = pol_at (vs ++ w ∷ []) (suc (suc d)) Held.Name in
      let to : PolState = pol_at (vs ++ PolWord.Weaken name ∷ []) (suc d) Held.Nothing in (
        suc d,
        Held.Nothing,
        refl,
        c,
        chain s mid to i (Bytes name) (Byte 119) t a (λ u k. literal_led vs (suc d) h false name u f (is, k))
            (λ u. letter_led mid to 119 u refl (turns_next vs (suc d) 119 Held.Name w (PolWord.Weaken name) refl refl)) (x, y, e, o, z),
      )

  word_reached : (vs : List PolWord) (d : ℕ) (h : Held) (w : PolWord) (ws : List PolWord) (i : WordsState PolState) (t : List Letter) → is_free h ≡ true → IsAfter (pol_at vs d h) i → Counts d (w ∷ ws)
      → (Blanks1 ⋅ SpellsWord limit top w) t → Reached vs w ws i t
  word_reached vs d h (PolWord.Id id) ws i t f a c x = id_reached vs d h id ws i t f a c x
  word_reached vs d h (PolWord.Axiom l) ws i t f a c x = (
    suc d,
    held_name l.negated d,
    free_name l.negated d,
    c,
    walks.further pol_grammar limit top (pol_at vs d h) (pol_at (vs ++ PolWord.Axiom l ∷ []) (suc d) (held_name l.negated d)) i (SpellsLiteral l) t a
        (λ u. literal_led vs d h l.negated l.name u f) x,
  )
  word_reached vs (suc (suc d)) h PolWord.Add ws i t f a c x =
      let s : PolState = pol_at vs (suc (suc d)) h in
      let less : suc (suc d) - 1 ≡ suc d = omega arith in
      let to : PolState = pol_at (vs ++ PolWord.Add ∷ []) (suc (suc d) - 1) Held.Nothing in (
        suc (suc d) - 1,
        Held.Nothing,
        refl,
        subst (λ n. Counts n ws) (sym less) c,
        walks.further pol_grammar limit top s to i (Byte 43) t a (λ u. symbol_led s to 43 u (rw f refl) (sums_next vs (suc (suc d)) h f (omega arith))) x,
      )
  word_reached vs (suc d) h (PolWord.Multiply k) ws i t f a c x =
      factor_reached vs d 42 h k PolWord.Multiply ws i t f a c refl (λ n. refl) (λ n. refl) (λ s to u. symbol_led s to 42 u refl) x
  word_reached vs (suc d) h (PolWord.Divide k) ws i t f a c x =
      factor_reached vs d 100 h k PolWord.Divide ws i t f a c refl (λ n. refl) (λ n. refl) (λ s to u. letter_led s to 100 u refl) x
  word_reached vs (suc d) h PolWord.Saturate ws i t f a c x =
      let s : PolState = pol_at vs (suc d) h in
      let to : PolState = pol_at (vs ++ PolWord.Saturate ∷ []) (suc d) Held.Nothing in
      (suc d, Held.Nothing, refl, c, walks.further pol_grammar limit top s to i (Byte 115) t a (λ u. letter_led s to 115 u refl (saturates_next vs (suc d) h f (omega arith))) x)
  word_reached vs (suc d) h (PolWord.Weaken name) ws i t f a c x = weaken_reached vs d h name ws i t f a c x
  word_reached vs _ h _ ws i t f a c x = absurd c

  words_read : (ws vs : List PolWord) (d : ℕ) (h : Held) (i : WordsState PolState) (t u : List Letter) → is_free h ≡ true → IsAfter (pol_at vs d h) i → Counts d ws → Listed (SpellsWord limit top) ws t → LineEnd u
      → ReadsStatement pol_automaton i (t ++ u) (vs ++ ws) (pol_last limit top)
  words_read [] vs d h i t u f a c x k =
      subst (λ y. ReadsStatement pol_automaton i (y ++ u) (vs ++ []) (pol_last limit top)) (sym x)
      (walks.ends_line pol_grammar limit top (pol_at vs d h) i (vs ++ []) u a (rw (c, append-nil) refl) k)
  words_read (w ∷ ws) vs d h i t u f a c (x, y, e, b, z) k =
      let (n, held, free, more, (j, walk, r)) = word_reached vs d h w ws i x f a c b in
      rw (e, append_assoc x y u) (reads_after pol_automaton x (y ++ u) i j (pol_last limit top) (vs ++ w ∷ ws) walk
      (subst (λ p. ReadsStatement pol_automaton j (y ++ u) p (pol_last limit top)) (append_assoc vs (w ∷ []) ws) (words_read ws (vs ++ w ∷ []) n held j y u free r more z k)))

  -- Each line of words is read.
  pub reads_each : (ws : List PolWord) (t : List Letter) → SpellsWords limit top ws t → ReadsStatement pol_automaton (pol_first limit top) t ws (pol_last limit top)
  reads_each ws t (h, (a, b, g, i, k)) =
      rw g (words_read ws [] 0 Held.Nothing (pol_first limit top) a b refl (walks.first_after pol_grammar limit top) (postfix_counts ws h) i k)
