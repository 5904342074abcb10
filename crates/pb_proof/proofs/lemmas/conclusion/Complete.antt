-- The machine reads each conclusion.
use Rattle.pb_proof.proofs.Common.{ℕ, ℤ, ◌≡◌, ◌∙◌, ◌++◌, ◌∷◌, [], ◌≤◌, ap, append_assoc, true, false, inl, inr, List, None, Option, refl, Some, sym}
use Rattle.pb_proof.proofs.Common.{◌⋅◌, Blanks0, Blanks1, Bytes, Empty, Language, Letter, Listed, regroup, ReadsStatement, reads_after, subst, Walks, walks_then}
use Rattle.pb_proof.proofs.Common.{Bound, Conclusion, Literal, signed, IdShown, LiteralsShown, SpellsBound, SpellsId, SpellsLiteral, SpellsShown}
use Rattle.pb_proof.proofs.Common.{bounds_word, sat_word, unsat_word, SpellsConclusion, SpellsConclusionLine, conclusion_automaton, conclusion_first, conclusion_last}
use Rattle.pb_proof.proofs.lemmas.conclusion.Spelling.{Colon}
use Rattle.pb_proof.proofs.lemmas.Listed.{listed_walks}
use Rattle.pb_lines.proofs.lemmas.Ends.{not_zero}
use Rattle.pb_lines.proofs.lemmas.Walks.{gap, IsAfter, first_after, gap_after, Led, number_led, literal_led, capital_led, further, joined, colon_walks, ends_line}
use Rattle.pb_proof.specs.declared.line.{conclusion.Concluding.Concluding, conclusion.ConclusionWords.ConclusionWords, conclusion.Showing.Showing}
use Rattle.pb_lines.specs.declared.Capital.{Capital}
use Rattle.pb_lines.specs.declared.Sign.{Sign}
use Rattle.pb_lines.specs.declared.Word.{Word}
use Rattle.pb_proof.specs.engine.line.Ids.{id_most, id_of, is_minus}
use Rattle.pb_proof.specs.engine.line.Conclusion.{bound_of, conclusion_grammar, conclusion_words as words, capital, number, with_colon, with_word}
use Rattle.pb_lines.specs.engine.Words.{capital_bytes, WordsState}
use Rattle.pb_lines.specs.engine.WordTexts.{WordText}
use Rattle.std.specs.Prelude.{option_map}

module _ (limit top : ℕ) where
  -- The texts of P lead from the gap of the words s, or from a state after them, to a state after the words k.
  abbrev Reach : WordsState ConclusionWords → ConclusionWords → List Letter → Type 0
  Reach = Led conclusion_grammar limit top

  abbrev In : Concluding → WordsState ConclusionWords
  In c = gap conclusion_grammar limit top (words c [])

  abbrev Begins : Concluding → Language → Concluding → Type 0
  Begins c P k = (t : List Letter) → P t → Reach (In c) (words k []) t

  abbrev Follows : Concluding → Language → ConclusionWords → Type 0
  Follows c P k = (i : WordsState ConclusionWords) (t : List Letter) → IsAfter conclusion_grammar limit top (words c []) i → P t → Reach i k t

  begins_then : (c k : Concluding) (P Q : Language) (m : ConclusionWords) → Begins c P k → Follows k Q m → (t : List Letter) → (P ⋅ Q) t → Reach (In c) m t
  begins_then c k P Q m f g t (a, b, e, p, q) =
      let (mid, w, i) = f a p in
      let (next, v, j) = g mid b i q in
      (next, rw e (walks_then conclusion_automaton a b (In c) mid next w v), j)

  -- a further word, with blanks before it
  begins_word : (c k m : Concluding) (P W : Language) → Begins c P k → Begins k W m → Begins c (P ⋅ Blanks1 ⋅ W) m
  begins_word c k m P W f g t h =
      begins_then c k P (Blanks1 ⋅ W) (words m []) f (λ i u j. further conclusion_grammar limit top (words k []) (words m []) i W u j g) t (regroup P Blanks1 W t h)

  nothing : (c : Concluding) → Follows c Empty (words c [])
  nothing c i t h e = (i, rw e refl, h)

  -- a word in capital letters
  capital_begins : (c k : Concluding) (b : ℕ) (bs : List ℕ) (w : Capital) → capital c b ≡ Some w → capital_bytes w ≡ b ∷ bs → with_word c (Word.Capital w) ≡ Some k → Begins c (Bytes (capital_bytes w)) k
  capital_begins c k b bs w e f g t h =
      capital_led conclusion_grammar limit top (words c []) (words k []) b bs w t e f (λ name. ap (option_map (λ x. words x [])) g) h

  numbered : (c k : Concluding) (sign : Sign) (n most : ℕ) (t : List Letter) → number limit top c sign ≡ Some most → n ≤ most → with_word c (Word.Number sign n) ≡ Some k
      → WordText (Word.Number sign n) [] t → Reach (In c) (words k []) t
  numbered c k sign n most t e l g h =
      number_led conclusion_grammar limit top (words c []) (words k []) sign n t (most, e, l) (λ name. ap (option_map (λ x. words x [])) g) h

  -- a bound
  module _ (c : Concluding) (f : Bound → Concluding) (most : (sign : Sign) → number limit top c sign ≡ Some limit) (infinity : capital c 73 ≡ Some Capital.Infinity)
      (word : (w : Word) (x : Bound) → bound_of w ≡ Some x → with_word c w ≡ Some (f x)) where
    number_begins : (sign : Sign) (n : ℕ) (t : List Letter) → n ≤ limit → WordText (Word.Number sign n) [] t → Reach (In c) (words (f (Bound.Finite (signed (is_minus sign) n))) []) t
    number_begins sign n t l h =
        let x : Bound = Bound.Finite (signed (is_minus sign) n) in
        numbered c (f x) sign n limit t (most sign) l (word (Word.Number sign n) x refl) h

    bound_begins : (x : Bound) → Begins c (SpellsBound limit x) (f x)
    bound_begins Bound.Infinite t h = capital_begins c (f Bound.Infinite) 73 (78 ∷ 70 ∷ []) Capital.Infinity infinity refl (word (Word.Capital Capital.Infinity) Bound.Infinite refl) t h
    bound_begins (Bound.Finite z) t (true, n, l, e, h) = rw e (number_begins Sign.Minus n t l h)
    bound_begins (Bound.Finite z) t (false, n, l, e, (a, b, g, inl i, k)) = rw e (number_begins Sign.Nothing n t l (a, b, g, i, k))
    bound_begins (Bound.Finite z) t (false, n, l, e, (a, b, g, inr i, k)) = rw e (number_begins Sign.Plus n t l (a, b, g, i, k))

  lower_begins : (x : Bound) → Begins Concluding.Bounded (SpellsBound limit x) (Concluding.Lower x None)
  lower_begins = bound_begins Concluding.Bounded (λ x. Concluding.Lower x None) (λ sign. refl) refl (λ w x e. ap (option_map (λ y. Concluding.Lower y None)) e)

  upper_begins : (lower : Bound) (id : Option ℤ) (x : Bound) → Begins (Concluding.Lower lower id) (SpellsBound limit x) (Concluding.Shows (Showing.Bounds lower id x))
  upper_begins lower id =
      bound_begins (Concluding.Lower lower id) (λ x. Concluding.Shows (Showing.Bounds lower id x)) (λ sign. refl) refl
      (λ w x e. ap (option_map (λ y. Concluding.Shows (Showing.Bounds lower id y))) e)

  -- `:` and an id
  module _ (c m : Concluding) (f : ℤ → Concluding) (colon : with_colon c ≡ Some m) (most : (sign : Sign) → number limit top m sign ≡ id_most top sign)
      (word : (w : Word) (id : ℤ) → id_of w ≡ Some id → with_word m w ≡ Some (f id)) where
    id_begins : (id : ℤ) → Begins m (SpellsId top id) (f id)
    id_begins id t (true, n, z, l, e, h) =
        rw e (numbered m (f (signed true n)) Sign.Minus n top t (most Sign.Minus) l (word (Word.Number Sign.Minus n) (signed true n) (rw (not_zero n z) refl)) h)
    id_begins id t (false, n, z, l, e, h) =
        rw e (numbered m (f (signed false n)) Sign.Nothing n top t (most Sign.Nothing) l (word (Word.Number Sign.Nothing n) (signed false n) (rw (not_zero n z) refl)) h)

    id_follows : (id : ℤ) → Follows c (IdShown limit top (Some id)) (words (f id) [])
    id_follows id i t h k =
        let (a, b, e, p, q) = regroup Colon Blanks0 (SpellsId top id) t k in
        let (next, w, j) = joined conclusion_grammar limit top (words m []) (words (f id) []) (SpellsId top id) b (id_begins id) q in
        let colons = colon_walks conclusion_grammar limit top (words c []) (words m []) i a h (ap (option_map (λ x. words x [])) colon) p in
        (next, subst (λ x. Walks conclusion_automaton i x next) (sym e) (walks_then conclusion_automaton a b i (In m) next colons w), j)

  unsat_id : (id : Option ℤ) → Follows (Concluding.Unsat None) (IdShown limit top id) (words (Concluding.Unsat id) [])
  unsat_id None = nothing (Concluding.Unsat None)
  unsat_id (Some id) = id_follows (Concluding.Unsat None) Concluding.UnsatBy (λ id. Concluding.Unsat (Some id)) refl (λ sign. refl) (λ w id e. ap (option_map (λ id. Concluding.Unsat (Some id))) e) id

  lower_id : (lower : Bound) (id : Option ℤ) → Follows (Concluding.Lower lower None) (IdShown limit top id) (words (Concluding.Lower lower id) [])
  lower_id lower None = nothing (Concluding.Lower lower None)
  lower_id lower (Some id) =
      id_follows (Concluding.Lower lower None) (Concluding.LowerBy lower) (λ id. Concluding.Lower lower (Some id)) refl (λ sign. refl) (λ w id e. ap (option_map (λ id. Concluding.Lower lower (Some id))) e) id

  -- `:` and literals
  module _ (x : Showing) where
    abbrev given : List Literal → ConclusionWords
    given ls = words (Concluding.Shown x) ls

    literal_begins : (ls : List Literal) (l : Literal) (t : List Letter) → SpellsLiteral l t → Reach (gap conclusion_grammar limit top (given ls)) (given (ls ++ l ∷ [])) t
    literal_begins ls l t h = literal_led conclusion_grammar limit top (given ls) (given (ls ++ l ∷ [])) l.negated l.name t (record { literal = refl; plain = λ b. refl }) refl h

    more_literals : (ls ms : List Literal) (i : WordsState ConclusionWords) (t : List Letter) → IsAfter conclusion_grammar limit top (given ls) i → Listed SpellsLiteral ms t → Reach i (given (ls ++ ms)) t
    more_literals ls ms i t h k =
        listed_walks SpellsLiteral conclusion_automaton (λ ys j. IsAfter conclusion_grammar limit top (given ys) j)
        (λ ys l j u g q. further conclusion_grammar limit top (given ys) (given (ys ++ l ∷ [])) j (SpellsLiteral l) u g (literal_begins ys l) q) ls ms i t h k

    -- the parts of literals that are shown
    shown_parts : (l : Literal) (ls : List Literal) (t : List Letter) → (Blanks0 ⋅ SpellsShown (l ∷ ls)) t → (Colon ⋅ ((Blanks0 ⋅ SpellsLiteral l) ⋅ Listed SpellsLiteral ls)) t
    shown_parts l ls t (z, m, e, p, (bsl, r, f, (bs, s, g, (b, c, h, q, o), u), v)) =
        (z ++ b, (c ++ s) ++ r, rw (e, f, g, h) (simp append_assoc), (z, b, refl, p, q), (c ++ s, r, refl, (c, s, refl, o, u), v))

    shown_follows : (ls : List Literal) → Follows (Concluding.Shows x) (Blanks0 ⋅ SpellsShown ls) (given ls)
    shown_follows [] i t h k =
        (gap conclusion_grammar limit top (given []), colon_walks conclusion_grammar limit top (words (Concluding.Shows x) []) (given []) i t h refl k, gap_after conclusion_grammar limit top (given []))
    shown_follows (l ∷ ls) i t h k =
        let (a, d, e, p, (b, c, f, q, r)) = shown_parts l ls t k in
        let w = colon_walks conclusion_grammar limit top (words (Concluding.Shows x) []) (given []) i a h refl p in
        let (mid, v, j) = joined conclusion_grammar limit top (given []) (given (l ∷ [])) (SpellsLiteral l) b (literal_begins [] l) q in
        let (next, u, n) = more_literals (l ∷ []) ls mid c j r in
        let start : WordsState ConclusionWords = gap conclusion_grammar limit top (given []) in (
          next,
          subst (λ y. Walks conclusion_automaton i y next) (sym (e ∙ ap (λ y. a ++ y) f))
              (walks_then conclusion_automaton a (b ++ c) i start next w (walks_then conclusion_automaton b c start mid next v u)),
          n,
        )

    -- the words with the literals that are shown
    abbrev with_shown : Option (List Literal) → ConclusionWords
    with_shown None = words (Concluding.Shows x) []
    with_shown (Some ls) = given ls

    may_show : (shown : Option (List Literal)) → Follows (Concluding.Shows x) (LiteralsShown shown) (with_shown shown)
    may_show None = nothing (Concluding.Shows x)
    may_show (Some ls) = shown_follows ls

  -- ---- the whole line
  abbrev last_words : Conclusion → ConclusionWords
  last_words Conclusion.NoClaim = words Concluding.NoClaim []
  last_words (Conclusion.Unsat id) = words (Concluding.Unsat id) []
  last_words (Conclusion.Sat shown) = with_shown Showing.Sat shown
  last_words (Conclusion.Bounds lower id upper shown) = with_shown (Showing.Bounds lower id upper) shown

  ends : (e : Conclusion) → (conclusion_grammar limit top).value (last_words e) ≡ Some e
  ends Conclusion.NoClaim = refl
  ends (Conclusion.Unsat id) = refl
  ends (Conclusion.Sat None) = refl
  ends (Conclusion.Sat (Some ls)) = refl
  ends (Conclusion.Bounds lower id upper None) = refl
  ends (Conclusion.Bounds lower id upper (Some ls)) = refl

  first_begins : (k : Concluding) (b : ℕ) (bs : List ℕ) (w : Capital) → capital Concluding.Start b ≡ Some w → capital_bytes w ≡ b ∷ bs → with_word Concluding.Start (Word.Capital w) ≡ Some k
      → Begins Concluding.Start (Bytes (capital_bytes w)) k
  first_begins k b bs w = capital_begins Concluding.Start k b bs w

  lower_line : (lower : Bound) → Begins Concluding.Start (Bytes bounds_word ⋅ Blanks1 ⋅ SpellsBound limit lower) (Concluding.Lower lower None)
  lower_line lower =
      begins_word Concluding.Start Concluding.Bounded (Concluding.Lower lower None) (Bytes bounds_word) (SpellsBound limit lower)
      (first_begins Concluding.Bounded 66 (79 ∷ 85 ∷ 78 ∷ 68 ∷ 83 ∷ []) Capital.Bounds refl refl refl) (lower_begins lower)

  bounds_line : (lower : Bound) (id : Option ℤ) (upper : Bound)
      → Begins Concluding.Start (Bytes bounds_word ⋅ Blanks1 ⋅ SpellsBound limit lower ⋅ IdShown limit top id ⋅ Blanks1 ⋅ SpellsBound limit upper) (Concluding.Shows (Showing.Bounds lower id upper))
  bounds_line lower id upper =
      let P : Language = Bytes bounds_word ⋅ Blanks1 ⋅ SpellsBound limit lower in
      begins_word Concluding.Start (Concluding.Lower lower id) (Concluding.Shows (Showing.Bounds lower id upper)) (P ⋅ IdShown limit top id) (SpellsBound limit upper)
      (begins_then Concluding.Start (Concluding.Lower lower None) P (IdShown limit top id) (words (Concluding.Lower lower id) []) (lower_line lower) (lower_id lower id))
      (upper_begins lower id upper)

  body_led : (e : Conclusion) (t : List Letter) → SpellsConclusion limit top e t → Reach (In Concluding.Start) (last_words e) t
  body_led Conclusion.NoClaim t h = first_begins Concluding.NoClaim 78 (79 ∷ 78 ∷ 69 ∷ []) Capital.NoClaim refl refl refl t h
  body_led (Conclusion.Unsat id) t h =
      begins_then Concluding.Start (Concluding.Unsat None) (Bytes unsat_word) (IdShown limit top id) (words (Concluding.Unsat id) [])
      (first_begins (Concluding.Unsat None) 85 (78 ∷ 83 ∷ 65 ∷ 84 ∷ []) Capital.Unsat refl refl refl) (unsat_id id) t h
  body_led (Conclusion.Sat shown) t h =
      begins_then Concluding.Start (Concluding.Shows Showing.Sat) (Bytes sat_word) (LiteralsShown shown) (with_shown Showing.Sat shown)
      (first_begins (Concluding.Shows Showing.Sat) 83 (65 ∷ 84 ∷ []) Capital.Sat refl refl refl) (may_show Showing.Sat shown) t h
  body_led (Conclusion.Bounds lower id upper shown) t h =
      let x : Showing = Showing.Bounds lower id upper in
      begins_then Concluding.Start (Concluding.Shows x) (Bytes bounds_word ⋅ Blanks1 ⋅ SpellsBound limit lower ⋅ IdShown limit top id ⋅ Blanks1 ⋅ SpellsBound limit upper) (LiteralsShown shown)
      (with_shown x shown) (bounds_line lower id upper) (may_show x shown) t h

  pub conclusion_each : (e : Conclusion) (t : List Letter) → SpellsConclusionLine limit top e t → ReadsStatement conclusion_automaton (conclusion_first limit top) t e (conclusion_last limit top)
  conclusion_each e t (a, b, f, p, q) =
      let (mid, w, i) = further conclusion_grammar limit top (words Concluding.Start []) (last_words e) (conclusion_first limit top) (SpellsConclusion limit top e) a (first_after conclusion_grammar limit top) (body_led e) p in
      subst (λ x. ReadsStatement conclusion_automaton (conclusion_first limit top) x e (conclusion_last limit top)) (sym f)
      (reads_after conclusion_automaton a b (conclusion_first limit top) mid (conclusion_last limit top) e w (ends_line conclusion_grammar limit top (last_words e) mid e b i (ends e) q))
