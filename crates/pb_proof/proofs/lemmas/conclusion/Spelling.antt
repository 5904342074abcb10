-- The texts that lead to the words of a conclusion.
use Rattle.pb_proof.proofs.Common.{ℕ, ℤ, ◌≡◌, ◌++◌, ◌∷◌, [], ◌≤◌, ap, Bool, true, false, cond_both, inl, inr, List, nat_eq, None, Option, refl, Some, subst, sym, take, same_Some, true≢false, eqb-true, ◌∙◌}
use Rattle.pb_proof.proofs.Common.{◌⋅◌, Blanks0, Blanks1, Byte, Bytes, Empty, Language, Letter, LineEnd, Listed, after_it, inside, nil_first, none_yet, regroup, regroup3}
use Rattle.pb_proof.proofs.Common.{Bound, Conclusion, Literal, literal, Number, signed, IdShown, LiteralsShown, SpellsBound, SpellsId, SpellsLiteral, SpellsShown}
use Rattle.pb_proof.proofs.Common.{bounds_word, none_word, sat_word, unsat_word, SpellsConclusion, SpellsConclusionLine}
use Rattle.pb_proof.proofs.lemmas.Listed.{listed_append}
use Rattle.pb_lines.proofs.lemmas.Ends.{nil_last}
use Rattle.pb_lines.proofs.lemmas.Spelling.{FirstByte, IsSpelled}
use Rattle.pb_proof.specs.declared.line.{conclusion.Concluding.Concluding, conclusion.ConclusionWords.ConclusionWords, conclusion.Showing.Showing}
use Rattle.pb_lines.specs.declared.Capital.{Capital}
use Rattle.pb_lines.specs.declared.Sign.{Sign}
use Rattle.pb_lines.specs.declared.Word.{Word}
use Rattle.pb_lines.specs.contract.Grammar.{IsNumber}
use Rattle.pb_lines.specs.engine.WordTexts.{Lead, WordText}
use Rattle.pb_lines.specs.engine.Words.{capital_bytes}
use Rattle.std.specs.Prelude.{option_map}
use Rattle.pb_proof.proofs.lemmas.Ids.{id_text}
use Rattle.pb_proof.specs.engine.line.Ids.{id_most, is_minus}
use Rattle.pb_proof.specs.engine.line.Conclusion.{conclusion_grammar, conclusion_words as words, capital, showing_value, takes_literal, value}

-- no literal is given
abbrev is_none : List Literal → Bool
is_none [] = true
is_none (l ∷ ls) = false

-- a `:` is the last byte
abbrev pub joins : Concluding → List Literal → Bool
joins Concluding.UnsatBy ls = true
joins (Concluding.LowerBy lower) ls = true
joins (Concluding.Shown x) ls = is_none ls
joins _ ls = false

abbrev pub Colon : Language
Colon = Blanks0 ⋅ Byte 58

module _ (limit top : ℕ) where
  -- the text through the lower bound
  abbrev pub LowerText : Bound → Language
  LowerText lower = Bytes bounds_word ⋅ Blanks1 ⋅ SpellsBound limit lower

  abbrev pub Shows : Showing → Language
  Shows Showing.Sat = Bytes sat_word
  Shows (Showing.Bounds lower id upper) = LowerText lower ⋅ IdShown limit top id ⋅ Blanks1 ⋅ SpellsBound limit upper

  -- the text of the words, without the blanks before it
  abbrev pub Body : Concluding → List Literal → Language
  Body Concluding.Start ls = Empty
  Body Concluding.NoClaim ls = Bytes none_word
  Body (Concluding.Unsat id) ls = Bytes unsat_word ⋅ IdShown limit top id
  Body Concluding.UnsatBy ls = Bytes unsat_word ⋅ Colon
  Body Concluding.Bounded ls = Bytes bounds_word
  Body (Concluding.Lower lower id) ls = LowerText lower ⋅ IdShown limit top id
  Body (Concluding.LowerBy lower) ls = LowerText lower ⋅ Colon
  Body (Concluding.Shows x) ls = Shows x
  Body (Concluding.Shown x) ls = Shows x ⋅ (Blanks0 ⋅ SpellsShown ls)

  abbrev pub Text : Concluding → List Literal → Language
  Text Concluding.Start ls = Empty
  Text c ls = Blanks1 ⋅ Body c ls

  -- Literals are given only after their `:`.
  abbrev pub IsBare : Concluding → List Literal → Type 0
  IsBare c ls = takes_literal c ≡ false → ls ≡ []

  abbrev pub After : ConclusionWords → Language
  After s = λ p. IsBare s.concluding s.literals × Text s.concluding s.literals p

  abbrev pub joined : ConclusionWords → Bool
  joined s = joins s.concluding s.literals

  -- ids, bounds and literals
  bound_text : (sign : Sign) (n : ℕ) (t : List Letter) → n ≤ limit → WordText (Word.Number sign n) [] t → Number limit (signed (is_minus sign) n) t
  bound_text Sign.Nothing n t l (a, b, e, h, k) = (false, n, l, refl, (a, b, e, inl h, k))
  bound_text Sign.Plus n t l (a, b, e, h, k) = (false, n, l, refl, (a, b, e, inr h, k))
  bound_text Sign.Minus n t l h = (true, n, l, refl, h)

  shown_append : (ls : List Literal) (l : Literal) (t : List Letter) → (SpellsShown ls ⋅ Lead (is_none ls) ⋅ SpellsLiteral l) t → SpellsShown (ls ++ l ∷ []) t
  shown_append [] l t h = none_yet (Byte 58 ⋅ Blanks0 ⋅ SpellsLiteral l) Empty t refl h
  shown_append (x ∷ ls) l t h =
      let A : Language = Byte 58 ⋅ Blanks0 ⋅ SpellsLiteral x in
      after_it A (Listed SpellsLiteral ls ⋅ Blanks1 ⋅ SpellsLiteral l) (Listed SpellsLiteral (ls ++ l ∷ [])) t (listed_append SpellsLiteral ls l)
      (regroup3 A (Listed SpellsLiteral ls) Blanks1 (SpellsLiteral l) t h)

  some_literal : (ls : List Literal) (l : Literal) → is_none (ls ++ l ∷ []) ≡ false
  some_literal [] l = refl
  some_literal (x ∷ ls) l = refl

  -- ---- one more word
  abbrev Worded : Option ConclusionWords → List Letter → Type 0
  Worded None p = Unit {0}
  Worded (Some k) p = After k p × (joined k ≡ false)

  -- the parts of a text after blank+
  within : (B L W D : Language) (p : List Letter) → ((q : List Letter) → (B ⋅ L ⋅ W) q → D q) → (Blanks1 ⋅ B ⋅ L ⋅ W) p → (Blanks1 ⋅ D) p
  within B L W D p f h = after_it Blanks1 (B ⋅ L ⋅ W) D p f (regroup3 Blanks1 B L W p h)

  -- a first word
  begun : (w : List ℕ) (p : List Letter) → (Empty ⋅ Blanks1 ⋅ Bytes w) p → (Blanks1 ⋅ Bytes w) p
  begun w p h = inside (Empty ⋅ Blanks1) Blanks1 (Bytes w) p (nil_first Blanks1) h

  -- an id after its `:`
  id_shown : (P : Language) (id : ℤ) (p : List Letter) → (P ⋅ Colon ⋅ Blanks0 ⋅ SpellsId top id) p → (P ⋅ IdShown limit top (Some id)) p
  id_shown P id p h = regroup3 P Colon Blanks0 (SpellsId top id) p h

  by_id : (P : Language) (sign : Sign) (n : ℕ) (p : List Letter) → nat_eq n 0 ≡ false → (most : ℕ) × (id_most top sign ≡ Some most) × (n ≤ most)
      → (Blanks1 ⋅ (P ⋅ Colon) ⋅ Blanks0 ⋅ WordText (Word.Number sign n) []) p → (Blanks1 ⋅ (P ⋅ IdShown limit top (Some (signed (is_minus sign) n)))) p
  by_id P sign n p z (most, e, l) h =
      within (P ⋅ Colon) Blanks0 (WordText (Word.Number sign n) []) (P ⋅ IdShown limit top (Some (signed (is_minus sign) n))) p
      (λ q k. id_shown P (signed (is_minus sign) n) q
      (after_it (P ⋅ Colon ⋅ Blanks0) (WordText (Word.Number sign n) []) (SpellsId top (signed (is_minus sign) n)) q (λ r. id_text top sign n most r z e l) k)) h

  -- a bound
  by_bound : (P W : Language) (x : Bound) (p : List Letter) → ((q : List Letter) → W q → SpellsBound limit x q) → (Blanks1 ⋅ P ⋅ Blanks1 ⋅ W) p → (Blanks1 ⋅ (P ⋅ Blanks1 ⋅ SpellsBound limit x)) p
  by_bound P W x p f h = within P Blanks1 W (P ⋅ Blanks1 ⋅ SpellsBound limit x) p (λ q k. after_it (P ⋅ Blanks1) W (SpellsBound limit x) q f k) h

  no_id : (P : Language) (p : List Letter) → (Blanks1 ⋅ P) p → (Blanks1 ⋅ (P ⋅ Empty)) p
  no_id P p h = after_it Blanks1 P (P ⋅ Empty) p (λ q k. none_yet P Empty q refl k) h

  number_bound : (sign : Sign) (n : ℕ) → ((most : ℕ) × (Some limit ≡ Some most) × (n ≤ most)) → (q : List Letter) → WordText (Word.Number sign n) [] q → SpellsBound limit (Bound.Finite (signed (is_minus sign) n)) q
  number_bound sign n (most, e, l) q h = let f : limit ≡ most = cc in bound_text sign n q (subst (λ x. n ≤ x) (sym f) l) h

  shown_more : (x : Showing) (ls : List Literal) (l : Literal) (q : List Letter) → (Shows x ⋅ (Blanks0 ⋅ SpellsShown ls) ⋅ Lead (is_none ls) ⋅ SpellsLiteral l) q → (Shows x ⋅ (Blanks0 ⋅ SpellsShown (ls ++ l ∷ []))) q
  shown_more x ls l q h =
      let L : Language = Lead (is_none ls) in
      after_it (Shows x) (Blanks0 ⋅ SpellsShown ls ⋅ L ⋅ SpellsLiteral l) (Blanks0 ⋅ SpellsShown (ls ++ l ∷ [])) q
      (λ r k. after_it Blanks0 (SpellsShown ls ⋅ L ⋅ SpellsLiteral l) (SpellsShown (ls ++ l ∷ [])) r (shown_append ls l) (regroup3 Blanks0 (SpellsShown ls) L (SpellsLiteral l) r k))
      (regroup3 (Shows x) (Blanks0 ⋅ SpellsShown ls) L (SpellsLiteral l) q h)

  worded : (c : Concluding) (w : Word) (ls : List Literal) (name : List ℕ) (p : List Letter) → IsNumber (conclusion_grammar limit top) (words c ls) (Some w) → IsBare c ls
      → (Text c ls ⋅ Lead (joins c ls) ⋅ WordText w name) p → Worded ((conclusion_grammar limit top).next (words c ls) w name) p
  worded Concluding.Start (Word.Capital Capital.NoClaim) ls name p n b h = ((b, begun none_word p h), refl)
  worded Concluding.Start (Word.Capital Capital.Unsat) ls name p n b h = ((b, no_id (Bytes unsat_word) p (begun unsat_word p h)), refl)
  worded Concluding.Start (Word.Capital Capital.Sat) ls name p n b h = ((b, begun sat_word p h), refl)
  worded Concluding.Start (Word.Capital Capital.Bounds) ls name p n b h = ((b, begun bounds_word p h), refl)
  worded Concluding.UnsatBy (Word.Number sign n) ls name p i b h =
      cond_both (nat_eq n 0) None (Some (signed (is_minus sign) n)) (λ x. Worded (option_map (λ c. words c ls) (option_map (λ id. Concluding.Unsat (Some id)) x)) p) (λ _. tt)
      (λ z. ((b, by_id (Bytes unsat_word) sign n p z i h), refl))
  worded (Concluding.LowerBy lower) (Word.Number sign n) ls name p i b h =
      cond_both (nat_eq n 0) None (Some (signed (is_minus sign) n)) (λ x. Worded (option_map (λ c. words c ls) (option_map (λ id. Concluding.Lower lower (Some id)) x)) p) (λ _. tt)
      (λ z. ((b, by_id (LowerText lower) sign n p z i h), refl))
  worded Concluding.Bounded (Word.Number sign n) ls name p i b h =
      let x : Bound = Bound.Finite (signed (is_minus sign) n) in
      ((b, no_id (LowerText x) p (by_bound (Bytes bounds_word) (WordText (Word.Number sign n) []) x p (number_bound sign n i) h)), refl)
  worded Concluding.Bounded (Word.Capital Capital.Infinity) ls name p i b h =
      ((b, no_id (LowerText Bound.Infinite) p (by_bound (Bytes bounds_word) (SpellsBound limit Bound.Infinite) Bound.Infinite p (λ q k. k) h)), refl)
  worded (Concluding.Lower lower id) (Word.Number sign n) ls name p i b h =
      ((b, by_bound (LowerText lower ⋅ IdShown limit top id) (WordText (Word.Number sign n) []) (Bound.Finite (signed (is_minus sign) n)) p (number_bound sign n i) h), refl)
  worded (Concluding.Lower lower id) (Word.Capital Capital.Infinity) ls name p i b h =
      ((b, by_bound (LowerText lower ⋅ IdShown limit top id) (SpellsBound limit Bound.Infinite) Bound.Infinite p (λ q k. k) h), refl)
  worded (Concluding.Shown x) (Word.Literal negated) ls name p i b h =
      let l : Literal = literal negated name in
      (((λ k. absurd (true≢false k)), within (Shows x ⋅ (Blanks0 ⋅ SpellsShown ls)) (Lead (is_none ls)) (SpellsLiteral l) (Shows x ⋅ (Blanks0 ⋅ SpellsShown (ls ++ l ∷ []))) p (shown_more x ls l) h), some_literal ls l)
  worded _ _ ls name p i b h = tt

  -- ---- a `:`, and the end of the line
  abbrev Joined : Option ConclusionWords → List Letter → Type 0
  Joined None p = Unit {0}
  Joined (Some k) p = After k p × (joined k ≡ true)

  before_colon : (P : Language) (p : List Letter) → (Blanks1 ⋅ (P ⋅ Empty) ⋅ Colon) p → (Blanks1 ⋅ (P ⋅ Colon)) p
  before_colon P p h = after_it Blanks1 (P ⋅ Empty ⋅ Colon) (P ⋅ Colon) p (λ q k. inside (P ⋅ Empty) P Colon q (nil_last P) k) (regroup Blanks1 (P ⋅ Empty) Colon p h)

  joins_on : (c : Concluding) (ls : List Literal) (p : List Letter) → IsBare c ls → (Text c ls ⋅ Colon) p → Joined ((conclusion_grammar limit top).colon (words c ls)) p
  joins_on (Concluding.Unsat None) ls p b h = ((b, before_colon (Bytes unsat_word) p h), refl)
  joins_on (Concluding.Lower lower None) ls p b h = ((b, before_colon (LowerText lower) p h), refl)
  joins_on (Concluding.Shows x) ls p b h = rw (b refl) (((λ k. refl), regroup Blanks1 (Shows x) Colon p h), refl)
  joins_on _ ls p b h = tt

  -- the words as a conclusion
  abbrev Ended : Option Conclusion → List Letter → Type 0
  Ended None p = Unit {0}
  Ended (Some e) p = SpellsConclusionLine limit top e p

  showing_none : (x : Showing) (q : List Letter) → Shows x q → SpellsConclusion limit top (showing_value x None) q
  showing_none Showing.Sat q h = none_yet (Shows Showing.Sat) Empty q refl h
  showing_none (Showing.Bounds lower id upper) q h = none_yet (Shows (Showing.Bounds lower id upper)) Empty q refl h

  showing_some : (x : Showing) (ls : List Literal) (q : List Letter) → (Shows x ⋅ LiteralsShown (Some ls)) q → SpellsConclusion limit top (showing_value x (Some ls)) q
  showing_some Showing.Sat ls q h = h
  showing_some (Showing.Bounds lower id upper) ls q h = h

  line_of : (B : Language) (e : Conclusion) (p : List Letter) → ((q : List Letter) → B q → SpellsConclusion limit top e q) → (Blanks1 ⋅ B ⋅ LineEnd) p → SpellsConclusionLine limit top e p
  line_of B e p f h = inside (Blanks1 ⋅ B) (Blanks1 ⋅ SpellsConclusion limit top e) LineEnd p (λ q k. after_it Blanks1 B (SpellsConclusion limit top e) q f k) h

  ended : (c : Concluding) (ls : List Literal) (p : List Letter) → (Text c ls ⋅ LineEnd) p → Ended (value c ls) p
  ended Concluding.NoClaim ls p h = h
  ended (Concluding.Unsat id) ls p h = h
  ended (Concluding.Shows x) ls p h = line_of (Shows x) (showing_value x None) p (showing_none x) h
  ended (Concluding.Shown x) ls p h = line_of (Shows x ⋅ LiteralsShown (Some ls)) (showing_value x (Some ls)) p (showing_some x ls) h
  ended _ ls p h = tt

  -- a fact beside the first part of a text
  beside : (A : Type 0) (P Q R : Language) (p : List Letter) → ((λ t. A × P t) ⋅ Q ⋅ R) p → A × (P ⋅ Q ⋅ R) p
  beside A P Q R p (a, b, e, (c, d, f, (x, h), i), k) = (x, (a, b, e, (c, d, f, h, i), k))

  beside2 : (A : Type 0) (P Q : Language) (p : List Letter) → ((λ t. A × P t) ⋅ Q) p → A × (P ⋅ Q) p
  beside2 A P Q p (a, b, e, (x, h), i) = (x, (a, b, e, h, i))

  -- a word in capital letters begins with its byte
  spelled : (w v : Capital) (n b : ℕ) → take 1 (capital_bytes w) ≡ n ∷ [] → nat_eq b n ≡ true → Some w ≡ Some v → FirstByte v b
  spelled w v n b f e g = subst (λ x. FirstByte x b) (same_Some w v g) (f ∙ ap (λ x. x ∷ []) (sym (eqb-true b n e)))

  first_byte : (c : Concluding) (b : ℕ) (v : Capital) → capital c b ≡ Some v → FirstByte v b
  first_byte Concluding.Start b v =
      let Q : Option Capital → Type 0 = λ o. o ≡ Some v → FirstByte v b in
      cond_both (nat_eq b 78) _ _ Q (spelled Capital.NoClaim v 78 b refl) (λ _.
      cond_both (nat_eq b 85) _ _ Q (spelled Capital.Unsat v 85 b refl) (λ _.
      cond_both (nat_eq b 83) _ _ Q (spelled Capital.Sat v 83 b refl) (λ _. cond_both (nat_eq b 66) _ _ Q (spelled Capital.Bounds v 66 b refl) (λ _ g. cc))))
  first_byte Concluding.Bounded b v = cond_both (nat_eq b 73) _ _ (λ o. o ≡ Some v → FirstByte v b) (spelled Capital.Infinity v 73 b refl) (λ _ g. cc)
  first_byte (Concluding.Lower lower id) b v = cond_both (nat_eq b 73) _ _ (λ o. o ≡ Some v → FirstByte v b) (spelled Capital.Infinity v 73 b refl) (λ _ g. cc)
  first_byte _ b v = λ g. cc

  pub conclusion_spelled : IsSpelled (conclusion_grammar limit top) joined After (SpellsConclusionLine limit top)
  conclusion_spelled = record {
    first = ((λ k. refl), refl);
    apart = refl;
    word = λ s k w name p n e h.
        let (b, t) = beside (IsBare s.concluding s.literals) (Text s.concluding s.literals) (Lead (joined s)) (WordText w name) p h in
        subst (λ x. Worded x p) e (worded s.concluding w s.literals name p n b t);
    colon = λ s k p e h.
        let (b, t) = beside2 (IsBare s.concluding s.literals) (Text s.concluding s.literals) Colon p h in
        subst (λ x. Joined x p) e (joins_on s.concluding s.literals p b t);
    capital = λ s b w e. first_byte s.concluding b w e;
    whole = λ s v p e h.
        let (b, t) = beside2 (IsBare s.concluding s.literals) (Text s.concluding s.literals) LineEnd p h in
        subst (λ x. Ended x p) e (ended s.concluding s.literals p t);
  }
