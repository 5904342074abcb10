-- What the machine for conclusions reads, and where it may allocate.
use Rattle.pb_proof.proofs.Common.{ℕ, ◌≡◌, ◌∙◌, ◌++◌, ◌∷◌, [], ◌↔◌, ◌<◌, ◌^◌, ◌||◌, ap, append_assoc, true, false, false≢true, and_parts, List, None, Option, refl, same_Some, Some, subst, sym}
use Rattle.pb_proof.proofs.Common.{◌⋅◌, Blanks0, Blanks1, bytes, bytes-append, Language, Letter, unmarked, Go, End, IsOfOne, IsState, Keeps, Next, On, ReadsStatement, reported, Walks}
use Rattle.pb_proof.proofs.Common.{asks_after, AsksConclusion, AsksLiteral, AsksShown, Conclusion, Literal, SpellsShown, SpellsConclusionLine}
use Rattle.pb_proof.proofs.Common.{conclusion_automaton, conclusion_first, conclusion_last}
use Rattle.pb_proof.proofs.lemmas.conclusion.{Complete.conclusion_each, Spelling.After, Spelling.conclusion_spelled, Spelling.joined, Spelling.Shows, Spelling.Text}
use Rattle.pb_proof.proofs.lemmas.Solution.{literal_asked}
use Rattle.pb_lines.proofs.lemmas.Asks.{MayAsk, in_name, at_end, at_mark, words_asked}
use Rattle.pb_lines.proofs.lemmas.Theorems.{words_first_in_order, words_is_state, words_of_one, words_reads}
use Rattle.pb_proof.specs.declared.line.{conclusion.Concluding.Concluding, conclusion.ConclusionWords.ConclusionWords, conclusion.Showing.Showing}
use Rattle.pb_lines.specs.declared.part.Part.{Part}
use Rattle.pb_lines.specs.declared.part.Step.{Step}
use Rattle.pb_lines.specs.declared.Word.{Word}
use Rattle.pb_proof.specs.engine.line.Conclusion.{AllGood, conclusion_grammar, conclusion_words as words, showing_value, takes_literal, value, with_colon}
use Rattle.pb_lines.specs.contract.Grammar.{Grammar, follow, with_word}
use Rattle.pb_proof.specs.engine.line.ConclusionLaws.{conclusion_lawful, conclusion_counted}
use Rattle.pb_proof.specs.engine.line.Literals.{is_literal}
use Rattle.pb_lines.specs.engine.WordTexts.{Lead}
use Rattle.pb_lines.specs.engine.Words.{act, if_some, IsWordsInOrder, step_at, words_at, WordsState}
use Rattle.std.specs.Prelude.{is_some, option_map}

pub conclusion_of_one : IsOfOne conclusion_automaton (IsWordsInOrder conclusion_grammar AllGood) (λ i. conclusion_last i.limit i.top)
conclusion_of_one = words_of_one conclusion_grammar AllGood conclusion_lawful conclusion_counted

-- A new machine reads exactly the conclusions.
pub conclusion_reads : (limit top : ℕ) (text : List Letter) (e : Conclusion) (after : WordsState ConclusionWords) →
    ReadsStatement conclusion_automaton (conclusion_first limit top) text e after ↔ (SpellsConclusionLine limit top e text × (after ≡ conclusion_last limit top))
conclusion_reads limit top text e after =
    words_reads conclusion_grammar AllGood conclusion_lawful conclusion_counted joined After SpellsConclusionLine conclusion_spelled limit top text e after (conclusion_each limit top e text)

pub conclusion_is_state : (i : WordsState ConclusionWords) → IsWordsInOrder conclusion_grammar AllGood i → IsState conclusion_automaton i
conclusion_is_state = words_is_state conclusion_grammar AllGood conclusion_lawful conclusion_counted

pub conclusion_first_in_order : (limit top : ℕ) → limit < 2 ^ 127 → top < 2 ^ 63 → 0 < top → IsWordsInOrder conclusion_grammar AllGood (conclusion_first limit top)
conclusion_first_in_order = words_first_in_order conclusion_grammar AllGood conclusion_lawful conclusion_counted

-- Where the machine may allocate: once literals are given, what is read is a conclusion with literals.
module _ (x : Showing) where
  abbrev Gives : WordsState ConclusionWords → Language
  Gives i p = i.words.concluding ≡ Concluding.Shown x

  abbrev Given : Conclusion → WordsState ConclusionWords → Language
  Given e after p = (ls : List Literal) × (e ≡ showing_value x (Some ls))

  module _ (i : WordsState ConclusionWords) (l : Letter) (p : List Letter) where
    abbrev Fine : Next (WordsState ConclusionWords) Conclusion → Type 0
    Fine n = On conclusion_automaton Gives Given n l p

    each_some : {A : Type 0} (o : Option A) (f : A → Next (WordsState ConclusionWords) Conclusion) → ((a : A) → o ≡ Some a → Fine (f a)) → Fine (if_some o f)
    each_some None f h = tt
    each_some (Some a) f h = h a refl

    abbrev g : Grammar ConclusionWords Conclusion
    g = conclusion_grammar i.limit i.top

    abbrev Still : Option ConclusionWords → Type 0
    Still None = Unit {0}
    Still (Some k) = k.concluding ≡ Concluding.Shown x

    kept : (ls : List Literal) (w : Word) (name : List ℕ) → Still (g.next (words (Concluding.Shown x) ls) w name)
    kept ls (Word.Literal negated) name = refl
    kept ls _ name = tt

    next_gives : (s k : ConclusionWords) (w : Option Word) (name : List ℕ) → s.concluding ≡ Concluding.Shown x → with_word g s w name ≡ Some k → k.concluding ≡ Concluding.Shown x
    next_gives s k None name h e = subst (λ y. y.concluding ≡ Concluding.Shown x) (same_Some _ _ e) h
    next_gives s k (Some w) name h e = subst Still e (subst (λ c. Still (g.next (words c s.literals) w name)) (sym h) (kept s.literals w name))

    value_gives : (s : ConclusionWords) (e : Conclusion) → s.concluding ≡ Concluding.Shown x → g.value s ≡ Some e → (ls : List Literal) × (e ≡ showing_value x (Some ls))
    value_gives s e h v = (s.literals, sym (same_Some _ _ (subst (λ c. value c s.literals ≡ Some e) h v)))

    no_colon : (s k : ConclusionWords) → s.concluding ≡ Concluding.Shown x → g.colon s ≡ Some k → ⊥
    no_colon s k h e = let f : None ≡ Some k = subst (λ c. option_map (λ d. words d s.literals) (with_colon c) ≡ Some k) h e in cc

    abbrev to : ConclusionWords → Part → Next (WordsState ConclusionWords) Conclusion
    to s q = Go (words_at conclusion_grammar i.limit i.top s [] q)

    acted : Gives i p → (b : ℕ) (m : Step) → Fine (act conclusion_grammar i b m)
    acted h b (Step.To q) = λ _ n. h
    acted h b (Step.Add q) = λ _ n. h
    acted h b (Step.End w q) = each_some (with_word g i.words w i.name) (λ s. to s q) (λ s e _ n. next_gives i.words s w i.name h e)
    acted h b (Step.Close w) =
        each_some (with_word g i.words w i.name) (λ s. if_some (g.value s) (λ v. to s Part.Closing))
        (λ s e. each_some (g.value s) (λ v. to s Part.Closing) (λ v f _ n. next_gives i.words s w i.name h e))
    acted h b (Step.Colon w) =
        each_some (with_word g i.words w i.name) (λ s. if_some (g.colon s) (λ k. to k Part.Gap))
        (λ s e. each_some (g.colon s) (λ k. to k Part.Gap) (λ k f. absurd (no_colon s k (next_gives i.words s w i.name h e) f)))
    acted h b (Step.Finish w) =
        each_some (with_word g i.words w i.name) (λ s. if_some (g.value s) (λ v. End v (conclusion_last i.limit i.top)))
        (λ s e. each_some (g.value s) (λ v. End v (conclusion_last i.limit i.top)) (λ v f n. value_gives s v (next_gives i.words s w i.name h e) f))
    acted h b Step.Stop = tt

  gives_on : Keeps conclusion_automaton Gives Given
  gives_on i l p h = acted i l (p ++ l ∷ []) h l.byte (step_at conclusion_grammar i l.byte)

-- the text of shown literals begins with a `:`
colon_first : (ls : List Literal) (q : List Letter) → SpellsShown ls q → (v : List Letter) × (q ≡ unmarked 58 ∷ v)
colon_first [] q h = ([], h)
colon_first (l ∷ ls) q (a, r, e, (b, s, f, (c, z, g, h, i), j), k) = ((z ++ s) ++ r, rw (e, f, g, h) refl)

-- the parts of a text with literals that are shown
parts : (t cd r c d s w o u z q v : List Letter) → t ≡ cd ++ r → cd ≡ c ++ d → c ≡ s ++ w → w ≡ o ++ u → u ≡ z ++ q → q ≡ unmarked 58 ∷ v → t ≡ ((s ++ o) ++ z) ++ (unmarked 58 ∷ ((v ++ d) ++ r))
parts t cd r c d s w o u z q v e f g h i j = rw (e, f, g, h, i, j) (simp append_assoc)

module _ (limit top : ℕ) where
  -- after the `:`
  within : (x : Showing) (ls : List Literal) (L : Language) (t : List Letter) (b : ℕ) → (Blanks1 ⋅ (Shows limit top x ⋅ (Blanks0 ⋅ SpellsShown ls)) ⋅ L ⋅ (λ r. AsksLiteral (bytes r) b)) t → AsksShown (bytes t) b
  within x ls L t b (cd, r, e, (c, d, f, (s, w, h, p, (o, u, i, k, (z, q, j, n, m))), y), a) =
      let (v, last) = colon_first ls q m in
      let rest : List Letter = (v ++ d) ++ r in (
        bytes ((s ++ o) ++ z),
        bytes rest,
        ap bytes (parts t cd r c d s w o u z q v e f h i j last) ∙ bytes-append ((s ++ o) ++ z) (unmarked 58 ∷ rest),
        subst (λ (x : List ℕ). AsksLiteral x b) (sym (bytes-append (v ++ d) r)) (asks_after (bytes (v ++ d)) (bytes r) b a),
      )

  -- a state that takes literals
  shown_of : (c : Concluding) → takes_literal c ≡ true → (x : Showing) × (c ≡ Concluding.Shown x)
  shown_of (Concluding.Shown x) e = (x, refl)
  shown_of _ e = absurd (false≢true e)

  -- No byte alone is a word.
  no_mark : (c : Concluding) (ls : List Literal) (b : ℕ) → (takes_literal c || is_some (follow (conclusion_grammar limit top) (words c ls) (Some (Word.Mark b)) [])) ≡ true → takes_literal c ≡ true
  no_mark (Concluding.Shown x) ls b e = refl
  no_mark _ ls b e = absurd (false≢true e)

  shown_at : (s : ConclusionWords) (x : Showing) (t : List Letter) (b : ℕ) → s.concluding ≡ Concluding.Shown x
      → (After limit top s ⋅ Lead (joined limit top s) ⋅ (λ r. AsksLiteral (bytes r) b)) t → AsksShown (bytes t) b
  shown_at s x t b e (u, r, f, (v, d, g, (bare, text), l), a) =
      within x s.literals (Lead (joined limit top s)) t b (u, r, f, (v, d, g, subst (λ c. Text limit top c s.literals v) e text, l), a)

  may_ask : (s : ConclusionWords) (t : List Letter) (b : ℕ) → MayAsk conclusion_grammar joined After SpellsConclusionLine conclusion_spelled limit top s t b
      → (x : Showing) × (s.concluding ≡ Concluding.Shown x) × AsksShown (bytes t) b
  may_ask s t b (in_name h e) =
      let (x, f) = shown_of s.concluding (no_mark s.concluding s.literals b e) in (x, f, shown_at s x t b f h)
  may_ask s t b (at_end w name a l h e) =
      let k = and_parts (takes_literal s.concluding) (is_literal w) a in
      let (x, f) = shown_of s.concluding k.0 in
      (x, f, shown_at s x t b f (literal_asked (After limit top s ⋅ Lead (joined limit top s)) w name t b k.1 h))
  may_ask s t b (at_mark a h d l) = absurd (false≢true (and_parts (takes_literal s.concluding) false a).1)

given_asks : (x : Showing) (ls : List Literal) (t : List ℕ) (b : ℕ) → AsksShown t b → AsksConclusion (showing_value x (Some ls)) t b
given_asks Showing.Sat ls t b h = h
given_asks (Showing.Bounds lower id upper) ls t b h = h

pub conclusion_asked : (limit top : ℕ) (t rest : List Letter) (l : Letter) (i next : WordsState ConclusionWords) (c : Conclusion) → Walks conclusion_automaton (conclusion_first limit top) t i
    → ReadsStatement conclusion_automaton i (l ∷ rest) c next → conclusion_automaton.asks i l.byte ≡ true → AsksConclusion c (bytes t) l.byte
conclusion_asked limit top t rest l i next c w r h =
    let m = words_asked conclusion_grammar joined After SpellsConclusionLine conclusion_spelled limit top t i l.byte w h in
    let (x, e, k) = may_ask i.limit i.top i.words t l.byte m in
    let (ls, f) = reported conclusion_automaton (Gives x) (Given x) (gives_on x) (l ∷ rest) i [] c next r e in
    subst (λ y. AsksConclusion y (bytes t) l.byte) (sym f) (given_asks x ls (bytes t) l.byte k)
