-- The grammar of conclusions satisfies the laws of grammars.
use Rattle.pb_proof.specs.declared.line.conclusion.Concluding.{Concluding}
use Rattle.pb_proof.specs.declared.line.conclusion.ConclusionWords.{ConclusionWords}
use Rattle.pb_lines.specs.declared.part.Part.{Part}
use Rattle.pb_proof.specs.declared.{conclusion.Bound.Bound, conclusion.Conclusion.Conclusion}
use Rattle.pb_lines.specs.declared.Capital.{Capital}
use Rattle.pb_lines.specs.declared.Sign.{Sign}
use Rattle.pb_lines.specs.declared.Word.{Word}
use Rattle.pb_lines.specs.contract.Laws.{IsCounted, IsGrammar, most_units}
use Rattle.pb_proof.specs.engine.line.Literals.{units, with_literal}
use Rattle.pb_proof.specs.engine.line.SolutionLaws.{units_append}
use Rattle.pb_lines.specs.engine.Words.{words_at, WordsState}
use Rattle.pb_proof.specs.engine.line.Ids.{id_most}
use Rattle.pb_proof.specs.engine.line.Conclusion.{AllGood, capital, conclusion_automaton, conclusion_grammar, conclusion_last, conclusion_words, number, showing_value, takes_literal, with_colon, with_word}
use Rattle.{pb_sums.specs.declared.Literal.Literal, pb_text.specs.contract.Automaton.Go, pb_text.specs.contract.Automaton.ReadsStatement, pb_text.specs.meaning.Languages.digit, pb_text.specs.meaning.Languages.unmarked, pb_text.specs.meaning.Spelling.Letter}
use Rattle.std.proofs.Common.{arith, refl, inl, inr, ℕ, ℤ, pos, ◌+◌, ◌≡◌, ◌≤◌, ◌<◌, ◌^◌, ◌⊎◌, Bool, true, List, [], ◌∷◌, Option, None, Some}
use Rattle.{std.proofs.lemmas.Bool.le-leb, std.proofs.lemmas.Bool.Decides.nat_tests, std.specs.Prelude.is_some, std.specs.Prelude.nat_eq, std.specs.Prelude.false}

not_zero : (n : ℕ) → 0 < n → nat_eq n 0 ≡ false
not_zero n h = grind (arith, nat_tests)

grown : (ls : List Literal) (w : Word) (name : List ℕ) → units (with_literal ls w name) ≤ units ls + most_units w name
grown ls w name = grind (arith, w, units_append)

module _ (limit top : ℕ) where
  grows : (s k : ConclusionWords) (w : Word) (name : List ℕ) → (conclusion_grammar limit top).next s w name ≡ Some k → units k.literals ≤ units s.literals + most_units w name
  grows s k w name e = grind (arith, grown, with_word s.concluding w)

  same : (s k : ConclusionWords) → (conclusion_grammar limit top).colon s ≡ Some k → units k.literals ≤ units s.literals
  same s k e = grind (arith, with_colon s.concluding)

  -- A bound may be 0, and there is an id that is not 0.
  abbrev Comes : ConclusionWords → Word → Type 0
  Comes s w = (name : List ℕ) → is_some ((conclusion_grammar limit top).next s w name) ≡ true

  most_id : (sign : Sign) (most : ℕ) → 0 < top → id_most top sign ≡ Some most → 0 < most
  most_id sign most h e = grind (arith, sign)

  numbered0 : (c : Concluding) (ls : List Literal) (sign : Sign) (most : ℕ) → 0 < top → number limit top c sign ≡ Some most → (0 < most) ⊎ Comes (conclusion_words c ls) (Word.Number sign 0)
  numbered0 Concluding.Bounded ls sign most h e = inr (λ name. refl)
  numbered0 (Concluding.Lower lower id) ls sign most h e = inr (λ name. refl)
  numbered0 Concluding.UnsatBy ls sign most h e = inl (most_id sign most h e)
  numbered0 (Concluding.LowerBy lower) ls sign most h e = inl (most_id sign most h e)
  numbered0 _ ls sign most h e = cc

  numbered : (c : Concluding) (ls : List Literal) (sign : Sign) (most n : ℕ) → number limit top c sign ≡ Some most → 0 < n → Comes (conclusion_words c ls) (Word.Number sign n)
  numbered Concluding.Bounded ls sign most n e h = λ name. refl
  numbered (Concluding.Lower lower id) ls sign most n e h = λ name. refl
  numbered Concluding.UnsatBy ls sign most n e h = λ name. rw (not_zero n h) refl
  numbered (Concluding.LowerBy lower) ls sign most n e h = λ name. rw (not_zero n h) refl
  numbered _ ls sign most n e h = cc

  literal_next : (c : Concluding) (ls : List Literal) (negated : Bool) (name : List ℕ) → takes_literal c ≡ true
      → is_some ((conclusion_grammar limit top).next (conclusion_words c ls) (Word.Literal negated) name) ≡ true
  literal_next c ls negated name e = grind (arith, c)

  captured : (s : ConclusionWords) (b : ℕ) (c : Capital) (name : List ℕ) → capital s.concluding b ≡ Some c → is_some ((conclusion_grammar limit top).next s (Word.Capital c) name) ≡ true
  captured s b c name e = grind (arith, s.concluding)

  -- Some text completes the line.
  abbrev Led : ConclusionWords → Type 0
  Led s = (text : List Letter) × (e : Conclusion) × (after : WordsState ConclusionWords) × ReadsStatement conclusion_automaton (words_at conclusion_grammar limit top s [] Part.Gap) text e after

  abbrev at : ConclusionWords → Part → WordsState ConclusionWords
  at s p = words_at conclusion_grammar limit top s [] p

  -- `INF`, where it may come
  infinity_reads : (s : ConclusionWords) → conclusion_automaton.step (at s Part.Gap) 73 ≡ Go (at s (Part.Capital Capital.Infinity 1)) → (l : Letter) (t : List Letter) (e : Conclusion) (after : WordsState ConclusionWords)
      → ReadsStatement conclusion_automaton (at s (Part.Capital Capital.Infinity 3)) (l ∷ t) e after
      → ReadsStatement conclusion_automaton (at s Part.Gap) (unmarked 73 ∷ unmarked 78 ∷ unmarked 70 ∷ l ∷ t) e after
  infinity_reads s first l t e after r =
      (at s (Part.Capital Capital.Infinity 1), first, refl, refl, (at s (Part.Capital Capital.Infinity 2), refl, refl, refl, (at s (Part.Capital Capital.Infinity 3), refl, refl, refl, r)))

  one_step : (s : ConclusionWords) → 0 < top → number limit top s.concluding Sign.Nothing ≡ Some top → conclusion_automaton.step (at s Part.Gap) 49 ≡ Go (at s (Part.Number Sign.Nothing 1))
  one_step s h e = rw (e, le-leb 1 top (omega arith)) refl

  lower_leads : (lower : Bound) (id : Option ℤ) (ls : List Literal) → Led (conclusion_words (Concluding.Lower lower id) ls)
  lower_leads lower id ls =
      let last : WordsState ConclusionWords = conclusion_last limit top in
      (unmarked 73 ∷ unmarked 78 ∷ unmarked 70 ∷ unmarked 10 ∷ [], Conclusion.Bounds lower id Bound.Infinite None, last, infinity_reads (conclusion_words (Concluding.Lower lower id) ls) refl (unmarked 10) [] (Conclusion.Bounds lower id Bound.Infinite None) last (refl, refl))

  leads : (c : Concluding) (ls : List Literal) → 0 < top → Led (conclusion_words c ls)
  leads Concluding.Start ls h = (
    unmarked 78 ∷ unmarked 79 ∷ unmarked 78 ∷ unmarked 69 ∷ unmarked 10 ∷ [],
    Conclusion.NoClaim,
    conclusion_last limit top,
    (begun 1, refl, refl, refl, (begun 2, refl, refl, refl, (begun 3, refl, refl, refl, (begun 4, refl, refl, refl, (refl, refl))))),
  )
    where
      begun : ℕ → WordsState ConclusionWords
      begun k = at (conclusion_words Concluding.Start ls) (Part.Capital Capital.NoClaim k)
  leads Concluding.UnsatBy ls h = (
    digit 1 ∷ unmarked 10 ∷ [],
    Conclusion.Unsat (Some (pos 1)),
    conclusion_last limit top,
    (at (conclusion_words Concluding.UnsatBy ls) (Part.Number Sign.Nothing 1), one_step (conclusion_words Concluding.UnsatBy ls) h refl, refl, refl, (refl, refl)),
  )
  leads (Concluding.LowerBy lower) ls h =
      let k : ConclusionWords = conclusion_words (Concluding.Lower lower (Some (pos 1))) ls in
      let last : WordsState ConclusionWords = conclusion_last limit top in
      let e : Conclusion = Conclusion.Bounds lower (Some (pos 1)) Bound.Infinite None in (
        digit 1 ∷ unmarked 32 ∷ unmarked 73 ∷ unmarked 78 ∷ unmarked 70 ∷ unmarked 10 ∷ [],
        e,
        last,
        (
          at (conclusion_words (Concluding.LowerBy lower) ls) (Part.Number Sign.Nothing 1),
          one_step (conclusion_words (Concluding.LowerBy lower) ls) h refl,
          refl,
          refl,
          (at k Part.Gap, refl, refl, refl, infinity_reads k refl (unmarked 10) [] e last (refl, refl)),
        ),
      )
  leads Concluding.Bounded ls h =
      let k : ConclusionWords = conclusion_words (Concluding.Lower Bound.Infinite None) ls in
      let last : WordsState ConclusionWords = conclusion_last limit top in
      let e : Conclusion = Conclusion.Bounds Bound.Infinite None Bound.Infinite None in
      let rest : List Letter = unmarked 73 ∷ unmarked 78 ∷ unmarked 70 ∷ unmarked 10 ∷ [] in (
        unmarked 73 ∷ unmarked 78 ∷ unmarked 70 ∷ unmarked 32 ∷ rest,
        e,
        last,
        infinity_reads (conclusion_words Concluding.Bounded ls) refl (unmarked 32) rest e last (at k Part.Gap, refl, refl, refl, infinity_reads k refl (unmarked 10) [] e last (refl, refl)),
      )
  leads (Concluding.Lower lower id) ls h = lower_leads lower id ls
  leads Concluding.NoClaim ls h = (unmarked 10 ∷ [], Conclusion.NoClaim, conclusion_last limit top, (refl, refl))
  leads (Concluding.Unsat id) ls h = (unmarked 10 ∷ [], Conclusion.Unsat id, conclusion_last limit top, (refl, refl))
  leads (Concluding.Shows x) ls h = (unmarked 10 ∷ [], showing_value x None, conclusion_last limit top, (refl, refl))
  leads (Concluding.Shown x) ls h = (unmarked 10 ∷ [], showing_value x (Some ls), conclusion_last limit top, (refl, refl))

  pub conclusion_lawful : limit < 2 ^ 127 → top < 2 ^ 63 → 0 < top → IsGrammar conclusion_grammar limit top (AllGood limit top)
  conclusion_lawful l t some = record {
    begins = tt;
    goes = λ s k w name g n e. tt;
    colons = λ s k g e. tt;
    leads = λ s g. leads s.concluding s.literals some;
    number = λ s sign most g e. (numbered0 s.concluding s.literals sign most some e, λ n name h i. numbered s.concluding s.literals sign most n e h name);
    literal = λ s e negated name. literal_next s.concluding s.literals negated name e;
    digits = λ s sign n name other. refl;
    mark = λ s b name other. refl;
    capital = captured;
  }

  pub conclusion_counted : IsCounted (conclusion_grammar limit top)
  conclusion_counted = record { empty = refl; grows = grows; same = same }
