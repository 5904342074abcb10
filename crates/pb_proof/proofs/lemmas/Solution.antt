-- What the machine for literals reads.
use Rattle.pb_proof.proofs.Common.{ℕ, ◌≡◌, ◌++◌, ◌∷◌, [], Blanks1, false, List, refl, same_Some, Some, subst, ◌⋅◌, Letter, Listed, Literal, literal, ReadsStatement}
use Rattle.pb_proof.proofs.Common.{reads_after, Walks, solution_automaton, solution_first, solution_last, SpellsLiteral, SpellsLiterals}
use Rattle.pb_proof.proofs.Common.{◌∙◌, ◌↔◌, ◌<◌, ◌^◌, after_it, ap, asks_after, AsksLiteral, at_name, bytes, bytes-append, false≢true, IsOfOne, IsState, Language, LiteralOf, sym, true}
use Rattle.pb_lines.proofs.lemmas.TextEnds.{literal_end}
use Rattle.pb_proof.proofs.lemmas.Listed.{listed_append, listed_walks}
use Rattle.pb_lines.proofs.lemmas.Asks.{MayAsk, in_name, at_end, at_mark, words_asked}
use Rattle.pb_lines.proofs.lemmas.Theorems.{words_first_in_order, words_is_state, words_of_one, words_reads}
use Rattle.pb_lines.proofs.lemmas.Spelling.{IsSpelled}
use Rattle.pb_lines.proofs.lemmas.Walks.{ends_line, first_after, further, IsAfter, literal_led}
use Rattle.pb_proof.specs.declared.line.solution.SolutionWords.{SolutionWords}
use Rattle.pb_lines.specs.declared.Word.{Word}
use Rattle.pb_proof.specs.engine.line.Literals.{is_literal}
use Rattle.pb_proof.specs.engine.line.SolutionLaws.{solution_counted, solution_lawful}
use Rattle.pb_lines.specs.engine.Words.{IsWordsInOrder}
use Rattle.pb_proof.specs.engine.line.Solution.{AllGood, solution_grammar, solution_words}
use Rattle.pb_lines.specs.engine.Words.{WordsState}
use Rattle.pb_lines.specs.engine.WordTexts.{Lead, WordText}

-- the literals, with blanks before each
abbrev Row : SolutionWords → List Letter → Type 0
Row s = Listed SpellsLiteral s.literals

module _ (limit top : ℕ) where
  worded : (s k : SolutionWords) (w : Word) (name : List ℕ) (p : List Letter) → (solution_grammar limit top).next s w name ≡ Some k → (Row s ⋅ Lead false ⋅ WordText w name) p → Row k p
  worded s k (Word.Literal negated) name p e h = subst (λ x. Row x p) (same_Some _ _ e) (listed_append SpellsLiteral s.literals (literal negated name) p h)
  worded s k _ name p e h = cc

  pub solution_spelled : IsSpelled (solution_grammar limit top) (λ s. false) Row (SpellsLiterals limit top)
  solution_spelled = record {
    first = refl;
    apart = refl;
    word = λ s k w name p n e h. (worded s k w name p e h, refl);
    colon = λ s k p e h. cc;
    capital = λ s b c e. cc;
    whole = λ s e p i h. subst (λ x. SpellsLiterals limit top x p) (same_Some _ _ i) h;
  }

  -- the machine reads each row of literals
  abbrev Follows : List Literal → WordsState SolutionWords → Type 0
  Follows ls i = IsAfter solution_grammar limit top (solution_words ls) i

  one_more : (ls : List Literal) (l : Literal) (i : WordsState SolutionWords) (t : List Letter) → Follows ls i → (Blanks1 ⋅ SpellsLiteral l) t
      → (next : WordsState SolutionWords) × Walks solution_automaton i t next × Follows (ls ++ l ∷ []) next
  one_more ls l i t h k =
      further solution_grammar limit top (solution_words ls) (solution_words (ls ++ l ∷ [])) i (SpellsLiteral l) t h
      (λ u q. literal_led solution_grammar limit top (solution_words ls) (solution_words (ls ++ l ∷ [])) l.negated l.name u (record { literal = refl; plain = λ b. refl }) refl q) k

  pub solution_each : (ls : List Literal) (t : List Letter) → SpellsLiterals limit top ls t → ReadsStatement solution_automaton (solution_first limit top) t ls (solution_last limit top)
  solution_each ls t (a, b, e, p, q) =
      let (mid, w, i) = listed_walks SpellsLiteral solution_automaton Follows one_more [] ls (solution_first limit top) a (first_after solution_grammar limit top) p in
      subst (λ x. ReadsStatement solution_automaton (solution_first limit top) x ls (solution_last limit top)) (sym e)
      (reads_after solution_automaton a b (solution_first limit top) mid (solution_last limit top) ls w (ends_line solution_grammar limit top (solution_words ls) mid ls b i refl q))

pub solution_of_one : IsOfOne solution_automaton (IsWordsInOrder solution_grammar AllGood) (λ i. solution_last i.limit i.top)
solution_of_one = words_of_one solution_grammar AllGood solution_lawful solution_counted

-- A new machine reads exactly the literals.
pub solution_reads : (limit top : ℕ) (text : List Letter) (e : List Literal) (after : WordsState SolutionWords) →
    ReadsStatement solution_automaton (solution_first limit top) text e after ↔ (SpellsLiterals limit top e text × (after ≡ solution_last limit top))
solution_reads limit top text e after =
    words_reads solution_grammar AllGood solution_lawful solution_counted (λ limit top s. false) (λ limit top. Row) SpellsLiterals solution_spelled limit top text e after (solution_each limit top e text)

pub solution_is_state : (i : WordsState SolutionWords) → IsWordsInOrder solution_grammar AllGood i → IsState solution_automaton i
solution_is_state = words_is_state solution_grammar AllGood solution_lawful solution_counted

pub solution_first_in_order : (limit top : ℕ) → limit < 2 ^ 127 → top < 2 ^ 63 → 0 < top → IsWordsInOrder solution_grammar AllGood (solution_first limit top)
solution_first_in_order = words_first_in_order solution_grammar AllGood solution_lawful solution_counted

-- a byte after a literal
pub literal_asked : (P : Language) (w : Word) (name : List ℕ) (t : List Letter) (b : ℕ) → is_literal w ≡ true → (P ⋅ WordText w name) t → (P ⋅ (λ r. AsksLiteral (bytes r) b)) t
literal_asked P (Word.Literal negated) name t b e h =
    after_it P (LiteralOf negated name) (λ r. AsksLiteral (bytes r) b) t
    (λ q k. at_name (bytes q) name b (literal_end (λ x. x ≡ []) negated name q ([], q, refl, refl, k.1)) k.0) h
literal_asked P _ name t b e h = absurd (false≢true e)

later : (P : Language) (t : List Letter) (b : ℕ) → (P ⋅ (λ r. AsksLiteral (bytes r) b)) t → AsksLiteral (bytes t) b
later P t b (u, r, e, p, a) = subst (λ (x : List ℕ). AsksLiteral x b) (sym (ap bytes e ∙ bytes-append u r)) (asks_after (bytes u) (bytes r) b a)

may_ask : (limit top : ℕ) (s : SolutionWords) (t : List Letter) (b : ℕ) → MayAsk solution_grammar (λ limit top s. false) (λ limit top. Row) SpellsLiterals solution_spelled limit top s t b → AsksLiteral (bytes t) b
may_ask limit top s t b (in_name h e) = later (Row s ⋅ Blanks1) t b h
may_ask limit top s t b (at_end w name a l h e) = later (Row s ⋅ Blanks1) t b (literal_asked (Row s ⋅ Blanks1) w name t b a h)
may_ask limit top s t b (at_mark a h d l) = absurd (false≢true a)

pub solution_asked : (limit top : ℕ) (t : List Letter) (i : WordsState SolutionWords) (b : ℕ) → Walks solution_automaton (solution_first limit top) t i → solution_automaton.asks i b ≡ true → AsksLiteral (bytes t) b
solution_asked limit top t i b w h =
    may_ask i.limit i.top i.words t b (words_asked solution_grammar (λ limit top s. false) (λ limit top. Row) SpellsLiterals solution_spelled limit top t i b w h)
