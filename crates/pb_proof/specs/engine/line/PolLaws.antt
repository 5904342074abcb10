-- Postfix words satisfy the laws of a grammar.
use Rattle.pb_proof.specs.declared.line.pol.held.Held.{Held}
use Rattle.pb_lines.specs.declared.part.Part.{Part}
use Rattle.pb_lines.specs.declared.Sign.{Sign}
use Rattle.pb_proof.specs.declared.word.PolWord.{PolWord}
use Rattle.pb_lines.specs.contract.Laws.{IsCounted, IsGrammar}
use Rattle.pb_lines.specs.engine.Words.{words_at, WordsState}
use Rattle.pb_proof.specs.engine.line.Pol.{PolState, pol_at, pol_grammar, pol_automaton, pol_last, bound, is_free, most, with_number, sums as is_sum, saturates, turned, turns, with_last, with_mark, word_units, units}
use Rattle.pb_text.proofs.lemmas.machine.Living.{ReadsOn, reads_before}
use Rattle.pb_text.specs.{contract.Automaton.End, contract.Automaton.Go}
use Rattle.std.proofs.Common.{arith, ℕ, zero, suc, ◌+◌, ◌-◌, ◌<◌, ◌≤◌, ◌≡◌, List, [], ◌∷◌, ◌++◌, Bool, true, false, cond, sym, subst, refl, inl, Option, Some, None, nat_le, nat_eq}
use Rattle.std.proofs.Math.Nat.{le-max_right}
use Rattle.std.proofs.lemmas.Bool.{le-leb, false≢true, Decides.nat_tests}
use Rattle.std.specs.Prelude.{is_some}

-- Nothing else has to hold of words on the way.
abbrev pub Anyhow : ℕ → ℕ → PolState → Type 0
Anyhow limit top s = Unit {0}

-- What is stored grows with the text.
pub units_append : (ws : List PolWord) (w : PolWord) → units (ws ++ w ∷ []) ≡ units ws + word_units w
units_append [] w = omega arith
units_append (x ∷ ws) w = omega (arith, units_append ws w)

turned_units : (b : ℕ) (w : PolWord) → word_units (turned b w) ≤ word_units w
turned_units b w = grind (arith, nat_eq)

units_last : (b : ℕ) (ws : List PolWord) → units (with_last (turned b) ws) ≤ units ws
units_last b [] = omega arith
units_last b (w ∷ []) = let i = turned_units b w in omega (arith, i)
units_last b (w ∷ v ∷ ws) = let i = units_last b (v ∷ ws) in omega (arith, i)

-- the outcomes of a test
pub tested : (P : PolState → Type 0) (b : Bool) (x : PolState) (rest : Option PolState) → (b ≡ true → P x) → ((k : PolState) → rest ≡ Some k → P k) → (k : PolState) → cond b (Some x) rest ≡ Some k → P k
tested P b x rest h others k e = grind (arith, h, others)

mark_grows : (s k : PolState) (b : ℕ) → with_mark s b ≡ Some k → units k.words ≤ units s.words + 1
mark_grows s k b e =
    let u = units_last b s.words in
    tested (λ x. units x.words ≤ units s.words + 1) (turns s.held b) _ _ (λ _. omega (arith, u))
    (tested (λ x. units x.words ≤ units s.words + 1) (is_sum s b) _ _ (λ _. omega (arith, units_append s.words PolWord.Add))
    (tested (λ x. units x.words ≤ units s.words + 1) (saturates s b) _ _ (λ _. omega (arith, units_append s.words PolWord.Saturate)) (λ x f. cc f))) k e

-- a number may be the next word
most_some : (limit top d : ℕ) → 0 < top → 0 < bound limit top d
most_some limit top d h = let i = le-max_right limit top in grind (arith, i)

not_none : (limit top : ℕ) (s : PolState) (sign : Sign) (n : ℕ) → 0 < n → is_some (cond (nat_eq n 0) None (Some (with_number limit top s sign n))) ≡ true
not_none limit top s sign n h = grind (arith, nat_tests)

most_given : (limit top d : ℕ) (b : Bool) (sign : Sign) (n : ℕ) → 0 < top → cond b (most limit top d sign) None ≡ Some n → 0 < n
most_given limit top d b sign n h e = grind (arith, most_some)

module _ (limit top : ℕ) where
  abbrev gap : List PolWord → ℕ → Held → WordsState PolState
  gap ws d h = words_at pol_grammar limit top (pol_at ws d h) [] Part.Gap

  abbrev Alive : WordsState PolState → Type 0
  Alive = ReadsOn pol_automaton

  -- an operator that is no letter, and a blank
  marked : (s : PolState) (b : ℕ) (k : PolState) → pol_automaton.step (words_at pol_grammar limit top s [] Part.Gap) b ≡ Go (words_at pol_grammar limit top k [] Part.Symbol)
      → Alive (words_at pol_grammar limit top k [] Part.Gap) → Alive (words_at pol_grammar limit top s [] Part.Gap)
  marked s b k e h =
      reads_before pol_automaton (words_at pol_grammar limit top s [] Part.Gap) (words_at pol_grammar limit top k [] Part.Symbol) b e refl
      (reads_before pol_automaton (words_at pol_grammar limit top k [] Part.Symbol) (words_at pol_grammar limit top k [] Part.Gap) 32 refl refl h)

  at_end : (s : WordsState PolState) (ws : List PolWord) → pol_automaton.step s 10 ≡ End ws (pol_last limit top) → Alive s
  at_end s ws e = (record { byte = 10; numeral = false } ∷ [], ws, pol_last limit top, (e, refl))

  sums_next : (h : Held) (ws : List PolWord) (d : ℕ) → is_free h ≡ true → nat_le 2 d ≡ true
      → pol_automaton.step (gap ws d h) 43 ≡ Go (words_at pol_grammar limit top (pol_at (ws ++ PolWord.Add ∷ []) (d - 1) Held.Nothing) [] Part.Symbol)
  sums_next Held.Large ws d f t = absurd (false≢true f)
  sums_next h ws d f t = rw t refl

  alive : (d : ℕ) (ws : List PolWord) (h : Held) → is_free h ≡ true → Alive (gap ws d h)
  alive zero ws h f =
      let literal : PolWord = PolWord.Axiom (record { negated = false; name = 97 ∷ 97 ∷ [] }) in
      let s : PolState = pol_at ws 0 h in
      let letter : WordsState PolState = words_at pol_grammar limit top s (97 ∷ []) (Part.Letter 97) in
      let name : WordsState PolState = words_at pol_grammar limit top s (97 ∷ 97 ∷ []) (Part.Name false) in
      reads_before pol_automaton (gap ws 0 h) letter 97 (rw f refl) refl
      (reads_before pol_automaton letter name 97 (rw f refl) refl (at_end name (ws ++ literal ∷ []) (rw f refl)))
  alive (suc zero) ws h f = at_end (gap ws 1 h) ws refl
  alive (suc (suc d)) ws h f =
      let less : suc (suc d) - 1 ≡ suc d = omega arith in
      let more : List PolWord = ws ++ PolWord.Add ∷ [] in
      marked (pol_at ws (suc (suc d)) h) 43 (pol_at more (suc (suc d) - 1) Held.Nothing) (sums_next h ws (suc (suc d)) f (le-leb 2 (suc (suc d)) (omega arith)))
      (subst (λ n. Alive (gap more n Held.Nothing)) (sym less) (alive (suc d) more Held.Nothing refl))

  held_alive : (h : Held) (ws : List PolWord) (d : ℕ) → Alive (gap ws d h)
  held_alive Held.Large ws d =
      marked (pol_at ws d Held.Large) 42 (pol_at (with_last (turned 42) ws) (d - 1) Held.Nothing) refl
      (alive (d - 1) (with_last (turned 42) ws) Held.Nothing refl)
  held_alive h ws d = alive d ws h refl

  pub pol_lawful : 0 < top → IsGrammar pol_grammar limit top (Anyhow limit top)
  pol_lawful some = record {
    begins = tt;
    goes = λ s k w name g i e. tt;
    colons = λ s k g e. tt;
    leads = λ s g. held_alive s.held s.words s.depth;
    number = λ s sign n g e. (inl (most_given limit top s.depth (is_free s.held) sign n some e), λ m name h l. not_none limit top s sign m h);
    literal = λ s e negated name. grind (arith);
    capital = λ s b c name e. cc e;
    digits = λ s sign n name other. refl;
    mark = λ s b name other. refl;
  }

pub pol_counted : (limit top : ℕ) → IsCounted (pol_grammar limit top)
pol_counted limit top = record {
  empty = refl;
  grows = λ s k w name e. grind (arith, units_append, mark_grows);
  same = λ s k e. cc e;
}
