-- Consecutive runs. Offered to other crates.
use Rattle.pb_text.proofs.Common.{arith, ℕ, ◌++◌, ◌+◌, ◌-◌, ◌<◌, ◌∙◌, ◌∷◌, ◌≡◌, [], ap, append_assoc, drop, get_or, length, length-drop, List, subst, sym, take}
use Rattle.pb_text.proofs.Common.{take-add, take-length, take_more, Automaton, Runs}

-- the whole rest after a position
pub all_rest : (piece : List ℕ) (i : ℕ) → take (length piece - i) (drop i piece) ≡ drop i piece
all_rest piece i = ap (λ n. take n (drop i piece)) (sym (length-drop i piece)) ∙ take-length (drop i piece)

-- a prefix of a piece, followed by a prefix of the rest
pub prefix_parts : (piece : List ℕ) (i j : ℕ) → take (i + j) piece ≡ take i piece ++ take j (take (length piece - i) (drop i piece))
prefix_parts piece i j = take-add i j piece ∙ ap (λ (xs : List ℕ). take i piece ++ take j xs) (sym (all_rest piece i))

-- the bytes of a piece so far, and the next one
pub one_further : (input piece : List ℕ) (i : ℕ) → i < length piece → (input ++ take i piece) ++ get_or piece i 0 ∷ [] ≡ input ++ take (i + 1) piece
one_further input piece i h = append_assoc input (take i piece) (get_or piece i 0 ∷ []) ∙ ap (λ (x : List ℕ). input ++ x) (sym (take_more piece i 0 h))

module _ {S E : Type 0} (m : Automaton S E) where
  -- a run followed by another
  pub runs_join : (old : S) (xs : List ℕ) (mid : S) (ys : List ℕ) (new : S) → Runs m old xs mid → Runs m mid ys new → Runs m old (xs ++ ys) new
  runs_join old [] mid ys new same rest = subst (λ (s : S). Runs m s ys new) same rest
  runs_join old (b ∷ xs) mid ys new (next, first, is, more) rest = (next, first, is, runs_join next xs mid ys new more rest)

  -- a run over a prefix of a piece, followed by one over a prefix of the rest
  pub runs_further : (old : S) (piece : List ℕ) (i j : ℕ) (mid new : S) → Runs m old (take i piece) mid → Runs m mid (take j (take (length piece - i) (drop i piece))) new
      → Runs m old (take (i + j) piece) new
  runs_further old piece i j mid new first rest = grind (arith, prefix_parts, runs_join)
