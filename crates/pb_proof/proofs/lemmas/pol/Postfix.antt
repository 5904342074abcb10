-- Postfix words determine their expression, and leave one. Offered to other crates.
use Rattle.pb_proof.proofs.Common.{ℕ, ◌++◌, ◌∷◌, ◌≡◌, [], append-nil, append_assoc, arith, length, List, refl, suc, PolWord, Add, Axiom, Divide, Id, Multiply}
use Rattle.pb_proof.proofs.Common.{Saturate, Weaken, Constraint, IsPostfix, LiteralAxiom, Product, Quotient, Saturation, Sum, Tree, Weakening, words, ◌∙◌, ap}
use Rattle.pb_proof.proofs.Common.{sym, ◌↔◌, ◌+◌, ◌-◌, ◌≤◌, None, Option, Some}
use Rattle.pb_proof.specs.contract.Leaving.{Leaves, takes, WordsReport, WordsLeaveOne}
use Rattle.pb_proof.specs.engine.line.Finished.{finished_with}

abbrev Given : Option ℕ → (ℕ → Type 0) → Type 0
Given None P = ⊥
Given (Some n) P = P n

-- from `d` finished expressions, these words lead to one
abbrev pub Counts : ℕ → List PolWord → Type 0
Counts d [] = d ≡ 1
Counts d (w ∷ ws) = Given (finished_with d w) (λ n. Counts n ws)

-- the words of a stack of expressions, the newest first
abbrev stacked : List Tree → List PolWord
stacked [] = []
stacked (a ∷ below) = stacked below ++ words a

tree_counts : (a : Tree) (d : ℕ) (ws : List PolWord) → Counts (suc d) ws → Counts d (words a ++ ws)
tree_counts (Constraint id) d ws h = h
tree_counts (LiteralAxiom literal) d ws h = h
tree_counts (Sum a b) d ws h = simp append_assoc (tree_counts a d _ (tree_counts b (suc d) _ h))
tree_counts (Product a k) d ws h = rw append_assoc (tree_counts a d _ h)
tree_counts (Quotient a k) d ws h = rw append_assoc (tree_counts a d _ h)
tree_counts (Saturation a) d ws h = rw append_assoc (tree_counts a d _ h)
tree_counts (Weakening a name) d ws h = rw append_assoc (tree_counts a d _ h)

-- with such a stack below, these words end in one expression
counts_tree : (ws : List PolWord) (below : List Tree) → Counts (length below) ws → (tree : Tree) × (stacked below ++ ws ≡ words tree)
counts_tree [] [] h = absurd (omega arith)
counts_tree [] (a ∷ []) h = (a, simp append-nil)
counts_tree [] (a ∷ b ∷ below) h = absurd (omega arith)
counts_tree (Id id ∷ ws) below h = let r = counts_tree ws (Constraint id ∷ below) h in (r.0, simp append_assoc at r.1)
counts_tree (Axiom l ∷ ws) below h = let r = counts_tree ws (LiteralAxiom l ∷ below) h in (r.0, simp append_assoc at r.1)
counts_tree (Add ∷ ws) (b ∷ a ∷ below) h = let r = counts_tree ws (Sum a b ∷ below) h in (r.0, simp append_assoc (simp append_assoc at r.1))
counts_tree (Multiply k ∷ ws) (a ∷ below) h = let r = counts_tree ws (Product a k ∷ below) h in (r.0, simp append_assoc (simp append_assoc at r.1))
counts_tree (Divide k ∷ ws) (a ∷ below) h = let r = counts_tree ws (Quotient a k ∷ below) h in (r.0, simp append_assoc (simp append_assoc at r.1))
counts_tree (Saturate ∷ ws) (a ∷ below) h = let r = counts_tree ws (Saturation a ∷ below) h in (r.0, simp append_assoc (simp append_assoc at r.1))
counts_tree (Weaken k ∷ ws) (a ∷ below) h = let r = counts_tree ws (Weakening a k ∷ below) h in (r.0, simp append_assoc (simp append_assoc at r.1))
counts_tree _ _ h = absurd h

-- the words of an expression, and no others, lead from 0 to 1
pub postfix_counts : (ws : List PolWord) → IsPostfix ws → Counts 0 ws
postfix_counts ws (tree, e) = let h : Counts 0 (words tree ++ []) = tree_counts tree 0 [] refl in rw e (simp append-nil at h)

pub counts_postfix : (ws : List PolWord) → Counts 0 ws → IsPostfix ws
counts_postfix ws h = counts_tree ws [] h

-- ---- expressions on a stack

-- a word applied to a stack of expressions, the last one first
pub one_word : PolWord → List Tree → List Tree
one_word (Id id) ts = Constraint id ∷ ts
one_word (Axiom l) ts = LiteralAxiom l ∷ ts
one_word Add (b ∷ a ∷ ts) = Sum a b ∷ ts
one_word (Multiply k) (a ∷ ts) = Product a k ∷ ts
one_word (Divide k) (a ∷ ts) = Quotient a k ∷ ts
one_word Saturate (a ∷ ts) = Saturation a ∷ ts
one_word (Weaken name) (a ∷ ts) = Weakening a name ∷ ts
one_word _ _ = []

pub built : List PolWord → List Tree → List Tree
built [] ts = ts
built (w ∷ ws) ts = built ws (one_word w ts)

pub built_then : (xs ys : List PolWord) (ts : List Tree) → built (xs ++ ys) ts ≡ built ys (built xs ts)
unfolding built
built_then [] ys ts = refl
built_then (x ∷ xs) ys ts = built_then xs ys (one_word x ts)

pub built_words : (t : Tree) (ts : List Tree) → built (words t) ts ≡ t ∷ ts
unfolding built one_word
built_words (Sum a b) ts =
    built_then (words a ++ words b) (Add ∷ []) ts
    ∙ ap (built (Add ∷ [])) (built_then (words a) (words b) ts ∙ ap (built (words b)) (built_words a ts) ∙ built_words b (a ∷ ts))
built_words (Product a k) ts = built_then (words a) (Multiply k ∷ []) ts ∙ ap (built (Multiply k ∷ [])) (built_words a ts)
built_words (Quotient a k) ts = built_then (words a) (Divide k ∷ []) ts ∙ ap (built (Divide k ∷ [])) (built_words a ts)
built_words (Saturation a) ts = built_then (words a) (Saturate ∷ []) ts ∙ ap (built (Saturate ∷ [])) (built_words a ts)
built_words (Weakening a name) ts = built_then (words a) (Weaken name ∷ []) ts ∙ ap (built (Weaken name ∷ [])) (built_words a ts)
built_words _ ts = refl

pub words_report : WordsReport
words_report t u e =
    let same : t ∷ [] ≡ u ∷ [] = sym (built_words t []) ∙ ap (λ (ws : List PolWord). built ws []) e ∙ built_words u [] in cc

-- a word leads on if and only if it finds the expressions that it takes
word_leaves : (d : ℕ) (w : PolWord) (ws : List PolWord) → Counts d (w ∷ ws) ↔ ((takes w ≤ d) × Counts (d + 1 - takes w) ws)
word_leaves d w ws = grind arith

counts_leave : (d : ℕ) (ws : List PolWord) → Counts d ws ↔ Leaves d ws
counts_leave d [] = ((λ h. h), (λ h. h))
counts_leave d (w ∷ ws) = grind (arith, word_leaves, counts_leave (d + 1 - takes w) ws)

pub words_leave_one : WordsLeaveOne
words_leave_one ws = ((λ h. (counts_leave 0 ws).0 (postfix_counts ws h)), (λ h. counts_postfix ws ((counts_leave 0 ws).1 h)))

-- Words are those of one expression if and only if they lead from no finished expression to one.
pub postfix_leads : (ws : List PolWord) → IsPostfix ws ↔ Counts 0 ws
postfix_leads ws = (postfix_counts ws, counts_postfix ws)
