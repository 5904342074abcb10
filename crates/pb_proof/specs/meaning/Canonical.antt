-- The one text that is written for a proof.
use Rattle.pb_proof.specs.declared.{conclusion.Bound.Bound, conclusion.Conclusion.Conclusion, statement.Statement.Statement, word.PolWord.PolWord}
use Rattle.{pb_proof.specs.declared.proof.Proof.Proof, pb_proof.specs.meaning.Proofs.statements_of, std.specs.Fmt.signed_decimal}
use Rattle.pb_proof.specs.meaning.Lines.{pseudo_word, proof_word, version_word, two_word, f_word, pol_word, rup_word, soli_word, solx_word, del_word, id_word}
use Rattle.pb_proof.specs.meaning.Lines.{output_word, conclusion_word, end_word, none_word, unsat_word, sat_word, bounds_word, inf_word}
use Rattle.pb_sums.specs.{contract.Canonical.linear_bytes, declared.Literal.Literal, meaning.Sums.literal_bytes}
use Rattle.std.specs.Prelude.{ℕ, ℤ, List, [], ◌∷◌, ◌++◌, Option, Some, None, decimal, codes}

abbrev pub literal_line : Literal → List ℕ
literal_line l = literal_bytes l.negated l.name

abbrev pub word_bytes : PolWord → List ℕ
word_bytes (PolWord.Id id) = signed_decimal id
word_bytes (PolWord.Axiom literal) = literal_line literal
word_bytes PolWord.Add = codes "+"
word_bytes (PolWord.Multiply k) = signed_decimal k ++ codes " *"
word_bytes (PolWord.Divide k) = signed_decimal k ++ codes " d"
word_bytes PolWord.Saturate = codes "s"
word_bytes (PolWord.Weaken name) = name ++ codes " w"

-- each with a space before it
unfoldable pub listed_bytes : {A : Type 0} → (A → List ℕ) → List A → List ℕ
listed_bytes line [] = []
listed_bytes line (x ∷ xs) = 32 ∷ (line x ++ listed_bytes line xs)

abbrev pub bound_bytes : Bound → List ℕ
bound_bytes (Bound.Finite z) = signed_decimal z
bound_bytes Bound.Infinite = inf_word

-- ` : ` and the id, if there is one
abbrev pub id_shown_bytes : Option ℤ → List ℕ
id_shown_bytes None = []
id_shown_bytes (Some id) = 32 ∷ 58 ∷ 32 ∷ signed_decimal id

-- ` :` and the literals, if they are given
abbrev pub shown_bytes : Option (List Literal) → List ℕ
shown_bytes None = []
shown_bytes (Some ls) = 32 ∷ 58 ∷ listed_bytes literal_line ls

abbrev pub conclusion_bytes : Conclusion → List ℕ
conclusion_bytes Conclusion.NoClaim = none_word
conclusion_bytes (Conclusion.Unsat id) = unsat_word ++ id_shown_bytes id
conclusion_bytes (Conclusion.Sat shown) = sat_word ++ shown_bytes shown
conclusion_bytes (Conclusion.Bounds lower id upper shown) =
    bounds_word ++ (32 ∷ (bound_bytes lower ++ (id_shown_bytes id ++ (32 ∷ (bound_bytes upper ++ shown_bytes shown)))))

-- the number after `f`, if there is one
abbrev pub count_bytes : Option ℕ → List ℕ
count_bytes None = []
count_bytes (Some n) = 32 ∷ decimal n

-- a statement's line, without a line feed
abbrev pub statement_bytes : Statement → List ℕ
statement_bytes Statement.Header = pseudo_word ++ (32 ∷ (proof_word ++ (32 ∷ (version_word ++ (32 ∷ two_word)))))
statement_bytes (Statement.F count) = f_word ++ count_bytes count
statement_bytes (Statement.Pol ws) = pol_word ++ listed_bytes word_bytes ws
statement_bytes (Statement.Rup c) = rup_word ++ (32 ∷ linear_bytes c)
statement_bytes (Statement.Soli ls) = soli_word ++ listed_bytes literal_line ls
statement_bytes (Statement.Solx ls) = solx_word ++ listed_bytes literal_line ls
statement_bytes (Statement.Delete ids) = del_word ++ (32 ∷ (id_word ++ listed_bytes signed_decimal ids))
statement_bytes Statement.Output = output_word ++ (32 ∷ none_word)
statement_bytes (Statement.Conclude c) = conclusion_word ++ (32 ∷ conclusion_bytes c)
statement_bytes Statement.End = end_word ++ (32 ∷ (pseudo_word ++ (32 ∷ proof_word)))

-- lines with a line feed between consecutive ones
abbrev pub lines : List Statement → List ℕ
lines [] = []
lines (s ∷ []) = statement_bytes s
lines (s ∷ r ∷ statements) = statement_bytes s ++ (10 ∷ lines (r ∷ statements))

abbrev pub proof_bytes : Proof → List ℕ
proof_bytes v = lines (statements_of v)
