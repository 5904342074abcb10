-- What is written, in parts, and the canonical texts of statements.
use Rattle.pb_proof.specs.{engine.line.Ended.ended_lines, meaning.Canonical.listed_bytes, meaning.Canonical.count_bytes}
use Rattle.pb_proof.proofs.Common.{ℤ, bounds_word, [], proof_bytes, degree_text, linear_text, bytes-digits, listed_bytes, literal_line, conclusion_word}
use Rattle.pb_proof.proofs.Common.{Blanks0, Blanks1, IfGiven, IsBound, IdShown}
use Rattle.pb_lines.proofs.lemmas.Ends.{fed, ended}
use Rattle.pb_proof.proofs.Common.{take-append-drop, conclusion_bytes, IsStatementValue, SpellsConclusion, SpellsConclusionLine, literal_bytes, ℕ, PolWord}
use Rattle.pb_proof.proofs.Common.{SpellsLiteral, LiteralsShown, SpellsLiterals, ◌++◌, drop_all, soli_word, solx_word, SpellsIds, SpellsRup, digits_of, ◌+◌}
use Rattle.pb_proof.proofs.Common.{get_or, length, Header, Output, Option, Letter, Finite, Bounds, Delete, Divide, Weaken, f_word, negsuc, degree, ◌-◌, ◌<◌}
use Rattle.pb_proof.proofs.Common.{◌∙◌, ◌∷◌, ◌≡◌, ◌≤◌, suc, sym, ap₂, Sat, Pol, Rup, Add, Id, ◌^◌, All, pos, ◌⋅◌, Soli, Solx, ap, Proof, lines, IsName, IsWord}
use Rattle.pb_proof.proofs.Common.{subst, space, bytes, plain, Factor, Listed, append-nil, proof_word, unsat_word, SpellsWord, Conclusion, SpellsWords, id_word}
use Rattle.pb_proof.proofs.Common.{ended_lines, append_assoc, version_word, SpellsLinear, IsConclusion, bytes-degree, bytes-linear, linear_bytes, literal_text}
use Rattle.pb_proof.proofs.Common.{bytes-append, arith, All-head, All-tail, Literal, Language, IsFactor, SpellsId, drop, Conclude, unmarked, Infinite, Multiply}
use Rattle.pb_proof.proofs.Common.{Saturate, del_word, end_word, inf_word, pol_word, rup_word, sat_word, two_word, List, refl, take, F, true, ints, Byte, IsId}
use Rattle.pb_proof.proofs.Common.{Feed, None, Some, Bound, Unsat, Axiom, false, Blank, Bytes, Count, drop-cons, statement_bytes, signed_decimal, NoClaim}
use Rattle.pb_proof.proofs.Common.{id_shown_bytes, linear-spelled, decimal-digits, SpellsStatement, take_more, Statement, none_word, decimal, word_bytes}
use Rattle.pb_proof.proofs.Common.{bytes-plain, bound_bytes, shown_bytes, LineEnd, output_word, pseudo_word, AreLiterals, SpellsBound, SpellsCount, SpellsShown}

-- What is written, in parts.

-- pieces one after another
module _ {A : Type 0} (piece : A → List ℕ) (joined : List A → List ℕ) (none : joined [] ≡ []) (cons : (x : A) (xs : List A) → joined (x ∷ xs) ≡ piece x ++ joined xs) where
  joined-append : (xs ys : List A) → joined (xs ++ ys) ≡ joined xs ++ joined ys
  joined-append [] ys = ap (λ z. z ++ joined ys) (sym none)
  joined-append (x ∷ xs) ys = grind (arith, append_assoc, joined-append xs ys)

  joined_more : (xs : List A) (i : ℕ) (d : A) → i < length xs → joined (take (i + 1) xs) ≡ joined (take i xs) ++ piece (get_or xs i d)
  joined_more xs i d h =
      ap joined (take_more xs i d h) ∙ (joined-append (take i xs) (get_or xs i d ∷ [])
      ∙ ap (λ z. joined (take i xs) ++ z) (cons (get_or xs i d) [] ∙ (ap (λ z. piece (get_or xs i d) ++ z) none ∙ append-nil (piece (get_or xs i d)))))

  joined_at : (xs : List A) (i : ℕ) (d : A) → i < length xs → joined xs ≡ joined (take i xs) ++ (piece (get_or xs i d) ++ joined (drop (suc i) xs))
  joined_at xs i d h =
      ap joined (sym (take-append-drop i xs)) ∙ (joined-append (take i xs) (drop i xs)
      ∙ ap (λ z. joined (take i xs) ++ z) (ap joined (drop-cons xs i d h) ∙ cons (get_or xs i d) (drop (suc i) xs)))

-- each with a space before it
module _ {A : Type 0} (line : A → List ℕ) where
  pub listed_none : listed_bytes line [] ≡ []
  unfolding listed_bytes
  listed_none = refl

  pub listed-cons : (x : A) (xs : List A) → listed_bytes line (x ∷ xs) ≡ (32 ∷ line x) ++ listed_bytes line xs
  unfolding listed_bytes
  listed-cons x xs = refl

  pub listed-append : (xs ys : List A) → listed_bytes line (xs ++ ys) ≡ listed_bytes line xs ++ listed_bytes line ys
  listed-append = joined-append (λ x. 32 ∷ line x) (listed_bytes line) listed_none listed-cons

  pub listed_more : (xs : List A) (i : ℕ) (d : A) → i < length xs → listed_bytes line (take (i + 1) xs) ≡ listed_bytes line (take i xs) ++ (32 ∷ line (get_or xs i d))
  listed_more = joined_more (λ x. 32 ∷ line x) (listed_bytes line) listed_none listed-cons

  pub listed_at : (xs : List A) (i : ℕ) (d : A) → i < length xs →
      listed_bytes line xs ≡ listed_bytes line (take i xs) ++ ((32 ∷ line (get_or xs i d)) ++ listed_bytes line (drop (suc i) xs))
  listed_at = joined_at (λ x. 32 ∷ line x) (listed_bytes line) listed_none listed-cons

  -- a prefix of the list, and the rest
  pub listed_split : (xs : List A) (n : ℕ) → listed_bytes line xs ≡ listed_bytes line (take n xs) ++ listed_bytes line (drop n xs)
  listed_split xs n = ap (listed_bytes line) (sym (take-append-drop n xs)) ∙ listed-append (take n xs) (drop n xs)

  pub listed_past : (xs : List A) (n : ℕ) → length xs ≤ n → listed_bytes line (drop n xs) ≡ []
  listed_past xs n h = ap (listed_bytes line) (drop_all n xs h) ∙ listed_none

  -- the list from an index on
  pub listed_from : (xs : List A) (i : ℕ) (x : A) → 0 < i → i ≤ length xs → x ≡ get_or xs (i - 1) x →
      listed_bytes line (drop (i - 1) xs) ≡ (32 ∷ line x) ++ listed_bytes line (drop i xs)
  listed_from xs i x some within e = grind (arith, drop-cons, listed-cons, get_or, drop)

-- each with a line feed after it
pub ended_none : ended_lines [] ≡ []
unfolding ended_lines
ended_none = refl

pub ended-cons : (s : Statement) (xs : List Statement) → ended_lines (s ∷ xs) ≡ (statement_bytes s ++ (10 ∷ [])) ++ ended_lines xs
unfolding ended_lines
ended-cons s xs = refl

pub ended_more : (xs : List Statement) (i : ℕ) (d : Statement) → i < length xs → ended_lines (take (i + 1) xs) ≡ ended_lines (take i xs) ++ (statement_bytes (get_or xs i d) ++ (10 ∷ []))
ended_more = joined_more (λ s. statement_bytes s ++ (10 ∷ [])) ended_lines ended_none ended-cons

pub ended_at : (xs : List Statement) (i : ℕ) (d : Statement) → i < length xs →
    ended_lines xs ≡ ended_lines (take i xs) ++ ((statement_bytes (get_or xs i d) ++ (10 ∷ [])) ++ ended_lines (drop (suc i) xs))
ended_at = joined_at (λ s. statement_bytes s ++ (10 ∷ [])) ended_lines ended_none ended-cons

-- lines with a line feed between two
lines-first : (x : Statement) (xs : List Statement) (y : Statement) (ys : List Statement) → lines (x ∷ (xs ++ y ∷ ys)) ≡ statement_bytes x ++ (10 ∷ lines (xs ++ y ∷ ys))
lines-first x [] y ys = refl
lines-first x (z ∷ xs) y ys = refl

pub lines-ended : (xs : List Statement) (s : Statement) (ys : List Statement) → lines (xs ++ s ∷ ys) ≡ ended_lines xs ++ lines (s ∷ ys)
lines-ended [] s ys = rw ended_none refl
lines-ended (x ∷ xs) s ys =
    lines-first x xs s ys
    ∙ (ap (λ z. statement_bytes x ++ (10 ∷ z)) (lines-ended xs s ys)
    ∙ (sym (append_assoc (statement_bytes x) (10 ∷ []) (ended_lines xs ++ lines (s ∷ ys)))
    ∙ (sym (append_assoc (statement_bytes x ++ (10 ∷ [])) (ended_lines xs) (lines (s ∷ ys))) ∙ ap (λ z. z ++ lines (s ∷ ys)) (sym (ended-cons x xs)))))

-- a conclusion of bounds, and the literals after it
pub bounds_then : (a b c d x : List ℕ) → (conclusion_word ++ (32 ∷ (bounds_word ++ (32 ∷ (a ++ (b ++ (32 ∷ (c ++ d)))))))) ++ x
    ≡ conclusion_word ++ (32 ∷ (bounds_word ++ (32 ∷ (a ++ (b ++ (32 ∷ (c ++ (d ++ x))))))))
bounds_then a b c d x = simp append_assoc

-- the parts of a proof
pub proof_parts : (v : Proof) → proof_bytes v ≡ ((statement_bytes Header ++ (10 ∷ [])) ++ (statement_bytes (F v.count) ++ (10 ∷ [])))
    ++ (ended_lines v.steps ++ ((statement_bytes Output ++ (10 ∷ [])) ++ (statement_bytes (Conclude v.conclusion) ++ ((10 ∷ []) ++ statement_bytes Statement.End))))
proof_parts v = grind (arith, v.conclusion, lines-first, v.count, v.steps, lines-ended, append_assoc)

-- Each statement that meets the rules has a text with its canonical bytes.

abbrev pub line_bytes : Statement → List ℕ
line_bytes Statement.End = statement_bytes Statement.End
line_bytes s = statement_bytes s ++ (10 ∷ [])

-- some text of the language has these bytes
abbrev pub Has : Language → List ℕ → Type 0
Has P x = (t : List Letter) × P t × (bytes t ≡ x)

-- one text and then another
joined : (P Q : Language) (x y : List ℕ) → Has P x → Has Q y → Has (P ⋅ Q) (x ++ y)
joined P Q x y (a, h, e) (b, k, f) = (a ++ b, (a, b, refl, h, k), bytes-append a b ∙ ap₂ (λ (p q : List ℕ). p ++ q) e f)

word : (w : List ℕ) → Has (Bytes w) w
word w = (plain w, refl, bytes-plain w)

byte : (b : ℕ) → Has (Byte b) (b ∷ [])
byte b = (unmarked b ∷ [], refl, refl)

space1 : Has Blanks1 (32 ∷ [])
space1 = (space, (32, [], refl, tt, refl), refl)

space0 : Has Blanks0 (32 ∷ [])
space0 = (space, (32 ∷ [], (refl, tt), refl), refl)

line_end : Has LineEnd (10 ∷ [])
line_end = (unmarked 10 ∷ [], ended, refl)

-- a word, and then a text
after : (w : List ℕ) (Q : Language) (y : List ℕ) → Has Q y → Has (Bytes w ⋅ Q) (w ++ y)
after w Q y h = joined (Bytes w) Q w y (word w) h

-- with a space between the two
spaced : (P Q : Language) (x y : List ℕ) → Has P x → Has Q y → Has (P ⋅ Blanks1 ⋅ Q) (x ++ (32 ∷ y))
spaced P Q x y h k = subst (Has (P ⋅ Blanks1 ⋅ Q)) (append_assoc x (32 ∷ []) y) (joined (P ⋅ Blanks1) Q (x ++ (32 ∷ [])) y (joined P Blanks1 x (32 ∷ []) h space1) k)

words : (v w : List ℕ) → Has (Bytes v ⋅ Blanks1 ⋅ Bytes w) (v ++ (32 ∷ w))
words v w = spaced (Bytes v) (Bytes w) v w (word v) (word w)

literal : (l : Literal) → IsName l.name → Has (SpellsLiteral l) (literal_line l)
literal l h = (literal_text l, (h, refl), bytes-plain (literal_bytes l.negated l.name))

listed : {A : Type 0} (P : A → Language) (line : A → List ℕ) (R : A → Type 0) → ((x : A) → R x → Has (P x) (line x)) → (xs : List A) → All R xs
    → Has (Listed P xs) (listed_bytes line xs)
listed P line R f [] h = ([], refl, sym (listed_none line))
listed P line R f (x ∷ xs) h =
    subst (Has (Listed P (x ∷ xs))) (sym (listed-cons line x xs))
    (joined (Blanks1 ⋅ P x) (Listed P xs) (32 ∷ line x) (listed_bytes line xs) (joined Blanks1 (P x) (32 ∷ []) (line x) space1 (f x (All-head R x xs h)))
    (listed P line R f xs (All-tail R x xs h)))

-- and the end of the line
listed_line : {A : Type 0} (P : A → Language) (line : A → List ℕ) (R : A → Type 0) → ((x : A) → R x → Has (P x) (line x)) → (xs : List A) → All R xs
    → Has (Listed P xs ⋅ LineEnd) (listed_bytes line xs ++ (10 ∷ []))
listed_line P line R f xs h = joined (Listed P xs) LineEnd (listed_bytes line xs) (10 ∷ []) (listed P line R f xs h) line_end

literals_line : (ls : List Literal) → AreLiterals ls → Has (Listed SpellsLiteral ls ⋅ LineEnd) (listed_bytes literal_line ls ++ (10 ∷ []))
literals_line ls h = listed_line SpellsLiteral literal_line (λ l. IsName l.name) literal ls h

shown_has : (shown : Option (List Literal)) → IfGiven AreLiterals shown → Has (LiteralsShown shown) (shown_bytes shown)
shown_has None h = ([], refl, refl)
shown_has (Some []) h =
    subst (λ y. Has (Blanks0 ⋅ Byte 58) (32 ∷ 58 ∷ y)) (sym (listed_none literal_line)) (joined Blanks0 (Byte 58) (32 ∷ []) (58 ∷ []) space0 (byte 58))
shown_has (Some (l ∷ ls)) h =
    let N : Literal → Type 0 = λ x. IsName x.name in
    let rest : List ℕ = listed_bytes literal_line ls in
    subst (λ y. Has (LiteralsShown (Some (l ∷ ls))) (32 ∷ 58 ∷ y)) (sym (listed-cons literal_line l ls))
    (joined Blanks0 (SpellsShown (l ∷ ls)) (32 ∷ []) (58 ∷ 32 ∷ (literal_line l ++ rest)) space0
    (joined (Byte 58 ⋅ Blanks0 ⋅ SpellsLiteral l) (Listed SpellsLiteral ls) (58 ∷ 32 ∷ literal_line l) rest
    (joined (Byte 58 ⋅ Blanks0) (SpellsLiteral l) (58 ∷ 32 ∷ []) (literal_line l) (joined (Byte 58) Blanks0 (58 ∷ []) (32 ∷ []) (byte 58) space0)
    (literal l (All-head N l ls h)))
    (listed SpellsLiteral literal_line N literal ls (All-tail N l ls h))))

id_has : (top : ℕ) → top < 2 ^ 63 → (id : ℤ) → IsId top id → Has (SpellsId top id) (signed_decimal id)
id_has top t (pos n) h =
    (degree_text (pos n), (false, n, h.0, h.1, refl, ([], digits_of (decimal n), refl, refl, decimal-digits n (omega (arith, h.1)))), bytes-degree (pos n))
id_has top t (negsuc n) h =
    let ds = decimal-digits (suc n) (omega (arith, h.1)) in
    (degree_text (negsuc n), (true, suc n, h.0, h.1, refl, (unmarked 45 ∷ [], digits_of (decimal (suc n)), refl, refl, ds)), bytes-degree (negsuc n))

bounds_grouped : (w l i u s : List ℕ) → (((w ++ (32 ∷ l)) ++ i) ++ (32 ∷ u)) ++ s ≡ w ++ (32 ∷ (l ++ (i ++ (32 ∷ (u ++ s)))))
bounds_grouped w l i u s = simp append_assoc

module _ (limit : ℕ) (small : limit < 2 ^ 127) where
  factor : (k : ℤ) → IsFactor limit k → Has (Factor limit k) (signed_decimal k)
  factor (pos n) h =
      (degree_text (pos n), (n, omega (arith, ints, h.0), omega (arith, ints, h.1), refl, decimal-digits n (omega (arith, ints, h.1))), bytes-degree (pos n))
  factor (negsuc n) h = absurd (omega (arith, ints, h.0))

  bound : (b : Bound) → IsBound limit b → Has (SpellsBound limit b) (bound_bytes b)
  bound (Finite z) h = (degree_text z, degree limit (omega arith) z h, bytes-degree z)
  bound Infinite h = word inf_word

  module _ (top : ℕ) (low : top < 2 ^ 63) where
    id_shown : (id : Option ℤ) → IfGiven (IsId top) id → Has (IdShown limit top id) (id_shown_bytes id)
    id_shown None h = ([], refl, refl)
    id_shown (Some id) h =
        joined (Blanks0 ⋅ Byte 58 ⋅ Blanks0) (SpellsId top id) (32 ∷ 58 ∷ 32 ∷ []) (signed_decimal id)
        (joined (Blanks0 ⋅ Byte 58) Blanks0 (32 ∷ 58 ∷ []) (32 ∷ []) (joined Blanks0 (Byte 58) (32 ∷ []) (58 ∷ []) space0 (byte 58)) space0) (id_has top low id h)

    pol_word_has : (w : PolWord) → IsWord limit top w → Has (SpellsWord limit top w) (word_bytes w)
    pol_word_has (Id id) h = id_has top low id h
    pol_word_has (Axiom l) h = literal l h
    pol_word_has Add h = byte 43
    pol_word_has (Multiply k) h = spaced (Factor limit k) (Byte 42) (signed_decimal k) (42 ∷ []) (factor k h) (byte 42)
    pol_word_has (Divide k) h = spaced (Factor limit k) (Byte 100) (signed_decimal k) (100 ∷ []) (factor k h) (byte 100)
    pol_word_has Saturate h = byte 115
    pol_word_has (Weaken name) h = let (t, k, e) = spaced (Bytes name) (Byte 119) name (119 ∷ []) (word name) (byte 119) in (t, (h, k), e)

    conclusion_has : (c : Conclusion) → IsConclusion limit top c → Has (SpellsConclusion limit top c) (conclusion_bytes c)
    conclusion_has NoClaim h = word none_word
    conclusion_has (Unsat id) h = after unsat_word (IdShown limit top id) (id_shown_bytes id) (id_shown id h)
    conclusion_has (Sat shown) h = after sat_word (LiteralsShown shown) (shown_bytes shown) (shown_has shown h)
    conclusion_has (Bounds lower id upper shown) h =
        let W : Language = Bytes bounds_word in
        let L : Language = SpellsBound limit lower in
        let I : Language = IdShown limit top id in
        let U : Language = SpellsBound limit upper in
        let a : List ℕ = bounds_word ++ (32 ∷ bound_bytes lower) in
        let b : List ℕ = a ++ id_shown_bytes id in
        subst (Has (SpellsConclusion limit top (Bounds lower id upper shown)))
        (bounds_grouped bounds_word (bound_bytes lower) (id_shown_bytes id) (bound_bytes upper) (shown_bytes shown))
        (joined (W ⋅ Blanks1 ⋅ L ⋅ I ⋅ Blanks1 ⋅ U) (LiteralsShown shown) (b ++ (32 ∷ bound_bytes upper)) (shown_bytes shown)
        (spaced (W ⋅ Blanks1 ⋅ L ⋅ I) U b (bound_bytes upper)
        (joined (W ⋅ Blanks1 ⋅ L) I a (id_shown_bytes id) (spaced W L bounds_word (bound_bytes lower) (word bounds_word) (bound lower h.0)) (id_shown id h.1))
        (bound upper h.2)) (shown_has shown h.3))

    count_has : (count : Option ℕ) → IfGiven (λ n. n ≤ top) count → Has (SpellsCount limit top count) (count_bytes count ++ (10 ∷ []))
    count_has None h = line_end
    count_has (Some n) h =
        joined (Blanks1 ⋅ Count top n) LineEnd (32 ∷ decimal n) (10 ∷ [])
        (joined Blanks1 (Count top n) (32 ∷ []) (decimal n) space1 (digits_of (decimal n), (h, decimal-digits n (omega (arith, h))), bytes-digits (decimal n))) line_end

    pub line_has : (s : Statement) → IsStatementValue limit top s → Has (SpellsStatement limit top s) (line_bytes s)
    line_has Header h =
        let A : Language = Bytes pseudo_word ⋅ Blanks1 ⋅ Bytes proof_word in
        let a : List ℕ = pseudo_word ++ (32 ∷ proof_word) in
        let b : List ℕ = a ++ (32 ∷ version_word) in
        joined (A ⋅ Blanks1 ⋅ Bytes version_word ⋅ Blanks1 ⋅ Bytes two_word) Feed (b ++ (32 ∷ two_word)) (10 ∷ [])
        (spaced (A ⋅ Blanks1 ⋅ Bytes version_word) (Bytes two_word) b two_word
        (spaced A (Bytes version_word) a version_word (words pseudo_word proof_word) (word version_word)) (word two_word)) (unmarked 10 ∷ [], fed, refl)
    line_has (F count) h = after f_word (SpellsCount limit top count) (count_bytes count ++ (10 ∷ [])) (count_has count h)
    line_has (Pol ws) h =
        let (t, k, e) = listed_line (SpellsWord limit top) word_bytes (IsWord limit top) pol_word_has ws h.1 in
        after pol_word (SpellsWords limit top ws) (listed_bytes word_bytes ws ++ (10 ∷ [])) (t, (h.0, k), e)
    line_has (Rup c) h =
        let S : Language = SpellsLinear Blank limit c in
        let (t, k, e) = joined (Blanks1 ⋅ S) Feed (32 ∷ linear_bytes c) (10 ∷ [])
        (joined Blanks1 S (32 ∷ []) (linear_bytes c) space1 (linear_text c, linear-spelled limit (omega arith) Blank c h.1, bytes-linear c))
        (unmarked 10 ∷ [], fed, refl) in
        after rup_word (SpellsRup limit top c) ((32 ∷ linear_bytes c) ++ (10 ∷ [])) (t, (h.0, k), e)
    line_has (Soli ls) h = after soli_word (SpellsLiterals limit top ls) (listed_bytes literal_line ls ++ (10 ∷ [])) (literals_line ls h)
    line_has (Solx ls) h = after solx_word (SpellsLiterals limit top ls) (listed_bytes literal_line ls ++ (10 ∷ [])) (literals_line ls h)
    line_has (Delete ids) h =
        let (t, k, e) = listed_line (SpellsId top) signed_decimal (IsId top) (id_has top low) ids h.1 in
        joined (Bytes del_word ⋅ Blanks1 ⋅ Bytes id_word) (SpellsIds limit top ids) (del_word ++ (32 ∷ id_word)) (listed_bytes signed_decimal ids ++ (10 ∷ []))
        (words del_word id_word) (t, (h.0, k), e)
    line_has Output h = joined (Bytes output_word ⋅ Blanks1 ⋅ Bytes none_word) LineEnd (output_word ++ (32 ∷ none_word)) (10 ∷ []) (words output_word none_word) line_end
    line_has (Conclude c) h =
        after conclusion_word (SpellsConclusionLine limit top c) ((32 ∷ conclusion_bytes c) ++ (10 ∷ []))
        (joined (Blanks1 ⋅ SpellsConclusion limit top c) LineEnd (32 ∷ conclusion_bytes c) (10 ∷ [])
        (joined Blanks1 (SpellsConclusion limit top c) (32 ∷ []) (conclusion_bytes c) space1 (conclusion_has c h)) line_end)
    line_has Statement.End h =
        spaced (Bytes end_word ⋅ Blanks1 ⋅ Bytes pseudo_word) (Bytes proof_word) (end_word ++ (32 ∷ pseudo_word)) proof_word (words end_word pseudo_word)
        (word proof_word)
