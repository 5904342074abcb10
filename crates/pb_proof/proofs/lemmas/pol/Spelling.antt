-- The texts that lead to some postfix words.
use Rattle.pb_proof.proofs.lemmas.pol.{Postfix.Counts, Postfix.counts_postfix, Moves.one_of, Moves.with_last_append}
use Rattle.pb_proof.proofs.Common.{ℕ, ◌-◌, ◌<◌, ◌≤◌, ◌≡◌, ◌∙◌, ◌∷◌, ◌++◌, ◌&&◌, [], ap, arith, pos, neg_ℤ, suc, zero, sym, refl, subst, Bool, true, false, cond, List, Some, None}
use Rattle.pb_proof.proofs.Common.{◌⋅◌, Blanks1, Byte, Bytes, Digits, Empty, Language, LineEnd, Letter, IsName, nil_first, regroup3, append-nil, append_assoc, nat_eq, nat_le}
use Rattle.pb_proof.proofs.Common.{and_parts, eqb-true, leb-true, le-leb, nat_tests, false≢true, IsPostfix, Listed, SpellsWord, SpellsWords, SpellsLiteral, PolWord, Held, PolState}
use Rattle.pb_proof.proofs.Common.{pol_at, pol_grammar, bound, held_name, is_free, turns, turned, with_last, with_number, with_mark, with_pol_word, is_sum, saturates}
use Rattle.pb_proof.proofs.lemmas.Listed.{listed_append}
use Rattle.pb_lines.proofs.lemmas.Ends.{positive}
use Rattle.pb_lines.proofs.lemmas.Spelling.{IsSpelled}
use Rattle.pb_lines.specs.declared.Sign.{Sign}
use Rattle.pb_lines.specs.declared.Word.{Word}
use Rattle.pb_lines.specs.contract.Grammar.{IsNumber}
use Rattle.pb_lines.specs.engine.WordTexts.{WordText}
use Rattle.pb_proof.specs.engine.line.PolLaws.{tested}

-- after these words there are `d` expressions
abbrev pub Leads : List PolWord → ℕ → Type 0
Leads ws d = (rest : List PolWord) → Counts d rest → Counts 0 (ws ++ rest)

given : {A : Type 0} (b : Bool) (x m : A) → cond b (Some x) None ≡ Some m → (b ≡ true) × (x ≡ m)
given b x m e = grind (arith)

not_zero : (b : Bool) (x k : PolState) → cond b None (Some x) ≡ Some k → (b ≡ false) × (x ≡ k)
not_zero b x k e = grind (arith)

module _ (limit top : ℕ) where
  abbrev pub Settled : List PolWord → ℕ → Language
  Settled ws d = λ t. Leads ws d × Listed (SpellsWord limit top) ws t

  -- the last word, of this text, has an expression before it
  abbrev pub Last : PolWord → Language → List PolWord → ℕ → Language
  Last w Q ws d = λ t. (vs : List PolWord) × (e : ℕ) × (ws ≡ vs ++ w ∷ []) × (d ≡ suc (suc e)) × (Settled vs (suc e) ⋅ Blanks1 ⋅ Q) t

  abbrev pub named : List ℕ → PolWord
  named name = PolWord.Axiom (record { negated = false; name = name })

  abbrev pub Holds : Held → List PolWord → ℕ → Language
  Holds Held.Nothing ws d = Settled ws d
  Holds Held.Number ws d = λ t. (n : ℕ) × (0 < n) × (n ≤ limit) × (n ≤ top) × Last (PolWord.Id (pos n)) (Digits n) ws d t
  Holds Held.Large ws d = λ t. (n : ℕ) × (0 < n) × (n ≤ limit) × Last (PolWord.Multiply (pos n)) (Digits n) ws d t
  Holds Held.Name ws d = λ t. (name : List ℕ) × IsName name × Last (named name) (Bytes name) ws d t

  abbrev pub After : PolState → Language
  After s = Holds s.held s.words s.depth

  -- one word more
  pub settle : (ws : List PolWord) (d e : ℕ) (w : PolWord) (p : List Letter) → ((rest : List PolWord) → Counts e rest → Counts d (w ∷ rest))
      → (Settled ws d ⋅ Blanks1 ⋅ SpellsWord limit top w) p → Settled (ws ++ w ∷ []) e p
  settle ws d e w p f h = grind (arith, append_assoc, listed_append)

  at : (ws vs : List PolWord) (d e : ℕ) (p : List Letter) → ws ≡ vs → d ≡ e → Settled vs e p → Settled ws d p
  at ws vs d e p f g h = subst (λ x. Settled x d p) (sym f) (subst (λ x. Settled vs x p) (sym g) h)

  -- the last word as a word on its own
  alone : (w : PolWord) (Q : Language) → ((q : List Letter) → Q q → SpellsWord limit top w q) → ((e : ℕ) (rest : List PolWord) → Counts (suc (suc e)) rest → Counts (suc e) (w ∷ rest))
      → (ws : List PolWord) (d : ℕ) (p : List Letter) → Last w Q ws d p → Settled ws d p
  alone w Q spells counts ws d p (vs, e, f, g, (a, b, i, x, y)) =
      at ws (vs ++ w ∷ []) d (suc (suc e)) p f g (settle vs (suc e) (suc (suc e)) w p (counts e) (a, b, i, x, spells b y))

  -- an operator that takes it
  taken : (b : ℕ) (w : PolWord) (Q : Language) → ((q : List Letter) → (Q ⋅ Blanks1 ⋅ Byte b) q → SpellsWord limit top (turned b w) q)
      → ((e : ℕ) (rest : List PolWord) → Counts (suc e) rest → Counts (suc e) (turned b w ∷ rest))
      → (ws : List PolWord) (d : ℕ) (p : List Letter) → (Last w Q ws d ⋅ Blanks1 ⋅ Byte b) p → Settled (with_last (turned b) ws) (d - 1) p
  taken b w Q spells counts ws d p (ab, c, i, (a, s, j, (vs, e, k, m, t), u), v) =
      let (x, y, z, q, r) = regroup3 (Settled vs (suc e) ⋅ Blanks1) Q Blanks1 (Byte b) p (ab, c, i, (a, s, j, t, u), v) in
      at (with_last (turned b) ws) (vs ++ turned b w ∷ []) (d - 1) (suc e) p (ap (with_last (turned b)) k ∙ with_last_append (turned b) vs w) (omega (arith, m))
      (settle vs (suc e) (suc e) (turned b w) p (counts e) (x, y, z, q, spells y r))

  id_text : (n : ℕ) (q : List Letter) → 0 < n → n ≤ top → Digits n q → SpellsWord limit top (PolWord.Id (pos n)) q
  id_text n q h l k = (false, n, h, l, refl, ([], q, refl, refl, k))

  freed : (h : Held) (ws : List PolWord) (d : ℕ) (p : List Letter) → is_free h ≡ true → Holds h ws d p → Settled ws d p
  freed Held.Nothing ws d p i k = k
  freed Held.Number ws d p i (n, h, l, m, k) = alone (PolWord.Id (pos n)) (Digits n) (λ q. id_text n q h m) (λ e rest r. r) ws d p k
  freed Held.Large ws d p i k = absurd (false≢true i)
  freed Held.Name ws d p i (name, h, k) = alone (named name) (Bytes name) (λ q r. (h, r)) (λ e rest r. r) ws d p k

  -- a factor and its operator
  abbrev Operator : ℕ → (ℕ → PolWord) → Type 0
  Operator b word = (n : ℕ) (q : List Letter) → 0 < n → n ≤ limit → (Digits n ⋅ Blanks1 ⋅ Byte b) q → SpellsWord limit top (word n) q

  multiplies : Operator 42 (λ n. PolWord.Multiply (pos n))
  multiplies n q h l (a, b, g, (u, v, k, o, r), m) = (a, b, g, (u, v, k, (n, h, l, refl, o), r), m)

  divides : Operator 100 (λ n. PolWord.Divide (pos n))
  divides n q h l (a, b, g, (u, v, k, o, r), m) = (a, b, g, (u, v, k, (n, h, l, refl, o), r), m)

  turns_after : (h : Held) (ws : List PolWord) (d b : ℕ) (p : List Letter) → turns h b ≡ true → (Holds h ws d ⋅ Blanks1 ⋅ Byte b) p → Settled (with_last (turned b) ws) (d - 1) p
  turns_after Held.Nothing ws d b p t k = absurd (false≢true t)
  turns_after Held.Name ws d b p t (ab, c, i, (a, s, j, (name, h, k), u), v) =
      let e : b ≡ 119 = eqb-true b 119 t in
      subst (λ x. Settled (with_last (turned x) ws) (d - 1) p) (sym e)
      (taken 119 (named name) (Bytes name) (λ q r. (h, r)) (λ e rest r. r) ws d p (ab, c, i, (a, s, j, k, u), subst (λ x. Byte x c) e v))
  turns_after Held.Number ws d b p t (ab, c, i, (a, s, j, (n, h, l, m, k), u), v) =
      one_of (λ x. Byte x c → Settled (with_last (turned x) ws) (d - 1) p) b 42 100 t
      (λ o. taken 42 (PolWord.Id (pos n)) (Digits n) (λ q. multiplies n q h l) (λ e rest r. r) ws d p (ab, c, i, (a, s, j, k, u), o))
      (λ o. taken 100 (PolWord.Id (pos n)) (Digits n) (λ q. divides n q h l) (λ e rest r. r) ws d p (ab, c, i, (a, s, j, k, u), o)) v
  turns_after Held.Large ws d b p t (ab, c, i, (a, s, j, (n, h, l, k), u), v) =
      one_of (λ x. Byte x c → Settled (with_last (turned x) ws) (d - 1) p) b 42 100 t
      (λ o. taken 42 (PolWord.Multiply (pos n)) (Digits n) (λ q. multiplies n q h l) (λ e rest r. r) ws d p (ab, c, i, (a, s, j, k, u), o))
      (λ o. taken 100 (PolWord.Multiply (pos n)) (Digits n) (λ q. divides n q h l) (λ e rest r. r) ws d p (ab, c, i, (a, s, j, k, u), o)) v

  -- `+` and `s`
  sums_after : (ws : List PolWord) (d : ℕ) (p : List Letter) → 2 ≤ d → (Settled ws d ⋅ Blanks1 ⋅ Byte 43) p → Settled (ws ++ PolWord.Add ∷ []) (d - 1) p
  sums_after ws d p l k = settle ws d (d - 1) PolWord.Add p (λ rest r. grind (arith, r)) k

  saturates_after : (ws : List PolWord) (d : ℕ) (p : List Letter) → 1 ≤ d → (Settled ws d ⋅ Blanks1 ⋅ Byte 115) p → Settled (ws ++ PolWord.Saturate ∷ []) d p
  saturates_after ws d p l k = settle ws d d PolWord.Saturate p (λ rest r. grind (arith, r)) k

  before : (h : Held) (ws : List PolWord) (d : ℕ) (Q : Language) (p : List Letter) → is_free h ≡ true → (Holds h ws d ⋅ Blanks1 ⋅ Q) p → (Settled ws d ⋅ Blanks1 ⋅ Q) p
  before h ws d Q p f (ab, c, g, (a, b, i, x, y), z) = (ab, c, g, (a, b, i, freed h ws d a f x, y), z)

  at_byte : (P : Language) (b c : ℕ) (p : List Letter) → nat_eq b c ≡ true → (P ⋅ Blanks1 ⋅ Byte b) p → (P ⋅ Blanks1 ⋅ Byte c) p
  at_byte P b c p e h = subst (λ x. (P ⋅ Blanks1 ⋅ Byte x) p) (eqb-true b c e) h

  mark_after : (s k : PolState) (b : ℕ) (p : List Letter) → with_mark s b ≡ Some k → (After s ⋅ Blanks1 ⋅ Byte b) p → After k p
  mark_after s k b p e h =
      tested (λ x. After x p) (turns s.held b) _ _ (λ t. turns_after s.held s.words s.depth b p t h)
      (tested (λ x. After x p) (is_sum s b) _ _
      (λ t. let (u, l) = and_parts (is_free s.held && nat_eq b 43) (nat_le 2 s.depth) t in
      let (f, g) = and_parts (is_free s.held) (nat_eq b 43) u in
      sums_after s.words s.depth p (leb-true 2 s.depth l) (before s.held s.words s.depth (Byte 43) p f (at_byte (After s) b 43 p g h)))
      (tested (λ x. After x p) (saturates s b) _ _
      (λ t. let (u, l) = and_parts (is_free s.held && nat_eq b 115) (nat_le 1 s.depth) t in
      let (f, g) = and_parts (is_free s.held) (nat_eq b 115) u in
      saturates_after s.words s.depth p (leb-true 1 s.depth l) (before s.held s.words s.depth (Byte 115) p f (at_byte (After s) b 115 p g h)))
      (λ x f. cc f))) k e

  -- numbers
  id_after : (ws : List PolWord) (d n : ℕ) (p : List Letter) → 0 < n → n ≤ top → (Settled ws d ⋅ Blanks1 ⋅ (Empty ⋅ Digits n)) p → Settled (ws ++ PolWord.Id (pos n) ∷ []) (suc d) p
  id_after ws d n p h l (a, b, g, r, k) = settle ws d (suc d) (PolWord.Id (pos n)) p (λ rest r. r) (a, b, g, r, (false, n, h, l, refl, k))

  last_after : (ws : List PolWord) (e n : ℕ) (w : PolWord) (p : List Letter) → (Settled ws (suc e) ⋅ Blanks1 ⋅ (Empty ⋅ Digits n)) p → Last w (Digits n) (ws ++ w ∷ []) (suc (suc e)) p
  last_after ws e n w p (a, b, g, r, k) = (ws, e, refl, refl, (a, b, g, r, nil_first (Digits n) b k))

  large_fits : (e n : ℕ) → n ≤ bound limit top (suc e) → nat_le n top ≡ false → n ≤ limit
  large_fits e n l f = grind (arith, nat_tests)

  number_after : (h : Held) (ws : List PolWord) (d n : ℕ) (p : List Letter) → 0 < n → n ≤ bound limit top d → (Settled ws d ⋅ Blanks1 ⋅ (Empty ⋅ Digits n)) p
      → (x : Bool) → nat_le n top ≡ x → (y : Bool) → nat_le n limit ≡ y → After (with_number limit top (pol_at ws d h) Sign.Nothing n) p
  number_after h ws zero n p some l k true i y j = rw i (id_after ws 0 n p some l k)
  number_after h ws zero n p some l k false i y j = let m : nat_le n top ≡ true = le-leb n top l in cc
  number_after h ws (suc e) n p some l k true i true j =
      rw (i, j) (n, some, leb-true n limit j, leb-true n top i, last_after ws e n (PolWord.Id (pos n)) p k)
  number_after h ws (suc e) n p some l k true i false j = rw (i, j) (id_after ws (suc e) n p some (leb-true n top i) k)
  number_after h ws (suc e) n p some l k false i y j = rw i (n, some, large_fits e n l i, last_after ws e n (PolWord.Multiply (pos n)) p k)

  negative_after : (ws : List PolWord) (d n : ℕ) (p : List Letter) → 0 < n → n ≤ top → (Settled ws d ⋅ Blanks1 ⋅ (Byte 45 ⋅ Digits n)) p → Settled (ws ++ PolWord.Id (neg_ℤ (pos n)) ∷ []) (suc d) p
  negative_after ws d n p h l (a, b, g, r, k) = settle ws d (suc d) (PolWord.Id (neg_ℤ (pos n))) p (λ rest r. r) (a, b, g, r, (true, n, h, l, refl, k))

  literal_after : (negated : Bool) (name : List ℕ) (ws : List PolWord) (d : ℕ) (p : List Letter) → (Settled ws d ⋅ Blanks1 ⋅ SpellsLiteral (record { negated = negated; name = name })) p
      → Holds (held_name negated d) (ws ++ PolWord.Axiom (record { negated = negated; name = name }) ∷ []) (suc d) p
  literal_after false name ws (suc e) p (a, b, g, r, k) = (name, k.0, (ws, e, refl, refl, (a, b, g, r, k.1)))
  literal_after negated name ws d p k = settle ws d (suc d) (PolWord.Axiom (record { negated = negated; name = name })) p (λ rest r. r) k

  pub word_after : (s k : PolState) (w : Word) (name : List ℕ) (p : List Letter) → IsNumber (pol_grammar limit top) s (Some w) → with_pol_word limit top s w name ≡ Some k
      → (After s ⋅ Blanks1 ⋅ WordText w name) p → After k p
  word_after s k (Word.Number Sign.Nothing n) name p (m, f, l) e h =
      let (g, o) = given (is_free s.held) (bound limit top s.depth) m f in
      let (z, q) = not_zero (nat_eq n 0) (with_number limit top s Sign.Nothing n) k e in
      subst (λ x. After x p) q
      (number_after s.held s.words s.depth n p (positive n z) (subst (λ x. n ≤ x) (sym o) l) (before s.held s.words s.depth (Empty ⋅ Digits n) p g h)
      (nat_le n top) refl (nat_le n limit) refl)
  word_after s k (Word.Number Sign.Minus n) name p (m, f, l) e h =
      let (g, o) = given (is_free s.held) top m f in
      let (z, q) = not_zero (nat_eq n 0) (with_number limit top s Sign.Minus n) k e in
      subst (λ x. After x p) q
      (negative_after s.words s.depth n p (positive n z) (subst (λ x. n ≤ x) (sym o) l) (before s.held s.words s.depth (Byte 45 ⋅ Digits n) p g h))
  word_after s k (Word.Number Sign.Plus n) name p (m, f, l) e h = absurd (nothing (is_free s.held) m f)
    where
      nothing : (b : Bool) (m : ℕ) → cond b None None ≡ Some m → ⊥
      nothing b m f = grind arith
  word_after s k (Word.Literal negated) name p i e h =
      tested (λ x. After x p) (is_free s.held) _ None
      (λ f. literal_after negated name s.words s.depth p (before s.held s.words s.depth (WordText (Word.Literal negated) name) p f h)) (λ x f. cc f) k e
  word_after s k (Word.Mark b) name p i e h = mark_after s k b p e h
  word_after s k (Word.Capital c) name p i e h = cc e

  -- after one expression alone the last word cannot change
  one : (h : Held) (ws : List PolWord) (d : ℕ) (p : List Letter) → d ≡ 1 → Holds h ws d p → Settled ws d p
  one h ws d p i k = grind arith

  -- the words of one expression, and what comes after them
  pub expressed : (s : PolState) (e : List PolWord) (Q : Language) (p : List Letter) → cond (nat_eq s.depth 1) (Some s.words) None ≡ Some e → (After s ⋅ Q) p
      → IsPostfix e × (Listed (SpellsWord limit top) e ⋅ Q) p
  expressed s e Q p f (a, b, g, x, k) =
      let (z, o) = given (nat_eq s.depth 1) s.words e f in
      let i : s.depth ≡ 1 = eqb-true s.depth 1 z in
      let (m, t) = one s.held s.words s.depth a i x in
      let c : Counts 0 (s.words ++ []) = m [] i in
      subst (λ ws. IsPostfix ws × (Listed (SpellsWord limit top) ws ⋅ Q) p) o (counts_postfix s.words (rw append-nil at c), (a, b, g, t, k))

  pub spelled : IsSpelled (pol_grammar limit top) (λ s. false) After (SpellsWords limit top)
  spelled = record {
    first = ((λ rest r. r), refl);
    apart = refl;
    word = λ s k w name p i e h. (word_after s k w name p i e h, refl);
    colon = λ s k p e h. cc e;
    capital = λ s b c e. cc e;
    whole = λ s e p f h. expressed s e LineEnd p f h;
  }
