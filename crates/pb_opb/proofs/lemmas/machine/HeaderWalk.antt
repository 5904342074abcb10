-- The machine reads each header, one lemma for each word of its grammar, and each comment, objective and constraint.
use Rattle.pb_opb.proofs.Common.{ℕ, ◌*◌, ◌++◌, ◌+◌, ◌<◌, ◌∙◌, ◌∷◌, ◌≡◌, ◌≤◌, [], ap, append_assoc, arith, Bool, cond, false, IsTrue, length, length-append}
use Rattle.pb_opb.proofs.Common.{List, nat_eq, refl, subst, sym, true, get_or-append_seam, eq-eqb, Leads, leads_then, longer, reads_after, Walks, blank_each}
use Rattle.pb_opb.proofs.Common.{Go, ReadsStatement, is_blank, ◌⋅◌, Blanks0, Blanks1, Byte, Bytes, Language, unmarked, Count, Letter, plain, Header, To, Field}
use Rattle.pb_opb.proofs.Common.{Constraints, Variables, Phase, spell, transition, word_of, act, begin, opb, OpbState, constraint_word, IsTail, SpellsHeader}
use Rattle.pb_opb.proofs.Common.{variable_word, Part, ◌-◌, suc, reads_grammar, Linear, SumEvent, Term, White, last, sums, SumState, Spaces0, Spells}
use Rattle.pb_opb.proofs.Common.{SpellsLinear, SpellsSum, IsInLine, is_white, OpbEvent, Comment, Constraint, Objective, Give, linears, objectives, min_word}
use Rattle.pb_opb.proofs.{Common.SpellsComment, Common.SpellsObjective, Common.Whites0, lemmas.instances.Counted.IsEntry}
use Rattle.pb_opb.proofs.lemmas.machine.Objectives.{spaces_white, IsDark, sum-dark, linear_first, MinPrefix, objective_parts}
use Rattle.pb_opb.proofs.lemmas.machine.Stands.{stands, idle, stays_many, Keeps, line_reads, gives_objective, gives_constraint, given_reads, stays}
use Rattle.pb_text.proofs.lemmas.numbers.DigitWalks.{TakesDigits, digits_lead}
use Rattle.std.proofs.lemmas.{Bool.Decides.nat_tests, Grind.common_steps}

spell_next : (w prefix left : List ℕ) (b : ℕ) (more whole : Phase) (x : Bool) → w ≡ prefix ++ b ∷ left → nat_eq (length prefix + 1) (length w) ≡ x
    → spell w (length prefix) b more whole ≡ To (cond x whole more)
spell_next w prefix left b more whole x e f = grind (arith, common_steps, get_or-append_seam, eq-eqb)

first_digit : (top : ℕ) (f : Field) (d : ℕ) → d < 10 → d ≤ top → transition top (Phase.BeforeCount f) (48 + d) ≡ To (Phase.Count f d)
first_digit top f d h l = grind (arith, nat_tests)

next_digit : (top : ℕ) (f : Field) (m d : ℕ) → d < 10 → 10 * m + d ≤ top → transition top (Phase.Count f m) (48 + d) ≡ To (Phase.Count f (10 * m + d))
next_digit top f m d h l = grind (arith, nat_tests)

module _ (limit top : ℕ) where
  -- before the tail of a header
  abbrev head : ℕ → Phase → OpbState
  head v p = stands limit top v 0 p []

  abbrev IsBlank : ℕ → Type 0
  IsBlank b = IsTrue (is_blank b)

  blanks_before_word : (f : Field) (v : ℕ) → Leads opb (head v (Phase.BeforeWord f)) Blanks0 (head v (Phase.BeforeWord f))
  blanks_before_word f v = stays_many IsBlank (head v (Phase.BeforeWord f)) (λ b h. rw h refl) refl refl

  blanks_before_count : (f : Field) (v : ℕ) → Leads opb (head v (Phase.BeforeCount f)) Blanks0 (head v (Phase.BeforeCount f))
  blanks_before_count f v = stays_many IsBlank (head v (Phase.BeforeCount f)) (λ b h. rw h refl) refl refl

  -- the remaining bytes of a word
  spelled : (f : Field) (v : ℕ) (prefix left : List ℕ) (b : ℕ) → word_of f ≡ prefix ++ b ∷ left
      → Walks opb (head v (Phase.Word f (length prefix))) (plain (b ∷ left)) (head v (Phase.BeforeCount f))
  spelled f v prefix [] b e = grind (arith, nat_eq, common_steps, spell_next)
  spelled f v prefix (c ∷ left) b e =
      let more : Phase = Phase.Word f (length prefix + 1) in
      let n : nat_eq (length prefix + 1) (length (word_of f)) ≡ false = rw e (grind (arith, common_steps)) in
      let goes = ap (λ x. act (head v (Phase.Word f (length prefix))) b x) (spell_next (word_of f) prefix (c ∷ left) b more (Phase.BeforeCount f) false e n) in
      let rest = spelled f v (prefix ++ b ∷ []) left c (e ∙ sym (append_assoc prefix (b ∷ []) (c ∷ left))) in
      (head v more, goes, refl, refl, subst (λ k. Walks opb (head v (Phase.Word f k)) (plain (c ∷ left)) (head v (Phase.BeforeCount f))) (length-append prefix (b ∷ [])) rest)

  begins_word : (f : Field) (v : ℕ) (left : List ℕ) (b : ℕ) → word_of f ≡ 35 ∷ b ∷ left
      → Walks opb (head v (Phase.BeforeWord f)) (plain (35 ∷ b ∷ left)) (head v (Phase.BeforeCount f))
  begins_word f v left b e = (head v (Phase.Word f 1), refl, refl, refl, spelled f v (35 ∷ []) left b e)

  word_leads : (f : Field) (v : ℕ) → Leads opb (head v (Phase.BeforeWord f)) (Bytes (word_of f)) (head v (Phase.BeforeCount f))
  word_leads Variables v t e = subst (λ x. Walks opb (head v (Phase.BeforeWord Variables)) x (head v (Phase.BeforeCount Variables))) (sym e) (begins_word Variables v _ 118 refl)
  word_leads Constraints v t e = subst (λ x. Walks opb (head v (Phase.BeforeWord Constraints)) x (head v (Phase.BeforeCount Constraints))) (sym e) (begins_word Constraints v _ 99 refl)

  -- digits of a count
  takes_digits : (f : Field) (v : ℕ) → TakesDigits opb (λ n. head v (Phase.Count f n)) top
  takes_digits f v =
      record { more = λ n d h l. ap (λ x. act (head v (Phase.Count f n)) (48 + d) x) (next_digit top f n d h l); begun = λ n. refl; number = λ n. refl }

  count_leads : (f : Field) (v n : ℕ) → Leads opb (head v (Phase.BeforeCount f)) (Count top n) (head v (Phase.Count f n))
  count_leads f v n t h =
      digits_lead opb (λ n. head v (Phase.Count f n)) top (takes_digits f v) (head v (Phase.BeforeCount f))
      (λ d i l. ap (λ x. act (head v (Phase.BeforeCount f)) (48 + d) x) (first_digit top f d i l)) n h.0 t h.1

  declares : (v n b : ℕ) → is_blank b ≡ true → opb.step (head v (Phase.Count Variables n)) b ≡ Go (head n (Phase.BeforeWord Constraints))
  declares v n = blank_each (λ b. opb.step (head v (Phase.Count Variables n)) b ≡ Go (head n (Phase.BeforeWord Constraints))) refl refl refl

  blanks_between : (v n : ℕ) → Leads opb (head v (Phase.Count Variables n)) Blanks1 (head n (Phase.BeforeWord Constraints))
  blanks_between v n t (b, bs, h, i, e) =
      subst (λ x. Walks opb (head v (Phase.Count Variables n)) x (head n (Phase.BeforeWord Constraints))) (sym e)
      (head n (Phase.BeforeWord Constraints), declares v n b h, refl, refl, blanks_before_word Constraints n (plain bs) (bs, i, refl))

  -- a word, and its count
  field_leads : (f : Field) (v n : ℕ) (P : Language) → Leads opb (head 0 Phase.Start) P (head v (Phase.BeforeWord f))
      → Leads opb (head 0 Phase.Start) (P ⋅ Bytes (word_of f) ⋅ Blanks0 ⋅ Count top n) (head v (Phase.Count f n))
  field_leads f v n P h =
      leads_then opb (P ⋅ Bytes (word_of f) ⋅ Blanks0) (Count top n) (head 0 Phase.Start) (head v (Phase.BeforeCount f)) (head v (Phase.Count f n))
      (leads_then opb (P ⋅ Bytes (word_of f)) Blanks0 (head 0 Phase.Start) (head v (Phase.BeforeCount f)) (head v (Phase.BeforeCount f))
      (leads_then opb P (Bytes (word_of f)) (head 0 Phase.Start) (head v (Phase.BeforeWord f)) (head v (Phase.BeforeCount f)) h
      (word_leads f v)) (blanks_before_count f v)) (count_leads f v n)

  star_leads : Leads opb (head 0 Phase.Start) (Byte 42) (head 0 (Phase.BeforeWord Variables))
  star_leads t e = subst (λ x. Walks opb (head 0 Phase.Start) x (head 0 (Phase.BeforeWord Variables))) (sym e) (head 0 (Phase.BeforeWord Variables), refl, refl, refl, refl)

  abbrev FirstCount : ℕ → Language
  FirstCount v = Byte 42 ⋅ Blanks0 ⋅ Bytes variable_word ⋅ Blanks0 ⋅ Count top v

  abbrev Counts : ℕ → ℕ → Language
  Counts v n = FirstCount v ⋅ Blanks1 ⋅ Bytes constraint_word ⋅ Blanks0 ⋅ Count top n

  counts_lead : (v n : ℕ) → Leads opb (head 0 Phase.Start) (Counts v n) (head v (Phase.Count Constraints n))
  counts_lead v n =
      field_leads Constraints v n (FirstCount v ⋅ Blanks1)
      (leads_then opb (FirstCount v) Blanks1 (head 0 Phase.Start) (head 0 (Phase.Count Variables v)) (head v (Phase.BeforeWord Constraints))
      (field_leads Variables 0 v (Byte 42 ⋅ Blanks0)
      (leads_then opb (Byte 42) Blanks0 (head 0 Phase.Start) (head 0 (Phase.BeforeWord Variables)) (head 0 (Phase.BeforeWord Variables)) star_leads
      (blanks_before_word Variables 0)))
      (blanks_between 0 v))

  -- the tail
  tail_keeps : (v n : ℕ) → Keeps (λ kept. stands limit top v n Phase.Tail kept) (λ kept. Header v n kept) (idle limit top v true n)
  tail_keeps v n = record { keep = λ kept b h. rw h refl; stop = λ kept. refl; within = λ kept. refl; number = λ kept. refl }

  begins_tail : (v n b : ℕ) → is_blank b ≡ true → opb.step (head v (Phase.Count Constraints n)) b ≡ Go (stands limit top v n Phase.Tail (b ∷ []))
  begins_tail v n = blank_each (λ b. opb.step (head v (Phase.Count Constraints n)) b ≡ Go (stands limit top v n Phase.Tail (b ∷ []))) refl refl refl

  tail_reads : (v n : ℕ) (tail : List ℕ) → IsTail tail
      → ReadsStatement opb (head v (Phase.Count Constraints n)) (plain tail ++ unmarked 10 ∷ []) (Header v n tail) (idle limit top v true n)
  tail_reads v n [] h = (refl, refl)
  tail_reads v n (b ∷ bs) h =
      longer opb (unmarked b) (plain bs ++ unmarked 10 ∷ []) (head v (Phase.Count Constraints n)) (stands limit top v n Phase.Tail (b ∷ [])) (idle limit top v true n) (Header v n (b ∷ bs))
      (begins_tail v n b h.0) refl refl
      (line_reads (λ kept. stands limit top v n Phase.Tail kept) (λ kept. Header v n kept) (idle limit top v true n) (tail_keeps v n) bs (b ∷ []) h.1)

  -- The machine reads each header.
  pub header_reads : (v n : ℕ) (tail : List ℕ) (t : List Letter) → IsTail tail → SpellsHeader top v n tail t
      → ReadsStatement opb (begin limit top) t (Header v n tail) (idle limit top v true n)
  header_reads v n tail t h (ab, c, e, (a, b, f, counts, g), k) =
      let parts : t ≡ a ++ (plain tail ++ unmarked 10 ∷ []) =
      e ∙ (ap (λ x. x ++ c) (f ∙ ap (λ x. a ++ x) g) ∙ (ap (λ x. (a ++ plain tail) ++ x) k ∙ append_assoc a (plain tail) (unmarked 10 ∷ []))) in
      subst (λ x. ReadsStatement opb (begin limit top) x (Header v n tail) (idle limit top v true n)) (sym parts)
      (reads_after opb a (plain tail ++ unmarked 10 ∷ []) (begin limit top) (head v (Phase.Count Constraints n)) (idle limit top v true n) (Header v n tail)
      (counts_lead v n a counts) (tail_reads v n tail h))

given_between : (top b : ℕ) (objective_allowed : Bool) → is_white b ≡ false → nat_eq b 42 ≡ false → nat_eq b 109 ≡ false
    → transition top (Phase.Between objective_allowed) b ≡ Give Phase.Constraint
given_between top b objective_allowed h i j = rw (h, i, j) refl

given_after_min : (top b : ℕ) → is_white b ≡ false → transition top Phase.AfterMin b ≡ Give Phase.Objective
given_after_min top b h = rw h refl

module _ (limit top v n : ℕ) where
  -- within a statement
  abbrev pub midway : Phase → List ℕ → SumState → OpbState
  midway p text inner = record { limit = limit; top = top; variables = v; remaining = suc n; phase = p; text = text; sums = inner }

  abbrev between : Bool → OpbState
  between objective_allowed = idle limit top v objective_allowed (suc n)

  -- comments
  comment_keeps : (objective_allowed : Bool) → Keeps (λ kept. stands limit top v (suc n) (Phase.Comment objective_allowed) kept) (λ kept. Comment kept) (between objective_allowed)
  comment_keeps objective_allowed = record { keep = λ kept b h. rw h refl; stop = λ kept. refl; within = λ kept. refl; number = λ kept. refl }

  comment_reads : (objective_allowed : Bool) (bytes : List ℕ) (t : List Letter) → IsInLine bytes → SpellsComment bytes t → ReadsStatement opb (between objective_allowed) t (Comment bytes) (between objective_allowed)
  comment_reads objective_allowed bytes t h (ab, c, e, (a, b, f, star, text), feed) =
      let parts : t ≡ unmarked 42 ∷ (plain bytes ++ unmarked 10 ∷ []) =
      e ∙ (ap (λ x. x ++ c) (f ∙ (ap (λ x. x ++ b) star ∙ ap (λ x. unmarked 42 ∷ x) text)) ∙ ap (λ x. (unmarked 42 ∷ plain bytes) ++ x) feed) in
      subst (λ x. ReadsStatement opb (between objective_allowed) x (Comment bytes) (between objective_allowed)) (sym parts)
      (longer opb (unmarked 42) (plain bytes ++ unmarked 10 ∷ []) (between objective_allowed) (stands limit top v (suc n) (Phase.Comment objective_allowed) []) (between objective_allowed) (Comment bytes) refl refl refl
      (line_reads (λ kept. stands limit top v (suc n) (Phase.Comment objective_allowed) kept) (λ kept. Comment kept) (between objective_allowed) (comment_keeps objective_allowed) bytes [] h))

  -- objectives
  abbrev after_min : OpbState
  after_min = midway Phase.AfterMin [] (objectives limit)

  min_leads : (objective_allowed : Bool) → objective_allowed ≡ true → Leads opb (between objective_allowed) (Bytes min_word) after_min
  min_leads objective_allowed m t e =
      let at : ℕ → OpbState = λ k. stands limit top v (suc n) (Phase.Min k) [] in
      let first = ap (λ (x : Bool). act (between objective_allowed) 109 (cond x (To (Phase.Min 1)) (Give Phase.Constraint))) m in
      subst (λ x. Walks opb (between objective_allowed) x after_min) (sym e)
      (at 1, first, refl, refl, (at 2, refl, refl, refl, (at 3, refl, refl, refl, (after_min, refl, refl, refl, refl))))

  whites_stay : (b : ℕ) → is_white b ≡ true → opb.step after_min b ≡ Go after_min
  whites_stay b h = rw h refl

  sum_reads : (xs : List Term) (u : List Letter) → (SpellsSum White limit xs ⋅ Spaces0 White limit ⋅ Byte 59) u
      → ReadsStatement opb after_min u (Objective xs) (idle limit top v false (suc n))
  sum_reads [] u (ab, c, e, (a, b, f, none, (bs, spaces, g)), stop) =
      let parts : u ≡ plain bs ++ unmarked 59 ∷ [] = e ∙ (ap (λ x. x ++ c) (f ∙ (ap (λ x. x ++ b) none ∙ g)) ∙ ap (λ x. plain bs ++ x) stop) in
      subst (λ x. ReadsStatement opb after_min x (Objective []) (idle limit top v false (suc n))) (sym parts)
      (reads_after opb (plain bs) (unmarked 59 ∷ []) after_min after_min (idle limit top v false (suc n)) (Objective [])
      (stays (λ b. IsTrue (is_white b)) after_min whites_stay refl refl bs (spaces_white bs spaces)) (refl, refl))
  sum_reads (x ∷ xs) u h =
      let f : IsDark u = sum-dark limit x xs (Spaces0 White limit) (Byte 59) u h in
      let r : ReadsStatement sums (objectives limit) u (SumEvent.Sum (x ∷ xs)) (last White Part.Sum limit) =
      (reads_grammar White Part.Sum limit u (SumEvent.Sum (x ∷ xs)) (last White Part.Sum limit)).1 ((refl, h), refl) in
      subst (λ y. ReadsStatement opb after_min y (Objective (x ∷ xs)) (idle limit top v false (suc n))) (sym f.2)
      (given_reads after_min Phase.Objective gives_objective f.0 f.1 (SumEvent.Sum (x ∷ xs)) (last White Part.Sum limit) (given_after_min top f.0.byte f.3)
      (subst (λ y. ReadsStatement sums (objectives limit) y (SumEvent.Sum (x ∷ xs)) (last White Part.Sum limit)) f.2 r))

  objective_reads : (objective_allowed : Bool) (xs : List Term) (t : List Letter) → objective_allowed ≡ true → SpellsObjective limit xs t
      → ReadsStatement opb (between objective_allowed) t (Objective xs) (idle limit top v false (suc n))
  objective_reads objective_allowed xs t m h = by_parts (objective_parts limit xs t h)
    where
      by_parts : (MinPrefix ⋅ Spells White limit Part.Sum (SumEvent.Sum xs)) t
          → ReadsStatement opb (between objective_allowed) t (Objective xs) (idle limit top v false (suc n))
      by_parts (a, u, e, prefix, k) =
          subst (λ x. ReadsStatement opb (between objective_allowed) x (Objective xs) (idle limit top v false (suc n))) (sym e)
          (reads_after opb a u (between objective_allowed) after_min (idle limit top v false (suc n)) (Objective xs)
          (leads_then opb (Bytes min_word) Whites0 (between objective_allowed) after_min after_min (min_leads objective_allowed m) (stays_many (λ b. IsTrue (is_white b)) after_min whites_stay refl refl) a prefix)
          (sum_reads xs u k.1))

  -- constraints
  first_given : (objective_allowed : Bool) (t : List Letter) (e : SumEvent) (new : SumState) → ReadsStatement sums (linears limit) t e new → (c : Linear)
      → e ≡ SumEvent.Linear c → ReadsStatement opb (between objective_allowed) t (Constraint c) (idle limit top v false (suc n - 1))
  first_given objective_allowed [] e new r c f = absurd r
  first_given objective_allowed (l ∷ t) e new r c f =
      let g : (is_white l.byte ≡ false) × (nat_eq l.byte 42 ≡ false) × (nat_eq l.byte 109 ≡ false) = linear_first limit l t e new r in
      given_reads (between objective_allowed) Phase.Constraint gives_constraint l t (SumEvent.Linear c) new (given_between top l.byte objective_allowed g.0 g.1 g.2)
      (subst (λ x. ReadsStatement sums (linears limit) (l ∷ t) x new) f r)

  constraint_reads : (objective_allowed : Bool) (c : Linear) (t : List Letter) → SpellsLinear White limit c t → ReadsStatement opb (between objective_allowed) t (Constraint c) (idle limit top v false n)
  constraint_reads objective_allowed c t h =
      let less : suc n - 1 ≡ n = omega arith in
      subst (λ x. ReadsStatement opb (between objective_allowed) t (Constraint c) (idle limit top v false x)) less
      (first_given objective_allowed t (SumEvent.Linear c) (last White Part.Linear limit)
      ((reads_grammar White Part.Linear limit t (SumEvent.Linear c) (last White Part.Linear limit)).1 ((refl, h), refl)) c refl)

  -- The machine reads each statement.
  pub entry_reads : (objective_allowed : Bool) (t : List Letter) (e : OpbEvent) (new : OpbState) → IsEntry limit objective_allowed n t (λ m k. new ≡ idle limit top v m k) e
      → ReadsStatement opb (between objective_allowed) t e new
  entry_reads objective_allowed t e new h = grind (arith, comment_reads, objective_reads, constraint_reads)
