-- What the machine reads after a header is a comment, an objective or a constraint.
use Rattle.pb_opb.proofs.Common.{Part, ℕ, ◌&&◌, ◌++◌, ◌+◌, ◌<◌, ◌∙◌, ◌∷◌, ◌≡◌, [], ap, arith, Bool, false, IsTrue, length, List, nat_eq, refl, subst, suc, sym}
use Rattle.pb_opb.proofs.Common.{take, true, slice_index, and_parts, cond_both, eqb-true, reads_grammar, continues-midway, SumEvent, White, sums, SumState}
use Rattle.pb_opb.proofs.Common.{Spells, ends_walk, Keeps, On, reported, Walks, walks_more, never, grown, many-grown, next, none_yet, as_unmarked, bytes_grown}
use Rattle.pb_opb.proofs.Common.{further, word_grown, word_whole, End, Go, Next, ReadsStatement, Refuse, IsInLine, is_white, ◌⋅◌, Byte, Bytes, Language, over}
use Rattle.pb_opb.proofs.Common.{unmarked, Letter, plain, OpbEvent, Action, BeginSum, To, Phase, transition, act, after, is_in_number, linears, objectives, opb}
use Rattle.pb_opb.proofs.{Common.OpbState, Common.statement_of, Common.min_word, Common.SpellsObjective, Common.Whites0, lemmas.instances.Counted.IsEntry}
use Rattle.pb_opb.proofs.lemmas.machine.{Objectives.MinPrefix, Objectives.objective_of, Stands.one_byte, Stands.line_grown, Stands.idle}

abbrev IsWhite : ℕ → Type 0
IsWhite b = IsTrue (is_white b)

-- what has been read of a sum
abbrev pub SumPrefix : ℕ → SumState → Language
SumPrefix limit inner = λ p. Walks sums (objectives limit) p inner

module _ (limit top v n : ℕ) (objective_allowed : Bool) where
  -- What has been read, by phase.
  abbrev pub prefix : OpbState → Phase → Language
  prefix s (Phase.Between m) = λ p. (m ≡ objective_allowed) × (p ≡ []) × (s.text ≡ []) × (s.sums ≡ linears s.limit)
  prefix s (Phase.Comment m) = λ p. (m ≡ objective_allowed) × IsInLine s.text × (Byte 42 ⋅ Bytes s.text) p
  prefix s (Phase.Min k) = λ p. (objective_allowed ≡ true) × (k < length min_word) × Bytes (take k min_word) p
  prefix s Phase.AfterMin = λ p. (objective_allowed ≡ true) × (s.sums ≡ objectives s.limit) × MinPrefix p
  prefix s Phase.Objective = λ p. (objective_allowed ≡ true) × (MinPrefix ⋅ SumPrefix s.limit s.sums) p
  prefix s Phase.Constraint = λ p. Walks sums (linears s.limit) p s.sums
  prefix s _ = λ p. ⊥

  abbrev pub Known : OpbState → Type 0
  Known s = (s.limit ≡ limit) × (s.top ≡ top) × (s.variables ≡ v) × (s.remaining ≡ suc n)

  abbrev pub Prefix : OpbState → Language
  Prefix s = λ p. Known s × prefix s s.phase p

  -- a statement and what follows it
  abbrev pub IsStatement : OpbEvent → OpbState → Language
  IsStatement e new = λ t. IsEntry limit objective_allowed n t (λ m k. new ≡ idle limit top v m k) e

  same_idle : (l t w k k' : ℕ) (m m' : Bool) → l ≡ limit → t ≡ top → w ≡ v → m ≡ m' → k ≡ k' → idle l t w m k ≡ idle limit top v m' k'
  same_idle l t w k k' m m' a b c d e = rw (a, b, c, d, e) refl

  module _ (s : OpbState) (l : Letter) (p : List Letter) (k : Known s) where
    -- what holds for an outcome, and after a move
    abbrev Leaves : Next OpbState OpbEvent → Type 0
    Leaves x = On opb Prefix IsStatement x l (p ++ l ∷ [])

    abbrev After : Action → Type 0
    After m = Leaves (act s l.byte m)

    -- constraints
    ends_constraint : (e : SumEvent) → Spells White s.limit Part.Linear e (p ++ l ∷ [])
        → IsStatement (statement_of e) (after s Phase.Constraint) (p ++ l ∷ [])
    ends_constraint e h = grind (arith, never, same_idle)

    in_constraint : Walks sums (linears s.limit) p s.sums → (x : Next SumState SumEvent) → sums.step s.sums l.byte ≡ x → Leaves (over s Phase.Constraint x)
    in_constraint h (Go inner) e = λ w m. (k, walks_more sums p l (linears s.limit) s.sums inner h e (continues-midway s.sums inner l.byte e) m)
    in_constraint h (End e new) f = λ m.
        ends_constraint e ((reads_grammar White Part.Linear s.limit (p ++ l ∷ []) e new).0 (ends_walk sums p l (linears s.limit) s.sums new e h f m)).0
    in_constraint h Refuse e = tt

    -- objectives
    ends_objective : objective_allowed ≡ true → (e : SumEvent) → (MinPrefix ⋅ Spells White s.limit Part.Sum e) (p ++ l ∷ [])
        → IsStatement (statement_of e) (after s Phase.Objective) (p ++ l ∷ [])
    ends_objective m (SumEvent.Sum xs) h = (
      m,
      subst (λ x. SpellsObjective x xs (p ++ l ∷ [])) k.0 (objective_of s.limit xs (p ++ l ∷ []) h),
      same_idle s.limit s.top s.variables s.remaining (suc n) false false k.0 k.1 k.2 refl k.3,
    )
    ends_objective m (SumEvent.Linear c) (a, b, e, h, spells) = never false spells.0 refl

    in_objective : objective_allowed ≡ true → (MinPrefix ⋅ SumPrefix s.limit s.sums) p → (x : Next SumState SumEvent) → sums.step s.sums l.byte ≡ x
        → Leaves (over s Phase.Objective x)
    in_objective m h (Go inner) e = λ w i. (
      k,
      (
        m,
        grown MinPrefix (SumPrefix s.limit s.sums) (SumPrefix s.limit inner) p l
            (λ q r. walks_more sums q l (objectives s.limit) s.sums inner r e (continues-midway s.sums inner l.byte e) i) h,
      ),
    )
    in_objective m h (End e new) f = λ i. ends_objective m e
        (grown MinPrefix (SumPrefix s.limit s.sums) (Spells White s.limit Part.Sum e) p l
        (λ q r. ((reads_grammar White Part.Sum s.limit (q ++ l ∷ []) e new).0 (ends_walk sums q l (objectives s.limit) s.sums new e r f i)).0) h)
    in_objective m h Refuse e = tt

    after_min : objective_allowed ≡ true → s.sums ≡ objectives s.limit → MinPrefix p → After (transition s.top Phase.AfterMin l.byte)
    after_min m i h = cond_both (is_white l.byte) _ _ After
        (λ e w f. (k, (m, i, grown (Bytes min_word) Whites0 Whites0 p l (many-grown IsWhite l.byte l (as_unmarked l l.byte f refl) e) h)))
        (λ _. in_objective m (none_yet MinPrefix (SumPrefix s.limit s.sums) p i h) (sums.step s.sums l.byte) refl)

    in_min : (j : ℕ) → objective_allowed ≡ true → j < length min_word → Bytes (take j min_word) p → After (transition s.top (Phase.Min j) l.byte)
    in_min j m i h = cond_both (nat_eq l.byte (slice_index min_word j)) _ _ After
        (λ e. cond_both (nat_eq (j + 1) (length min_word)) BeginSum (To (Phase.Min (j + 1))) After
        (λ g w f. (k, (m, refl, none_yet (Bytes min_word) Whites0 (p ++ l ∷ []) ([], tt, refl) (word_whole min_word (j + 1) (p ++ l ∷ []) (eqb-true (j + 1) (length min_word) g) (longer f e)))))
        (λ g w f. (k, (m, further j (length min_word) i g, longer f e))))
        (λ _. tt)
      where
        longer : l.numeral ≡ false → nat_eq l.byte (slice_index min_word j) ≡ true → Bytes (take (j + 1) min_word) (p ++ l ∷ [])
        longer f e = word_grown min_word j l i f (eqb-true l.byte (slice_index min_word j) e) p h

    -- comments
    in_comment : (m : Bool) → s.phase ≡ Phase.Comment m → m ≡ objective_allowed → IsInLine s.text → (Byte 42 ⋅ Bytes s.text) p
        → After (transition s.top (Phase.Comment m) l.byte)
    in_comment m at same h c = cond_both (nat_eq l.byte 10) _ _ After
        (λ e f. (
          h,
          next (Byte 42 ⋅ Bytes s.text) (Byte 10) p l c (one_byte l 10 f e),
          same_idle s.limit s.top s.variables s.remaining (suc n) m objective_allowed k.0 k.1 k.2 same k.3,
        ))
        (λ e w f. (
          k,
          subst (λ q. prefix new q (p ++ l ∷ [])) (sym at) (
            same,
            line_grown s.text l.byte e h,
            grown (Byte 42) (Bytes s.text) (Bytes (s.text ++ l.byte ∷ [])) p l (bytes_grown s.text l.byte l (f ∙ ap (λ q. is_in_number new q) at) refl) c,
          ),
        ))
      where
        new : OpbState
        new = record s { text = s.text ++ l.byte ∷ [] }

    -- between two statements
    between_two : (m : Bool) → m ≡ objective_allowed → p ≡ [] → s.text ≡ [] → s.sums ≡ linears s.limit → After (transition s.top (Phase.Between m) l.byte)
    between_two m same none kept inner = cond_both (is_white l.byte) _ _ After
        (λ e w. never false w refl)
        (λ _. cond_both (nat_eq l.byte 42) _ _ After
        (λ e w f. (k, (same, subst IsInLine (sym kept) tt, none_yet (Byte 42) (Bytes s.text) (p ++ l ∷ []) (ap plain (sym kept)) (first 42 f e))))
        (λ _. cond_both (nat_eq l.byte 109 && m) _ _ After
        (λ e w f. let g : (nat_eq l.byte 109 ≡ true) × (m ≡ true) = and_parts (nat_eq l.byte 109) m e in (k, (sym same ∙ g.1, omega arith, first 109 f g.0)))
        (λ _. in_constraint (subst (λ x. Walks sums (linears s.limit) x s.sums) (sym none) inner) (sums.step s.sums l.byte) refl)))
      where
        first : (b : ℕ) → l.numeral ≡ false → nat_eq l.byte b ≡ true → p ++ l ∷ [] ≡ unmarked b ∷ []
        first b f e = ap (λ x. x ++ l ∷ []) none ∙ one_byte l b f e

    sound : (q : Phase) → s.phase ≡ q → prefix s q p → After (transition s.top q l.byte)
    sound q e h = grind (arith, between_two, in_comment, in_min, after_min, in_objective, in_constraint)

  pub keeps : Keeps opb Prefix IsStatement
  keeps s l p f = sound s l p f.0 s.phase refl f.1

  pub entry_only : (t : List Letter) (e : OpbEvent) (new : OpbState) → ReadsStatement opb (idle limit top v objective_allowed (suc n)) t e new → IsStatement e new t
  entry_only t e new r =
      reported opb Prefix IsStatement keeps t (idle limit top v objective_allowed (suc n)) [] e new r ((refl, refl, refl, refl), (refl, refl, refl, refl))
