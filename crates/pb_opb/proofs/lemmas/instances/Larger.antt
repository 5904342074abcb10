-- An instance remains an instance if numbers may be larger.
use Rattle.pb_opb.proofs.Common.{SumEvent, Part, ℕ, ◌∷◌, ◌≤◌, [], arith, Bool, false, List, refl, suc, true, zero, Term, White, Spells, after_it, inside, ◌⋅◌}
use Rattle.pb_opb.proofs.Common.{Blanks0, Blanks1, Byte, Bytes, Language, Count, Item, Letter, OpbEvent, Comment, Constraint, Header, Objective}
use Rattle.pb_opb.proofs.Common.{constraint_word, IsBegun, IsInstance, SpellsHeader, SpellsObjective, variable_word}
use Rattle.pb_opb.proofs.lemmas.instances.Counted.{IsEntry, IsCounted, counted, body_of}
use Rattle.pb_opb.proofs.lemmas.machine.Objectives.{MinPrefix, objective_of, objective_parts}
use Rattle.pb_sums.proofs.lemmas.values.Larger.{spells_larger}

module _ (top top' : ℕ) (h : top ≤ top') where
  abbrev Grows : (ℕ → Language) → Type 0
  Grows P = (t : List Letter) → P top t → P top' t

  -- followed by a word, and followed by a count
  then_same : (P : ℕ → Language) (Q : Language) → Grows P → Grows (λ n. P n ⋅ Q)
  then_same P Q f t k = inside (P top) (P top') Q t f k

  then_count : (P : ℕ → Language) (n : ℕ) → Grows P → Grows (λ m. P m ⋅ Count m n)
  then_count P n f t k =
      after_it (P top') (Count top n) (Count top' n) t (λ q r. (omega (arith, r.0), r.1)) (inside (P top) (P top') (Count top n) t f k)

  header_grows : (v n : ℕ) (tail : List ℕ) → Grows (λ m. SpellsHeader m v n tail)
  header_grows v n tail =
      let A : Language = Byte 42 ⋅ Blanks0 ⋅ Bytes variable_word ⋅ Blanks0 in
      let B : ℕ → Language = λ m. A ⋅ Count m v in
      let C : ℕ → Language = λ m. B m ⋅ Blanks1 ⋅ Bytes constraint_word ⋅ Blanks0 in
      then_same (λ m. C m ⋅ Count m n ⋅ Bytes tail) (Byte 10)
      (then_same (λ m. C m ⋅ Count m n) (Bytes tail)
      (then_count C n
      (then_same (λ m. B m ⋅ Blanks1 ⋅ Bytes constraint_word) Blanks0
      (then_same (λ m. B m ⋅ Blanks1) (Bytes constraint_word)
      (then_same B Blanks1
      (then_count (λ m. A) v (λ t k. k)))))))

module _ (limit limit' : ℕ) (h : limit ≤ limit') where
  objective_grows : (xs : List Term) (t : List Letter) → SpellsObjective limit xs t → SpellsObjective limit' xs t
  objective_grows xs t k =
      objective_of limit' xs t
      (after_it MinPrefix (Spells White limit Part.Sum (SumEvent.Sum xs)) (Spells White limit' Part.Sum (SumEvent.Sum xs)) t
      (λ q r. spells_larger White limit limit' h Part.Sum q (SumEvent.Sum xs) r) (objective_parts limit xs t k))

  pub entry_grows : (objective_allowed : Bool) (n : ℕ) (text : List Letter) (P Q : Bool → ℕ → Type 0) → ((m : Bool) (k : ℕ) → P m k → Q m k) → (e : OpbEvent)
      → IsEntry limit objective_allowed n text P e → IsEntry limit' objective_allowed n text Q e
  entry_grows objective_allowed n text P Q f (Header variables constraints tail) k = absurd k
  entry_grows objective_allowed n text P Q f (Comment bytes) k = (k.0, k.1, f objective_allowed (suc n) k.2)
  entry_grows objective_allowed n text P Q f (Objective xs) k = (k.0, objective_grows xs text k.1, f false (suc n) k.2)
  entry_grows objective_allowed n text P Q f (Constraint c) k = ((spells_larger White limit limit' h Part.Linear text (SumEvent.Linear c) (refl, k.0)).1, f false n k.1)

  body_grows : (items : List (Item OpbEvent)) (objective_allowed : Bool) (remaining : ℕ) → IsCounted limit objective_allowed remaining items → IsCounted limit' objective_allowed remaining items
  body_grows [] objective_allowed zero k = tt
  body_grows [] objective_allowed (suc n) k = absurd k
  body_grows (i ∷ rest) objective_allowed zero k = absurd k
  body_grows (i ∷ rest) objective_allowed (suc n) k =
      (k.0, entry_grows objective_allowed n i.text (λ m j. IsCounted limit m j rest) (λ m j. IsCounted limit' m j rest) (λ m j. body_grows rest m j) i.event k.1)

module _ (limit limit' top top' : ℕ) (h : limit ≤ limit') (j : top ≤ top') where
  begun_grows : (i : Item OpbEvent) (rest : List (Item OpbEvent)) (e : OpbEvent) → IsBegun limit top i rest e → IsBegun limit' top' i rest e
  begun_grows i rest (Header v n tail) k = (k.0, k.1, header_grows top top' j v n tail i.text k.2, body_of limit' n rest (body_grows limit limit' h rest true n (counted limit n rest k.3)))
  begun_grows i rest _ k = absurd k

  pub instance_grows : (items : List (Item OpbEvent)) → IsInstance limit top items → IsInstance limit' top' items
  instance_grows items k = grind (arith, begun_grows)
