-- The body of an instance, read from its start: how many constraints are to come, and whether an objective may come.
-- Offered to other crates.
use Rattle.pb_opb.proofs.Common.{ℕ, ◌∷◌, ◌≡◌, [], ap, arith, Bool, false, IsTrue, List, refl, subst, suc, sym, true, zero, White, SpellsLinear, IsInLine}
use Rattle.pb_opb.proofs.Common.{is_white, Each, Item, Letter, events_of, OpbEvent, Comment, Constraint, Header, Objective, AreSpelled, constraint_count}
use Rattle.pb_opb.proofs.Common.{EndsInConstraint, HasNoObjective, HasObjectiveFirst, IsBody, SpellsComment, SpellsEntry, SpellsObjective}

module _ (limit : ℕ) where
  -- A statement after the header, and what follows it. `follows objective_allowed n` holds of the statements after it: n of them are
  -- constraints, and `objective_allowed` says whether an objective may still come.
  abbrev pub IsEntry : Bool → ℕ → List Letter → (Bool → ℕ → Type 0) → OpbEvent → Type 0
  IsEntry objective_allowed n text follows (Header variables constraints tail) = ⊥
  IsEntry objective_allowed n text follows (Comment bytes) = IsInLine bytes × SpellsComment bytes text × follows objective_allowed (suc n)
  IsEntry objective_allowed n text follows (Objective terms) = IsTrue objective_allowed × SpellsObjective limit terms text × follows false (suc n)
  IsEntry objective_allowed n text follows (Constraint linear) = SpellsLinear White limit linear text × follows false n

  -- The statements of a body, counted down: this many constraints, the last one at the end. An objective may come
  -- before the first constraint if `objective_allowed` allows it.
  abbrev pub IsCounted : Bool → ℕ → List (Item OpbEvent) → Type 0
  IsCounted objective_allowed zero [] = Unit {0}
  IsCounted objective_allowed zero (i ∷ rest) = ⊥
  IsCounted objective_allowed (suc n) [] = ⊥
  IsCounted objective_allowed (suc n) (i ∷ rest) =
      Each (λ b. IsTrue (is_white b)) i.gap × IsEntry objective_allowed n i.text (λ m k. IsCounted m k rest) i.event

-- an objective may come first, or there is none
abbrev MayHave : Bool → List OpbEvent → Type 0
MayHave true events = HasObjectiveFirst events
MayHave false events = HasNoObjective events

-- a list that ends in a constraint has one
ends_some : (events : List OpbEvent) (e : OpbEvent) → EndsInConstraint (e ∷ events) → constraint_count (e ∷ events) ≡ 0 → ⊥
ends_some [] e h c = grind arith
ends_some (f ∷ events) e h c = grind (arith, ends_some events f)

-- a statement with the white space before it
abbrev item : List ℕ → List Letter → OpbEvent → Item OpbEvent
item gap text e = record { gap = gap; text = text; event = e }

module _ (limit : ℕ) where
  record Parts (objective_allowed : Bool) (n : ℕ) (items : List (Item OpbEvent)) : Type 0 where
    pub spelled : AreSpelled limit items
    pub count : constraint_count (events_of items) ≡ n
    pub objective : MayHave objective_allowed (events_of items)
    pub last : EndsInConstraint (events_of items)

  entry_parts : (objective_allowed : Bool) (n : ℕ) (gap : List ℕ) (text : List Letter) (rest : List (Item OpbEvent)) → Each (λ b. IsTrue (is_white b)) gap → ((m : Bool) (k : ℕ) → IsCounted limit m k rest → Parts m k rest) → (e : OpbEvent)
      → IsEntry limit objective_allowed n text (λ m k. IsCounted limit m k rest) e → Parts objective_allowed (suc n) (item gap text e ∷ rest)
  entry_parts objective_allowed n gap text rest g f (Header variables constraints tail) h = absurd h
  entry_parts objective_allowed n gap text rest g f (Comment bytes) h =
      let p = f objective_allowed (suc n) h.2 in
      record { spelled = (g, (h.0, h.1), p.spelled); count = p.count; objective = grind (arith, p.objective); last = grind (arith, p.count, p.last) }
  entry_parts objective_allowed n gap text rest g f (Objective terms) h =
      let p = f false (suc n) h.2 in
      record { spelled = (g, h.1, p.spelled); count = p.count; objective = subst (λ (m : Bool). MayHave m (Objective terms ∷ events_of rest)) (sym h.0) p.objective; last = grind (arith, p.count, p.last) }
  entry_parts objective_allowed n gap text rest g f (Constraint linear) h =
      let p = f false n h.1 in
      record { spelled = (g, h.0, p.spelled); count = ap suc p.count; objective = grind (arith, p.objective); last = grind (arith, p.last) }

  parts : (items : List (Item OpbEvent)) (objective_allowed : Bool) (n : ℕ) → IsCounted limit objective_allowed n items → Parts objective_allowed n items
  parts [] objective_allowed zero h = record { spelled = tt; count = refl; objective = grind arith; last = tt }
  parts [] objective_allowed (suc n) h = absurd h
  parts (i ∷ rest) objective_allowed zero h = absurd h
  parts (i ∷ rest) objective_allowed (suc n) h = entry_parts objective_allowed n i.gap i.text rest h.0 (λ m k. parts rest m k) i.event h.1

  -- and the converse
  entry_counted : (objective_allowed : Bool) (n : ℕ) (text : List Letter) (rest : List (Item OpbEvent)) → AreSpelled limit rest
      → ((m : Bool) (k : ℕ) → constraint_count (events_of rest) ≡ k → MayHave m (events_of rest) → EndsInConstraint (events_of rest) → IsCounted limit m k rest) → (e : OpbEvent)
      → SpellsEntry limit e text → constraint_count (e ∷ events_of rest) ≡ suc n → MayHave objective_allowed (e ∷ events_of rest) → EndsInConstraint (e ∷ events_of rest)
      → IsEntry limit objective_allowed n text (λ m k. IsCounted limit m k rest) e
  entry_counted objective_allowed n text rest r f (Header variables constraints tail) s c o l = absurd s
  entry_counted objective_allowed n text rest r f (Comment bytes) s c o l =
      (s.0, s.1, f objective_allowed (suc n) c (grind (arith, o)) (grind (arith, l)))
  entry_counted true n text rest r f (Objective terms) s c o l = (refl, s, f false (suc n) c o (grind (arith, l)))
  entry_counted false n text rest r f (Objective terms) s c o l = absurd o
  entry_counted objective_allowed n text rest r f (Constraint linear) s c o l =
      (s, f false n (omega (arith, c)) (grind (arith, o)) (grind (arith, l)))

  counted_by : (items : List (Item OpbEvent)) → AreSpelled limit items → (objective_allowed : Bool) (n : ℕ) → constraint_count (events_of items) ≡ n → MayHave objective_allowed (events_of items) → EndsInConstraint (events_of items) → IsCounted limit objective_allowed n items
  counted_by [] s objective_allowed zero c o l = tt
  counted_by [] s objective_allowed (suc n) c o l = omega (arith, c)
  counted_by (i ∷ rest) s objective_allowed zero c o l = ends_some (events_of rest) i.event l c
  counted_by (i ∷ rest) s objective_allowed (suc n) c o l =
      (s.0, entry_counted objective_allowed n i.text rest s.2 (λ m k. counted_by rest s.2 m k) i.event s.1 c o l)

  -- The two definitions agree.
  pub counted : (n : ℕ) (items : List (Item OpbEvent)) → IsBody limit n items → IsCounted limit true n items
  counted n items h = counted_by items h.spelled true n h.count h.objective h.last

  pub body_of : (n : ℕ) (items : List (Item OpbEvent)) → IsCounted limit true n items → IsBody limit n items
  body_of n items h =
      let p = parts items true n h in record { spelled = p.spelled; count = p.count; objective = p.objective; last = p.last }
