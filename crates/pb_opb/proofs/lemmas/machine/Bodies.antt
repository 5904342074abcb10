-- The machine accepts the statements of an instance, and no others.
use Rattle.pb_opb.proofs.Common.{Phase, ℕ, ◌&&◌, ◌↔◌, ◌∙◌, ◌∷◌, ◌≡◌, [], ap, arith, Bool, false, IsTrue, List, nat_eq, refl, subst, suc, sym, true, zero}
use Rattle.pb_opb.proofs.Common.{cond_both, SumEvent, sums, SumState, refuse_or_end, refuse_or_go, never, AcceptsItems, End, Go, Next, ReadsStatement, Refuse}
use Rattle.pb_opb.proofs.Common.{SkipsGap, is_white, Each, Item, Letter, OpbEvent, Header, Action, act, begin, linears, opb, OpbState, over, IsBegun}
use Rattle.pb_opb.proofs.{Common.IsInstance, lemmas.machine.EntryPrefix.entry_only, lemmas.machine.Stands.idle}
use Rattle.pb_opb.proofs.lemmas.instances.{Counted.IsEntry, Counted.IsCounted, Counted.counted, Counted.body_of, Larger.entry_grows}
use Rattle.pb_opb.proofs.lemmas.machine.{HeaderWalk.entry_reads, HeaderWalk.header_reads, HeaderPrefix.IsHeader, HeaderPrefix.header_only, Alive.done_stops}

-- what a byte of the white space before a statement may lead to
abbrev pub InGap : (OpbState → Type 0) → Next OpbState OpbEvent → Type 0
InGap P (Go mid) = opb.begun mid ≡ false → P mid
InGap P (End e s) = Unit {0}
InGap P Refuse = Unit {0}

-- a byte that is given to the machine of sums begins a statement
pub gap_given : (P : OpbState → Type 0) (s : OpbState) (x : Next SumState SumEvent) → InGap P (over s Phase.Constraint x)
gap_given P s x = grind (arith, never)

module _ (limit top : ℕ) where
  no_gap : (b : ℕ) (mid : OpbState) → opb.step (begin limit top) b ≡ Go mid → opb.begun mid ≡ false → ⊥
  no_gap b mid g o = grind arith

  -- no white space comes before a header
  start_gap : (gap : List ℕ) (at : OpbState) → SkipsGap opb (begin limit top) gap at → (gap ≡ []) × (at ≡ begin limit top)
  start_gap [] at h = (refl, h)
  start_gap (b ∷ gap) at (mid, g, o, h) = absurd (no_gap b mid g o)

  module _ (v : ℕ) where
    abbrev at_idle : Bool → ℕ → OpbState
    at_idle objective_allowed remaining = idle limit top v objective_allowed remaining

    -- white space between two statements
    gap_byte : (objective_allowed : Bool) (n b : ℕ) → InGap (λ mid. (is_white b ≡ true) × (mid ≡ at_idle objective_allowed (suc n))) (opb.step (at_idle objective_allowed (suc n)) b)
    gap_byte objective_allowed n b = cond_both (is_white b) _ _ Q
        (λ e o. (e, refl))
        (λ _. cond_both (nat_eq b 42) _ _ Q
        (λ _ o. never true refl o)
        (λ _. cond_both (nat_eq b 109 && objective_allowed) _ _ Q
        (λ _ o. never true refl o)
        (λ _. gap_given (λ mid. (is_white b ≡ true) × (mid ≡ at_idle objective_allowed (suc n))) (at_idle objective_allowed (suc n)) (sums.step (linears limit) b))))
      where
        Q : Action → Type 0
        Q m = InGap (λ mid. (is_white b ≡ true) × (mid ≡ at_idle objective_allowed (suc n))) (act (at_idle objective_allowed (suc n)) b m)

    gap_only : (objective_allowed : Bool) (n : ℕ) (gap : List ℕ) (at : OpbState) → SkipsGap opb (at_idle objective_allowed (suc n)) gap at
        → Each (λ b. IsTrue (is_white b)) gap × (at ≡ at_idle objective_allowed (suc n))
    gap_only objective_allowed n [] at h = (tt, h)
    gap_only objective_allowed n (b ∷ gap) at (mid, g, o, h) =
        let on : opb.begun mid ≡ false → (is_white b ≡ true) × (mid ≡ at_idle objective_allowed (suc n)) = subst (λ x. InGap (λ s. (is_white b ≡ true) × (s ≡ at_idle objective_allowed (suc n))) x) g (gap_byte objective_allowed n b) in
        let f : (is_white b ≡ true) × (mid ≡ at_idle objective_allowed (suc n)) = on o in
        let r : Each (λ b. IsTrue (is_white b)) gap × (at ≡ at_idle objective_allowed (suc n)) = gap_only objective_allowed n gap at (subst (λ s. SkipsGap opb s gap at) f.1 h) in
        ((f.0, r.0), r.1)

    gap_each : (objective_allowed : Bool) (n : ℕ) (gap : List ℕ) → Each (λ b. IsTrue (is_white b)) gap → SkipsGap opb (at_idle objective_allowed (suc n)) gap (at_idle objective_allowed (suc n))
    gap_each objective_allowed n [] h = refl
    gap_each objective_allowed n (b ∷ gap) h = (at_idle objective_allowed (suc n), rw h.0 refl, refl, gap_each objective_allowed n gap h.1)

    -- what follows a statement
    entry_after : (objective_allowed : Bool) (n : ℕ) (text : List Letter) (P : Bool → ℕ → Type 0) (e : OpbEvent) → IsEntry limit objective_allowed n text P e
        → (m : Bool) × (k : ℕ) × P m k × IsEntry limit objective_allowed n text (λ m' k'. at_idle m k ≡ at_idle m' k') e
    entry_after objective_allowed n text P e h = grind arith

    -- nothing follows the last constraint
    pub nothing_read : (objective_allowed : Bool) (gap : List ℕ) (text : List Letter) (e : OpbEvent) (at after : OpbState) → SkipsGap opb (at_idle objective_allowed zero) gap at
        → ReadsStatement opb at text e after → ⊥
    nothing_read objective_allowed [] [] e at after h r = r
    nothing_read objective_allowed [] (l ∷ []) e at after h (r, n) = refuse_or_end e after (sym (ap (λ s. opb.step s l.byte) h) ∙ r)
    nothing_read objective_allowed [] (l ∷ k ∷ text) e at after h (mid, g, o, n, r) = refuse_or_go mid (sym (ap (λ s. opb.step s l.byte) h) ∙ g)
    nothing_read objective_allowed (b ∷ gap) text e at after (mid, g, o, h) r = refuse_or_go mid g

    body_only : (items : List (Item OpbEvent)) (objective_allowed : Bool) (remaining : ℕ) → AcceptsItems opb (at_idle objective_allowed remaining) items → IsCounted limit objective_allowed remaining items
    body_only [] objective_allowed zero h = tt
    body_only [] objective_allowed (suc n) h = never false h refl
    body_only (i ∷ rest) objective_allowed zero (at, after, g, r, a) = nothing_read objective_allowed i.gap i.text i.event at after g r
    body_only (i ∷ rest) objective_allowed (suc n) (at, after, g, r, a) =
        let f : Each (λ b. IsTrue (is_white b)) i.gap × (at ≡ at_idle objective_allowed (suc n)) = gap_only objective_allowed n i.gap at g in (
          f.0,
          entry_grows limit limit (omega arith) objective_allowed n i.text (λ m k. after ≡ at_idle m k) (λ m k. IsCounted limit m k rest) (λ m k e. body_only rest m k (subst (λ s. AcceptsItems opb s rest) e a)) i.event
              (entry_only limit top v n objective_allowed i.text i.event after (subst (λ s. ReadsStatement opb s i.text i.event after) f.1 r)),
        )

    body_each : (items : List (Item OpbEvent)) (objective_allowed : Bool) (remaining : ℕ) → IsCounted limit objective_allowed remaining items → AcceptsItems opb (at_idle objective_allowed remaining) items
    body_each [] objective_allowed zero h = refl
    body_each [] objective_allowed (suc n) h = absurd h
    body_each (i ∷ rest) objective_allowed zero h = absurd h
    body_each (i ∷ rest) objective_allowed (suc n) (g, h) =
        let f : (m : Bool) × (k : ℕ) × IsCounted limit m k rest × IsEntry limit objective_allowed n i.text (λ m' k'. at_idle m k ≡ at_idle m' k') i.event =
        entry_after objective_allowed n i.text (λ m k. IsCounted limit m k rest) i.event h in
        (at_idle objective_allowed (suc n), at_idle f.0 f.1, gap_each objective_allowed n i.gap g, entry_reads limit top v n objective_allowed i.text i.event (at_idle f.0 f.1) f.3, body_each rest f.0 f.1 f.2)

  -- with the header
  begun_only : (i : Item OpbEvent) (rest : List (Item OpbEvent)) (e : OpbEvent) (after : OpbState) → i.gap ≡ [] → IsHeader limit top e after i.text
      → AcceptsItems opb after rest → IsBegun limit top i rest e
  begun_only i rest e after g h a = grind (arith, body_of, body_only)

  pub instance_only : (items : List (Item OpbEvent)) → AcceptsItems opb (begin limit top) items → IsInstance limit top items
  instance_only items h = grind (arith, never, start_gap, begun_only, header_only)

  begun_each : (i : Item OpbEvent) (rest : List (Item OpbEvent)) (e : OpbEvent) → IsBegun limit top i rest e
      → (at : OpbState) × (after : OpbState) × SkipsGap opb (begin limit top) i.gap at × ReadsStatement opb at i.text e after × AcceptsItems opb after rest
  begun_each i rest (Header v n tail) (g, h, spells, body) = (
    begin limit top,
    idle limit top v true n,
    subst (λ x. SkipsGap opb (begin limit top) x (begin limit top)) (sym g) refl,
    header_reads limit top v n tail i.text h spells,
    body_each v rest true n (counted limit n rest body),
  )
  begun_each i rest _ h = absurd h

  pub instance_each : (items : List (Item OpbEvent)) → IsInstance limit top items → AcceptsItems opb (begin limit top) items
  instance_each items h = grind (arith, begun_each)

  -- A new machine accepts the instances.
  pub reads_instances : (items : List (Item OpbEvent)) → AcceptsItems opb (begin limit top) items ↔ IsInstance limit top items
  reads_instances items = (instance_only items, instance_each items)

-- Nothing may follow a complete instance.
pub finishes : (s : OpbState) → IsTrue (opb.done s) → (b : ℕ) → opb.step s b ≡ Refuse
finishes s h b = ap (act s b) (done_stops s.top s.phase b h)
