-- Runs that are taken at once: bytes of a line that are stored, bytes that are given to the machine of sums, and a whole
-- constraint.
use Rattle.pb_opb.proofs.Common.{ℕ, ◌++◌, ◌∷◌, ◌≡◌, [], ap, append-nil, append_assoc, arith, false, List, nat_eq, None, Option, subst, take, true, IfSome}
use Rattle.pb_opb.proofs.Common.{not-true, Go, Runs, IsInLine, IsInOrder, keeps_line, opb, OpbState, ◌∙◌, refl, sym, sums, SumState, giving, over, OpbEvent}
use Rattle.pb_opb.proofs.Common.{Part, SumEvent, ◌<◌, Bool, get_or, inl, length, Some, suc, zero, first_is_state, Linear, White, last, begins, begins_with, End}
use Rattle.pb_opb.proofs.Common.{TakesStatement, Give, Phase, transition, Holds, act, is_within, linears, phase_owing, remaining_after}
use Rattle.pb_opb.proofs.lemmas.machine.Stands.{IsGiving, gives_at, given_step}
use Rattle.pb_opb.proofs.lemmas.machine.{Pushed.goes_order, Pushed.give_order, Pushed.end_order, Pushed.end_step, Alive.is_state}
use Rattle.pb_sums.proofs.lemmas.machine.WholeTexts.{linear_some}
use Rattle.{pb_sums.specs.engine.TermParts.LeadsToLinear, std.specs.Option.unwrap_or}

abbrev pub keeping : OpbState → List ℕ → OpbState
keeping s text = record s { text = text }

step_of : (s : OpbState) (b : ℕ) → keeps_line s.phase ≡ true → nat_eq b 10 ≡ false → opb.step s b ≡ Go (keeping s (s.text ++ b ∷ []))
step_of s b at other = grind (arith, s.top, s.phase)

-- the stored text may be any
pub line_order : (s : OpbState) → IsInOrder s → keeps_line s.phase ≡ true → (text : List ℕ) → IsInOrder (keeping s text)
line_order s h at text = grind (arith, h.limit, h.top, h.fits, h.holds, h.spaces, h.limits, h.state)

-- the run
pub line_runs : (s : OpbState) → IsInOrder s → keeps_line s.phase ≡ true → (line : List ℕ) → IsInLine line → Runs opb s line (keeping s (s.text ++ line))
line_runs s h at [] is = ap (λ (t : List ℕ). keeping s t) (append-nil s.text)
line_runs s h at (b ∷ line) is =
    let mid : OpbState = keeping s (s.text ++ b ∷ []) in
    let order : IsInOrder mid = line_order s h at (s.text ++ b ∷ []) in
    let rest = line_runs mid order at line is.1 in (
      mid,
      step_of s b at (not-true (nat_eq b 10) is.0),
      is_state mid order,
      subst (λ (t : List ℕ). Runs opb mid line (keeping s t)) (append_assoc s.text (b ∷ []) line) rest,
    )

-- the run that was taken, or none if memory ran out
pub kept_or_none : (old new : OpbState) (piece : List ℕ) (kept : Option ℕ) → IfSome kept (λ n. Runs opb old (take n piece) new) → (kept ≡ None → new ≡ old)
    → Runs opb old (take (unwrap_or kept 0) piece) new
kept_or_none old new piece kept runs same = grind arith

-- A run of the machine of sums is a run of the machine of instances.
goes_given : (s : OpbState) (b : ℕ) (mid : SumState) → IsGiving s → sums.step s.sums b ≡ Go mid → opb.step s b ≡ Go (giving s s.phase mid)
goes_given s b mid at continues = given_step s s.phase (gives_at s at) b refl ∙ ap (over s s.phase) continues

-- the run, and that the state after it is in order
pub runs_given : (s : OpbState) → IsInOrder s → IsGiving s → (text : List ℕ) (inner : SumState) → Runs sums s.sums text inner
    → Runs opb s text (giving s s.phase inner) × IsInOrder (giving s s.phase inner)
runs_given s h at [] inner same = (ap (λ (i : SumState). giving s s.phase i) same, subst (λ (i : SumState). IsInOrder (giving s s.phase i)) (sym same) h)
runs_given s h at (b ∷ text) inner (mid, continues, state, rest) =
    let k : IsInOrder (giving s s.phase mid) = goes_order s h b true mid at continues state in
    let r = runs_given (giving s s.phase mid) k at text inner rest in
    ((giving s s.phase mid, goes_given s b mid at continues, is_state (giving s s.phase mid) k, r.0), r.1)

-- a byte that is given between two statements begins a constraint
given_constraint : (top : ℕ) (may : Bool) (b : ℕ) (p : Phase) → transition top (Phase.Between may) b ≡ Give p → p ≡ Phase.Constraint
given_constraint top may b p e = grind arith

module _ (s : OpbState) (h : IsInOrder s) (may : Bool) (at : s.phase ≡ Phase.Between may) where
  sums_are : s.sums ≡ linears s.limit
  sums_are = (subst (Holds s) at h.holds).1.1

  -- after the constraint
  abbrev pub owing : Phase → OpbState
  owing p = record s { remaining = remaining_after p s.remaining; phase = phase_owing false (remaining_after p s.remaining) }

  first_step : (b : ℕ) (mid : SumState) → transition s.top s.phase b ≡ Give Phase.Constraint → sums.step (linears s.limit) b ≡ Go mid → opb.step s b ≡ Go (giving s Phase.Constraint mid)
  first_step b mid planned goes = ap (act s b) planned ∙ ap (over s Phase.Constraint) (ap (λ (i : SumState). sums.step i b) sums_are ∙ goes)

  starts : (b : ℕ) (mid : SumState) → opb.step s b ≡ Go (giving s Phase.Constraint mid) → begins opb s b ≡ true
  starts b mid goes = ap (λ (x : Bool). begins_with opb x (opb.step s b)) (ap is_within at) ∙ ap (begins_with opb false) goes

  taken_at : (text : List ℕ) (c : Linear) (n : ℕ) → transition s.top s.phase (get_or text 0 0) ≡ Give Phase.Constraint → n < length text → get_or text n 0 ≡ 59
      → LeadsToLinear s.limit Part.Linear (take n text) c
      → TakesStatement opb s text (Some (n, OpbEvent.Constraint c)) (owing Phase.Constraint) × IsInOrder (owing Phase.Constraint)
  taken_at [] c n planned inside semicolon leads = absurd (let no : ⊥ = omega (arith, inside) in no)
  taken_at (b ∷ rest) c zero planned inside semicolon leads = absurd (let no : ⊥ = omega (arith, linear_some White Part.Linear s.limit zero (b ∷ rest) c leads) in no)
  taken_at (b ∷ rest) c (suc k) planned inside semicolon leads =
      let (inner, (mid, goes, state, runs), ends) = leads White in
      let first : OpbState = giving s Phase.Constraint mid in
      let within : OpbState = giving s Phase.Constraint inner in
      let step = first_step b mid planned goes in
      let order : IsInOrder first = give_order s h b Phase.Constraint mid planned (ap (λ (i : SumState). sums.step i b) sums_are ∙ goes) state in
      let r = runs_given first order (inl refl) (take k rest) inner runs in
      let e = end_step within r.1 59 Phase.Constraint (last White Part.Linear s.limit) (linears s.limit) (SumEvent.Linear c) refl ends refl in
      let o = end_order within r.1 59 Phase.Constraint (last White Part.Linear s.limit) (linears s.limit) (SumEvent.Linear c) refl ends refl (first_is_state White Part.Linear s.limit) in
      let same : (let x : OpbState = record (owing Phase.Constraint) { sums = linears s.limit } in x) ≡ owing Phase.Constraint =
      ap (λ (i : SumState). let x : OpbState = record (owing Phase.Constraint) { sums = i } in x) (sym sums_are) in (
        (
          inside,
          starts b mid step,
          within,
          (first, step, is_state first order, r.0),
          ap (opb.step within) semicolon ∙ (e ∙ ap (End (OpbEvent.Constraint c)) same),
        ),
        subst IsInOrder same o,
      )

  -- the statement, and that the state after it is in order
  pub constraint_taken : (text : List ℕ) (c : Linear) (n : ℕ) (p : Phase) → transition s.top s.phase (get_or text 0 0) ≡ Give p → n < length text → get_or text n 0 ≡ 59
      → LeadsToLinear s.limit Part.Linear (take n text) c → TakesStatement opb s text (Some (n, OpbEvent.Constraint c)) (owing p) × IsInOrder (owing p)
  constraint_taken text c n p planned inside semicolon leads =
      let is : p ≡ Phase.Constraint = given_constraint s.top may (get_or text 0 0) p (sym (ap (λ (q : Phase). transition s.top q (get_or text 0 0)) at) ∙ planned) in
      subst (λ (q : Phase). TakesStatement opb s text (Some (n, OpbEvent.Constraint c)) (owing q) × IsInOrder (owing q)) (sym is)
      (taken_at text c n (planned ∙ ap Give is) inside semicolon leads)
