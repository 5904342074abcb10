-- The state of a machine of instances after a byte.
use Rattle.pb_opb.proofs.Common.{Part, ℕ, ◌&&◌, ◌++◌, ◌<◌, ◌∙◌, ◌∷◌, ◌≡◌, [], ap, arith, Bool, false, IsTrue, List, refl, subst, sym, true, midway-not-done}
use Rattle.pb_opb.proofs.Common.{continues, continues-midway, ended-last, SumEvent, White, first, sums, SumState, admits_before, admits_final, Admits, begins}
use Rattle.pb_opb.proofs.Common.{begins_with, Continues, End, Go, is_large, IsState, Next, Refuse, is_digit, Action, BeginTail, Give, Keep, To, Phase}
use Rattle.pb_opb.proofs.Common.{transition, Holds, IsIdle, IsInOrder, PhaseFits, act, after, asks, at, giving, is_in_number, is_within, linears, opb, OpbState}
use Rattle.pb_opb.proofs.Common.{over, phase_owing, remaining_after, statement_of}
use Rattle.pb_opb.proofs.lemmas.machine.Alive.{giving_alive, owed_read, is_state, outside}
use Rattle.pb_opb.proofs.lemmas.machine.Stands.{Gives, IsGiving, gives_at, gives_objective, gives_constraint}
use Rattle.pb_text.proofs.lemmas.machine.{Admitted.admits_within, Residual.refuses}

-- what holds if a byte is given to the machine of sums
pub record IsGiven (s : OpbState) (q p : Phase) : Type 0 where
  pub gives : Gives p
  pub remaining : 0 < s.remaining
  pub text : s.text ≡ []
  pub number : is_in_number s q ≡ sums.in_number s.sums

-- what an action needs of the state
abbrev Knows : OpbState → Phase → Action → Type 0
Knows s q (To p) = Holds s p
Knows s q (BeginTail n c) = IsIdle s
Knows s q (Keep c) = (s.sums ≡ linears s.limit) × (is_within q ≡ true) × ((text : List ℕ) → Holds (record s { text = text }) q)
Knows s q (Give p) = IsGiven s q p
Knows s q _ = Unit {0}

pub knows : (s : OpbState) (q : Phase) → Holds s q → (b : ℕ) → Knows s q (transition s.top q b)
knows s (Phase.Between objective_allowed) h b = grind (arith, gives_constraint)
knows s _ h b = grind (arith, gives_objective, gives_constraint)

known : (s : OpbState) → IsInOrder s → (b : ℕ) (m : Action) → transition s.top s.phase b ≡ m → Knows s s.phase m
known s h b m e = rw e at (knows s s.phase h.holds b)

-- the action for a number that equals the top
pub planned_at : (n top : ℕ) (p : Phase) (b : ℕ) (m : Action) → n ≡ top → m ≡ transition n p b → transition top p b ≡ m
planned_at n top p b m e h = ap (λ (k : ℕ). transition k p b) (sym e) ∙ sym h

-- the state if the machine continues
pub to_order : (s : OpbState) → IsInOrder s → (b : ℕ) (p : Phase) → transition s.top s.phase b ≡ To p → PhaseFits s.top p → IsInOrder (at s p)
to_order s h b p e fits =
    record { limit = h.limit; top = h.top; fits = fits; holds = known s h b (To p) e; spaces = h.spaces; limits = h.limits; state = h.state }

-- what the machine of sums leaves unchanged
inner_goes : (inner next : SumState) (b : ℕ) → sums.step inner b ≡ Go next → (next.spaces ≡ inner.spaces) × (next.limit ≡ inner.limit) × (sums.done next ≡ false)
inner_goes inner next b e =
    let g = continues inner next b e in
    (ap (λ (x : SumState). x.spaces) g.1, ap (λ (x : SumState). x.limit) g.1, midway-not-done next.work.phase (continues-midway inner next b e))

inner_ends : (inner next : SumState) (b : ℕ) (e : SumEvent) → sums.step inner b ≡ End e next → (next.spaces ≡ inner.spaces) × (next.limit ≡ inner.limit)
inner_ends inner next b e h = let g = ended-last inner next b e h in (ap (λ (x : SumState). x.spaces) g, ap (λ (x : SumState). x.limit) g)

-- the state if the machine of sums continues
pub give_order : (s : OpbState) → IsInOrder s → (b : ℕ) (p : Phase) (inner : SumState) → transition s.top s.phase b ≡ Give p → sums.step s.sums b ≡ Go inner → IsState sums inner → IsInOrder (giving s p inner)
give_order s h b p inner e continues state =
    let k = known s h b (Give p) e in
    let i = inner_goes s.sums inner b continues in
    record {
      limit = h.limit;
      top = h.top;
      fits = k.gives.fits s.top;
      holds = k.gives.holds (giving s p inner) k.remaining k.text i.2;
      spaces = i.0 ∙ h.spaces;
      limits = i.1 ∙ h.limits;
      state = state;
    }

-- a byte after which the machine of sums continues keeps the state in order
pub goes_order : (s : OpbState) → IsInOrder s → (b : ℕ) (went : Bool) (inner : SumState) → IsGiving s
    → Continues sums s.sums b went inner → IsState sums inner → IsInOrder (giving s s.phase inner)
goes_order s h b false inner at same state = subst (λ (i : SumState). IsInOrder (giving s s.phase i)) (sym same) h
goes_order s h b true inner at continues state = give_order s h b s.phase inner ((gives_at s at).planned s.top b) continues state

-- a state between two statements
owing_holds : (s : OpbState) (objective_allowed : Bool) (n : ℕ) (inner : SumState) → inner ≡ linears s.limit
    → Holds (record s { remaining = n; phase = phase_owing objective_allowed n; text = []; sums = inner }) (phase_owing objective_allowed n)
owing_holds s objective_allowed n inner e = grind arith

-- the state if the machine of sums has ended and begins again
module _ (s : OpbState) (h : IsInOrder s) (b : ℕ) (p : Phase) (next again : SumState) (x : SumEvent) (planned : transition s.top s.phase b ≡ Give p) (ends : sums.step s.sums b ≡ End x next) (begins : again ≡ first next.spaces Part.Linear next.limit) where
  again_is : again ≡ linears s.limit
  again_is =
      let i = inner_ends s.sums next b x ends in
      begins ∙ (ap (λ (y : _). first y Part.Linear next.limit) (i.0 ∙ h.spaces) ∙ ap (λ (y : ℕ). first White Part.Linear y) (i.1 ∙ h.limits))

  abbrev ended : OpbState
  ended = record s { remaining = remaining_after p s.remaining; phase = phase_owing false (remaining_after p s.remaining); sums = again }

  ended_is : ended ≡ after s p
  ended_is = rw ((known s h b (Give p) planned).text, again_is) refl

  pub end_order : IsState sums again → IsInOrder ended
  end_order state =
      let k = known s h b (Give p) planned in
      record {
        limit = h.limit;
        top = h.top;
        fits = grind arith;
        holds = rw k.text (owing_holds s false (remaining_after p s.remaining) again again_is);
        spaces = ap (λ (y : SumState). y.spaces) again_is;
        limits = ap (λ (y : SumState). y.limit) again_is;
        state = state;
      }

  pub end_step : opb.step s b ≡ End (statement_of x) ended
  end_step = ap (act s b) planned ∙ (ap (over s p) ends ∙ ap (λ (y : OpbState). End (statement_of x) y) (sym ended_is))

-- a byte that the machine of sums rejects
pub give_refused : (s : OpbState) → IsInOrder s → (b : ℕ) (p : Phase) → transition s.top s.phase b ≡ Give p → sums.step s.sums b ≡ Refuse → (opb.step s b ≡ Refuse) × (is_large opb s b ≡ is_large sums s.sums b)
give_refused s h b p planned stops =
    (ap (act s b) planned ∙ ap (over s p) stops, ap (λ (x : Bool). x && is_digit b) (known s h b (Give p) planned).number)

-- a byte that the machine of sums admits
module _ (s : OpbState) (h : IsInOrder s) (b : ℕ) (p : Phase) (planned : transition s.top s.phase b ≡ Give p) where
  by_step : (n : Next SumState SumEvent) → sums.step s.sums b ≡ n → Admits sums s.sums b → Admits opb s b
  by_step (Go inner) e a =
      let k = known s h b (Give p) planned in
      let i = inner_goes s.sums inner b e in
      admits_before opb s (giving s p inner) b (ap (act s b) planned ∙ ap (over s p) e) k.gives.within (giving_alive s p k.gives inner i.2)
  by_step (End x inner) e a =
      let more = owed_read s false (remaining_after p s.remaining) in
      admits_final opb s (after s p) b (statement_of x) (ap (act s b) planned ∙ ap (over s p) e) more.0 more.1
  by_step Refuse e a = absurd (refuses sums s.sums s.sums b e a.0 a.1 (a.2, a.3))

  pub give_admits : IsTrue (sums.asks s.sums b) → Admits sums s.sums b → IsTrue (opb.asks s b) × Admits opb s b
  give_admits asking a = (subst (λ (m : Action). IsTrue (asks s b m)) (sym planned) asking, by_step (sums.step s.sums b) refl a)

-- a byte of a tail or a comment
pub tail_admits : (s : OpbState) → IsInOrder s → (b n c : ℕ) → transition s.top s.phase b ≡ BeginTail n c → IsTrue (opb.asks s b) × Admits opb s b
tail_admits s h b n c planned =
    let next = record s { remaining = n; phase = Phase.Tail; text = c ∷ [] } in
    let idle = known s h b (BeginTail n c) planned in
    let order : IsInOrder next = record { limit = h.limit; top = h.top; fits = tt; holds = idle.1; spaces = h.spaces; limits = h.limits; state = h.state } in
    (subst (λ (m : Action). IsTrue (asks s b m)) (sym planned) refl, admits_within opb s next b (ap (act s b) planned) refl refl (is_state next order))

pub keep_admits : (s : OpbState) → IsInOrder s → (b c : ℕ) → transition s.top s.phase b ≡ Keep c → IsTrue (opb.asks s b) × Admits opb s b
keep_admits s h b c planned =
    let next = record s { text = s.text ++ c ∷ [] } in
    let k = known s h b (Keep c) planned in
    let order : IsInOrder next = record { limit = h.limit; top = h.top; fits = h.fits; holds = k.2 (s.text ++ c ∷ []); spaces = h.spaces; limits = h.limits; state = h.state } in
    (subst (λ (m : Action). IsTrue (asks s b m)) (sym planned) refl, admits_within opb s next b (ap (act s b) planned) k.1 (grind (arith, k.1)) (is_state next order))

-- a byte that begins a sum or a linear text begins a statement
same_begin : (s : OpbState) (p : Phase) (n : Next SumState SumEvent) → is_within s.phase ≡ false → is_within p ≡ true → ((inner : SumState) → n ≡ Go inner → sums.begun inner ≡ true)
    → begins_with sums false n ≡ begins_with opb (is_within s.phase) (over s p n)
same_begin s p n out within goes = grind (arith, goes)

pub give_begins : (s : OpbState) → IsInOrder s → (b : ℕ) (p : Phase) → transition s.top s.phase b ≡ Give p → is_within s.phase ≡ false → begins sums s.sums b ≡ begins opb s b
give_begins s h b p planned out =
    let fresh : sums.begun s.sums ≡ false = ap sums.begun (outside s s.phase out h.holds).1.1 in
    ap (λ (x : Bool). begins_with sums x (sums.step s.sums b)) fresh
    ∙ (same_begin s p (sums.step s.sums b) out (known s h b (Give p) planned).gives.within (λ inner e. continues-midway s.sums inner b e)
    ∙ ap (λ (n : _). begins_with opb (is_within s.phase) n) (sym (ap (act s b) planned)))
