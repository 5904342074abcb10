-- The states of a machine of instances: within a header, between two statements, and where it gives bytes to its machine
-- of sums.
use Rattle.pb_opb.proofs.Common.{Letter, as_unmarked, eqb-true, ℕ, ◌++◌, ◌∙◌, ◌∷◌, ◌≡◌, [], ap, append-nil, append_assoc, Bool, false, List, nat_eq, refl}
use Rattle.pb_opb.proofs.Common.{subst, sym, true, not-true, Leads, longer, Walks, End, Go, ReadsStatement, IsInLine, Each, Many, unmarked, plain, OpbEvent}
use Rattle.pb_opb.proofs.Common.{Phase, linears, opb, OpbState, phase_owing, arith, IsTrue, not, each-append, IsTail, ◌<◌, ◌⊎◌, SumEvent, sums, SumState}
use Rattle.pb_opb.proofs.Common.{same_first, Next, Give, transition, Holds, PhaseFits, act, after, giving, is_in_number, is_within, over, statement_of}

-- with the machine of sums at the start of a linear text
abbrev pub stands : ℕ → ℕ → ℕ → ℕ → Phase → List ℕ → OpbState
stands limit top variables remaining p text = record {
  limit = limit;
  top = top;
  variables = variables;
  remaining = remaining;
  phase = p;
  text = text;
  sums = linears limit;
}

-- between two statements
abbrev pub idle : ℕ → ℕ → ℕ → Bool → ℕ → OpbState
idle limit top variables objective_allowed remaining = stands limit top variables remaining (phase_owing objective_allowed remaining) []

-- bytes that do not change the state
pub stays : (P : ℕ → Type 0) (s : OpbState) → ((b : ℕ) → P b → opb.step s b ≡ Go s) → opb.begun s ≡ true → opb.in_number s ≡ false
    → (bs : List ℕ) → Each P bs → Walks opb s (plain bs) s
stays P s f w n [] h = refl
stays P s f w n (b ∷ bs) h = (s, f b h.0, w, sym n, stays P s f w n bs h.1)

pub stays_many : (P : ℕ → Type 0) (s : OpbState) → ((b : ℕ) → P b → opb.step s b ≡ Go s) → opb.begun s ≡ true → opb.in_number s ≡ false → Leads opb s (Many P) s
stays_many P s f w n t (bs, h, e) = subst (λ x. Walks opb s x s) (sym e) (stays P s f w n bs h)

-- Bytes that are stored until a line feed.
pub record Keeps (at : List ℕ → OpbState) (event : List ℕ → OpbEvent) (new : OpbState) : Type 0 where
  pub keep : (kept : List ℕ) (b : ℕ) → nat_eq b 10 ≡ false → opb.step (at kept) b ≡ Go (at (kept ++ b ∷ []))
  pub stop : (kept : List ℕ) → opb.step (at kept) 10 ≡ End (event kept) new
  pub within : (kept : List ℕ) → opb.begun (at kept) ≡ true
  pub number : (kept : List ℕ) → opb.in_number (at kept) ≡ false

pub line_reads : (at : List ℕ → OpbState) (event : List ℕ → OpbEvent) (new : OpbState) → Keeps at event new → (bs kept : List ℕ) → IsInLine bs
    → ReadsStatement opb (at kept) (plain bs ++ unmarked 10 ∷ []) (event (kept ++ bs)) new
line_reads at event new k [] kept h = (k.stop kept ∙ ap (λ (x : List ℕ). End (event x) new) (sym (append-nil kept)), refl)
line_reads at event new k (b ∷ bs) kept h =
    let more : List ℕ = kept ++ b ∷ [] in
    longer opb (unmarked b) (plain bs ++ unmarked 10 ∷ []) (at kept) (at more) new (event (kept ++ b ∷ bs))
    (k.keep kept b (not-true (nat_eq b 10) h.0)) (k.within more) (sym (k.number more))
    (subst (λ (x : List ℕ). ReadsStatement opb (at more) (plain bs ++ unmarked 10 ∷ []) (event x) new) (append_assoc kept (b ∷ []) bs) (line_reads at event new k bs more h.1))

-- Lines and tails that grow at their end.
pub line_grown : (bs : List ℕ) (b : ℕ) → nat_eq b 10 ≡ false → IsInLine bs → IsInLine (bs ++ b ∷ [])
line_grown bs b e h = each-append (λ x. IsTrue (not (nat_eq x 10))) bs b h (ap not e)

pub tail_grown : (bs : List ℕ) (b : ℕ) → nat_eq b 10 ≡ false → (bs ≡ [] → ⊥) → IsTail bs → IsTail (bs ++ b ∷ [])
tail_grown bs b e n h = grind (arith, line_grown)

pub one_byte : (l : Letter) (b : ℕ) → l.numeral ≡ false → nat_eq l.byte b ≡ true → l ∷ [] ≡ unmarked b ∷ []
one_byte l b n e = ap (λ x. x ∷ []) (as_unmarked l b n (eqb-true l.byte b e))

-- a phase in which bytes are given to the machine of sums
pub record Gives (p : Phase) : Type 0 where
  pub planned : (top b : ℕ) → transition top p b ≡ Give p
  pub within : is_within p ≡ true
  pub number : (s : OpbState) → is_in_number s p ≡ sums.in_number s.sums
  pub fits : (top : ℕ) → PhaseFits top p
  pub holds : (s : OpbState) → 0 < s.remaining → s.text ≡ [] → sums.done s.sums ≡ false → Holds s p

pub gives_objective : Gives Phase.Objective
gives_objective = record { planned = λ top b. refl; within = refl; number = λ s. refl; fits = λ top. tt; holds = λ s o t d. (o, t, d) }

pub gives_constraint : Gives Phase.Constraint
gives_constraint = record { planned = λ top b. refl; within = refl; number = λ s. refl; fits = λ top. tt; holds = λ s o t d. (o, t, d) }

-- the states in which each byte is given
abbrev pub IsGiving : OpbState → Type 0
IsGiving s = (s.phase ≡ Phase.Constraint) ⊎ (s.phase ≡ Phase.Objective)

pub gives_at : (s : OpbState) → IsGiving s → Gives s.phase
gives_at s h = grind (arith, gives_constraint, gives_objective)

-- a step in such a phase is one of the machine of sums
pub given_step : (s : OpbState) (p : Phase) → Gives p → (b : ℕ) → s.phase ≡ p → opb.step s b ≡ over s p (sums.step s.sums b)
given_step s p g b e = ap (act s b) (ap (λ (q : Phase). transition s.top q b) e ∙ g.planned s.top b)

module _ (s : OpbState) (p : Phase) (h : Gives p) where
  abbrev at : SumState → OpbState
  at inner = giving s p inner

  stepped : (inner : SumState) (b : ℕ) (n : Next SumState SumEvent) → sums.step inner b ≡ n → opb.step (at inner) b ≡ over s p n
  stepped inner b n e = given_step (at inner) p h b refl ∙ ap (over s p) e

  -- What the machine of sums reads, the machine of instances reads too.
  pub within_reads : (t : List Letter) (inner : SumState) (e : SumEvent) (new : SumState) → ReadsStatement sums inner t e new → ReadsStatement opb (at inner) t (statement_of e) (after s p)
  within_reads [] inner e new r = absurd r
  within_reads (l ∷ []) inner e new (g, n) = (stepped inner l.byte (End e new) g, n)
  within_reads (l ∷ k ∷ t) inner e new (mid, g, i, n, r) = grind (arith, stepped, within_reads (k ∷ t) mid e new r)

  -- the same if the first letter is given too
  pub given_reads : (l : Letter) (t : List Letter) (e : SumEvent) (new : SumState) → transition s.top s.phase l.byte ≡ Give p
      → ReadsStatement sums s.sums (l ∷ t) e new → ReadsStatement opb s (l ∷ t) (statement_of e) (after s p)
  given_reads l t e new f r =
      same_first opb l t s (at s.sums) (after s p) (statement_of e)
      (ap (λ x. act s l.byte x) f ∙ sym (stepped s.sums l.byte (sums.step s.sums l.byte) refl))
      (within_reads (l ∷ t) s.sums e new r)
