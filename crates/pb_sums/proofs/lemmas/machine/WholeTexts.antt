-- A linear text that is read at once. Offered to other crates.
use Rattle.pb_sums.proofs.Common.{ℕ, ◌<◌, ◌≡◌, arith, List, refl, subst, suc, take, zero, End, IsState, Linear, Part, Spaces, first, last, sums}
use Rattle.pb_sums.proofs.{Common.LeadsToLinear, Common.SumEvent, lemmas.machine.States.is_state}

pub last_is_state : (spaces : Spaces) (part : Part) (limit : ℕ) → IsState sums (last spaces part limit)
last_is_state spaces part limit = is_state (last spaces part limit) (tt, λ e. (refl, refl))

no_linear : (spaces : Spaces) (part : Part) (limit : ℕ) (c : Linear) → sums.step (first spaces part limit) 59 ≡ End (SumEvent.Linear c) (last spaces part limit) → ⊥
no_linear spaces part limit c e = grind (arith, part)

-- it has a byte
pub linear_some : (spaces : Spaces) (part : Part) (limit n : ℕ) (text : List ℕ) (c : Linear) → LeadsToLinear limit part (take n text) c → 0 < n
linear_some spaces part limit zero text c leads = let (mid, same, ends) = leads spaces in absurd (no_linear spaces part limit c (subst (λ s. sums.step s 59 ≡ End (SumEvent.Linear c) (last spaces part limit)) same ends))
linear_some spaces part limit (suc n) text c leads = omega arith
