-- A test is not both true and false, and what a conjunction and a disjunction of tests give. Offered to other crates.
use Rattle.pb_text.proofs.Common.{arith, ◌&&◌, ◌||◌, ◌≡◌, Bool, false, true}

pub never : {A : Type 0} (b : Bool) → b ≡ true → b ≡ false → A
never b h k = cc

pub of_both : (a b : Bool) → (a && b) ≡ true → (a ≡ true) × (b ≡ true)
of_both a b h = grind arith

pub by_or : {A : Type 0} (p q : Bool) → (p || q) ≡ true → (p ≡ true → A) → (q ≡ true → A) → A
by_or p q h f g = grind arith
