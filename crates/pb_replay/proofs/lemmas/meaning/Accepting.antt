-- What an answer says of its value or fault, and what an accepted answer says of its tests. Offered to other crates.
use Rattle.pb_replay.proofs.Common.{ℕ, ◌<◌, ◌≡◌, ◌⊎◌, Err, inl, inr, Ok, ok_or_err, Fault, gives}

pub ok-same : {B : Type 0} {x y : B} → gives y (Ok x) → x ≡ y
ok-same h = cc

-- of `need` and `found`
pub needed : {A N B : Type 0} {x : B} {e : Fault} → A ⊎ (N × (Ok x ≡ Err e)) → A
needed (inl h) = h
needed (inr h) = ok_or_err h.1

-- of `after`
pub followed : {A B : Type 0} {N : Fault → Type 0} {x : B} → A ⊎ ((e : Fault) × N e × (Ok x ≡ Err e)) → A
followed (inl h) = h
followed (inr h) = ok_or_err h.2

-- of `each_below`
pub eached : {A B : Type 0} {n : ℕ} {P : ℕ → Type 0} {e : ℕ → Fault} {x : B} → A ⊎ ((k : ℕ) × (k < n) × (P k → ⊥) × ((j : ℕ) → j < k → P j) × (Ok x ≡ Err (e k))) → A
eached (inl h) = h
eached (inr h) = ok_or_err h.4
