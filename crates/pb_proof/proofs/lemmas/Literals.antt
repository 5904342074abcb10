-- How much literals store.
use Rattle.pb_proof.proofs.Common.{ℕ, ◌+◌, ◌-◌, ◌^◌, ◌<◌, ◌∙◌, ◌≡◌, ap, get_or, length, List, min, sym, take, take_more}
use Rattle.pb_proof.proofs.Common.{Literal}
use Rattle.pb_proof.specs.engine.line.{Literals.units, SolutionLaws.units_append}
use Rattle.pb_sums.proofs.lemmas.machine.Counts.{counted}

-- a count that stays at its maximum
pub count_more : (ls : List Literal) (i : ℕ) (d : Literal) (c m r : ℕ) → i < length ls → c ≡ min (units (take i ls)) (2 ^ 64 - 1) → m ≡ min (length (get_or ls i d).name + 1) (2 ^ 64 - 1)
    → r ≡ min (c + m) (2 ^ 64 - 1) → r ≡ min (units (take (i + 1) ls)) (2 ^ 64 - 1)
count_more ls i d c m r h e f g =
    counted (units (take i ls)) (length (get_or ls i d).name) c m r e f g
    ∙ ap (λ n. min n (2 ^ 64 - 1)) (sym (ap units (take_more ls i d h) ∙ units_append (take i ls) (get_or ls i d)))
