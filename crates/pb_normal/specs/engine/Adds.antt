-- What an addition of two lists of terms preserves, for any choice of the literals that count
use Rattle.pb_normal.specs.declared.entry.Entry.{Entry}
use Rattle.pb_normal.specs.meaning.{Form.Form, Form.total, Form.negative, Form.IsRising, Form.IsNormal, Rules.IsSum}
use Rattle.std.specs.Prelude.{◌≡◌, ℕ, ◌+◌, Bool, not, List}

-- the negations of the literals that count
abbrev pub flip : (ℕ → Bool → Bool) → ℕ → Bool → Bool
flip p v n = p v (not n)

-- rs is the sum of xs and ys; c is the total that cancels, counted once for each pair of opposite literals
pub record Adds (xs ys rs : List Entry) (c : ℕ) : Type 0 where
  pub signed : (p : ℕ → Bool → Bool) → total p rs + total (flip p) xs + total (flip p) ys ≡ total (flip p) rs + total p xs + total p ys
  pub lows : total negative rs + c ≡ total negative xs + total negative ys

-- c is what cancels in the sum of xs and ys
abbrev pub Cancels : List Entry → List Entry → ℕ → Type 0
Cancels xs ys c = (rs : List Entry) × IsRising 0 rs × Adds xs ys rs c

-- the sum of two forms is normal
abbrev pub SumFits : Form → Form → Type 0
SumFits f g = (r : Form) → IsSum f g r → IsNormal r
