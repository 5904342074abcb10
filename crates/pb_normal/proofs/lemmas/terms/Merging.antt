-- What the merge of two lists preserves, and its steps. Offered to other crates.
use Rattle.pb_normal.proofs.Common.{ℕ, ◌++◌, ◌+◌, ◌<◌, ◌∷◌, ◌≡◌, ◌≤◌, ◌⊎◌, [], add-zero, append-nil, append_assoc, arith, drop, false, get_or, IfSome, ap, Bool}
use Rattle.pb_normal.proofs.Common.{length, List, None, Option, Some, take, drop_all, take-append-drop, option_to_list, drop_read, take_read, Entry, Adds, each}
use Rattle.pb_normal.proofs.{Common.IsRising, Common.total, Common.counted, lemmas.terms.Totals.total-prefix}
use Rattle.pb_normal.proofs.lemmas.terms.Totals.{Adds-append, Adds-apart, IsRising-between, IsRising-without, IsRising-instead, size-Adds, IsRising-positive}

pub record Merging (left right : List Entry) (i j : ℕ) (out : List Entry) (c : ℕ) : Type 0 where
  pub in_left : i ≤ length left
  pub in_right : j ≤ length right
  pub adds : Adds (take i left) (take j right) out c
  pub left_rising : IsRising 0 (out ++ drop i left)
  pub right_rising : IsRising 0 (out ++ drop j right)

-- the two lists change places
Merging-swap : (left right : List Entry) (i j : ℕ) (out : List Entry) (c : ℕ) → Merging left right i j out c → Merging right left j i out c
Merging-swap left right i j out c m = grind (arith, m.in_left, m.in_right, m.adds.signed, m.adds.lows, m.left_rising, m.right_rising)

pub Merging-left : (left right : List Entry) (i j : ℕ) (out : List Entry) (c : ℕ) (d x y : Entry) → Merging left right i j out c → i < length left → j < length right → x ≡ get_or left i d → y ≡ get_or right j d → x.variable < y.variable → Merging left right (i + 1) j (out ++ x ∷ []) c
Merging-left left right i j out c d x y m ilt jlt xe ye lt =
    let a = Adds-append _ _ _ _ _ _ _ _ m.adds (Adds-apart (x ∷ []) []) in
    let rises = rw (drop_read left i d x ilt xe) at m.left_rising in
    record {
      in_left = omega arith;
      in_right = m.in_right;
      adds = rw (take_read left i d x ilt xe) (simp (append-nil, add-zero) at a);
      left_rising = rw (append_assoc) rises;
      right_rising = rw (append_assoc, drop_read right j d y jlt ye) (IsRising-between 0 out x y _ _ rises (rw (drop_read right j d y jlt ye) at m.right_rising) lt);
    }

pub Merging-right : (left right : List Entry) (i j : ℕ) (out : List Entry) (c : ℕ) (d x y : Entry) → Merging left right i j out c → i < length left → j < length right → x ≡ get_or left i d → y ≡ get_or right j d → y.variable < x.variable → Merging left right i (j + 1) (out ++ y ∷ []) c
Merging-right left right i j out c d x y m ilt jlt xe ye lt =
    Merging-swap _ _ _ _ _ _ (Merging-left right left j i out c d y x (Merging-swap _ _ _ _ _ _ m) jlt ilt ye xe lt)

-- if one list is at its end, the rests of both follow
pub Merging-end : (left right : List Entry) (i j : ℕ) (out : List Entry) (c : ℕ) → Merging left right i j out c → Adds left right ((out ++ drop i left) ++ drop j right) c
Merging-end left right i j out c m =
    let a = Adds-append _ _ _ _ _ _ _ _ m.adds (Adds-apart (drop i left) (drop j right)) in
    simp (take-append-drop, add-zero, ← append_assoc) at a

pub Merging-end_rising : (left right : List Entry) (i j : ℕ) (out : List Entry) (c : ℕ) → Merging left right i j out c → (length left ≤ i) ⊎ (length right ≤ j) → IsRising 0 ((out ++ drop i left) ++ drop j right)
Merging-end_rising left right i j out c m h = grind (arith, drop_all, append-nil, m.right_rising, m.left_rising)

-- what cancelled so far is within both sizes
pub Merging-fits : (left right : List Entry) (i j : ℕ) (out : List Entry) (c n : ℕ) → Merging left right i j out c → total each left < n → total each right < n → c < n
Merging-fits left right i j out c n m p q = omega (arith, size-Adds _ _ _ _ (Merging-end left right i j out c m))

pub total-read : (xs : List Entry) (i : ℕ) (d x : Entry) → i < length xs → x ≡ get_or xs i d → x.coefficient ≤ total each xs
total-read xs i d x lt e = omega (arith, total-prefix xs i d x lt e)

-- what the literals from an entry on add up to
pub total-drop : (p : ℕ → Bool → Bool) (xs : List Entry) (i : ℕ) (d x : Entry) → i < length xs → x ≡ get_or xs i d → total p (drop i xs) ≡ counted p x + total p (drop (i + 1) xs)
total-drop p xs i d x lt e = ap (total p) (drop_read xs i d x lt e)

-- the default value of a read outside the list
abbrev pub no_entry : Entry
no_entry = record { variable = 0; negated = false; coefficient = 0 }

pub positive-read : (n : ℕ) (out xs : List Entry) (i : ℕ) (d x : Entry) → IsRising n (out ++ drop i xs) → i < length xs → x ≡ get_or xs i d → 0 < x.coefficient
positive-read n out xs i d x h lt e = IsRising-positive n out x _ (rw (drop_read xs i d x lt e) at h)

-- both entries give the result of `combined`
pub Merging-combined : (left right : List Entry) (i j : ℕ) (out : List Entry) (c : ℕ) (d x y : Entry) (o : Option Entry) (g : ℕ) → Merging left right i j out c → i < length left → j < length right → x ≡ get_or left i d → y ≡ get_or right j d → x.variable ≡ y.variable → Adds (x ∷ []) (y ∷ []) (option_to_list o) g → IfSome o (λ t. (t.variable ≡ x.variable) × (0 < t.coefficient)) → Merging left right (i + 1) (j + 1) (out ++ option_to_list o) (c + g)
Merging-combined left right i j out c d x y (Some t) g m ilt jlt xe ye e a k = record {
  in_left = omega arith;
  in_right = omega arith;
  adds = rw (take_read left i d x ilt xe, take_read right j d y jlt ye) (Adds-append _ _ _ _ _ _ _ _ m.adds a);
  left_rising = rw (append_assoc) (IsRising-instead 0 out x t _ (rw (drop_read left i d x ilt xe) at m.left_rising) k.0 k.1);
  right_rising = rw (append_assoc) (IsRising-instead 0 out y t _ (rw (drop_read right j d y jlt ye) at m.right_rising) (omega arith) k.1);
}
Merging-combined left right i j out c d x y None g m ilt jlt xe ye e a k =
    let both = Adds-append _ _ _ _ _ _ _ _ m.adds a in
    rw append-nil record {
      in_left = omega arith;
      in_right = omega arith;
      adds = rw (take_read left i d x ilt xe, take_read right j d y jlt ye) (simp append-nil at both);
      left_rising = IsRising-without 0 out x _ (rw (drop_read left i d x ilt xe) at m.left_rising);
      right_rising = IsRising-without 0 out y _ (rw (drop_read right j d y jlt ye) at m.right_rising);
    }
