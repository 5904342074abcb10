-- A machine on its way through the digits of a number. Offered to other crates.
use Rattle.pb_text.proofs.Common.{ℕ, ◌*◌, ◌+◌, ◌<◌, ◌^◌, ◌∙◌, ◌∷◌, ◌≡◌, ◌≤◌, [], ap, arith, length, List, map, subst, suc, sym, true, zero, le-mul_of_pos_right}
use Rattle.pb_text.proofs.Common.{pow-succ', Automaton, Go, digit, Each, Digits, value}
use Rattle.pb_text.proofs.lemmas.machine.Walking.{Walks, Leads}

pub ten_pos : (k : ℕ) → 0 < 10 ^ k
ten_pos zero = omega arith
ten_pos (suc k) = rw (pow-succ' 10 k) (omega (arith, ten_pos k))

module _ {S E : Type 0} (m : Automaton S E) (at : ℕ → S) (limit : ℕ) where
  -- A digit leads from one value to the next, up to the limit.
  pub record TakesDigits : Type 0 where
    pub more : (n d : ℕ) → d < 10 → 10 * n + d ≤ limit → m.step (at n) (48 + d) ≡ Go (at (10 * n + d))
    pub begun : (n : ℕ) → m.begun (at n) ≡ true
    pub number : (n : ℕ) → m.in_number (at n) ≡ true

  further : TakesDigits → (n v : ℕ) (ds : List ℕ) → Each (λ e. e < 10) ds → v ≡ n * 10 ^ length ds + value ds → v ≤ limit → Walks m (at n) (map digit ds) (at v)
  further h n v [] i e l = ap at (let f : v ≡ n = omega arith in f)
  further h n v (d ∷ ds) i e l =
      let p : 10 ^ suc (length ds) ≡ 10 * 10 ^ length ds = pow-succ' 10 (length ds) in
      let q : 10 * n + d ≤ (10 * n + d) * 10 ^ length ds = le-mul_of_pos_right (10 * n + d) (ten_pos (length ds)) in
      let w : v ≡ (10 * n + d) * 10 ^ length ds + value ds = e ∙ rw p (omega arith) in
      let u : 10 * n + d ≤ limit = omega arith in
      (at (10 * n + d), h.more n d i.0 u, h.begun (10 * n + d), sym (h.number (10 * n + d)), further h (10 * n + d) v ds i.1 w l)

  -- The digits of a number lead to its value, from a state that takes the first one.
  pub digits_lead : TakesDigits → (s : S) → ((d : ℕ) → d < 10 → d ≤ limit → m.step s (48 + d) ≡ Go (at d)) → (v : ℕ) → v ≤ limit → Leads m s (Digits v) (at v)
  digits_lead h s f v l t (d, ds, i, e, g) =
      let q : d ≤ d * 10 ^ length ds = le-mul_of_pos_right d (ten_pos (length ds)) in
      let u : d ≤ limit = omega arith in
      subst (λ x. Walks m s x (at v)) (sym e) (at d, f d i.0 u, h.begun d, sym (h.number d), further h d v ds i.1 g l)
