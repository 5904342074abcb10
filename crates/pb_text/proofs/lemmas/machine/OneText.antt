-- Machines of one text, which begin with its first byte and end with its last one: what holds of their states. Offered to
-- other crates.
use Rattle.pb_text.proofs.Common.{arith, ℕ, ◌+◌, ◌∙◌, ◌∷◌, ◌≡◌, ◌≤◌, [], ap, Bool, false, List, refl, true, AcceptsItems, Admits, Automaton, End, Go, IsState}
use Rattle.pb_text.proofs.{Common.Next, Common.ReadsStatement, Common.Refuse, Common.Item, Common.Letter, lemmas.text.Booleans.never}
use Rattle.pb_text.proofs.lemmas.machine.Living.{ReadsOn, IsAlive, accepted, admits_before, admits_final}

-- Good is an invariant of the states of such a machine, and last is the state after the text.
module _ {S E : Type 0} (m : Automaton S E) (Good : S → Type 0) (last : S → S) where
  pub record IsOfOne : Type 0 where
    pub keeps : (s next : S) (b : ℕ) → Good s → m.step s b ≡ Go next → Good next
    pub begins : (s next : S) (b : ℕ) → m.step s b ≡ Go next → m.begun next ≡ true
    pub owes : (s : S) → m.begun s ≡ true → m.done s ≡ false
    pub leads : (s next : S) (b : ℕ) → m.step s b ≡ Go next → last next ≡ last s
    pub ends : (s next : S) (b : ℕ) (e : E) → m.step s b ≡ End e next → next ≡ last s
    pub done : (s : S) → m.done (last s) ≡ true
    pub stops : (s : S) → m.done s ≡ true → (b : ℕ) → m.step s b ≡ Refuse
    pub goes_on : (s : S) → Good s → m.done s ≡ false → ReadsOn m s
    pub plain : (s : S) → m.begun s ≡ false → m.in_number s ≡ false
    pub grows : (s next : S) (b : ℕ) → m.step s b ≡ Go next → m.spent next ≤ m.spent s + 1
    pub bounds : (s : S) → m.kept s ≤ m.spent s

  module _ (h : IsOfOne) where
    -- After the text, the machine has ended.
    pub reads_last : (text : List Letter) (s : S) (e : E) (after : S) → ReadsStatement m s text e after → after ≡ last s
    reads_last [] s e after r = absurd r
    reads_last (l ∷ []) s e after (i, n) = h.ends s after l.byte e i
    reads_last (l ∷ k ∷ text) s e after (mid, i, g, n, r) = reads_last (k ∷ text) mid e after r ∙ h.leads s mid l.byte i

    reads_done : (s : S) (text : List Letter) (e : E) (after : S) → ReadsStatement m s text e after → m.done after ≡ true
    reads_done s text e after r = ap m.done (reads_last text s e after r) ∙ h.done s

    alive : (s : S) → Good s → m.done s ≡ false → IsAlive m s
    alive s g d = grind (arith, reads_done)

    live : (s : S) (d : Bool) → m.done s ≡ d → Good s → (items : List (Item E)) × AcceptsItems m s items
    live s d e g = grind (arith, accepted, alive)

    not_begun : (s : S) (b : Bool) → m.begun s ≡ b → m.done s ≡ true → m.begun s ≡ false
    not_begun s b i d = grind (arith, never)

    pub is_state : (s : S) → Good s → (m.begun s ≡ false → m.spent s ≡ 0) → IsState m s
    is_state s g z = record {
      live = live s (m.done s) refl g;
      ends = λ d b. h.stops s d b;
      owes = λ b next e. h.owes next (h.begins s next b e);
      stays = λ i b next e. h.begins s next b e;
      finishes = λ b e next i. let f : next ≡ last s = h.ends s next b e i in not_begun next (m.begun next) refl (ap m.done f ∙ h.done s);
      plain = h.plain s;
      grows = λ b next e. h.grows s next b e;
      bounds = h.bounds s;
      empties = z;
    }

    -- A byte that is taken begins something that is accepted.
    pub admits : (s : S) (b : ℕ) (n : Next S E) → Good s → m.step s b ≡ n → (n ≡ Refuse → ⊥) → Admits m s b
    admits s b (Go next) g i f = admits_before m s next b i (h.begins s next b i) (alive next (h.keeps s next b g i) (h.owes next (h.begins s next b i)))
    admits s b (End e next) g i f = admits_final m s next b e i [] (ap m.done (h.ends s next b e i) ∙ h.done s)
    admits s b Refuse g i f = absurd (f refl)
