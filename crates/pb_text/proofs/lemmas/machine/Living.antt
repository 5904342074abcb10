-- States from which a text can be completed. Offered to other crates.
use Rattle.pb_text.proofs.Common.{SkipsGap, Item, Letter, arith, ℕ, ◌∷◌, ◌≡◌, [], false, List, refl, subst, true, AcceptsItems, Admits, Automaton, End, Go}
use Rattle.pb_text.proofs.{Common.IsState, Common.ReadsStatement, lemmas.machine.Residual.after_go, lemmas.machine.Walking.longer, lemmas.text.Booleans.never}

module _ {S E : Type 0} (m : Automaton S E) where
  abbrev pub ReadsOn : S → Type 0
  ReadsOn s = (text : List Letter) × (e : E) × (after : S) × ReadsStatement m s text e after

  -- one byte earlier
  pub reads_before : (s next : S) (b : ℕ) → m.step s b ≡ Go next → m.begun next ≡ true → ReadsOn next → ReadsOn s
  reads_before s next b continues inside (text, e, after, r) =
      let l : Letter = record { byte = b; numeral = m.in_number next } in
      (l ∷ text, e, after, longer m l text s next after e continues inside refl r)

  -- A state from which a statement can be completed, and then the text.
  pub record IsAlive (s : S) : Type 0 where
    pub text : List Letter
    pub event : E
    pub after : S
    pub reads : ReadsStatement m s text event after
    pub rest : List (Item E)
    pub accepts : AcceptsItems m after rest

  -- one byte earlier, and a byte that ends a statement
  pub before : (s next : S) (b : ℕ) → m.step s b ≡ Go next → m.begun next ≡ true → IsAlive next → IsAlive s
  before s next b continues inside h = record {
    text = record { byte = b; numeral = m.in_number next } ∷ h.text;
    event = h.event;
    after = h.after;
    reads = longer m (record { byte = b; numeral = m.in_number next }) h.text s next h.after h.event continues inside refl h.reads;
    rest = h.rest;
    accepts = h.accepts;
  }

  pub final : (s next : S) (b : ℕ) (e : E) → m.step s b ≡ End e next → (rest : List (Item E)) → AcceptsItems m next rest → IsAlive s
  final s next b e ends rest accepts = record {
    text = record { byte = b; numeral = false } ∷ [];
    event = e;
    after = next;
    reads = (ends, refl);
    rest = rest;
    accepts = accepts;
  }

  -- what such a state accepts
  pub accepted : (s : S) → IsAlive s → (items : List (Item E)) × AcceptsItems m s items
  accepted s h = (record { gap = []; text = h.text; event = h.event } ∷ h.rest, (s, h.after, refl, h.reads, h.accepts))

  -- a byte that leads to an alive state is admitted, and so is one that ends a statement
  pub admits_before : (s next : S) (b : ℕ) → m.step s b ≡ Go next → m.begun next ≡ true → IsAlive next → Admits m s b
  admits_before s next b continues inside h = (
    record { gap = []; text = record { byte = b; numeral = m.in_number next } ∷ h.text; event = h.event } ∷ h.rest,
    (s, h.after, refl, longer m (record { byte = b; numeral = m.in_number next }) h.text s next h.after h.event continues inside refl h.reads, h.accepts),
    _,
    refl,
  )

  pub admits_final : (s next : S) (b : ℕ) (e : E) → m.step s b ≡ End e next → (rest : List (Item E)) → AcceptsItems m next rest → Admits m s b
  admits_final s next b e ends rest accepts =
      (record { gap = []; text = record { byte = b; numeral = false } ∷ []; event = e } ∷ rest, (s, next, refl, (ends, refl), accepts), _, refl)

  -- A machine of one text begins it with its first byte.
  abbrev pub BeginsAtOnce : Type 0
  BeginsAtOnce = (s next : S) (b : ℕ) → m.step s b ≡ Go next → m.begun next ≡ true

  gapless : BeginsAtOnce → (s at : S) (gap : List ℕ) → SkipsGap m s gap at → at ≡ s
  gapless begins s at [] h = h
  gapless begins s at (b ∷ gap) (mid, g, o, h) = never (m.begun mid) (begins s mid b g) o

  -- A state that is not the last one can be continued to an event.
  pub reads_on : BeginsAtOnce → (s : S) → IsState m s → m.done s ≡ false → ReadsOn s
  reads_on begins s state d = by_items state.live.0 state.live.1
    where
      by_items : (items : List (Item E)) → AcceptsItems m s items → ReadsOn s
      by_items [] h = never (m.done s) h d
      by_items (i ∷ rest) (at, after, g, r, a) =
          (i.text, i.event, after, subst (λ x. ReadsStatement m x i.text i.event after) (gapless begins s at i.gap g) r)

  -- What is admitted can be continued to an event.
  pub admitted_on : BeginsAtOnce → (s next : S) (b : ℕ) → m.step s b ≡ Go next → Admits m s b → ReadsOn next
  admitted_on begins s next b g (items, a, more, e) = grind (arith, after_go, gapless)
