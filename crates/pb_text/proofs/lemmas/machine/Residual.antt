-- A state accepts, after a byte, exactly what it accepted before with that byte prepended. Offered to other crates.
use Rattle.pb_text.proofs.Common.{arith, ℕ, ◌∷◌, ◌≡◌, ◌≢◌, [], Bool, false, List, refl, subst, sym, true, AcceptsItems, Automaton, End, Go, IsState, Next}
use Rattle.pb_text.proofs.Common.{ReadsStatement, Refuse, SkipsGap, bytes_of, Item, Letter}
use Rattle.pb_text.proofs.lemmas.{machine.Walking.longer, text.Booleans.never, text.FirstBytes.head, text.FirstBytes.tail}

-- the items are these with a letter prepended: to the text of the first statement, or its byte to the gap before that
abbrev PutFirst : {E : Type 0} → Bool → Letter → Item E → List (Item E) → List (Item E) → Type 0
PutFirst true l i rest items = (i.gap ≡ []) × (items ≡ record { gap = []; text = l ∷ i.text; event = i.event } ∷ rest)
PutFirst false l i rest items = items ≡ record { gap = l.byte ∷ i.gap; text = i.text; event = i.event } ∷ rest

-- the same for the later items, of which there must be one: in a statement, or between two statements
abbrev pub Put : {E : Type 0} → Bool → Letter → List (Item E) → List (Item E) → Type 0
Put inside l [] items = ⊥
Put inside l (i ∷ rest) items = PutFirst inside l i rest items

-- the items are the later ones with the last letter of a statement prepended
abbrev pub PutLast : {E : Type 0} → Letter → E → List (Item E) → List (Item E) → Type 0
PutLast l e later items = items ≡ record { gap = []; text = l ∷ []; event = e } ∷ later

abbrev pub BeginsWith : {E : Type 0} → ℕ → List (Item E) → Type 0
BeginsWith b items = (more : List ℕ) × (bytes_of items ≡ b ∷ more)

-- what may follow a byte is exactly what was accepted with that byte prepended
pub record Takes {E : Type 0} (old : List (Item E) → Type 0) (put : List (Item E) → List (Item E) → Type 0) (b : ℕ) (new : List (Item E) → Type 0) : Type 0 where
  pub into : (later : List (Item E)) → new later → (items : List (Item E)) × put later items × old items
  pub onto : (items : List (Item E)) → old items → BeginsWith b items → (later : List (Item E)) × put later items × new later

-- nothing that is accepted begins with the byte
abbrev pub Refuses : {E : Type 0} → (List (Item E) → Type 0) → ℕ → Type 0
Refuses {E} accepts b = (items : List (Item E)) → accepts items → BeginsWith b items → ⊥

-- properties of what a state accepts
pub record IsResidual {E : Type 0} (accepts : List (Item E) → Type 0) : Type 0 where
  pub live : (items : List (Item E)) × accepts items
  pub texts : (i : Item E) (rest : List (Item E)) → accepts (i ∷ rest) → i.text ≢ []
  pub ends : accepts [] → (items : List (Item E)) → accepts items → items ≡ []

module _ {S E : Type 0} (m : Automaton S E) where
  -- the letter of a byte that leads to a state
  abbrev pub letter : ℕ → S → Letter
  letter b next = record { byte = b; numeral = m.in_number next }

  abbrev last : ℕ → Letter
  last b = record { byte = b; numeral = false }

  -- what is accepted after a first byte with this outcome: the byte continues, or it ends a statement
  abbrev pub After : Next S E → ℕ → List (Item E) → List ℕ → Type 0
  After (Go next) b items more =
      (later : List (Item E)) × Put (m.begun next) (letter b next) later items × AcceptsItems m next later × (bytes_of later ≡ more)
  After (End e next) b items more = (later : List (Item E)) × PutLast (last b) e later items × AcceptsItems m next later × (bytes_of later ≡ more)
  After Refuse b items more = ⊥

  moved_first : (s at after : S) (b : ℕ) (gap : List ℕ) (text : List Letter) (x : E) (rest : List (Item E)) (more : List ℕ) → SkipsGap m s gap at → ReadsStatement m at text x after → AcceptsItems m after rest
      → bytes_of (record { gap = gap; text = text; event = x } ∷ rest) ≡ b ∷ more
      → After (m.step s b) b (record { gap = gap; text = text; event = x } ∷ rest) more
  moved_first s at after b [] [] x rest more g r a e = absurd r
  moved_first s at after b [] (l ∷ []) x rest more same (h, n) a e =
      let byte : l.byte ≡ b = head l.byte b _ more e in rw (rw (same, byte) at h) (rest, rw (← byte, ← n) refl, a, tail l.byte b _ more e)
  moved_first s at after b [] (l ∷ k ∷ text) x rest more same (mid, h, o, n, r) a e =
      let byte : l.byte ≡ b = head l.byte b _ more e in
      rw (rw (same, byte) at h)
      (record { gap = []; text = k ∷ text; event = x } ∷ rest, rw (o, ← byte, ← n) (refl, refl), (mid, after, refl, r, a), tail l.byte b _ more e)
  moved_first s at after b (c ∷ gap) text x rest more (mid, h, o, g) r a e =
      let byte : c ≡ b = head c b _ more e in
      rw (rw byte at h) (record { gap = gap; text = text; event = x } ∷ rest, rw (o, byte) refl, (at, after, g, r, a), tail c b _ more e)

  pub moved : (s : S) (b : ℕ) (items : List (Item E)) (more : List ℕ) → AcceptsItems m s items → bytes_of items ≡ b ∷ more → After (m.step s b) b items more
  moved s b [] more h e = cc
  moved s b (i ∷ rest) more (at, after, g, r, a) e = moved_first s at after b i.gap i.text i.event rest more g r a e

  module _ (old new : S) (b : ℕ) where
    -- a byte that is taken, and what is accepted after it
    pub after_go : (items : List (Item E)) (more : List ℕ) → AcceptsItems m old items → bytes_of items ≡ b ∷ more → m.step old b ≡ Go new
        → (later : List (Item E)) × Put (m.begun new) (letter b new) later items × AcceptsItems m new later × (bytes_of later ≡ more)
    after_go items more a e continues = subst (λ n. After n b items more) continues (moved old b items more a e)

    pub refuses : m.step old b ≡ Refuse → Refuses (AcceptsItems m old) b
    refuses stops items a (more, e) = subst (λ n. After n b items more) stops (moved old b items more a e)

    -- what is accepted after the byte, with the byte
    with_byte : IsState m new → m.step old b ≡ Go new → m.done new ≡ false → (here : Bool) → m.begun new ≡ here → (later : List (Item E)) → AcceptsItems m new later
        → (items : List (Item E)) × Put here (letter b new) later items × AcceptsItems m old items
    with_byte state continues owed here o [] h = never (m.done new) h owed
    with_byte state continues owed false o (i ∷ rest) (at, after, g, r, a) =
        (record { gap = b ∷ i.gap; text = i.text; event = i.event } ∷ rest, refl, (at, after, (new, continues, o, g), r, a))
    with_byte state continues owed true o (i ∷ rest) (at, after, g, r, a) = by_gap i.gap refl g
      where
        by_gap : (gap : List ℕ) → gap ≡ i.gap → SkipsGap m new gap at → (items : List (Item E)) × Put true (letter b new) (i ∷ rest) items × AcceptsItems m old items
        by_gap [] same skips = (
          record { gap = []; text = letter b new ∷ i.text; event = i.event } ∷ rest,
          (sym same, refl),
          (old, after, refl, longer m (letter b new) i.text old new after i.event continues o refl (subst (λ (x : S). ReadsStatement m x i.text i.event after) skips r), a),
        )
        by_gap (c ∷ gap) same (mid, k, out, f) = never (m.begun mid) (state.stays o c mid k) out

    pub takes_go : m.step old b ≡ Go new → m.done new ≡ false → IsState m new → Takes (AcceptsItems m old) (Put (m.begun new) (letter b new)) b (AcceptsItems m new)
    takes_go continues owed state = record {
      into = λ later h. with_byte state continues owed (m.begun new) refl later h;
      onto = λ items h begins. let k = after_go items begins.0 h begins.1 continues in (k.0, k.1, k.2);
    }

    pub takes_last : (d : E) → m.step old b ≡ End d new → m.begun new ≡ false → IsState m new → Takes (AcceptsItems m old) (PutLast (letter b new) d) b (AcceptsItems m new)
    takes_last d ends out state = record {
      into = λ later h. (record { gap = []; text = letter b new ∷ []; event = d } ∷ later, refl, (old, new, refl, (ends, state.plain out), h));
      onto = λ items h begins.
          let k = subst (λ n. After n b items begins.0) ends (moved old b items begins.0 h begins.1) in (k.0, rw (state.plain out) k.1, k.2);
    }

  pub has_text : (at after : S) (text : List Letter) (e : E) → ReadsStatement m at text e after → text ≢ []
  has_text at after text e r = grind arith

  -- the first byte of items
  pub has_first : (s : S) (i : Item E) (rest : List (Item E)) → AcceptsItems m s (i ∷ rest) → (b : ℕ) × BeginsWith b (i ∷ rest)
  has_first s i rest (at, after, g, r, a) = by_parts i.gap i.text r
    where
      by_parts : (gap : List ℕ) (text : List Letter) → ReadsStatement m at text i.event after → (b : ℕ) × BeginsWith b (record { gap = gap; text = text; event = i.event } ∷ rest)
      by_parts [] [] r = absurd r
      by_parts [] (l ∷ text) r = (l.byte, (_, refl))
      by_parts (c ∷ gap) text r = (c, (_, refl))

  -- a state that takes no byte accepts no statement
  pub accepts_none : (s : S) → ((b : ℕ) → m.step s b ≡ Refuse) → (items : List (Item E)) → AcceptsItems m s items → items ≡ []
  accepts_none s stops [] a = refl
  accepts_none s stops (i ∷ rest) a = let (b, begins) = has_first s i rest a in absurd (refuses s s b (stops b) (i ∷ rest) a begins)

  pub residual : (s : S) → IsState m s → IsResidual (AcceptsItems m s)
  residual s state = grind (arith, has_text, accepts_none)
