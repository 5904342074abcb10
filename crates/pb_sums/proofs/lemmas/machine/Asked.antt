-- If a machine of sums may allocate, the next byte is in a name, or ends a literal. Offered to other crates.
use Rattle.pb_sums.proofs.Common.{ℕ, ◌++◌, ◌||◌, ◌∙◌, ◌∷◌, ◌≡◌, ◌⊎◌, [], ap, append-nil, append_assoc, Bool, false, inl, inr, List, arith, refl, subst, sym}
use Rattle.pb_sums.proofs.Common.{true, IsTrue, false≢true, never, letter_name, each-append, End, Go, MayAsk, Next, ReadsStatement, Refuse, is_letter}
use Rattle.pb_sums.proofs.Common.{is_name_byte, bytes, Letter, SumEvent, Action, Add, Begin, To, Kind, Phase, Part, Spaces, act, adds, flushed, is_more}
use Rattle.pb_sums.proofs.Common.{is_numeric, kind, letter_at, transition, asks, first, over, sums, SumState, IsName, IsOneText}
use Rattle.pb_text.{specs.meaning.Asking.AsksOnly, proofs.lemmas.machine.Walking.Walks, proofs.lemmas.machine.Walking.reads_after}
use Rattle.pb_sums.proofs.lemmas.machine.{LetterKinds.Means, LiteralPrefixes.IsFirst, LiteralPrefixes.name-append, LiteralPrefixes.first-append}
use Rattle.pb_sums.proofs.lemmas.machine.{LetterKinds.kind-means, States.accepts_one, States.ended-last, States.continues-midway, States.nothing-after}
use Rattle.pb_sums.specs.meaning.Asking.{EndsIn, IsNameStart, InName, AsksLiteral}
use Rattle.pb_text.proofs.lemmas.machine.Asked as asked

abbrev IsNameByte : ℕ → Type 0
IsNameByte e = IsTrue (is_name_byte e)

-- a name being read, and one more byte
pub name_further : (name : List ℕ) (b : ℕ) → IsName name → IsTrue (is_name_byte b) → IsNameStart (name ++ b ∷ [])
name_further name b h k = grind (arith, each-append)

pub first_further : (name : List ℕ) (b : ℕ) → IsFirst name → IsTrue (is_name_byte b) → IsNameStart (name ++ b ∷ [])
first_further name b h k = grind arith

pub ends_more : (text name : List ℕ) (b : ℕ) → EndsIn text name → EndsIn (text ++ b ∷ []) (name ++ b ∷ [])
ends_more text name b (before, e) = (before, ap (λ (x : List ℕ). x ++ b ∷ []) e ∙ append_assoc before name (b ∷ []))

pub ends_nothing : (text : List ℕ) → EndsIn text []
ends_nothing text = (text, sym (append-nil text))

pub ends_one : (text : List ℕ) (b : ℕ) → EndsIn (text ++ b ∷ []) (b ∷ [])
ends_one text b = (text, refl)

pub ends_after : (before text end : List ℕ) → EndsIn text end → EndsIn (before ++ text) end
ends_after before text end (prefix, e) = (before ++ prefix, ap (λ (x : List ℕ). before ++ x) e ∙ sym (append_assoc before prefix end))

-- what may allocate in a text may allocate after other bytes
pub asks_after : (before text : List ℕ) (b : ℕ) → AsksLiteral text b → AsksLiteral (before ++ text) b
asks_after before text b h = grind (arith, ends_after)

-- after a whole name
pub at_name : (text name : List ℕ) (b : ℕ) → EndsIn text name → IsName name → AsksLiteral text b
at_name text name b e h = by_test (is_name_byte b) refl
  where
    by_test : (x : Bool) → is_name_byte b ≡ x → AsksLiteral text b
    by_test true t = inl (name, e, name_further name b h t)
    by_test false t = inr (name, e, h, t)

-- a name is being read
abbrev is_naming : Phase → Bool
is_naming (Phase.First z negated) = true
is_naming (Phase.More z negated) = true
is_naming _ = false

-- A name begins with a letter and continues with name bytes. It is being read only then.
abbrev Fits : Phase → ℕ → Action → Type 0
Fits p b (To q) = is_naming q ≡ false
Fits p b (Begin (Phase.First z negated) c) = (c ≡ b) × IsTrue (is_letter c)
Fits p b (Begin q c) = ⊥
Fits p b (Add (Phase.More z negated) c) = (c ≡ b) × IsTrue (is_name_byte c) × (is_naming p ≡ true)
Fits p b (Add q c) = ⊥
Fits p b _ = Unit {0}

transition_fits : (want : Part) (limit : ℕ) (spaces : Spaces) (l : Letter) (p : Phase) (k : Kind) → Means spaces k l → Fits p l.byte (transition want limit p k)
transition_fits want limit spaces l p k m = grind (arith, letter_name)

-- the text ends in the name being read
abbrev Holds : Phase → List ℕ → List ℕ → Type 0
Holds (Phase.First z negated) name text = EndsIn text name × IsFirst name
Holds (Phase.More z negated) name text = EndsIn text name × IsName name
Holds _ name text = Unit {0}

held_no_name : (q : Phase) (name text : List ℕ) → is_naming q ≡ false → Holds q name text
held_no_name q name text h = grind (arith, false≢true)

name_grown : (p : Phase) (name text : List ℕ) (b : ℕ) → is_naming p ≡ true → Holds p name text → IsTrue (is_name_byte b) → EndsIn (text ++ b ∷ []) (name ++ b ∷ []) × IsName (name ++ b ∷ [])
name_grown (Phase.First z negated) name text b h (e, f) k = (ends_more text name b e, first-append name b f k)
name_grown (Phase.More z negated) name text b h (e, f) k = (ends_more text name b e, name-append name b f k)
name_grown _ name text b h k l = absurd (false≢true h)

begun_name : (p : Phase) (name text : List ℕ) (b : ℕ) → is_naming p ≡ true → Holds p name text → IsTrue (is_name_byte b) → InName text b
begun_name (Phase.First z negated) name text b h (e, f) k = (name, e, first_further name b f k)
begun_name (Phase.More z negated) name text b h (e, f) k = (name, e, name_further name b f k)
begun_name _ name text b h k l = absurd (false≢true h)

abbrev Known : SumState → List ℕ → Type 0
Known s text = Holds s.work.phase s.work.name text

abbrev Stays : Next SumState SumEvent → List ℕ → Type 0
Stays (Go s) text = Known s text
Stays (End e s) text = Unit {0}
Stays Refuse text = Unit {0}

acts : (s : SumState) (text : List ℕ) (b : ℕ) (m : Action) → Fits s.work.phase b m → Known s text → Stays (over s (act (flushed s.work.phase s.work.terms s.work.name) s.work.terms s.work.name m)) (text ++ b ∷ [])
acts s text b m h k = grind (arith, held_no_name, ends_one, name_grown)

fits : (s : SumState) (b : ℕ) → Fits s.work.phase b (transition s.part s.limit s.work.phase (kind s.spaces (letter_at (is_numeric s.work.phase) b)))
fits s b =
    let l : Letter = letter_at (is_numeric s.work.phase) b in
    transition_fits s.part s.limit s.spaces l s.work.phase (kind s.spaces l) (kind-means s.spaces l)

stepped : (s next : SumState) (b : ℕ) (text : List ℕ) → Known s text → sums.step s b ≡ Go next → Known next (text ++ b ∷ [])
stepped s next b text k e =
    subst (λ (x : Next SumState SumEvent). Stays x (text ++ b ∷ [])) e
    (acts s text b (transition s.part s.limit s.work.phase (kind s.spaces (letter_at (is_numeric s.work.phase) b))) (fits s b) k)

walked : (t : List Letter) (s next : SumState) (text : List ℕ) → Known s text → Walks sums s t next → Known next (text ++ bytes t)
walked [] s next text k w = subst (λ (x : List ℕ). Known next x) (sym (append-nil text)) (subst (λ (x : SumState). Known x text) (sym w) k)
walked (l ∷ t) s next text k (mid, g, o, n, w) =
    subst (λ (x : List ℕ). Known next x) (append_assoc text (l.byte ∷ []) (bytes t)) (walked t mid next (text ++ l.byte ∷ []) (stepped s mid l.byte text k g) w)

by_action : (p : Phase) (name text : List ℕ) (b : ℕ) (m : Action) → Fits p b m → adds m ≡ true → Holds p name text → InName text b
by_action p name text b (Begin (Phase.First z negated) c) h e k = ([], ends_nothing text, (subst (λ (x : ℕ). IsTrue (is_letter x)) h.0 h.1, tt))
by_action p name text b (Begin q c) h e k = absurd h
by_action p name text b (Add (Phase.More z negated) c) h e k = begun_name p name text b h.2 k (subst (λ (x : ℕ). IsTrue (is_name_byte x)) h.0 h.1)
by_action p name text b (Add q c) h e k = absurd h
by_action p name text b _ h e k = absurd (false≢true e)

-- the machine adds to a name, or a whole name has been read
by_either : (p : Phase) (name text : List ℕ) (b : ℕ) (m : Action) → Fits p b m → (adds m || is_more p) ≡ true → Holds p name text → AsksLiteral text b
by_either p name text b m f h k = by_adds (adds m) refl h
  where
    more : (q : Phase) → is_more q ≡ true → Holds q name text → AsksLiteral text b
    more (Phase.More z negated) e (x, y) = at_name text name b x y
    more _ e x = absurd (false≢true e)

    by_adds : (x : Bool) → adds m ≡ x → (x || is_more p) ≡ true → AsksLiteral text b
    by_adds true e g = inl (by_action p name text b m f e k)
    by_adds false e g = more p g k

-- Before a text, it does not allocate.
begins_plain : (want : Part) (limit : ℕ) (k : Kind) → adds (transition want limit Phase.Start k) ≡ false
begins_plain want limit k = grind arith

pub first_asks_nothing : (spaces : Spaces) (part : Part) (limit b : ℕ) → asks (first spaces part limit) b ≡ false
first_asks_nothing spaces part limit b = rw (begins_plain part limit (kind spaces (letter_at true b))) refl

-- After a part of a text that is read, if the machine may allocate.
pub sums_asked : (spaces : Spaces) (part : Part) (limit : ℕ) (t : List Letter) (s : SumState) (b : ℕ) → Walks sums (first spaces part limit) t s → asks s b ≡ true → AsksLiteral (bytes t) b
sums_asked spaces part limit t s b w h =
    by_either s.work.phase s.work.name (bytes t) b (transition s.part s.limit s.work.phase (kind s.spaces (letter_at (is_numeric s.work.phase) b))) (fits s b) h
    (walked t (first spaces part limit) s [] tt w)

-- after an event, the text is complete
ends_done : (t : List Letter) (s next : SumState) (e : SumEvent) → ReadsStatement sums s t e next → sums.done next ≡ true
ends_done [] s next e r = absurd r
ends_done (l ∷ []) s next e r = subst (λ (x : SumState). sums.done x ≡ true) (sym (ended-last s next l.byte e r.0)) refl
ends_done (l ∷ k ∷ t) s next e (mid, g, o, n, r) = ends_done (k ∷ t) mid next e r

-- If a new machine may allocate at a byte, each text that continues with the byte has it in a literal, or after one.
module _ (spaces : Spaces) (part : Part) (limit : ℕ) where
  abbrev Idle : SumState → Type 0
  Idle s = (s ≡ first spaces part limit) ⊎ (sums.done s ≡ true)

  abbrev Asks : SumEvent → List ℕ → ℕ → Type 0
  Asks e text b = AsksLiteral text b

  texts : (at s next : SumState) (prefix rest : List Letter) (l : Letter) (e : SumEvent) → Idle at → Walks sums at prefix s → ReadsStatement sums s (l ∷ rest) e next
      → IsTrue (sums.asks s l.byte) → Asks e (bytes prefix) l.byte
  texts at s next prefix rest l e (inl f) w r a = sums_asked spaces part limit prefix s l.byte (subst (λ (x : SumState). Walks sums x prefix s) f w) a
  texts at s next prefix rest l e (inr d) w r a = absurd (nothing-after spaces part limit at (prefix ++ l ∷ rest) e next d (reads_after sums prefix (l ∷ rest) at s next e w r))

  pub asks_one : (used : List ℕ) (b : ℕ) → MayAsk sums (first spaces part limit) used b → AsksOnly (IsOneText spaces limit part) Asks used b
  asks_one used b (state, lead, a) items more h e =
      asked.asks_within sums Idle Asks (record {
        gaps = λ s next c i g o. never (sums.begun next) (continues-midway s next c g) o;
        ends = λ s next t f i r. inr (ends_done t s next f r);
        texts = texts;
      }) (first spaces part limit) used b (inl refl) state lead a items more ((accepts_one spaces part limit items).1 h) e
