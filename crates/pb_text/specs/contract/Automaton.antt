-- What a machine is: a step from state to state for each byte, and what a state accepts.
use Rattle.pb_text.specs.{declared.machine.Push.Push, meaning.Classes.is_digit, meaning.Spelling.Letter, meaning.Spelling.Item, meaning.Spelling.bytes_of}
use Rattle.std.specs.Prelude.{◌≡◌, ℕ, ◌+◌, ◌≤◌, ◌<◌, List, [], ◌∷◌, length, take, get_or, Bool, true, false, ◌&&◌, IsTrue, Option, None, Some}
use Rattle.pb_text.specs.declared.machine.Push.TheVariants as push

-- After a byte, the machine continues, has ended a statement with an event, or rejects the byte.
pub data Next (S E : Type 0) : Type 0 where
  Go : S → Next S E
  End : E → S → Next S E
  Refuse : Next S E

pub record Automaton (S E : Type 0) : Type 0 where
  pub step : S → ℕ → Next S E
  -- the text is complete
  pub done : S → Bool
  -- a statement has begun and not ended
  pub begun : S → Bool
  -- the byte that was taken last is a digit of a number
  pub in_number : S → Bool
  -- the byte may allocate
  pub asks : S → ℕ → Bool
  -- how much is stored
  pub kept : S → ℕ
  -- how much could be stored: it grows by at most one per byte
  pub spent : S → ℕ

module _ {S E : Type 0} (m : Automaton S E) where
  -- bytes between two statements lead from old to new
  abbrev pub SkipsGap : S → List ℕ → S → Type 0
  SkipsGap old [] new = new ≡ old
  SkipsGap old (b ∷ gap) new = (mid : S) × (m.step old b ≡ Go mid) × (m.begun mid ≡ false) × SkipsGap mid gap new

  -- the letters of one statement lead from old to new, with its event at the last one
  abbrev pub ReadsStatement : S → List Letter → E → S → Type 0
  ReadsStatement old [] e new = ⊥
  ReadsStatement old (l ∷ []) e new = (m.step old l.byte ≡ End e new) × (l.numeral ≡ false)
  ReadsStatement old (l ∷ k ∷ text) e new =
      (mid : S) × (m.step old l.byte ≡ Go mid) × (m.begun mid ≡ true) × (l.numeral ≡ m.in_number mid) × ReadsStatement mid (k ∷ text) e new

  -- What a state accepts: statements with white space and comments before them, and complete after the last one.
  abbrev pub AcceptsItems : S → List (Item E) → Type 0
  AcceptsItems s [] = IsTrue (m.done s)
  AcceptsItems s (i ∷ rest) = (at : S) × (after : S) × SkipsGap s i.gap at × ReadsStatement at i.text i.event after × AcceptsItems after rest

  -- something that the state accepts begins with the byte
  abbrev pub Admits : S → ℕ → Type 0
  Admits s b = (items : List (Item E)) × AcceptsItems s items × (more : List ℕ) × (bytes_of items ≡ b ∷ more)

  -- What holds of each state.
  pub record IsState (s : S) : Type 0 where
    -- some text may follow
    pub live : (items : List (Item E)) × AcceptsItems s items
    -- if the text is complete, nothing may follow
    pub ends : IsTrue (m.done s) → (b : ℕ) → m.step s b ≡ Refuse
    -- after each byte that ends no statement, one must still end
    pub owes : (b : ℕ) (next : S) → m.step s b ≡ Go next → m.done next ≡ false
    -- a statement that has begun continues until its event, and then none has begun
    pub stays : m.begun s ≡ true → (b : ℕ) (next : S) → m.step s b ≡ Go next → m.begun next ≡ true
    pub finishes : (b : ℕ) (e : E) (next : S) → m.step s b ≡ End e next → m.begun next ≡ false
    -- a number is part of a statement, and not its end
    pub plain : m.begun s ≡ false → m.in_number s ≡ false
    -- at most one unit is stored for each byte of a statement, and nothing between two statements
    pub grows : (b : ℕ) (next : S) → m.step s b ≡ Go next → m.spent next ≤ m.spent s + 1
    pub bounds : m.kept s ≤ m.spent s
    pub empties : m.begun s ≡ false → m.spent s ≡ 0

  -- the byte is a digit directly after a digit of a number
  abbrev pub is_large : S → ℕ → Bool
  is_large s b = m.in_number s && is_digit b

  -- The result of the machine for the byte: the step, or nothing changes.
  abbrev pub Pushes : S → ℕ → Push E → S → Type 0
  Pushes old b push.Go new = m.step old b ≡ Go new
  Pushes old b (push.Event e) new = m.step old b ≡ End e new
  Pushes old b push.No new = (m.step old b ≡ Refuse) × (is_large old b ≡ false) × (new ≡ old)
  Pushes old b push.Large new = (m.step old b ≡ Refuse) × (is_large old b ≡ true) × (new ≡ old)
  Pushes old b push.Memory new = IsTrue (m.asks old b) × Admits old b × (new ≡ old)

  -- The machine took the byte and continues, or nothing changes.
  abbrev pub Continues : S → ℕ → Bool → S → Type 0
  Continues old b true new = m.step old b ≡ Go new
  Continues old b false new = new ≡ old

  -- The machine ended a statement with the byte, or nothing changes.
  abbrev pub Finishes : S → ℕ → Option E → S → Type 0
  Finishes old b (Some e) new = m.step old b ≡ End e new
  Finishes old b None new = new ≡ old

  -- Bytes lead from old to new, and the machine continues after each.
  abbrev pub Runs : S → List ℕ → S → Type 0
  Runs old [] new = new ≡ old
  Runs old (b ∷ text) new = (mid : S) × (m.step old b ≡ Go mid) × IsState mid × Runs mid text new

  -- The state after a byte that is taken.
  abbrev pub state_after : Next S E → Option S
  state_after (Go s) = Some s
  state_after (End e s) = Some s
  state_after Refuse = None

  -- Bytes lead from old to new: each is taken.
  abbrev pub Leads : S → List ℕ → S → Type 0
  Leads old [] new = new ≡ old
  Leads old (b ∷ text) new = (mid : S) × (state_after (m.step old b) ≡ Some mid) × Leads mid text new

  -- After these bytes, the next one may allocate.
  abbrev pub MayAsk : S → List ℕ → ℕ → Type 0
  MayAsk start used b = (state : S) × Leads start used state × IsTrue (m.asks state b)

  abbrev pub begins_with : Bool → Next S E → Bool
  begins_with true next = false
  begins_with false (Go s) = m.begun s
  begins_with false (End e s) = true
  begins_with false Refuse = false

  -- the byte begins a statement
  abbrev pub begins : S → ℕ → Bool
  begins s b = begins_with (m.begun s) (m.step s b)

  -- The bytes through the one at index `last` are a whole statement with this event, or nothing changes.
  abbrev pub TakesStatement : S → List ℕ → Option (ℕ × E) → S → Type 0
  TakesStatement old piece None new = new ≡ old
  TakesStatement old piece (Some (last, e)) new =
      (last < length piece) × (begins old (get_or piece 0 0) ≡ true) × (mid : S) × Runs old (take last piece) mid × (m.step mid (get_or piece last 0) ≡ End e new)
