-- An automaton within another one.
use Rattle.pb_proof.proofs.Common.{ℕ, ◌++◌, ◌∙◌, ◌∷◌, ◌≡◌, [], ap, List, map, refl, subst, sym, true, Walks, AcceptsItems, arith, Automaton, End, Go, IsState}
use Rattle.pb_proof.proofs.Common.{Next, Pushes, ReadsStatement, Runs, SkipsGap, Push, Item, Letter, letters_of, plain, IsCarried}
use Rattle.pb_proof.specs.engine.line.Carried.{carried}

-- where an outcome comes from
pub went : {S E R F : Type 0} (into : S → R) (event : E → F) (close : E → S → R) (x : Next S E) (r : R) → carried into event close x ≡ Go r
    → (s : S) × (x ≡ Go s) × (r ≡ into s)
went into event close x r e = grind arith

pub ended : {S E R F : Type 0} (into : S → R) (event : E → F) (close : E → S → R) (x : Next S E) (f : F) (r : R) → carried into event close x ≡ End f r
    → (e : E) × (s : S) × (x ≡ End e s) × (f ≡ event e) × (r ≡ close e s)
ended into event close x f r e = grind arith

module _ {S E R F : Type 0} (m : Automaton S E) (n : Automaton R F) (into : S → R) (event : E → F) (close : E → S → R) where
  -- In the image of a state, `n` does what `m` does in the state, until `m` has ended.
  pub record Nests : Type 0 where
    pub step : (s : S) (b : ℕ) → n.step (into s) b ≡ carried into event close (m.step s b)
    pub begins : (s next : S) (b : ℕ) → m.step s b ≡ Go next → m.begun next ≡ true
    pub begun : (s : S) → m.begun s ≡ true → n.begun (into s) ≡ true
    pub in_number : (s : S) → n.in_number (into s) ≡ m.in_number s

  module _ (h : Nests) where
    pub stepped : (s : S) (b : ℕ) (x : Next S E) → m.step s b ≡ x → n.step (into s) b ≡ carried into event close x
    stepped s b x e = h.step s b ∙ ap (carried into event close) e

    pub reads_in : (t : List Letter) (s : S) (e : E) (after : S) → ReadsStatement m s t e after → ReadsStatement n (into s) t (event e) (close e after)
    reads_in [] s e after r = absurd r
    reads_in (l ∷ []) s e after (g, f) = (stepped s l.byte (End e after) g, f)
    reads_in (l ∷ k ∷ t) s e after (mid, g, i, f, r) =
        (into mid, stepped s l.byte (Go mid) g, h.begun mid i, f ∙ sym (h.in_number mid), reads_in (k ∷ t) mid e after r)

    pub went_out : (s : S) (b : ℕ) (r : R) → n.step (into s) b ≡ Go r → (next : S) × (m.step s b ≡ Go next) × (r ≡ into next)
    went_out s b r e = went into event close (m.step s b) r (sym (h.step s b) ∙ e)

    pub ended_out : (s : S) (b : ℕ) (f : F) (r : R) → n.step (into s) b ≡ End f r → (e : E) × (next : S) × (m.step s b ≡ End e next) × (f ≡ event e) × (r ≡ close e next)
    ended_out s b f r e = ended into event close (m.step s b) f r (sym (h.step s b) ∙ e)

    pub reads_out : (t : List Letter) (s : S) (f : F) (r : R) → ReadsStatement n (into s) t f r → (e : E) × (after : S) × (f ≡ event e) × ReadsStatement m s t e after
    reads_out [] s f r h' = absurd h'
    reads_out (l ∷ []) s f r (g, z) = grind (arith, ended_out)
    reads_out (l ∷ k ∷ t) s f r (mid, g, i, z, q) =
        let (next, j, same) = went_out s l.byte mid g in
        let (e, after, w, rest) = reads_out (k ∷ t) next f r (subst (λ x. ReadsStatement n x (k ∷ t) f r) same q) in
        (e, after, w, (next, j, h.begins s next l.byte j, z ∙ (ap n.in_number same ∙ h.in_number next), rest))

    pub walks_out : (t : List Letter) (s : S) (r : R) → Walks n (into s) t r → (next : S) × (r ≡ into next) × Walks m s t next
    walks_out [] s r w = (s, w, refl)
    walks_out (l ∷ t) s r (mid, g, i, z, w) =
        let (next, j, same) = went_out s l.byte mid g in
        let (last, is, k) = walks_out t next r (subst (λ x. Walks n x t r) same w) in
        (last, is, (next, j, h.begins s next l.byte j, z ∙ (ap n.in_number same ∙ h.in_number next), k))

module _ {S E R F : Type 0} (m : Automaton S E) (n : Automaton R F) (into : S → R) (event : E → F) where
  -- In the image of a state, `n` does what `m` does in the state.
  pub record Carries : Type 0 where
    pub nests : Nests m n into event (λ e. into)
    pub done : (s : S) → n.done (into s) ≡ m.done s
    pub begun : (s : S) → n.begun (into s) ≡ m.begun s
    pub asks : (s : S) (b : ℕ) → n.asks (into s) b ≡ m.asks s b
    pub kept : (s : S) → n.kept (into s) ≡ m.kept s
    pub spent : (s : S) → n.spent (into s) ≡ m.spent s

  module _ (h : Carries) where
    came : (s : S) (b : ℕ) (x : Next S E) → m.step s b ≡ x → n.step (into s) b ≡ carried into event (λ e. into) x
    came = stepped m n into event (λ e. into) h.nests

    out : (s : S) (b : ℕ) (r : R) → n.step (into s) b ≡ Go r → (next : S) × (m.step s b ≡ Go next) × (r ≡ into next)
    out = went_out m n into event (λ e. into) h.nests

    skips_in : (gap : List ℕ) (s at : S) → SkipsGap m s gap at → SkipsGap n (into s) gap (into at)
    skips_in [] s at e = ap into e
    skips_in (b ∷ gap) s at (mid, g, o, k) = (into mid, came s b (Go mid) g, h.begun mid ∙ o, skips_in gap mid at k)

    abbrev carried_item : Item E → Item F
    carried_item i = record { gap = i.gap; text = i.text; event = event i.event }

    accepts_in : (items : List (Item E)) (s : S) → AcceptsItems m s items → AcceptsItems n (into s) (map carried_item items)
    accepts_in [] s d = h.done s ∙ d
    accepts_in (i ∷ rest) s (at, after, g, r, a) =
        (into at, into after, skips_in i.gap s at g, reads_in m n into event (λ e. into) h.nests i.text at i.event after r, accepts_in rest after a)

    letters_same : (items : List (Item E)) → letters_of (map carried_item items) ≡ letters_of items
    letters_same [] = refl
    letters_same (i ∷ rest) = ap (λ x. plain i.gap ++ (i.text ++ x)) (letters_same rest)

    pub state_in : (s : S) → IsState m s → IsState n (into s)
    state_in s k = grind (arith, map, accepts_in, came, out, ended_out)

    pub runs_in : (text : List ℕ) (s new : S) → Runs m s text new → Runs n (into s) text (into new)
    runs_in [] s new same = ap into same
    runs_in (b ∷ text) s new (mid, g, state, rest) = (into mid, came s b (Go mid) g, state_in mid state, runs_in text mid new rest)

    -- a push of `m` is a push of `n`
    pub pushes_in : (gives : E → F → Type 0) → ((e : E) (f : F) → gives e f → f ≡ event e) → (s new : S) (b : ℕ) (answer : Push E) (r : Push F)
        → IsCarried gives answer r → Pushes m s b answer new → Pushes n (into s) b r (into new)
    pushes_in gives is s new b answer r c p = grind (arith, came, map, accepts_in, letters_same)

    -- after each byte that is taken, the text has begun
    pub begins_in : (s : S) (r : R) (b : ℕ) → n.step (into s) b ≡ Go r → n.begun r ≡ true
    begins_in s r b e = let (next, g, same) = out s b r e in ap n.begun same ∙ (h.begun next ∙ h.nests.begins s next b g)
