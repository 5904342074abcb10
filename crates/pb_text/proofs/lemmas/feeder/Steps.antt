-- `Stands` for no input, for more input that is not taken, and for one more byte that is taken or that stops the machine.
use Rattle.pb_text.proofs.Common.{ℕ, ◌++◌, ◌<◌, ◌∙◌, ◌∷◌, ◌≡◌, ◌≢◌, ◌⊎◌, [], ap, append-nil, append_assoc, arith, false, inr, List, None, Option, refl, Some}
use Rattle.pb_text.proofs.Common.{subst, sym, true, false≢true, Automaton, IsState, StandsAt, Counts, Halts, IsOpen, Stands, Waits, Feeder, Ghosts, Place}
use Rattle.pb_text.proofs.Common.{Spanned, Stop, Why, Byte, Ended, Memory, Read, TooLarge, TooLong, end_of, bytes, Letter, ◌+◌, ◌-◌, drop, get_or, length, take}
use Rattle.pb_text.proofs.Common.{◌≤◌, ap₂, Bool, IsTrue, length-append, AcceptsItems, Admits, begins, End, Go, is_large, Leads, Refuse, state_after, EndBy}
use Rattle.pb_text.proofs.Common.{Follows, opened, SpentSince, AreShort, last_numeral, place_after, place_next, place_or, is_some, length-drop, length-take, spans_in}
use Rattle.pb_text.proofs.lemmas.{machine.Residual.residual, machine.Residual.takes_go, machine.Residual.takes_last, text.Languages.bytes-append}
use Rattle.pb_text.proofs.lemmas.text.{Booleans.never, Lists.length-bytes, Lists.put_advances, Lists.last_advances, Spans.one_further, Spans.prefix_parts}
use Rattle.pb_text.proofs.lemmas.feeder.Reported.{nothing_fed, step}
use Rattle.pb_text.proofs.lemmas.text.Short.{place_after-snoc, end_limit, place_after-offset, AreShort-append, AreShort-grown}
use Rattle.pb_text.specs.{engine.Prefixes.TakesPrefix, meaning.Spelling.place_after}

-- an option whose test is known
pub none_of : {A : Type 0} (o : Option A) → is_some o ≡ false → o ≡ None
none_of o h = grind arith

pub some_of : {A : Type 0} (o : Option A) → is_some o ≡ true → (x : A) × (o ≡ Some x)
some_of None h = absurd (false≢true h)
some_of (Some x) h = (x, refl)

module _ {S E : Type 0} (m : Automaton S E) (longest : ℕ) (start : S) where
  pub stands_new : IsState m start → m.begun start ≡ false → 0 < longest → Stands m longest start [] [] start (record { line = 1; column = 1; offset = 0 }) None None
  unfolding place_after
  stands_new state out some = record {
    letters = [];
    left = [];
    input_is = refl;
    follows = record {
      into = λ later r. (later, r, record { letters_are = refl; spans_are = refl });
      onto = λ items f prefix. (items, f, record { letters_are = refl; spans_are = refl });
      alone = λ n h items f e. absurd (omega arith);
      ended = tt;
    };
    leads = refl;
    is_state = state;
    place_is = refl;
    begun_is = sym out;
    owed = λ h. absurd (false≢true h);
    number_is = state.plain out;
    some = some;
    within = omega arith;
    short = tt;
    spent = state.empties out;
    waits = inr refl;
  }

halts_more : {S E : Type 0} (m : Automaton S E) (state : S) (end : ℕ) (letters : List Letter) (left more : List ℕ) (why : Why) → Counts why → Halts m state end letters left why → Halts m state end letters (left ++ more) why
halts_more m state end letters left more (Byte b) c h = (h.0 ++ more, ap (λ (x : List ℕ). x ++ more) h.1, h.2, h.3, h.4)
halts_more m state end letters left more TooLarge c h = (h.0, h.1 ++ more, ap (λ (x : List ℕ). x ++ more) h.2, h.3, h.4, h.5)
halts_more m state end letters left more TooLong c h = ((λ e. h.0 (nothing_fed left more e)), h.1)
halts_more m state end letters left more Ended c h = absurd c
halts_more m state end letters left more Read c h = tt
halts_more m state end letters left more Memory c h = (h.0, h.1 ++ more, ap (λ (x : List ℕ). x ++ more) h.2, h.3, h.4, h.5)

module _ {S E : Type 0} {m : Automaton S E} where
  module _ {longest : ℕ} {start old : S} {input : List ℕ} {spans : List (Spanned E)} {place : Place} {first : Option Place} {stop : Option Stop} (s : Stands m longest start input spans old place first stop) where
    -- `Stands` with another rest and another stop
    pub with_rest : (input' left : List ℕ) (stop' : Option Stop) → input' ≡ bytes s.letters ++ left → Waits m old (end_of longest first) s.letters left place stop' → Stands m longest start input' spans old place first stop'
    with_rest input' left stop' is waits = grind arith

    longer : (more : List ℕ) → input ++ more ≡ bytes s.letters ++ (s.left ++ more)
    longer more = ap (λ (x : List ℕ). x ++ more) s.input_is ∙ append_assoc (bytes s.letters) s.left more

    -- more input changes nothing if the machine is complete or stopped
    pub stands_more : (more : List ℕ) → IsOpen stop → (stop ≡ None → m.done old ≡ true) → Stands m longest start (input ++ more) spans old place first stop
    stands_more more counts done = grind (arith, with_rest, longer, halts_more)

  module _ {longest : ℕ} {start old : S} {input : List ℕ} {spans : List (Spanned E)} {place : Place} {first : Option Place} (s : Stands m longest start input spans old place first None) (unfinished : m.done old ≡ false) where
    nothing_left : (left : List ℕ) → (m.done old ≡ true) ⊎ (left ≡ []) → left ≡ []
    nothing_left left h = grind (arith, never)

    -- all the input was taken
    pub input_taken : input ≡ bytes s.letters
    input_taken = s.input_is ∙ (ap (λ (x : List ℕ). bytes s.letters ++ x) (nothing_left s.left s.waits) ∙ append-nil (bytes s.letters))

    -- the input has ended before its text did
    pub stands_ended : Stands m longest start input spans old place first (Some (record { place = place; why = Ended }))
    stands_ended = with_rest s input s.left (Some (record { place = place; why = Ended })) s.input_is (unfinished, refl, nothing_left s.left s.waits)

    -- the reader failed
    pub stands_failed : (more : List ℕ) → Stands m longest start (input ++ more) spans old place first (Some (record { place = place; why = Read }))
    stands_failed more = with_rest s (input ++ more) (s.left ++ more) (Some (record { place = place; why = Read })) (longer s more) (unfinished, refl, tt)

module _ {M E : Type 0} {g : Ghosts M E} {longest : ℕ} {start : M} {input : List ℕ} {spans : List (Spanned E)} (f : Feeder M E g) (s : StandsAt longest start input spans f) where
  -- a feeder that runs
  pub running : f.stop ≡ None → Stands g.automaton longest start input spans f.machine f.place f.first None
  running none = subst (λ (o : Option Stop). Stands g.automaton longest start input spans f.machine f.place f.first o) none s.1

  -- the offset of the end of its input
  pub end_at : f.end ≡ end_of longest f.first
  end_at = f.end_is ∙ ap (λ (l : ℕ). end_of l f.first) s.0

  -- it may take a byte if it is not there
  pub room : f.place.offset ≢ f.end → f.place.offset < end_of longest f.first
  room h = omega (arith, end_at, f.offset_in_range)

module _ {M E : Type 0} {g : Ghosts M E} where
  -- it took these bytes, and ended no statement
  abbrev pub Passes : Feeder M E g → List ℕ → Feeder M E g → Type 0
  Passes old xs new = (longest : ℕ) (start : M) (input : List ℕ) (spans : List (Spanned E)) → StandsAt longest start input spans old → StandsAt longest start (input ++ xs) spans new

  -- it took these bytes, and returned these spans
  abbrev pub Reaches : Feeder M E g → List ℕ → List (Spanned E) → Feeder M E g → Type 0
  Reaches old xs more new = (longest : ℕ) (start : M) (input : List ℕ) (spans : List (Spanned E)) → StandsAt longest start input spans old → StandsAt longest start (input ++ xs) (spans ++ more) new

  pub passes : (old new : Feeder M E g) (xs : List ℕ) → Reaches old xs [] new → Passes old xs new
  passes old new xs r longest start input spans s = rw append-nil at (r longest start input spans s)

  -- it took a prefix of a piece, and ended no statement
  pub prefix_taken : (old new : Feeder M E g) (piece : List ℕ) (n : ℕ) → n ≤ length piece → Passes old (take n piece) new
      → new.place.offset ≡ old.place.offset + n → new.stop ≡ None → g.automaton.done new.machine ≡ false → IsState g.automaton new.machine
      → TakesPrefix old piece (record { used = n; event = None }) new
  prefix_taken old new piece n bound p offset running unfinished state = record {
    bound = bound;
    stands = λ longest start input spans s. rw append-nil (p longest start input spans s);
    offset = offset;
    some = λ event h. cc h;
    past = λ event h. cc h;
    running = running;
    unfinished = λ h. unfinished;
    state = state;
  }

  module _ (old mid new : Feeder M E g) (piece : List ℕ) (i : ℕ) (more : List (Spanned E)) (p : Passes old (take i piece) mid) where
    -- a byte after a prefix of a piece
    pub with_byte : i < length piece → Reaches mid (get_or piece i 0 ∷ []) more new → Reaches old (take (i + 1) piece) more new
    with_byte h r longest start input spans s =
        subst (λ (x : List ℕ). StandsAt longest start x (spans ++ more) new) (one_further input piece i h) (r longest start (input ++ take i piece) spans (p longest start input spans s))

    -- a prefix of the rest
    pub with_more : (n : ℕ) → Reaches mid (take n (take (length piece - i) (drop i piece))) more new → Reaches old (take (i + n) piece) more new
    with_more n r longest start input spans s =
        rw (prefix_parts piece i n, ← append_assoc input) (r longest start (input ++ take i piece) spans (p longest start input spans s))

  -- a prefix of what is left after one that ended no statement
  pub prefix_more : (old mid new : Feeder M E g) (piece : List ℕ) (i n : ℕ) (event : Option (Spanned E)) → TakesPrefix old piece (record { used = i; event = None }) mid
      → TakesPrefix mid (take (length piece - i) (drop i piece)) (record { used = n; event = event }) new → TakesPrefix old piece (record { used = i + n; event = event }) new
  prefix_more old mid new piece i n event first more = record {
    bound = omega (arith, first.bound, more.bound, length-take (length piece - i) (drop i piece), length-drop i piece);
    stands = with_more old mid new piece i (spans_in event) (passes old mid _ first.stands) n more.stands;
    offset = omega (arith, first.offset, more.offset);
    some = λ e h. omega (arith, more.some e h);
    past = more.past;
    running = more.running;
    unfinished = more.unfinished;
    state = more.state;
  }

last_numeral-snoc : (ls : List Letter) (l : Letter) → last_numeral (ls ++ l ∷ []) ≡ l.numeral
last_numeral-snoc [] l = refl
last_numeral-snoc (m ∷ []) l = refl
last_numeral-snoc (m ∷ n ∷ ls) l = last_numeral-snoc (n ∷ ls) l

module _ {S E : Type 0} (m : Automaton S E) where
  -- one more byte
  leads_more : (start : S) (text : List ℕ) (old : S) (b : ℕ) (new : S) → Leads m start text old → state_after m (m.step old b) ≡ Some new → Leads m start (text ++ b ∷ []) new
  leads_more start [] old b new same taken = grind arith
  leads_more start (c ∷ text) old b new (mid, first, rest) taken = (mid, first, leads_more mid text old b new rest taken)

module _ {S E : Type 0} {m : Automaton S E} {longest : ℕ} {start old : S} {input : List ℕ} {spans : List (Spanned E)} {place : Place} {first : Option Place} (new : S)
    (s : Stands m longest start input spans old place first None) (unfinished : m.done old ≡ false) (b : ℕ) where
  next_place : place_next place b ≡ place_after (bytes s.letters ++ b ∷ [])
  next_place = ap (λ (p : Place). place_next p b) s.place_is ∙ sym (place_after-snoc (bytes s.letters) b)

  offset_is : place.offset ≡ length s.letters
  offset_is = ap (λ (p : Place). p.offset) s.place_is ∙ (place_after-offset (bytes s.letters) ∙ length-bytes s.letters)

  abbrev letter : Letter
  letter = record { byte = b; numeral = m.in_number new }

  one_longer : length (s.letters ++ letter ∷ []) ≡ length s.letters + 1
  one_longer = length-append s.letters (letter ∷ [])

  -- with one byte taken
  moved : state_after m (m.step old b) ≡ Some new → (more : List (Spanned E)) (first' : Option Place) → Follows (AcceptsItems m start) (AcceptsItems m new) (s.letters ++ letter ∷ []) (spans ++ more) first' → IsState m new → is_some first' ≡ m.begun new
      → (is_some first' ≡ true → m.done new ≡ false) → length s.letters + 1 ≤ end_of longest first' → AreShort longest (length s.letters + 1) more → SpentSince (length s.letters + 1) first' (m.spent new)
      → Stands m longest start (input ++ b ∷ []) (spans ++ more) new (place_next place b) first' None
  moved taken more first' follows state begins owed within short spent =
      grind (arith, bytes-append, AreShort-append, AreShort-grown, input_taken, append-nil, leads_more, next_place, last_numeral-snoc, one_longer)

  module _ (continues : m.step old b ≡ Go new) (state : IsState m new) (lt : place.offset < end_of longest first) where
    -- the position where the statement of the next byte began is within the limits
    starts : (q : Option Place) → is_some q ≡ m.begun old → place.offset < end_of longest q → SpentSince (length s.letters) q (m.spent old) → (here : Bool) → m.begun new ≡ here
        → (is_some (opened q here place) ≡ here) × (length s.letters + 1 ≤ end_of longest (opened q here place)) × SpentSince (length s.letters + 1) (opened q here place) (m.spent new)
    starts q begun less spent here inside = grind (arith, offset_is, never)

    begins_is : (q : Option Place) → is_some q ≡ m.begun old → opened q (m.begun new) place ≡ opened q (begins m old b) place
    begins_is q e = grind arith

    pub stands_go : Stands m longest start (input ++ b ∷ []) (spans ++ []) new (place_next place b) (opened first (begins m old b) place) None
    stands_go =
        let owes : m.done new ≡ false = s.is_state.owes b new continues in
        let at = starts first s.begun_is lt s.spent (m.begun new) refl in
        let k = step s.follows (takes_go m old new b continues owes state) (put_advances (m.begun new) letter (bytes s.letters) first state.plain) (residual m old s.is_state) (residual m new state) tt in
        let follows = subst (λ (p : Place). Follows (AcceptsItems m start) (AcceptsItems m new) (s.letters ++ letter ∷ []) (spans ++ []) (opened first (m.begun new) p)) (sym s.place_is) k in
        subst (λ (q : Option Place). Stands m longest start (input ++ b ∷ []) (spans ++ []) new (place_next place b) q None) (begins_is first s.begun_is)
        (moved (ap (state_after m) continues) [] (opened first (m.begun new) place) follows state at.0 (λ e. owes) at.1 tt at.2)

  span_fits : (q : Option Place) (e : E) (past : Place) → past.offset ≡ length s.letters + 1 → place.offset < end_of longest q → (let n : Spanned E = record { event = e; first = place_or q place; past = past } in AreShort longest (length s.letters + 1) (n ∷ []))
  span_fits q e past at lt = grind (arith, offset_is)

  pub stands_event : (e : E) → m.step old b ≡ End e new → IsState m new → place.offset < end_of longest first
      → Stands m longest start (input ++ b ∷ []) (spans ++ record { event = e; first = place_or first place; past = place_next place b } ∷ []) new (place_next place b) None None
  stands_event e ends state lt =
      let here : List ℕ = bytes s.letters in
      let out : m.begun new ≡ false = s.is_state.finishes b e new ends in
      let q : Spanned E = record { event = e; first = place_or first (place_after here); past = place_after (here ++ b ∷ []) } in
      let n : Spanned E = record { event = e; first = place_or first place; past = place_next place b } in
      let same : q ≡ n = ap₂ (λ (x y : Place). let r : Spanned E = record { event = e; first = place_or first x; past = y } in r) (sym s.place_is) (sym next_place) in
      let past_offset : (place_next place b).offset ≡ length s.letters + 1 = ap (λ (x : Place). x.offset) next_place ∙ omega (arith, place_after-offset (here ++ b ∷ []), length-append here (b ∷ []), length-bytes s.letters) in
      let ended : EndBy (length (s.letters ++ letter ∷ [])) (q ∷ []) =
      (omega (arith, place_after-offset (here ++ b ∷ []), length-append here (b ∷ []), length-bytes s.letters, one_longer), tt) in
      let k = step s.follows (takes_last m old new b e ends out state) (last_advances letter e here first) (residual m old s.is_state) (residual m new state) ended in
      moved (ap (state_after m) ends) (n ∷ []) None (subst (λ (r : Spanned E). Follows (AcceptsItems m start) (AcceptsItems m new) (s.letters ++ letter ∷ []) (spans ++ r ∷ []) None) same k)
      state (sym out) (λ h. absurd (false≢true h)) (omega (arith, end_limit longest first, lt, offset_is)) (span_fits first e (place_next place b) past_offset lt) (state.empties out)

  -- a stop at the byte, with the machine unchanged
  stopped : (stop : Stop) → stop.place ≡ place → Halts m old (end_of longest first) s.letters (b ∷ []) stop.why → new ≡ old
      → Stands m longest start (input ++ b ∷ []) (spans ++ []) new place first (Some stop)
  stopped stop at halts same = grind (arith, append-nil, with_rest, input_taken)

  shorter : place.offset < end_of longest first → length s.letters < end_of longest first
  shorter lt = omega (arith, offset_is)

  pub stands_no : place.offset < end_of longest first → m.step old b ≡ Refuse → is_large m old b ≡ false → new ≡ old
      → Stands m longest start (input ++ b ∷ []) (spans ++ []) new place first (Some (record { place = place; why = Byte b }))
  stands_no lt refused small same = stopped (record { place = place; why = Byte b }) refl ([], refl, refused, small, shorter lt) same

  pub stands_large : place.offset < end_of longest first → m.step old b ≡ Refuse → is_large m old b ≡ true → new ≡ old
      → Stands m longest start (input ++ b ∷ []) (spans ++ []) new place first (Some (record { place = place; why = TooLarge }))
  stands_large lt refused large same = stopped (record { place = place; why = TooLarge }) refl (b, [], refl, refused, large, shorter lt) same

  pub stands_lacks : place.offset < end_of longest first → IsTrue (m.asks old b) → Admits m old b → new ≡ old
      → Stands m longest start (input ++ b ∷ []) (spans ++ []) new place first (Some (record { place = place; why = Memory }))
  stands_lacks lt asks admits same = stopped (record { place = place; why = Memory }) refl (b, [], refl, admits, asks, shorter lt) same

  pub stands_long : place.offset ≡ end_of longest first → new ≡ old
      → Stands m longest start (input ++ b ∷ []) (spans ++ []) new place first (Some (record { place = place; why = TooLong }))
  stands_long e same = stopped (record { place = place; why = TooLong }) refl ((λ h. cc), omega (arith, offset_is)) same
