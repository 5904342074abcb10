-- Consecutive bytes of a statement. Offered to other crates.
use Rattle.pb_text.proofs.Common.{ℕ, ◌++◌, ◌+◌, ◌-◌, ◌<◌, ◌==◌, ◌∙◌, ◌∷◌, ◌≡◌, ◌≢◌, ◌≤◌, [], ap, append-nil, append_assoc, ap₂, arith, Bool, false, get_or}
use Rattle.pb_text.proofs.Common.{length, List, None, Option, refl, Some, subst, suc, sym, take, true, take_more, is_some, nat_tests, Automaton, begins, Go}
use Rattle.pb_text.proofs.Common.{IsState, Runs, opened, Stands, Place, Spanned, end_of, Each, place_next, place_past, End}
use Rattle.pb_text.proofs.lemmas.{feeder.Steps.stands_go, feeder.Steps.stands_event, text.Short.end_limit}

module _ {S E : Type 0} (m : Automaton S E) where
  -- one more byte
  pub runs_more : (old : S) (text : List ℕ) (mid : S) (b : ℕ) (new : S) → Runs m old text mid → m.step mid b ≡ Go new → IsState m new → Runs m old (text ++ b ∷ []) new
  runs_more old [] mid b new same continues state = (new, subst (λ (x : S). m.step x b ≡ Go new) same continues, state, refl)
  runs_more old (c ∷ text) mid b new (next, first, is, rest) continues state = (next, first, is, runs_more next text mid b new rest continues state)

  -- the same for the bytes of a piece
  pub runs_on : (old : S) (piece : List ℕ) (i : ℕ) (mid new : S) → i < length piece → Runs m old (take i piece) mid → m.step mid (get_or piece i 0) ≡ Go new → IsState m new → Runs m old (take (i + 1) piece) new
  runs_on old piece i mid new h runs continues state =
      subst (λ (x : List ℕ). Runs m old x new) (sym (take_more piece i 0 h)) (runs_more old (take i piece) mid (get_or piece i 0) new runs continues state)

-- how far one byte moves a position
pub next_bounds : (p : Place) (b : ℕ) → ((place_next p b).offset ≡ p.offset + 1) × ((place_next p b).line ≤ p.line + 1) × ((place_next p b).column ≤ p.column + 1)
next_bounds p b = grind (arith, p.line, p.offset, p.column)

-- The offset grows by the number of bytes, and the line and the column each by at most that.
pub past_bounds : (p : Place) (text : List ℕ) → ((place_past p text).offset ≡ p.offset + length text) × ((place_past p text).line ≤ p.line + length text) × ((place_past p text).column ≤ p.column + length text)
past_bounds p [] = (omega arith, omega arith, omega arith)
past_bounds p (b ∷ text) = grind (arith, next_bounds, past_bounds (place_next p b) text)

-- The position after n bytes is within the same bounds.
pub place_fits : (p q : Place) (text : List ℕ) (n end : ℕ) → q ≡ place_past p text → length text ≡ n → n ≤ end - p.offset → p.offset ≤ end → p.line ≤ p.offset + 1 → p.column ≤ p.offset + 1
    → (q.offset ≤ end) × (q.line ≤ q.offset + 1) × (q.column ≤ q.offset + 1) × (q.offset ≡ p.offset + n)
place_fits p q text n end is long room le line column = grind (arith, past_bounds, q.offset, p.offset)

next_on_line : (p : Place) (b : ℕ) → b ≢ 10 → place_next p b ≡ record { line = p.line; column = p.column + 1; offset = p.offset + 1 }
next_on_line p b h = let plain : (b == 10) ≡ false = grind (arith, nat_tests) in rw plain refl

further : (p : Place) (n : ℕ) → (let q : Place = record { line = p.line; column = (p.column + 1) + n; offset = (p.offset + 1) + n } in q) ≡ record { line = p.line; column = p.column + suc n; offset = p.offset + suc n }
further p n = ap₂ (λ (x y : ℕ). let q : Place = record { line = p.line; column = x; offset = y } in q) (omega arith) (omega arith)

-- the position after bytes of one line
pub past_on_line : (p : Place) (text : List ℕ) → Each (λ b. b ≢ 10) text → place_past p text ≡ record { line = p.line; column = p.column + length text; offset = p.offset + length text }
past_on_line p [] h = ap₂ (λ (x y : ℕ). let q : Place = record { line = p.line; column = x; offset = y } in q) (omega arith) (omega arith)
past_on_line p (b ∷ text) h =
    ap (λ (q : Place). place_past q text) (next_on_line p b h.0) ∙ (past_on_line (record { line = p.line; column = p.column + 1; offset = p.offset + 1 }) text h.1 ∙ further p (length text))

-- the position after the bytes of a piece and one more byte
pub past_more : (p : Place) (text : List ℕ) (b : ℕ) → place_past p (text ++ b ∷ []) ≡ place_next (place_past p text) b
past_more p [] b = refl
past_more p (c ∷ text) b = past_more (place_next p c) text b

module _ {S E : Type 0} (m : Automaton S E) where
  -- no text is complete on the way
  pub runs_unfinished : (old : S) (text : List ℕ) (new : S) → IsState m old → m.done old ≡ false → Runs m old text new → m.done new ≡ false
  runs_unfinished old [] new state unfinished same = subst (λ (x : S). m.done x ≡ false) (sym same) unfinished
  runs_unfinished old (b ∷ text) new state unfinished (mid, continues, is, rest) = runs_unfinished mid text new is (state.owes b mid continues) rest

-- a statement that was open stays open, with the same beginning
stays_open : (first : Option Place) (starts : Bool) (place : Place) → is_some first ≡ true → opened first starts place ≡ first
stays_open first starts place e = grind arith

module _ {S E : Type 0} {m : Automaton S E} {longest : ℕ} {start : S} {spans : List (Spanned E)} where
  -- bytes of the statement that has begun preserve `Stands`, for the input extended by them
  pub stands_run : (old : S) (text : List ℕ) (new : S) (input : List ℕ) (place : Place) (first : Option Place) → Stands m longest start input spans old place first None
      → m.done old ≡ false → is_some first ≡ true → place.offset + length text ≤ end_of longest first → Runs m old text new
      → Stands m longest start (input ++ text) spans new (place_past place text) first None × (m.done new ≡ false)
  stands_run old [] new input place first s unfinished begun fits same = grind (arith, append-nil)
  stands_run old (b ∷ text) new input place first s unfinished begun fits (mid, continues, state, rest) =
      let lt : place.offset < end_of longest first = omega (arith, fits) in
      let k = stands_go mid s unfinished b continues state lt in
      let k' : Stands m longest start (input ++ b ∷ []) spans mid (place_next place b) first None = rw (append-nil, stays_open first (begins m old b) place begun) at k in
      let fits' : (place_next place b).offset + length text ≤ end_of longest first = omega (arith, (next_bounds place b).0, fits) in
      let r = stands_run mid text new (input ++ b ∷ []) (place_next place b) first k' (s.is_state.owes b mid continues) begun fits' rest in
      (subst (λ (x : List ℕ). Stands m longest start x spans new (place_past place (b ∷ text)) first None) (append_assoc input (b ∷ []) text) r.0, r.1)

-- the first byte of a prefix
pub first_of : (n : ℕ) (xs : List ℕ) → get_or (take (suc n) xs) 0 0 ≡ get_or xs 0 0
first_of n xs = grind arith

abbrev pub span : {E : Type 0} → E → Place → Place → Spanned E
span e first past = record { event = e; first = first; past = past }

module _ {S E : Type 0} {m : Automaton S E} {longest : ℕ} {start : S} {spans : List (Spanned E)} {old : S} (new : S) {input : List ℕ} {place : Place}
    (s : Stands m longest start input spans old place None None) (unfinished : m.done old ≡ false) where
  pub stands_whole : (text : List ℕ) (mid : S) (b : ℕ) (e : E) → begins m old (get_or (text ++ b ∷ []) 0 0) ≡ true
      → place.offset + length text < end_of longest (Some place) → Runs m old text mid → m.step mid b ≡ End e new → IsState m new
      → Stands m longest start (input ++ (text ++ b ∷ [])) (spans ++ span e place (place_next (place_past place text) b) ∷ []) new (place_next (place_past place text) b) None None
  stands_whole [] mid b e starts fits same ends state =
      stands_event new s unfinished b e (subst (λ (x : S). m.step x b ≡ End e new) same ends) state (omega (arith, fits, end_limit longest (Some place)))
  stands_whole (c ∷ rest) mid b e starts fits (next, continues, is, runs) ends state =
      let k = stands_go next s unfinished c continues is (omega (arith, fits, end_limit longest (Some place))) in
      let open_here : opened None (begins m old c) place ≡ Some place = ap (λ (t : _). opened None t place) starts in
      let k' : Stands m longest start (input ++ c ∷ []) spans next (place_next place c) (Some place) None = rw (append-nil, open_here) at k in
      let far : (place_past (place_next place c) rest).offset ≡ place.offset + (1 + length rest) = (past_bounds place (c ∷ rest)).0 ∙ omega arith in
      let near : (place_next place c).offset ≡ place.offset + 1 = (next_bounds place c).0 in
      let r = stands_run next rest mid (input ++ c ∷ []) (place_next place c) (Some place) k' (s.is_state.owes c next continues) refl (omega (arith, near, fits)) runs in
      let q = stands_event new r.0 r.1 b e ends state (omega (arith, far, fits)) in
      let same : ((input ++ c ∷ []) ++ rest) ++ b ∷ [] ≡ input ++ (c ∷ (rest ++ b ∷ [])) = append_assoc (input ++ c ∷ []) rest (b ∷ []) ∙ append_assoc input (c ∷ []) (rest ++ b ∷ []) in
      subst (λ (x : List ℕ). Stands m longest start x (spans ++ span e place (place_next (place_past (place_next place c) rest) b) ∷ []) new (place_next (place_past (place_next place c) rest) b) None None) same q
