use Rattle.pb_text.proofs.Common.{ℕ, ◌++◌, ◌+◌, ◌-◌, ◌<◌, ◌^◌, ◌∙◌, ◌∷◌, ◌≡◌, ◌≤◌, [], ap, arith, false, get_or, length, length-append, length-take}
use Rattle.pb_text.proofs.Common.{length-take-le, List, min, None, Option, Some, subst, sym, take, true, take-take, take_more, begins, IsState, Stands}
use Rattle.pb_text.proofs.Common.{StandsAt, Feeder, Ghosts, Place, Spanned, end_of, byte_limit, place_next, place_past}
use Rattle.pb_text.{proofs.lemmas.feeder.Steps.none_of, proofs.lemmas.feeder.Steps.running, specs.contract.Automaton.TakesStatement}
use Rattle.pb_text.proofs.lemmas.machine.Running.{place_fits, past_more, stands_whole, first_of, span}
use Rattle.pb_text.proofs.feeder.Feeder.feed_statement.Goals as goal

past_of : {E : Type 0} (n m : Spanned E) → ◌≡◌ {A = Option (Spanned E)} (Some n) (Some m) → m.past ≡ n.past
past_of n m h = let same : n ≡ m = cc h in ap (λ (x : Spanned _). x.past) (sym same)

-- the first byte through an index is that of the piece
first_through : (xs : List ℕ) (last : ℕ) → last < length xs → get_or (take last xs ++ get_or xs last 0 ∷ []) 0 0 ≡ get_or xs 0 0
first_through xs last inside = grind (arith, take_more, first_of)

-- A statement that ends at index `last` of a prefix of n bytes, which is within the limits.
module _ {M E : Type 0} {g : Ghosts M E} (f : Feeder M E g) (piece : List ℕ) (n last : ℕ) (event : E) (new : M) (none : f.first ≡ None) (least : n ≡ min (length piece) (end_of f.longest (Some f.place) - f.place.offset))
    (taken : TakesStatement g.automaton f.machine (take n piece) (Some (last, event)) new) where
  abbrev text : List ℕ
  text = take last (take n piece)

  abbrev byte : ℕ
  byte = get_or (take n piece) last 0

  long : length text ≡ last
  long = length-take-le last (take n piece) (omega (arith, taken.0))

  within : (last + 1 ≤ length piece) × (last + 1 ≤ n) × (f.place.offset + last < end_of f.longest (Some f.place)) × (last + 1 ≤ byte_limit - f.place.offset)
  within = grind (arith, length-take)

  limit : f.end ≡ byte_limit
  limit = f.end_is ∙ ap (λ (o : Option Place). end_of f.longest o) none

  -- the position of the last byte leaves room for the one after it
  last_fits : (q : Place) → q ≡ place_past f.place text → (q.line + 1 < 2 ^ 64) × (q.column + 1 < 2 ^ 64) × (q.offset + 1 < 2 ^ 64)
  last_fits q is =
      let p = place_fits f.place q text last byte_limit is long (omega (arith, within.3)) (omega (arith, f.offset_in_range, limit)) f.line_in_range f.column_in_range in
      (omega (arith, p.0, p.1), omega (arith, p.0, p.2), omega (arith, p.0))

  -- and that one is within the bounds
  next_fits : (q : Place) → q ≡ place_next (place_past f.place text) byte → (q.offset ≤ f.end) × (q.line ≤ q.offset + 1) × (q.column ≤ q.offset + 1) × (q.offset ≡ f.place.offset + (last + 1))
  next_fits q is =
      place_fits f.place q (text ++ byte ∷ []) (last + 1) f.end (is ∙ sym (past_more f.place text byte)) (omega (arith, length-append text (byte ∷ []), long)) (omega (arith, within.3, limit)) f.offset_in_range f.line_in_range f.column_in_range

  stands : {longest : ℕ} {start : M} {input : List ℕ} {spans : List (Spanned E)} → StandsAt longest start input spans f → f.stop ≡ None → g.automaton.done f.machine ≡ false → IsState g.automaton new → (q : Place) → q ≡ place_next (place_past f.place text) byte
      → Stands g.automaton longest start (input ++ take (last + 1) piece) (spans ++ span event f.place q ∷ []) new q None None
  stands {longest} {start} {input} {spans} s stop unfinished state q is =
      let at_first : Stands g.automaton longest start input spans f.machine f.place None None = subst (λ (o : Option Place). Stands g.automaton longest start input spans f.machine f.place o None) none (running f s stop) in
      let starts : begins g.automaton f.machine (get_or (text ++ byte ∷ []) 0 0) ≡ true = ap (λ (x : ℕ). begins g.automaton f.machine x) (first_through (take n piece) last taken.0) ∙ taken.1 in
      let fits : f.place.offset + length text < end_of longest (Some f.place) = omega (arith, long, within.2, ap (λ (l : ℕ). end_of l (Some f.place)) s.0) in
      rw (is, ← take-take (last + 1) n piece within.1, take_more (take n piece) last 0 taken.0) (stands_whole new at_first unfinished text taken.2 byte event starts fits taken.3 taken.4 state)

pub after-past-requires : goal.after-past-requires
after-past-requires g c =
    let fits = last_fits c.args.self.now c.args.piece.now c.min.result c.in-Some.last c.in-Some.taken c.take_statement.new.self (none_of _ (sym c.is_some.ensures ∙ c.if-is_some.false)) (rw c.end_at.ensures at c.min.ensures) c.in-Some.ensures.statement c.past.result c.past.ensures in
    record { line = fits.0; column = fits.1; offset = fits.2 }

pub invariant_of-self-2 : goal.invariant_of-self-2
invariant_of-self-2 g c =
    let f = c.args.self.now in
    let b = get_or (take c.min.result c.args.piece.now) c.in-Some.last 0 in
    let is = c.after-past.ensures ∙ ap (λ (p : Place). place_next p b) c.past.ensures in
    let q = next_fits f c.args.piece.now c.min.result c.in-Some.last c.in-Some.taken c.take_statement.new.self (none_of f.first (sym c.is_some.ensures ∙ c.if-is_some.false)) (rw c.end_at.ensures at c.min.ensures) c.in-Some.ensures.statement c.after-past.result is in
    record { some = f.some; end_is = f.end_is; offset_in_range = q.0; line_in_range = q.1; column_in_range = q.2 }

pub returns : goal.returns
returns g c =
    let f = c.args.self.now in let piece = c.args.piece.now in let last = c.in-Some.last in let n = c.min.result in
    let new = c.take_statement.new.self in
    let none : f.first ≡ None = none_of f.first (sym c.is_some.ensures ∙ c.if-is_some.false) in
    let least : n ≡ min (length piece) (end_of f.longest (Some f.place) - f.place.offset) = rw c.end_at.ensures at c.min.ensures in
    let taken = c.in-Some.ensures.statement in
    let is : c.after-past.result ≡ place_next (place_past f.place (take last (take n piece))) (get_or (take n piece) last 0) = c.after-past.ensures ∙ ap (λ (p : Place). place_next p (get_or (take n piece) last 0)) c.past.ensures in
    record {
      bound = (within f piece n last c.in-Some.taken new none least taken).0;
      stands = λ longest start input spans h. (h.0, rw (c.requires.running, none) (stands f piece n last c.in-Some.taken new none least taken h c.requires.running c.requires.unfinished c.in-Some.ensures.state c.after-past.result is));
      offset = (next_fits f piece n last c.in-Some.taken new none least taken c.after-past.result is).3;
      some = λ event h. omega arith;
      past = λ event h. past_of _ event h;
      running = c.requires.running;
      unfinished = λ h. cc h;
      state = c.in-Some.ensures.state;
    }

pub returns-in_default : goal.returns-in_default
returns-in_default g c =
    let same : c.take_statement.new.self ≡ c.args.self.now.machine = c.in_default.ensures.statement in
    let part = rw same at c.feed_part-in_default.ensures in
    record {
      bound = part.bound;
      stands = part.stands;
      offset = part.offset;
      some = part.some;
      past = part.past;
      running = part.running;
      unfinished = part.unfinished;
      state = part.state;
    }
