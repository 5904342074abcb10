-- What a feeder and a reader of tokens stand at after one more piece, and what a reader gives for it.
use Rattle.pb_pieces.proofs.Common.{ℕ, ◌++◌, ◌∙◌, ◌∷◌, ◌≡◌, [], ap, append-nil, Err, List, None, Ok, Option, subst, sym, flat_map-append, bytes_with, FeedsOnce}
use Rattle.pb_pieces.proofs.Common.{halt_of, spans_in, StandsAt, Feeder, Spanned, Stop, names_of, names_in, Token, ◌⊎◌, Bool, inl, inr, map, Result, Some, take}
use Rattle.pb_pieces.proofs.Common.{◌↔◌, map_push, with_names, AcceptsItems, Automaton, is_complete, place_of, Place, EndsAs, Reads, Item, Given, given}
use Rattle.pb_pieces.proofs.Common.{AreRead, HasEnded, HasRead, IsGiving, HoldsTokens, IsReading, IsShown, Stops, Event, TokenReader}
use Rattle.pb_pieces.specs.{Reader.names_in as names_given, TokenReader.GivesFor, declared.tokenized.Tokenized.Ghosts as Statements}
use Rattle.pb_text.specs.{contract.Standing.IsOpen, declared.feeder.Fed.Fed, declared.machine.Machine.Ghosts, declared.place.Why.TheVariants.Memory}
use Rattle.std.proofs.lemmas.List.Folds.{flat_map-map}
use Rattle.pb_text.proofs.lemmas.text.Formats as formats

module _ {M E : Type 0} {g : Ghosts M E} (longest : ℕ) (start : M) (fed piece : List ℕ) (spans : List (Spanned E)) (old new : Feeder M E g) (running : halt_of old ≡ None) (stands : StandsAt longest start fed spans old) where
  is_open : IsOpen (halt_of old)
  is_open = subst IsOpen (sym running) tt

  -- the feed gave this event, or none
  pub fed_event : (f : Fed E) (event : Option (Spanned E)) → f.event ≡ event → FeedsOnce old piece (Ok f) new → StandsAt longest start (fed ++ bytes_with event f.used piece) (spans ++ spans_in event) new
  fed_event f event is once =
      subst (λ (e : Option (Spanned E)). StandsAt longest start (fed ++ bytes_with e f.used piece) (spans ++ spans_in e) new) is (once.0 longest start fed spans is_open stands)

  pub none : (f : Fed E) → f.event ≡ None → FeedsOnce old piece (Ok f) new → StandsAt longest start (fed ++ piece) spans new
  none f is once = subst (λ (x : List (Spanned E)). StandsAt longest start (fed ++ piece) x new) (append-nil spans) (fed_event f None is once)

  pub stopped : (s : Stop) → FeedsOnce old piece (Err s) new → StandsAt longest start (fed ++ piece) spans new
  stopped s once = subst (λ (x : List (Spanned E)). StandsAt longest start (fed ++ piece) x new) (append-nil spans) (once.0 longest start fed spans is_open stands)

-- the names of one more statement
pub names_more : {E : Type 0} (t : Statements E) (seen : List (List ℕ)) (current : List Token) (spans : List (Spanned E)) (m : Spanned E) → seen ++ names_of current ≡ names_in t spans
    → (seen ++ names_of current) ++ names_of (t.tokens m.event) ≡ names_in t (spans ++ m ∷ [])
names_more {E} t seen current spans m is =
    ap (λ (x : List (List ℕ)). x ++ names_of (t.tokens m.event)) is
    ∙ (ap (λ (x : List (List ℕ)). names_in t spans ++ x) (sym (append-nil (names_of (t.tokens m.event)))) ∙ sym (flat_map-append (λ (x : Spanned E). names_of (t.tokens x.event)) spans (m ∷ [])))

-- a feeder that stands at an input has read it
abbrev pub Standing : {M E : Type 0} → Automaton M E → Type 0
Standing {M} {E} m =
    (longest : ℕ) (start : M) (input : List ℕ) (spans : List (Spanned E)) (f : Feeder M E (record { automaton = m })) → StandsAt longest start input spans f →
    (used : List ℕ) × Reads (AcceptsItems m start) longest input used spans (place_of f) (is_complete f) (halt_of f)

pub are_read : {M E : Type 0} (m : Automaton M E) (start : M) (format : List (Item E) → Type 0) → ((items : List (Item E)) → AcceptsItems m start items ↔ format items) → Standing m → AreRead m start format
are_read {M} {E} m start format exact standing = record {
  same = same;
  standing = λ longest input spans f stands. let (used, read) = standing longest start input spans f stands in (used, same longest input used spans (place_of f) (is_complete f) (halt_of f) read);
}
  where
    same : (longest : ℕ) (input used : List ℕ) (spans : List (Spanned E)) (place : Place) (done : Bool) (stop : Option Stop) →
        Reads (AcceptsItems m start) longest input used spans place done stop → Reads format longest input used spans place done stop
    same = formats.reads (AcceptsItems m start) format (λ items h. (exact items).0 h) (λ items h. (exact items).1 h)

module _ {M E : Type 0} (m : Automaton M E) (t : Statements E) (format : List (Item E) → Type 0) (start : M) (are : AreRead m start format) (longest : ℕ) where
  abbrev AReader : Type 0
  AReader = TokenReader M E (record { automaton = m })

  -- the names of statements, and of what is given for them
  names_given_are : (spans : List (Spanned E)) → names_in t spans ≡ names_given (map (given t) spans)
  names_given_are spans = sym (flat_map-map (λ (e : Given). names_of e.tokens) (given t) spans)

  has_read : (fed : List ℕ) (events : List Given) (spans : List (Spanned E)) (f : Feeder M E (record { automaton = m })) (stop : Option Stop) → events ≡ map (given t) spans
      → StandsAt longest start fed spans f → halt_of f ≡ stop → HasRead longest t format fed events stop
  has_read fed events spans f stop is stands halt =
      let (used, read) = are.standing longest fed spans f stands in
      record {
        spans = spans;
        used = used;
        place = place_of f;
        done = is_complete f;
        read = subst (λ (s : Option Stop). Reads format longest fed used spans (place_of f) (is_complete f) s) halt read;
        events_are = is;
      }

  pub giving : (fed : List ℕ) (events : List Given) (spans : List (Spanned E)) (r : AReader) → events ≡ map (given t) spans → IsReading t longest start fed spans r
      → IsGiving longest t format fed events start r
  unfolding has_read
  giving fed events spans r is h = record {
    read = has_read fed events spans r.feeder None is h.stands h.running;
    reading = h;
    names_are = h.holds.names_are ∙ ap (λ (x : List (List ℕ)). with_names [] x) (h.names_are ∙ (names_given_are spans ∙ ap names_given (sym is)));
  }

  module _ (fed : List ℕ) (events : List Given) (piece : List ℕ) where
    abbrev pub Next : Option Event → ℕ → AReader → Type 0
    Next None used r = IsGiving longest t format (fed ++ piece) events start r
    Next (Some event) used r = (e : Spanned E) × IsShown t e event r × HoldsTokens t e r × IsGiving longest t format (fed ++ take used piece) (events ++ given t e ∷ []) start r

    events_more : (spans : List (Spanned E)) (e : Spanned E) → events ≡ map (given t) spans → events ++ given t e ∷ [] ≡ map (given t) (spans ++ e ∷ [])
    events_more spans e is = ap (λ (x : List Given). x ++ given t e ∷ []) is ∙ sym (map_push (given t) spans e)

    pub next : (spans : List (Spanned E)) (event : Option Event) (used : ℕ) (r : AReader) → events ≡ map (given t) spans → GivesFor t longest start fed spans piece event used r → Next event used r
    next spans None used r is h = giving (fed ++ piece) events spans r is h
    next spans (Some event) used r is (e, shown, tokens, h) = (e, shown, tokens, giving (fed ++ take used piece) (events ++ given t e ∷ []) (spans ++ e ∷ []) r (events_more spans e is) h)

    pub stops : (spans : List (Spanned E)) (s : Stop) (r : AReader) → events ≡ map (given t) spans → Stops t longest start fed spans piece s r
        → HasRead longest t format (fed ++ piece) events (Some s)
        ⊎ ((s.why ≡ Memory) × (e : Given) × (used : ℕ) × (s.place ≡ e.first) × HasRead longest t format (fed ++ take used piece) (events ++ e ∷ []) None)
    stops spans s r is (inl (stands, halt)) = inl (has_read (fed ++ piece) events spans r.feeder (Some s) is stands halt)
    stops spans s r is (inr (memory, e, used, place, stands, halt)) =
        inr (memory, given t e, used, place, has_read (fed ++ take used piece) (events ++ given t e ∷ []) (spans ++ e ∷ []) r.feeder None (events_more spans e is) stands halt)

  ends_as : (fed used : List ℕ) (spans : List (Spanned E)) (place : Place) (result : Result Unit Stop) → EndsAs (AcceptsItems m start) longest fed used spans place result → EndsAs format longest fed used spans place result
  ends_as fed used spans place (Ok u) h = are.same longest fed used spans place _ _ h
  ends_as fed used spans place (Err s) (h, why) = (are.same longest fed used spans place _ _ h, why)

  pub ended : (fed used : List ℕ) (events : List Given) (spans : List (Spanned E)) (place : Place) (result : Result Unit Stop) → events ≡ map (given t) spans
      → EndsAs (AcceptsItems m start) longest fed used spans place result → HasEnded longest t format fed events result
  ended fed used events spans place result is h = record { spans = spans; used = used; place = place; ends = ends_as fed used spans place result h; events_are = is }
