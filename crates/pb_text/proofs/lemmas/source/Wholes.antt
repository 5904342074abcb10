-- Consecutive pulls are a whole read. Offered to other crates.
use Rattle.pb_text.proofs.Common.{ℕ, ◌++◌, ◌∙◌, ◌∷◌, ◌≡◌, [], ap, append_assoc, Bool, Err, IsTrue, List, map, None, Ok, Option, refl, Some, subst, sym, true}
use Rattle.pb_text.proofs.Common.{AcceptsItems, Automaton, MayAsk, is_complete, Feeder, Ghosts, Place, Spanned, Stop, Memory, OfGiven, Took, HasPulled}
use Rattle.pb_text.proofs.Common.{IsSpelled, bytes, Item, spans_since, events_at, events_of, gathered, IsWhole, Keeping, MayHold, Reading, StopsIn}
use Rattle.pb_text.proofs.lemmas.source.PullsInARow.{all, took, pulled_on, reads_event, reads_done, reads_stopped}
use Rattle.pb_text.specs.{contract.Pulled.PullsOnce, meaning.Spelling.place_after}
pub use Rattle.pb_text.proofs.lemmas.source.PullsInARow.{same_prefix}

-- the events of spans
pub spans_events : {E : Type 0} (first : Option Place) (before : List ℕ) (items : List (Item E)) → events_at (spans_since first before items) ≡ events_of items
spans_events first before [] = refl
spans_events first before (i ∷ items) = ap (λ (x : List _). i.event ∷ x) (spans_events None (before ++ (i.gap ++ bytes i.text)) items)

-- the value with one more event
pub gathered_more : {V E : Type 0} (with : V → E → V) (empty value next : V) (spans : List (Spanned E)) (m : Spanned E) → value ≡ gathered with empty (events_at spans) → next ≡ with value m.event → next ≡ gathered with empty (map (λ n. n.event) (spans ++ m ∷ []))
gathered_more with empty value next [] m e h = h ∙ ap (λ (v : _). with v m.event) e
gathered_more with empty value next (n ∷ spans) m e h = gathered_more with (with empty n.event) value next spans m e h

-- The bytes that a whole read used are from the source, and are those that its calls have given.
abbrev pub Used : Option (List ℕ) → Option (List ℕ) → List ℕ → List ℕ → (List ℕ → List ℕ → Type 0) → Type 0
Used before after given given' Rest =
    ((used : List ℕ) × (seen : List ℕ) × Took before used seen after × Rest used seen)
    × OfGiven (λ left rest. (used : List ℕ) × (seen : List ℕ) × Took left used seen rest × Rest used seen) given given'

used_so : (before after : Option (List ℕ)) (given given' : List ℕ) (Rest : List ℕ → List ℕ → Type 0) (used seen : List ℕ) → Took before used seen after → given' ≡ given ++ used → Rest used seen → Used before after given given' Rest
used_so before after given given' Rest used seen took are rest = ((used, seen, took, rest), (used, seen, are, (used, seen, (refl, refl), rest)))

-- what was given by one call, and then by the next
pub given_both : (first given last taken more : List ℕ) → given ≡ first ++ taken → last ≡ given ++ more → last ≡ first ++ (taken ++ more)
given_both first given last taken more h k = k ∙ (ap (λ (x : List ℕ). x ++ more) h ∙ append_assoc first taken more)

-- why a read of a machine stopped that collects its events
abbrev pub Stops : {V M E : Type 0} → Automaton M E → ℕ → M → (V → E → V) → V → (V → E → Bool) → Stop → List ℕ → List ℕ → Type 0
Stops m longest start with empty asks stop used seen = StopsIn (AcceptsItems m start) longest (MayAsk m start) (MayHold with empty asks) used seen stop

-- The events so far, with their value, and what the calls have given.
pub record SoFar {V M E : Type 0} {g : Ghosts M E} (longest : ℕ) (start : M) (with : V → E → V) (empty : V) (before now : Option (List ℕ)) (first given : List ℕ) (f : Feeder M E g) (value : V) : Type 0 where
  pub spans : List (Spanned E)
  pub pulled : HasPulled longest start before spans f now
  pub value_is : value ≡ gathered with empty (events_at spans)
  pub given_are : given ≡ first ++ pulled.used

module _ {V M E : Type 0} {g : Ghosts M E} {longest : ℕ} {start : M} {with : V → E → V} {empty : V} {before now after : Option (List ℕ)} {first given given' : List ℕ} {old new : Feeder M E g} {value : V}
    (i : SoFar longest start with empty before now first given old value) where
  pub so_far : (m : Spanned E) (next : V) → PullsOnce old now given (Ok (Some m)) new after given' → new.stop ≡ None → next ≡ with value m.event → SoFar longest start with empty before after first given' new next
  so_far m next pulls running is =
      let p = pulls longest start i.pulled.used i.spans (rw i.pulled.running tt) i.pulled.stands in
      record {
        spans = i.spans ++ m ∷ [];
        pulled = pulled_on i.pulled m p running;
        value_is = gathered_more with empty value next i.spans m i.value_is is;
        given_are = given_both first given given' i.pulled.used p.taken i.given_are p.given_are;
      }

  pub whole_done : PullsOnce old now given (Ok None) new after given' → new.stop ≡ None → is_complete new ≡ true
      → Used before after first given' (λ used seen. IsWhole (AcceptsItems g.automaton start) longest with empty used (record { event = value; first = record { line = 1; column = 1; offset = 0 }; past = new.place }))
  unfolding place_after
  whole_done pulls running done =
      let p = pulls longest start i.pulled.used i.spans (rw i.pulled.running tt) i.pulled.stands in
      let r = reads_done i.pulled p running done in
      let spelled : IsSpelled (AcceptsItems g.automaton start) longest (all i.pulled p) i.spans = r.answer.0 in
      used_so before after first given'
      (λ used seen. IsWhole (AcceptsItems g.automaton start) longest with empty used (record { event = value; first = record { line = 1; column = 1; offset = 0 }; past = new.place }))
      (all i.pulled p) p.seen (took i.pulled p) (given_both first given given' i.pulled.used p.taken i.given_are p.given_are)
      (record {
        spans = i.spans;
        spelled = spelled;
        value = i.value_is ∙ ap (gathered with empty) (ap events_at spelled.spans_are ∙ spans_events None [] spelled.items);
        first = refl;
        past = r.place_is;
      })

  module _ (asks : V → E → Bool) where
    pub whole_stopped : (stop : Stop) → PullsOnce old now given (Err stop) new after given' → new.stop ≡ Some stop → Used before after first given' (Stops g.automaton longest start with empty asks stop)
    whole_stopped stop pulls halts =
        let p = pulls longest start i.pulled.used i.spans (rw i.pulled.running tt) i.pulled.stands in
        let r = reads_stopped i.pulled stop p halts in
        used_so before after first given' (Stops g.automaton longest start with empty asks stop) (all i.pulled p) p.seen (took i.pulled p) (given_both first given given' i.pulled.used p.taken i.given_are p.given_are) (Reading i.spans r.0 r.1)

    -- if an event could not be stored
    pub whole_unkept : (m : Spanned E) → PullsOnce old now given (Ok (Some m)) new after given' → new.stop ≡ None → m.past ≡ new.place → IsTrue (asks value m.event)
        → Used before after first given' (Stops g.automaton longest start with empty asks (record { place = new.place; why = Memory }))
    whole_unkept m pulls running past h =
        let p = pulls longest start i.pulled.used i.spans (rw i.pulled.running tt) i.pulled.stands in
        used_so before after first given' (Stops g.automaton longest start with empty asks (record { place = new.place; why = Memory })) (all i.pulled p) p.seen (took i.pulled p) (given_both first given given' i.pulled.used p.taken i.given_are p.given_are)
        (Keeping i.spans m (is_complete new) (reads_event i.pulled m p running past) (subst (λ (v : V). IsTrue (asks v m.event)) i.value_is h) (ap (λ (q : Place). let t : Stop = record { place = q; why = Memory } in t) (sym past)))
