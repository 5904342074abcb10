-- What a peek and a pull leave in their source, and the consecutive parts of a pull.
use Rattle.pb_text.proofs.Common.{ℕ, ◌++◌, ◌∙◌, ◌∷◌, ◌≡◌, [], ap, append_assoc, List, None, Option, Some, sym, Consumes, Keeps, HaveEnded, LosesFirst, Lost}
use Rattle.pb_text.proofs.Common.{StartWith, Took, append-nil, arith, Err, length-append, Ok, Result, subst, true, spans_taken, StandsAt, Feeder, Ghosts}
use Rattle.pb_text.proofs.Common.{Spanned, Stop, IsOpen, Draws, input_drawn, Pulls, Bool, not, is_some, Peeks, Item, ReadsWhole}
use Rattle.pb_text.proofs.lemmas.{feeder.Steps.Reaches, feeder.Steps.stands_more, source.PullsInARow.took_join}
use Rattle.pb_text.specs.{contract.Over.reported, contract.Over.Shows, contract.Pouring.Pours, declared.over.Over.Over, meaning.Pulling.input_pulled}

pub lost_nothing : (before : Option (List ℕ)) → Lost before [] before
lost_nothing before = grind arith

-- a source that keeps its bytes has lost none
pub lost_kept : (before now : Option (List ℕ)) → Keeps before now → Lost before [] now
lost_kept before now k = grind arith

-- a reader that has consumed bytes has lost them
pub lost_consumed : (before after : Option (List ℕ)) (taken : List ℕ) → Consumes before after taken → Lost before taken after
lost_consumed before after taken c = grind arith

-- so has a source over that reader, whatever byte it has shown
pub lost_reported : (before : Option (List ℕ)) (limit shown : Option ℕ) (after : Option (List ℕ)) (taken : List ℕ) → Lost before taken after → Lost (reported before limit shown) taken after
lost_reported before limit shown after taken l = grind arith

-- one more byte is taken
pub lost_byte : (before : Option (List ℕ)) (taken : List ℕ) (now next last : Option (List ℕ)) (b : ℕ) → Lost before taken now → StartWith now b → Keeps now next → LosesFirst next last → Lost before (taken ++ b ∷ []) last
lost_byte before taken now next last b l s k f = grind (arith, append_assoc)

-- what was seen if the byte was not taken
pub seen_byte : (before : Option (List ℕ)) (taken : List ℕ) (now next : Option (List ℕ)) (b : ℕ) → Lost before taken now → StartWith now b → Keeps now next → (more : List ℕ) × Took before taken (b ∷ more) next
seen_byte before taken now next b l s k = grind arith

-- what was seen at the end
pub seen_end : (before : Option (List ℕ)) (taken : List ℕ) (now next : Option (List ℕ)) → Lost before taken now → HaveEnded now → Keeps now next → Took before taken [] next
seen_end before taken now next l h k = grind arith

-- what is left if the source failed
pub seen_rest : (before : Option (List ℕ)) (taken : List ℕ) (now next : Option (List ℕ)) → Lost before taken now → Keeps now next → (seen : List ℕ) × Took before taken seen next
seen_rest before taken now next l k = grind arith

-- what is left after an event
pub seen_after : (before : Option (List ℕ)) (taken : List ℕ) (now : Option (List ℕ)) → Lost before taken now → (seen : List ℕ) × Took before taken seen now
seen_after before taken now l = grind arith

-- what the calls have given, with one more byte
pub given_byte : (given taken mid shown last : List ℕ) (b : ℕ) → mid ≡ given ++ taken → shown ≡ mid → last ≡ shown ++ b ∷ [] → last ≡ given ++ (taken ++ b ∷ [])
given_byte given taken mid shown last b h k l = l ∙ (ap (λ (x : List ℕ). x ++ b ∷ []) (k ∙ h) ∙ append_assoc given taken (b ∷ []))

joined : {E : Type 0} (result : Result (Option (Spanned E)) Stop) (input taken more seen : List ℕ) → (input ++ taken) ++ input_drawn result more seen ≡ input ++ input_drawn result (taken ++ more) seen
joined result input taken more seen = grind (arith, append_assoc)

module _ {M E : Type 0} {g : Ghosts M E} where
  -- nothing was poured
  pub pours_none : (f : Feeder M E g) {before after : Option (List ℕ)} (given : List ℕ) → Lost before [] after → Pours f before given None f after given
  pours_none f given lost = grind (arith, append-nil)

  -- what was poured
  pub draws_poured : {old : Feeder M E g} {before : Option (List ℕ)} {given : List ℕ} {event : Option (Spanned E)} {new : Feeder M E g} {after : Option (List ℕ)} {given' : List ℕ}
      → Pours old before given event new after given' → Draws old before given (Ok event) new after given'
  draws_poured {before} {after} p = grind (arith, seen_after)

  -- nothing was taken
  pub draws_none : (f : Feeder M E g) (left : Option (List ℕ)) (given : List ℕ) → Draws f left given (Ok None) f left given
  draws_none f left given = draws_poured (pours_none f given (lost_nothing left))

  -- nothing was taken before a stop
  pub draws_stop : {old new : Feeder M E g} {before after : Option (List ℕ)} {given given' : List ℕ} {stop : Stop}
      → (seen : (seen : List ℕ) × Took before [] seen after) → given' ≡ given → new.place.offset ≡ old.place.offset → Reaches old seen.0 [] new
      → Draws old before given (Err stop) new after given'
  draws_stop {given} seen same still stands = grind (arith, append-nil)

  -- a part and the next one
  pub draws_join : {old mid new : Feeder M E g} {before now after : Option (List ℕ)} {given given' given'' : List ℕ} {result : Result (Option (Spanned E)) Stop}
      → Draws old before given (Ok None) mid now given' → Draws mid now given' result new after given'' → Draws old before given result new after given''
  draws_join {new} {before} {now} {after} {given} {result} d e = record {
    taken = d.taken ++ e.taken;
    seen = e.seen;
    took = took_join before now after d.taken e.taken d.seen e.seen d.took e.took;
    given_are = e.given_are ∙ (ap (λ (x : List ℕ). x ++ e.taken) d.given_are ∙ append_assoc given d.taken e.taken);
    offset_is = omega (arith, d.offset_is, e.offset_is, length-append d.taken e.taken);
    stands = λ longest start input spans s.
        let k : StandsAt longest start ((input ++ d.taken) ++ input_drawn result e.taken e.seen) (spans ++ spans_taken result) new = e.stands longest start (input ++ d.taken) spans (rw append-nil at (d.stands longest start input spans s)) in
        subst (λ (x : List ℕ). StandsAt longest start x (spans ++ spans_taken result) new) (joined result input d.taken e.taken e.seen) k;
  }

  -- it takes nothing, since it was complete or has stopped before
  pub pulls_nothing : {longest : ℕ} {start : M} {input : List ℕ} {spans : List (Spanned E)} {old : Feeder M E g} (before : Option (List ℕ)) (given : List ℕ) → StandsAt longest start input spans old → (result : Result (Option (Spanned E)) Stop) → ((seen : List ℕ) → input_pulled result [] seen ≡ seen) → spans_taken result ≡ [] → IsOpen old.stop → (old.stop ≡ None → g.automaton.done old.machine ≡ true) → Pulls longest start input spans old before result old before given given
  pulls_nothing before given s result all none counts done =
      let seen = seen_after before [] before (lost_nothing before) in
      record {
        taken = [];
        seen = seen.0;
        took = seen.1;
        given_are = sym (append-nil given);
        offset_is = omega arith;
        stands = (s.0, rw (all seen.0, none, append-nil) (stands_more s.1 seen.0 counts done));
      }

  module _ {longest : ℕ} {start : M} {input : List ℕ} {spans : List (Spanned E)} {old new : Feeder M E g} {before after : Option (List ℕ)} {given given' : List ℕ} (s : StandsAt longest start input spans old) where
    -- it ends with an event
    pub pulls_event : (m : Spanned E) → Draws old before given (Ok (Some m)) new after given' → Pulls longest start input spans old before (Ok (Some m)) new after given given'
    pulls_event m d = record { taken = d.taken; seen = d.seen; took = d.took; given_are = d.given_are; offset_is = d.offset_is; stands = d.stands longest start input spans s }

    -- or with a stop
    pub pulls_stop : (stop : Stop) → Draws old before given (Err stop) new after given' → Pulls longest start input spans old before (Err stop) new after given given'
    pulls_stop stop d = record { taken = d.taken; seen = d.seen; took = d.took; given_are = d.given_are; offset_is = d.offset_is; stands = d.stands longest start input spans s }

-- what the reader has shown is a peek at the source
pub peeks : {T : Type 0} (remaining : T → Option (List ℕ)) (limit : T → Option ℕ) (old : Over T) (inner : T) (shown : Option ℕ) (none : Bool) → is_some shown ≡ not none → Shows (remaining old.inner) (Ok shown) (remaining inner) (limit inner)
    → Peeks (λ o. reported (remaining o.inner) (limit o.inner) o.shown) (λ o. o.shown) (λ o. o.ended) (λ o. o.history.bytes) (λ o. o.failures) old (Ok shown) (record { inner = inner; shown = shown; ended = none; failures = old.failures; history = old.history })
peeks remaining limit old inner shown none is h = grind arith

-- what is left in a reader is what is left in the source over it
took_reported : (before left : Option (List ℕ)) (limit shown : Option ℕ) (used seen : List ℕ) → Took before used seen (reported left limit shown) → Took before used seen left
took_reported before left limit shown used seen h = grind arith

pub reads_reported : {V E : Type 0} (format : List (Item E) → Type 0) (longest : ℕ) (with : V → E → V) (empty : V) (MayAsk : List ℕ → ℕ → Type 0) (asks : V → E → Bool) (before : Option (List ℕ)) (result : Result (Spanned V) Stop) (left : Option (List ℕ)) (limit shown : Option ℕ)
    → ReadsWhole format longest with empty MayAsk asks before result (reported left limit shown) → ReadsWhole format longest with empty MayAsk asks before result left
reads_reported format longest with empty MayAsk asks before (Ok m) left limit shown r = (r.0, r.1, took_reported before left limit shown r.0 r.1 r.2, r.3)
reads_reported format longest with empty MayAsk asks before (Err e) left limit shown r = (r.0, r.1, took_reported before left limit shown r.0 r.1 r.2, r.3)
