-- Statements that are shown one after another. Offered to other crates.
use Rattle.pb_text.specs.contract.{Pulled.PullsOnce, Standing.IsOpen}
use Rattle.pb_tool.{proofs.lemmas.check.OneRead.so_far_reached, specs.contract.Show.InText, specs.contract.Show.InRest}
use Rattle.pb_tool.proofs.Common.{ℕ, ◌++◌, ◌+◌, ◌-◌, ◌<◌, ◌^◌, ◌∙◌, ◌∷◌, ◌≡◌, ◌≤◌, [], ap, append-nil, append_assoc, arith, Bool, Err, false, length}
use Rattle.pb_tool.proofs.Common.{length-append, List, None, Ok, Option, refl, Result, rules, Some, subst, sym, true, flat_map-append, append_cancel_right}
use Rattle.pb_tool.proofs.Common.{place_bytes, row, took_join, asking_to, given_both, place_after-offset, AcceptsItems, MayAsk, halt_of, is_complete, place_of}
use Rattle.pb_tool.proofs.Common.{StandsAt, stop_of, Feeder, Ghosts, Place, Spanned, Stop, ReadsBlank, OfGiven, Pulls, Took, HasPulled, PullsOn, TookAll}
use Rattle.pb_tool.proofs.Common.{TookSoFar, byte_limit, IsSpelled, Reads, Item, place_after, Broke, Wrote, EndsAt, IsRefusedAfter, IsSpelling, line_of, shown}
use Rattle.pb_tool.proofs.Common.{shown_line, ShowsLines, File, ToolFault, Text, Write, HasGiven}

-- a line is a position and what follows it
pub line_parts : {E : Type 0} (text : E → List ℕ) (m : Spanned E) → shown_line text m ≡ place_bytes m.first ++ line_of text m.event
line_parts text m = grind (arith, m.event, append_assoc, m.first.line, m.first.column)

-- ---- statements that are shown one after another

-- a text and the blank rest after it are no longer than an input may be
pub rest_within : (used rest : List ℕ) (place : Place) → place ≡ place_after used → place.offset + length rest ≤ byte_limit → length (used ++ rest) ≤ byte_limit
rest_within used rest place at bound = grind (arith, place_after-offset, length-append)

-- if more was read of an input, less is left of it
pub fewer : (a b : ℕ) → b ≤ 2 ^ 40 → a < b → 2 ^ 40 + 1 - b < 2 ^ 40 + 1 - a
fewer a b reach onward = omega arith

-- one more line
pub shown_more : {E : Type 0} (text : E → List ℕ) (spans : List (Spanned E)) (m : Spanned E) → shown text (spans ++ m ∷ []) ≡ shown text spans ++ shown_line text m
shown_more text spans m = flat_map-append (shown_line text) spans (m ∷ []) ∙ ap (λ (x : List ℕ). shown text spans ++ x) (append-nil (shown_line text m))

-- nothing was taken of a source yet
pub took_none : (before : Option (List ℕ)) → (seen : List ℕ) × Took before [] seen before
took_none None = ([], tt)
took_none (Some bytes) = (bytes, (refl, refl))

pub first_pull : {M E : Type 0} {g : Ghosts M E} (longest : ℕ) (start : M) (before : Option (List ℕ)) (f : Feeder M E g) → StandsAt longest start [] [] f → halt_of f ≡ None → (place_of f).offset ≡ 0 → HasPulled longest start before [] f before
first_pull longest start before f stands running offset =
    let t = took_none before in record { used = []; seen = t.0; took = t.1; offset_is = offset; stands = stands; running = running }

module _ {E : Type 0} (format : List (Item E) → Type 0) (longest : ℕ) where
  -- what was taken is no longer than an input may be
  pub so_far_within : (before after : Option (List ℕ)) (spans : List (Spanned E)) (place : Place) → TookSoFar format longest before after spans place → place.offset ≤ byte_limit
  so_far_within before after spans place t =
      let offset = ap (λ (p : Place). p.offset) t.reads.place_is ∙ place_after-offset t.used in
      omega (arith, offset, (so_far_reached format longest t.used t.used spans place t.done t.reads).within)

  -- a text of the format, and then a blank rest
  pub spelling : (before mid after : Option (List ℕ)) (spans : List (Spanned E)) (place : Place) → TookAll format longest before mid spans place true None → ReadsBlank place mid (Ok tt) after → IsSpelling format longest before after spans
  spelling before mid after spans place t (rest, more, blank, bound) =
      let took = took_join before mid after t.used rest t.seen [] t.took more in let spelled = t.reads.answer.0 in
      let within = rest_within t.used rest place t.reads.place_is bound in search rules

  -- a text of the format, and then a rest that is not blank
  pub stray : (May : List ℕ → ℕ → Type 0) (before mid after : Option (List ℕ)) (spans : List (Spanned E)) (place : Place) (s : Stop) → TookAll format longest before mid spans place true None → ReadsBlank place mid (Err s) after → IsRefusedAfter format longest May before after spans s
  stray May before mid after spans place s t r =
      InRest t.used t.seen mid t.took t.reads.answer.0 (subst (λ (p : Place). ReadsBlank p mid (Err s) after) t.reads.place_is r)

  -- what was shown of a text of the format, and then the rest
  module _ (May : List ℕ → ℕ → Type 0) (text : E → List ℕ) {W : Type 0} (contents : W → Option (List ℕ)) (faults : W → ℕ) where
    pub shows_end : (before mid after : Option (List ℕ)) (spans : List (Spanned E)) (place : Place) (old new : W) (result : Result Unit ToolFault) → TookAll format longest before mid spans place true None
        → EndsAt place mid result after → Wrote contents faults old (shown text spans) new → ShowsLines format longest May text contents faults before old result after new
    shows_end before mid after spans place old new (Ok u) t e w = (spans, spelling before mid after spans place t e, w)
    shows_end before mid after spans place old new (Err (Text File s)) t e w = (spans, stray May before mid after spans place s t e, w)
    shows_end before mid after spans place old new (Err f) t e w = absurd e

-- What is shown for a format and a source, if each read under it is one under another format, and what was taken of the
-- source was taken of another one.
module _ {E : Type 0} (one other : List (Item E) → Type 0) (longest : ℕ)
    (to : (input used : List ℕ) (spans : List (Spanned E)) (place : Place) (done : Bool) (stop : Option Stop) → Reads one longest input used spans place done stop → Reads other longest input used spans place done stop)
    (mid before : Option (List ℕ)) (taken : (after : Option (List ℕ)) (used seen : List ℕ) → Took mid used seen after → Took before used seen after) where
  abbrev pub all_to : (after : Option (List ℕ)) (spans : List (Spanned E)) (place : Place) (done : Bool) (stop : Option Stop) → TookAll one longest mid after spans place done stop → TookAll other longest before after spans place done stop
  all_to after spans place done stop t = record { used = t.used; seen = t.seen; took = taken after t.used t.seen t.took; reads = to (t.used ++ t.seen) t.used spans place done stop t.reads }

  pub so_far_to : (after : Option (List ℕ)) (spans : List (Spanned E)) (place : Place) → TookSoFar one longest mid after spans place → TookSoFar other longest before after spans place
  so_far_to after spans place t = record { used = t.used; seen = t.seen; took = taken after t.used t.seen t.took; done = t.done; reads = to t.used t.used spans place t.done None t.reads }

  spelt_to : (used : List ℕ) (spans : List (Spanned E)) → IsSpelled one longest used spans → IsSpelled other longest used spans
  spelt_to used spans s = (to used used spans (place_after used) true None (record { left = []; input_is = sym (append-nil used); place_is = refl; answer = (s, refl) })).answer.0

  spelling_to : (after : Option (List ℕ)) (spans : List (Spanned E)) → IsSpelling one longest mid after spans → IsSpelling other longest before after spans
  spelling_to after spans i = record { used = i.used; rest = i.rest; took = taken after (i.used ++ i.rest) [] i.took; spelled = spelt_to i.used spans i.spelled; blank = i.blank; within = i.within }

  module _ (May Other : List ℕ → ℕ → Type 0) (asks : (used : List ℕ) (b : ℕ) → May used b → Other used b) where
    refused_to : (after : Option (List ℕ)) (spans : List (Spanned E)) (s : Stop) → IsRefusedAfter one longest May mid after spans s → IsRefusedAfter other longest Other before after spans s
    refused_to after spans s (InText t a) = InText (all_to after spans s.place false (Some s) t) (asking_to May Other t.used t.seen (asks t.used) s.why a)
    refused_to after spans s (InRest used seen next took spelled r) = InRest used seen next (taken next used seen took) (spelt_to used spans spelled) r

    module _ (text : E → List ℕ) {W : Type 0} (contents : W → Option (List ℕ)) (faults : W → ℕ) where
      pub shows_to : (old : W) (result : Result Unit ToolFault) (after : Option (List ℕ)) (new : W) → ShowsLines one longest May text contents faults mid old result after new → ShowsLines other longest Other text contents faults before old result after new
      shows_to old (Ok u) after new (spans, i, w) = (spans, spelling_to after spans i, w)
      shows_to old (Err (Text File s)) after new (spans, i, w) = (spans, refused_to after spans s i, w)
      shows_to old (Err Write) after new (spans, last, between, t, w, b) = (spans, last, between, so_far_to after (spans ++ last ∷ []) last.past t, w, b)
      shows_to old (Err e) after new h = h

-- ---- statements that are shown one after another, for the bytes that the calls of a source have given

module _ {M E : Type 0} {g : Ghosts M E} {longest : ℕ} {start : M} (before mid after : List ℕ) {spans : List (Spanned E)} {old new : Feeder M E g} (h : HasGiven longest start before spans old mid) {left rest : Option (List ℕ)} where
  abbrev pulled : {result : Result (Option (Spanned E)) Stop} → PullsOnce old left mid result new rest after → Pulls longest start h.0 spans old left result new rest mid after
  pulled pulls = pulls longest start h.0 spans (subst IsOpen (sym h.4) tt) h.3

  -- the result of one more pull
  pub given_row : {result : Result (Option (Spanned E)) Stop} → PullsOnce old left mid result new rest after → halt_of new ≡ stop_of result → (result ≡ Ok None → is_complete new ≡ true)
      → ((m : Spanned E) → result ≡ Ok (Some m) → m.past ≡ place_of new) → OfGiven (λ text end. PullsOn longest start text spans result new end) before after
  given_row {result} pulls stop last past = let p = pulled pulls in (
    h.0 ++ p.taken,
    p.seen,
    given_both before mid after h.0 p.taken h.1 p.given_are,
    row {g = g} longest start (Some ((h.0 ++ p.taken) ++ p.seen)) (Some (p.taken ++ p.seen)) (Some p.seen) spans old new
        (record { used = h.0; seen = p.taken ++ p.seen; took = (append_assoc h.0 p.taken p.seen, refl); offset_is = h.2; stands = h.3; running = h.4 })
        result
        (record { taken = p.taken; seen = p.seen; took = (refl, refl); given_are = p.given_are; offset_is = p.offset_is; stands = p.stands })
        stop last past,
  )

  -- the state of the feeder after an event
  pub given_next : (m : Spanned E) → PullsOnce old left mid (Ok (Some m)) new rest after → halt_of new ≡ None → HasGiven longest start before (spans ++ m ∷ []) new after
  given_next m pulls running = let p = pulled pulls in (
    h.0 ++ p.taken,
    given_both before mid after h.0 p.taken h.1 p.given_are,
    omega (arith, p.offset_is, h.2, length-append h.0 p.taken),
    p.stands,
    running,
  )

-- the same used bytes, with another rest
pub all_of : {E : Type 0} (format : List (Item E) → Type 0) (longest : ℕ) (given seen other : List ℕ) (spans : List (Spanned E)) (place : Place) → TookAll format longest (Some (given ++ seen)) (Some seen) spans place true None
    → TookAll format longest (Some (given ++ other)) (Some other) spans place true None
all_of format longest given seen other spans place t =
    let rest : seen ≡ t.seen = let e = t.took.1 in cc in
    let same : given ≡ t.used = append_cancel_right given t.used seen (t.took.0 ∙ ap (λ (x : List ℕ). t.used ++ x) (sym rest)) in
    record { used = t.used; seen = other; took = (ap (λ (x : List ℕ). x ++ other) same, refl); reads = record { left = other; input_is = refl; place_is = t.reads.place_is; answer = t.reads.answer } }

module _ {M E : Type 0} {g : Ghosts M E} (longest : ℕ) (start : M) (text : E → List ℕ) {W : Type 0} (contents : W → Option (List ℕ)) (faults : W → ℕ) (spans : List (Spanned E)) (f : Feeder M E g) where
  abbrev Lines : Option (List ℕ) → W → Result (Unit {0}) ToolFault → Option (List ℕ) → W → Type 0
  Lines = ShowsLines (AcceptsItems g.automaton start) longest (MayAsk g.automaton start) text contents faults

  -- what was shown of a text that was rejected
  pub refused : (s : Stop) (old new : W) → Wrote contents faults old (shown text spans) new → (before after : Option (List ℕ)) → PullsOn longest start before spans (Err s) f after → Lines before old (Err (Text File s)) after new
  refused s old new w before after (all, asking) = (spans, InText all asking, w)

  -- what was shown before a line that could not be written
  pub broken : (m : Spanned E) (old mid new : W) → Wrote contents faults old (shown text spans) mid → Broke contents faults mid (shown_line text m) new → (before after : Option (List ℕ)) → PullsOn longest start before spans (Ok (Some m)) f after → Lines before old (Err Write) after new
  broken m old mid new w b before after (more, sofar) = (spans, m, mid, sofar, w, b)
