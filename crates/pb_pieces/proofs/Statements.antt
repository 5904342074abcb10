-- Statements in flat arrays: one more, and an instance that is pulled from a source.
use Rattle.pb_pieces.proofs.Common.{ℕ, ℤ, ◌++◌, ◌+◌, ◌∙◌, ◌∷◌, ◌≡◌, [], ap, append-nil, append_assoc, arith, length, length-append, List, sym, flat_map-append}
use Rattle.pb_pieces.proofs.Common.{OpbEvent, Term, Spanned, HoldAll, IsFlatOf, places_of, row_in, rows_from, span_in, terms_in, terms_of, Flat, Span, Row}
use Rattle.pb_pieces.proofs.Common.{Bool, Err, false, IfErr, IfOk, None, Ok, Option, Result, Some, true, Place, Stop, ReadsBlank, TookAll, Reads, Item}
use Rattle.pb_pieces.proofs.Common.{rest_within, InRest, InText, Unstored}
use Rattle.{pb_pieces.specs.Reading.IsFlatBy, pb_pieces.specs.Reading.IsNotFlat, pb_text.proofs.lemmas.source.PullsInARow.took_join}

terms_more : (ms : List (Spanned OpbEvent)) (m : Spanned OpbEvent) → terms_of (ms ++ m ∷ []) ≡ terms_of ms ++ terms_in m.event
terms_more ms m = flat_map-append (λ (x : Spanned OpbEvent). terms_in x.event) ms (m ∷ []) ∙ ap (λ (x : List Term). terms_of ms ++ x) (append-nil (terms_in m.event))

places_more : (ms : List (Spanned OpbEvent)) (m : Spanned OpbEvent) → places_of (ms ++ m ∷ []) ≡ places_of ms ++ span_in m m.event
places_more ms m = flat_map-append (λ (x : Spanned OpbEvent). span_in x x.event) ms (m ∷ []) ∙ ap (λ (x : List Span). places_of ms ++ x) (append-nil (span_in m m.event))

rows_more : (n : ℕ) (ms : List (Spanned OpbEvent)) (m : Spanned OpbEvent) → rows_from n (ms ++ m ∷ []) ≡ rows_from n ms ++ row_in (n + length (terms_of ms)) m.event
rows_more n [] m = append-nil (row_in n m.event) ∙ ap (λ (k : ℕ). row_in k m.event) (omega arith)
rows_more n (x ∷ ms) m =
    let k : ℕ = length (terms_in x.event) in
    let deep : (n + k) + length (terms_of ms) ≡ n + length (terms_in x.event ++ terms_of ms) = omega (arith, length-append (terms_in x.event) (terms_of ms)) in
    ap (λ (r : List Row). row_in n x.event ++ r) (rows_more (n + k) ms m ∙ ap (λ (j : ℕ). rows_from (n + k) ms ++ row_in j m.event) deep)
    ∙ sym (append_assoc (row_in n x.event) (rows_from (n + k) ms) (row_in (n + length (terms_in x.event ++ terms_of ms)) m.event))

-- what is held of the statements and of one more
pub holds_more : (ms : List (Spanned OpbEvent)) (m : Spanned OpbEvent) (f : Flat) → HoldAll (terms_of ms ++ terms_in m.event) (rows_from 0 ms ++ row_in (length (terms_of ms)) m.event) (places_of ms ++ span_in m m.event) f → IsFlatOf (ms ++ m ∷ []) f
holds_more ms m f h =
    let none : 0 + length (terms_of ms) ≡ length (terms_of ms) = omega arith in
    rw (terms_more ms m, rows_more 0 ms m, places_more ms m, none) h

-- nothing was added
pub holds_same : (ms : List (Spanned OpbEvent)) (m : Spanned OpbEvent) (f : Flat) → terms_in m.event ≡ [] → row_in (length (terms_of ms)) m.event ≡ [] → span_in m m.event ≡ [] → IsFlatOf ms f → IsFlatOf (ms ++ m ∷ []) f
holds_same ms m f no_terms no_row no_place h = holds_more ms m f (simp (no_terms, no_row, no_place, append-nil) h)

-- a statement with a row
pub holds_row : (ms : List (Spanned OpbEvent)) (m : Spanned OpbEvent) (f : Flat) (kind : ℕ) (terms : List Term) (degree : ℤ)
    → terms_in m.event ≡ terms → row_in (length (terms_of ms)) m.event ≡ record { kind = kind; end = length (terms_of ms) + length terms; degree = degree } ∷ [] → span_in m m.event ≡ record { first = m.first; past = m.past } ∷ []
    → HoldAll (terms_of ms ++ terms) (rows_from 0 ms ++ record { kind = kind; end = length (terms_of ms ++ terms); degree = degree } ∷ []) (places_of ms ++ record { first = m.first; past = m.past } ∷ []) f → IsFlatOf (ms ++ m ∷ []) f
holds_row ms m f kind terms degree are row place h = holds_more ms m f (rw (are, row, place) (rw (length-append (terms_of ms) terms) at h))

pub flat_by : (format : List (Item OpbEvent) → Type 0) (longest : ℕ) (before mid after : Option (List ℕ)) (spans : List (Spanned OpbEvent)) (place : Place) (f : Flat)
    → TookAll format longest before mid spans place true None → ReadsBlank place mid (Ok tt) after → IsFlatOf spans f → IsFlatBy format longest before after f
flat_by format longest before mid after spans place f t (rest, more, blank, bound) arrays = record {
  spans = spans;
  used = t.used;
  rest = rest;
  took = took_join before mid after t.used rest t.seen [] t.took more;
  spelled = t.reads.answer.0;
  blank = blank;
  within = rest_within t.used rest place t.reads.place_is bound;
  arrays = arrays;
}

-- what one format accepts, another does
module _ (one other : List (Item OpbEvent) → Type 0) (longest : ℕ) (before after : Option (List ℕ)) where
  flat_as : ((items : List (Item OpbEvent)) → one items → other items) → (f : Flat) → IsFlatBy one longest before after f → IsFlatBy other longest before after f
  flat_as to f b =
      let s = b.spelled in
      record {
        spans = b.spans;
        used = b.used;
        rest = b.rest;
        took = b.took;
        spelled = record { items = s.items; spelled = to s.items s.spelled; used_are = s.used_are; spans_are = s.spans_are; within = s.within; short = s.short };
        blank = b.blank;
        within = b.within;
        arrays = b.arrays;
      }

  pub read_as : ((items : List (Item OpbEvent)) → one items → other items) → (r : Result Flat Stop) → IfOk r (IsFlatBy one longest before after) → IfOk r (IsFlatBy other longest before after)
  read_as to (Ok f) h = flat_as to f h
  read_as to (Err s) h = h

  module _ (reads : (n : ℕ) (input used : List ℕ) (spans : List (Spanned OpbEvent)) (place : Place) (done : Bool) (stop : Option Stop) → Reads one n input used spans place done stop → Reads other n input used spans place done stop) where
    took_as : (mid : Option (List ℕ)) (spans : List (Spanned OpbEvent)) (place : Place) (done : Bool) (stop : Option Stop) → TookAll one longest before mid spans place done stop → TookAll other longest before mid spans place done stop
    took_as mid spans place done stop t = record { used = t.used; seen = t.seen; took = t.took; reads = reads longest (t.used ++ t.seen) t.used spans place done stop t.reads }

    not_flat_as : (s : Stop) → IsNotFlat one longest before after s → IsNotFlat other longest before after s
    not_flat_as s (InText spans t) = InText spans (took_as after spans s.place false (Some s) t)
    not_flat_as s (InRest spans mid place t stray) = InRest spans mid place (took_as mid spans place true None t) stray
    not_flat_as s (Unstored spent) = Unstored spent

    pub refused_as : (r : Result Flat Stop) → IfErr r (IsNotFlat one longest before after) → IfErr r (IsNotFlat other longest before after)
    refused_as (Ok f) h = h
    refused_as (Err s) h = not_flat_as s h
