-- The store after a form was added, removed or emptied, and slots that forms take and leave.
use Rattle.{pb_normal.specs.declared.entry.Entry.Entry as Given, pb_propagate.specs.declared.store.stored_form.StoredForm.TheVariants.Vacant}
use Rattle.pb_propagate.proofs.Common.{slice_get_past, stored_form, stored_terms, ℕ, ◌⊎◌, ◌++◌, ◌+◌, ◌<◌, ◌∙◌, ◌∷◌, ◌≡◌, [], All, All-permutation, All-set, ap}
use Rattle.pb_propagate.proofs.Common.{arith, get_or, get_or-set_other, get_or-set_same, inl, inr, IsPermutation, IsPermutation-sym, length}
use Rattle.pb_propagate.proofs.Common.{length-append, length-set, List, map, None, NumberedLiteral, place, refl, set, set-get_or, set_past, slice_get}
use Rattle.pb_propagate.proofs.Common.{slice_get-get_or, slice_get_within, sym, take, Option, cases_eq, cases_lt, false, get_or-take, get_or_append_left}
use Rattle.pb_propagate.proofs.Common.{get_or_default, get_or_from_slice_get, get_or_past, get_or_push, length-map, length-take, length-take-le, map-append}
use Rattle.pb_propagate.proofs.Common.{map-set, take_all, Form, Occurrence, entry_of, entry_weight, NameForms, weight_in, weight_on, weighted, Weighted, Spots}
use Rattle.pb_propagate.proofs.Common.{spots_in, StoredForm, Term, entries_of, forms_of, shapes_of, spots_of, stored_shape, cut, degree_at, IsLinked}
use Rattle.pb_propagate.proofs.Common.{IsStored, term_at, terms_at, AreInside, Shape, Some, map-set_same, IsNormal, Clauses, Store, AreReady, IsRefitted}
use Rattle.pb_propagate.proofs.Common.{clauses_of, codes_of_terms, group_by, IsClause, joined, HasFilled, IsEmpty, IsSound, IsUnlisted, AreSlots, IsAtRest}
use Rattle.pb_propagate.proofs.lemmas.clauses.Shapes.{joined-length, IsVacant, slots-vacant, joined-widen, AreJoined-widen, joined-set, AreJoined-set}
use Rattle.pb_propagate.proofs.lemmas.clauses.Shapes.{joined-clause, AreJoined-clause, joined-cleared, AreJoined-cleared, clause-kept, rising-different}
use Rattle.pb_propagate.proofs.lemmas.engine.{Rests.slots-set, Rests.slots-more, Rests.slots-length, Runs.entry_weight-other}
use Rattle.pb_propagate.proofs.lemmas.store.{Gets.push-default, Stored.named-term, Stored.entries-length, Stored.entry-weighted, Stored.map-agree}
use Rattle.pb_propagate.{proofs.lemmas.store.Links.cut-length, proofs.lemmas.store.Placed.agree-sum, specs.declared.store.spots.Spots.TheVariants.Empty}
use Rattle.std.proofs.{Math.ListN.get_or-map as get_or-map_all, lemmas.Grind.get_or-set_at, lemmas.List.get_or-map, lemmas.List.Sums.sum_by-le}

pub kept-inside : (ts : List Term) (es : List Given) (n : ℕ) → IsPermutation (map entry_of ts) es → All (λ e. e.variable < n) es → AreInside n ts
kept-inside ts es n p all k d h =
    let back = All-permutation (λ (e : Given). e.variable < n) es (map entry_of ts) (IsPermutation-sym (map entry_of ts) es p) all in
    let here = back k (entry_of d) (omega (arith, h, length-map ts entry_of)) in rw (get_or-map entry_of ts k d (entry_of d) h) at here

-- what is read of a slot
abbrev bare : Shape
bare = record { terms = []; degree = 0 }

pub terms-read : (keep : List StoredForm) (s : ℕ) → terms_at (shapes_of keep) s ≡ stored_terms (get_or keep s Vacant)
terms-read keep s = ap (λ (f : Shape). f.terms) (get_or-map_all stored_shape keep s Vacant)

spots-read : (sp : List Spots) (s : ℕ) → get_or (spots_of sp) s [] ≡ spots_in (get_or sp s Empty)
spots-read sp s = get_or-map_all spots_in sp s Empty

module _ {old : List Shape} {spots : List (List ℕ)} {lists : List (List Weighted)} (linked : IsLinked old spots lists) where
  -- each entry names a form of the list
  linked-named : NameForms (length old) lists
  linked-named p k d h =
      let e = get_or (get_or lists p []) k d in
      let named = named-term old spots lists p k e (slice_get-get_or (get_or lists p []) k d h) linked in
      let inside = slice_get_within (terms_at old e.form) e.index named.term named.is in grind (arith, get_or_past, inside)

  -- so the lists have the coefficients of each form, also of one past the end
  linked-any : (s : ℕ) (l : NumberedLiteral) → weight_in s (get_or lists (place l) []) ≡ weight_on l (terms_at old s)
  linked-any s l = elim (cases_lt s (length old)) [
    | inl less ↦ linked.linked s bare l less
    | inr past ↦
        let es = get_or lists (place l) [] in
        let apart : (k : ℕ) (d : Weighted) → k < length es → s ≡ (get_or es k d).form → ⊥ = λ k d h e. omega (arith, e, linked-named (place l) k d h, past) in
        let none = sum_by-le (entry_weight s) 0 es (λ k d h. omega (arith, entry_weight-other s (get_or es k d) (apart k d h))) in
        let empty : weight_on l (terms_at old s) ≡ 0 = ap (λ (f : Shape). weight_on l f.terms) (get_or_past old s bare past) in
        omega (arith, none, empty)
  ]

  -- forms with the same terms, of which each that has terms has the same positions
  linked-same : (forms : List Shape) (spots' : List (List ℕ)) → ((s : ℕ) → terms_at forms s ≡ terms_at old s) →
      ((s : ℕ) → (terms_at old s ≡ []) ⊎ (get_or spots' s [] ≡ get_or spots s [])) → length spots' ≡ length forms → IsLinked forms spots' lists
  linked-same forms spots' terms positions sizes =
      let same : (s i : ℕ) → term_at forms spots' s i ≡ term_at old spots s i = λ s i. grind (arith, positions s, terms s, slice_get_past) in
      record {
        linked = λ s d l less. linked-any s l ∙ ap (weight_on l) (sym (terms s) ∙ ap (λ (f : Shape). f.terms) (get_or_default forms s bare d less));
        totals = linked.totals ∙ agree-sum (λ (f : Shape). length f.terms) bare refl old forms (λ s. ap length (sym (terms s)));
        crossed = λ s i p q w. (λ h. (linked.crossed s i p q w).0 (sym (same s i) ∙ h), λ h. same s i ∙ (linked.crossed s i p q w).1 h);
        sizes = sizes;
      }

-- the entries do not change with forms that no entry names
entries-kept : {old : List Shape} {spots : List (List ℕ)} (base forms : List Shape) (occ : List (List Occurrence)) → IsLinked old spots (entries_of base occ) →
    ((s : ℕ) → 0 < length (terms_at old s) → terms_at forms s ≡ terms_at old s) → entries_of forms occ ≡ entries_of base occ
entries-kept {old} {spots} base forms occ linked same =
    map-agree (map (weighted forms)) (map (weighted base)) occ (λ p v h. map-agree (weighted forms) (weighted base) (get_or occ p v) (λ k o less.
    let items = (get_or occ p v) in
    let x = get_or items k o in
    let listed : get_or occ p [] ≡ items = get_or_default occ p [] v h in
    let got = entry-weighted base occ p k x (ap (λ (xs : List Occurrence). slice_get xs k) listed ∙ slice_get-get_or items k o less) in
    let named = named-term old spots (entries_of base occ) p k (weighted base x) got linked in
    let inside = slice_get_within (terms_at old x.form) x.index named.term named.is in
    let none : Term = record { literal = record { variable = 0; negated = false }; coefficient = 0 } in
    grind (arith, same x.form (omega (arith, inside)), get_or_from_slice_get (terms_at old x.form) x.index named.term none named.is, named.weight)))

-- one slot has no terms, and the others are as they were
pub record IsEmptied (keep keep' : List StoredForm) (sp sp' : List Spots) (slot : ℕ) : Type 0 where
  pub terms : terms_at (shapes_of keep') slot ≡ []
  pub spots : get_or (spots_of sp') slot [] ≡ []
  pub others : (s : ℕ) → (s ≡ slot) ⊎ ((terms_at (shapes_of keep') s ≡ terms_at (shapes_of keep) s) × (get_or (spots_of sp') s [] ≡ get_or (spots_of sp) s []))
  pub sizes : length sp' ≡ length keep'

pub emptied-stored : {keep keep' : List StoredForm} {sp sp' : List Spots} {n slot : ℕ} (sp0 : List Spots) (occ occ0 : List (List Occurrence)) →
    IsEmptied keep keep' sp sp' slot → length occ ≡ length occ0 → ((s : ℕ) → length (get_or (spots_of sp) s []) ≡ length (get_or (spots_of sp0) s [])) →
    IsLinked (cut (shapes_of keep) slot 0) (spots_of sp) (entries_of (shapes_of keep) occ) →
    IsStored (shapes_of keep) (spots_of sp0) (entries_of (shapes_of keep) occ0) n → IsStored (shapes_of keep') (spots_of sp') (entries_of (shapes_of keep') occ) n
emptied-stored {keep} {keep'} {sp} {sp'} {n} {slot} sp0 occ occ0 e count rooms linked old =
    let base = shapes_of keep in
    let forms = shapes_of keep' in
    let mid = cut base slot 0 in
    let terms : (s : ℕ) → terms_at forms s ≡ terms_at mid s =
    λ s. grind (arith, e.others s, cases_eq s slot, cases_lt slot (length base), get_or-set_at, get_or-set_other, set_past, get_or_past, e.terms) in
    let positions : (s : ℕ) → (terms_at mid s ≡ []) ⊎ (get_or (spots_of sp') s [] ≡ get_or (spots_of sp) s []) = λ s. grind (arith, e.others s, terms s, e.terms) in
    let sizes : length (spots_of sp') ≡ length forms = omega (arith, e.sizes, length-map sp' spots_in, length-map keep' stored_shape) in
    let whole = linked-same linked forms (spots_of sp') terms positions sizes in
    let room : (s : ℕ) → length (get_or (spots_of sp0) s []) ≡ length (terms_at base s) =
    λ s. grind (arith, cases_lt s (length base), get_or_past, old.rooms s, old.whole.sizes) in
    rw (entries-kept base forms occ linked (λ s some. terms s)) (record {
      whole = whole;
      named = linked-named whole;
      places = omega (arith, old.places, count, entries-length base occ, entries-length base occ0);
      inside = λ s d less k t h. grind (arith, e.others s, e.terms, h, get_or_default forms s d bare, less, cases_lt s (length base), get_or_past, old.inside s bare);
      rooms = λ s less. grind (arith, e.others s, e.terms, e.spots, rooms s, room s);
    })

-- an empty form after the others
pub emptied-push : {keep keep' : List StoredForm} {sp sp' : List Spots} (k : StoredForm) → keep' ≡ keep ++ (k ∷ []) → sp' ≡ sp ++ (Empty ∷ []) → stored_terms k ≡ [] →
    length sp ≡ length keep → IsEmptied keep keep' sp sp' (length keep)
emptied-push {keep} {keep'} {sp} {sp'} k a b empty sizes = rw (a, b) (record {
  terms = terms-read (keep ++ (k ∷ [])) (length keep) ∙ ap stored_terms (get_or_push keep k Vacant (length keep) refl) ∙ empty;
  spots = spots-read (sp ++ (Empty ∷ [])) (length keep) ∙ ap spots_in (push-default sp (length keep) Empty ∙ get_or_past sp (length keep) Empty (omega (arith, sizes)));
  others = λ s.
      grind (arith, cases_eq s (length keep), cases_lt s (length keep), terms-read, spots-read, push-default, get_or_append_left, get_or_past, length-append, sizes);
  sizes = grind (arith, length-append, sizes);
})

-- a form is emptied
pub emptied-set : {keep keep' : List StoredForm} {sp sp' : List Spots} {slot : ℕ} (k : StoredForm) → keep' ≡ set keep slot k → sp' ≡ set sp slot Empty →
    stored_terms k ≡ [] → length sp ≡ length keep → slot < length keep → IsEmptied keep keep' sp sp' slot
emptied-set {keep} {keep'} {sp} {sp'} {slot} k a b empty sizes inside = rw (a, b) (record {
  terms = terms-read (set keep slot k) slot ∙ ap stored_terms (get_or-set_same keep slot k Vacant inside) ∙ empty;
  spots = spots-read (set sp slot Empty) slot ∙ ap spots_in (get_or-set_same sp slot Empty Empty (omega (arith, inside, sizes)));
  others = λ s. grind (arith, cases_eq s slot, terms-read, spots-read, get_or-set_other);
  sizes = grind (arith, length-set, sizes);
})

-- the last form is removed
pub emptied-take : {keep keep' : List StoredForm} {sp sp' : List Spots} {slot : ℕ} → keep' ≡ take slot keep → sp' ≡ take slot sp → length sp ≡ length keep →
    length keep ≡ slot + 1 → IsEmptied keep keep' sp sp' slot
emptied-take {keep} {keep'} {sp} {sp'} {slot} a b sizes count = rw (a, b) (record {
  terms = terms-read (take slot keep) slot ∙ ap stored_terms (get_or_past (take slot keep) slot Vacant (omega (arith, length-take slot keep)));
  spots = spots-read (take slot sp) slot ∙ ap spots_in (get_or_past (take slot sp) slot Empty (omega (arith, length-take slot sp)));
  others = λ s. grind (arith, cases_eq s slot, cases_lt s slot, terms-read, spots-read, get_or-take, get_or_past, length-take);
  sizes = grind (arith, length-take-le, sizes, count);
})

-- a form in the slot of an empty one
pub filled-stored : (keep : List StoredForm) (k : StoredForm) (sp : List Spots) (v : Spots) (occ occ' : List (List Occurrence)) (n form : ℕ) →
    form < length keep → terms_at (shapes_of keep) form ≡ [] → length occ' ≡ length occ → length (spots_in v) ≡ length (stored_terms k) → AreInside n (stored_terms k) →
    ((base : List Shape) (all : List (List ℕ)) → form < length base → terms_at base form ≡ stored_terms k → form < length all →
    IsLinked (cut base form 0) (set all form []) (entries_of base occ) →
    IsLinked (cut base form (length (stored_terms k))) (set all form (spots_in v)) (entries_of base occ')) →
    IsStored (shapes_of keep) (spots_of sp) (entries_of (shapes_of keep) occ) n →
    IsStored (shapes_of (set keep form k)) (spots_of (set sp form v)) (entries_of (shapes_of (set keep form k)) occ') n
filled-stored keep k sp v occ occ' n form room empty sizes count inside link old =
    let forms = shapes_of keep in
    let spots = spots_of sp in
    let terms = stored_terms k in
    let base = set forms form (stored_shape k) in
    let long = length-set forms form (stored_shape k) in
    let here : form < length forms = omega (arith, room, length-map keep stored_shape) in
    let wide : form < length spots = omega (arith, here, old.whole.sizes) in
    let terms_here : terms_at base form ≡ terms = ap (λ (f : Shape). f.terms) (get_or-set_same forms form (stored_shape k) bare here) in
    let same : entries_of base occ ≡ entries_of forms occ = entries-kept forms base occ old.whole
    (λ s some. grind (arith, cases_eq s form, get_or-set_other, empty, some)) in
    let start = linked-same old.whole (cut base form 0) (set spots form [])
    (λ s. grind (arith, cases_eq s form, get_or-set_at, get_or-set_other, length-set, here, empty)) (λ s. grind (arith, cases_eq s form, get_or-set_other, empty))
    (omega (arith, old.whole.sizes, length-set spots form [], cut-length base form 0, long)) in
    let done = link base spots (omega (arith, here, long)) terms_here wide (rw same start) in
    let all : take (length terms) (terms_at base form) ≡ terms_at base form = take_all (length terms) (terms_at base form) (omega (arith, ap length terms_here)) in
    let uncut : cut base form (length terms) ≡ base = ap (λ ts. set base form (record { terms = ts; degree = degree_at base form })) all ∙ set-get_or base form bare in
    let whole : IsLinked base (set spots form (spots_in v)) (entries_of base occ') = rw uncut at done in
    rw (map-set stored_shape keep form k, map-set spots_in sp form v) (record {
      whole = whole;
      named = linked-named whole;
      places = omega (arith, old.places, sizes, entries-length forms occ, entries-length base occ');
      inside = All-set (λ (f : Shape). AreInside n f.terms) forms form (stored_shape k) inside old.inside;
      rooms = λ s less. grind (arith, cases_eq s form, get_or-set_at, get_or-set_other, length-set, here, wide, count, less, old.rooms s);
    })

-- the forms, as one is added or removed
pub forms-widened : (keep keep' : List StoredForm) (k : StoredForm) → keep' ≡ keep ++ (k ∷ []) → stored_form k ≡ None → forms_of keep' ≡ forms_of keep ++ (None ∷ [])
forms-widened keep keep' k same e = ap forms_of same ∙ map-append stored_form keep (k ∷ []) ∙ ap (λ o. forms_of keep ++ (o ∷ [])) e

-- one more empty form is none of the forms
pub forms-more : (keep keep' : List StoredForm) (k : StoredForm) (s : ℕ) → keep' ≡ keep ++ (k ∷ []) → stored_form k ≡ None → get_or (forms_of keep') s None ≡ get_or (forms_of keep) s None
forms-more keep keep' k s same e = rw (forms-widened keep keep' k same e) (push-default (forms_of keep) s None)

pub forms-filled : (keep keep' : List StoredForm) (k : StoredForm) (s : ℕ) (o : Option Form) → keep' ≡ set keep s k → stored_form k ≡ o → forms_of keep' ≡ set (forms_of keep) s o
forms-filled keep keep' k s o same e = ap forms_of same ∙ map-set stored_form keep s k ∙ ap (set (forms_of keep) s) e

pub forms-length : (keep : List StoredForm) → length (forms_of keep) ≡ length keep
forms-length keep = length-map keep stored_form

-- ---- Forms take slots and leave them.
-- what an empty slot is
pub record IsBare (keep : List StoredForm) (s : ℕ) : Type 0 where
  pub inside : s < length keep
  pub terms : terms_at (shapes_of keep) s ≡ []

pub vacant-bare : (keep : List StoredForm) (clauses : List (List ℕ)) (s : ℕ) → IsVacant (shapes_of keep) clauses s → IsBare keep s
vacant-bare keep clauses s v = grind (arith, v.inside, length-map, v.terms)

pub slots-bare : (os : List (Option Form)) (keep : List StoredForm) (clauses : List (List ℕ)) (s : ℕ) → AreSlots os (joined (shapes_of keep) clauses) → slice_get os s ≡ Some None → IsBare keep s
slots-bare os keep clauses s a h = vacant-bare keep clauses s (slots-vacant os (shapes_of keep) clauses s a h)

-- an empty form after the others
pub rest-widened : (store store' : Store) (clauses clauses' : Clauses) (forms : List (Option Form)) (k : StoredForm) → IsSound store' → IsEmpty k → store'.stored.items ≡ store.stored.items ++ (k ∷ []) → store'.variables ≡ store.variables →
    AreReady clauses' → clauses_of clauses' ≡ clauses_of clauses ++ ([] ∷ []) → clauses'.lists ≡ clauses.lists → IsAtRest store clauses forms → IsAtRest store' clauses' (forms ++ (None ∷ []))
rest-widened store store' clauses clauses' forms k sound e keeps variables ready literals lists r = grind (arith, r.known, length-map, map-append, joined-widen, slots-more, AreJoined-widen, r.slots, r.joined, r.widths, e.terms, e.degree, length-append)

-- a form in the slot of an empty one
pub rest-filled : (store store' : Store) (clauses : Clauses) (forms : List (Option Form)) (f : Form) (s : ℕ) → IsSound store' → slice_get forms s ≡ Some None → HasFilled f s store.stored.items store'.stored.items → store'.variables ≡ store.variables → IsAtRest store clauses forms → IsAtRest store' clauses (set forms s (Some f))
rest-filled store store' clauses forms f s sound none h variables r = grind (arith, slots-vacant, map-set, joined-set, slots-set, AreJoined-set, r.slots, r.joined, r.ready, r.widths, r.known, h.keeps, h.is, length-set)

-- a clause in the slot of an empty form
pub shapes-watched : (keep keep' : List StoredForm) (k : StoredForm) (clauses : List (List ℕ)) (s : ℕ) → IsVacant (shapes_of keep) clauses s → IsUnlisted k → keep' ≡ set keep s k → shapes_of keep' ≡ shapes_of keep
shapes-watched keep keep' k clauses s v e keeps =
    let shape = get_or-map_all stored_shape keep s k in
    let same : stored_shape k ≡ stored_shape (get_or keep s k) = grind (arith, shape, v.terms (stored_shape k), v.degree (stored_shape k), e.terms, e.degree) in
    ap shapes_of keeps ∙ map-set_same stored_shape keep s k k same

pub rest-watched : (store store' : Store) (clauses clauses' : Clauses) (forms : List (Option Form)) (f : Form) (k : StoredForm) (s : ℕ) → slice_get forms s ≡ Some None → IsUnlisted k → store'.stored.items ≡ set store.stored.items s k →
    store'.spots ≡ store.spots → store'.occurrences ≡ store.occurrences → store'.variables ≡ store.variables → IsNormal f → IsClause f → AreReady clauses' → clauses_of clauses' ≡ set (clauses_of clauses) s (codes_of_terms f.terms) → length clauses'.lists ≡ length clauses.lists →
    IsAtRest store clauses forms → IsAtRest store' clauses' (set forms s (Some f))
rest-watched store store' clauses clauses' forms f k s none e keeps spots occ variables normal clause ready literals lists r =
    let keep = store.stored.items in
    let vacant = slots-vacant forms (shapes_of keep) (clauses_of clauses) s r.slots none in
    let bare = vacant-bare keep (clauses_of clauses) s vacant in
    let same = shapes-watched keep store'.stored.items k (clauses_of clauses) s vacant e keeps in
    let different = rising-different (group_by (length f.terms)) 0 f.terms normal.ordered in
    let sound : IsSound store' = rw (same, spots, occ, variables) r.sound in
    grind (arith, bare.inside, same, sound, variables, literals, joined-clause, clause-kept, normal, clause, slots-set, AreJoined-clause, vacant.terms, vacant.degree, different, r.slots, r.joined, lists, r.widths, length-set, length-map, r.known, clause.two)

-- an empty form in the slot of a removed one
pub rest-removed : (store store' : Store) (clauses clauses' : Clauses) (forms : List (Option Form)) (k : StoredForm) (s : ℕ) → s < length forms → IsSound store' → IsEmpty k → store'.stored.items ≡ set store.stored.items s k → store'.variables ≡ store.variables →
    AreReady clauses' → clauses_of clauses' ≡ set (clauses_of clauses) s [] → length clauses'.lists ≡ length clauses.lists → IsAtRest store clauses forms → IsAtRest store' clauses' (set forms s None)
rest-removed store store' clauses clauses' forms k s less sound e keeps variables ready literals lists r = grind (arith, slots-length, joined-length, length-map, map-set, joined-cleared, AreJoined-cleared, slots-set, r.slots, r.joined, r.widths, r.known, e.terms, e.degree, length-set)

-- only the room in the blocks of clauses is another
pub rest-refitted : (store : Store) (clauses clauses' : Clauses) (forms : List (Option Form)) → IsRefitted clauses clauses' → IsAtRest store clauses forms → IsAtRest store clauses' forms
rest-refitted store clauses clauses' forms same r = grind (arith, r.sound, same.literals, r.slots, r.joined, same.ready, same.lists, r.widths, r.known)
