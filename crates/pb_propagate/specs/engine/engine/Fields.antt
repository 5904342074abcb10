-- The engine's fields as lists.
use Rattle.{pb_normal.specs.meaning.Form.Form}
use Rattle.pb_propagate.specs.declared.store.{stored_form.StoredForm.StoredForm, Occurrence.Occurrence, Store.Store, Visited.Visited, spots.Spots.Spots}
use Rattle.pb_propagate.specs.engine.engine.{Forms.IsStoredAs, Lists.Shape, Lists.Weighted, Spots.spots_in}
use Rattle.pb_propagate.specs.engine.engine.{Links.IsStored, Links.weighted, Stored.stored_form, Stored.stored_terms, Stored.stored_degree, Stored.stored_total}
use Rattle.std.specs.Prelude.{◌≡◌, ℕ, ◌≤◌, [], ◌∷◌, ◌++◌, List, Option, Some, None, map, length, slice_index_or, slice_set}

abbrev pub stored_shape : StoredForm → Shape
stored_shape k = record { terms = stored_terms k; degree = stored_degree k }

abbrev pub shapes_of : List StoredForm → List Shape
shapes_of kept = map stored_shape kept

-- the forms, none in the slot of a removed one
abbrev pub forms_of : List StoredForm → List (Option Form)
forms_of kept = map stored_form kept

-- no list got shorter
abbrev pub AreLonger : List (List Occurrence) → List (List Occurrence) → Type 0
AreLonger old new = (p : ℕ) → length (slice_index_or old p []) ≤ length (slice_index_or new p [])

-- the entry that was visited
abbrev pub entry_at : Visited → Occurrence
entry_at v = record { form = v.form; index = v.index }

-- the lists of entries, each with the coefficient of its term
abbrev pub entries_of : List Shape → List (List Occurrence) → List (List Weighted)
entries_of forms lists = map (map (weighted forms)) lists

abbrev pub spots_of : List Spots → List (List ℕ)
spots_of spots = map spots_in spots

-- the store's parts belong together
abbrev pub IsSound : Store → Type 0
IsSound s = IsStored (shapes_of s.stored.items) (spots_of s.spots) (entries_of (shapes_of s.stored.items) s.occurrences) s.variables

-- a form is added after the others, with its open sum and its candidate as at rest
pub record HasEntered (f : Form) (keep keep' : List StoredForm) (opens opens' cands cands' : List ℕ) : Type 0 where
  pub kept : StoredForm
  pub is : IsStoredAs f (stored_shape kept)
  pub form : stored_form kept ≡ Some f
  pub keeps : keep' ≡ keep ++ (kept ∷ [])
  pub opened : opens' ≡ opens ++ (stored_total kept ∷ [])
  pub candidates : cands' ≡ cands ++ (0 ∷ [])

-- a form is stored in the slot of an empty one
pub record HasFilled (f : Form) (slot : ℕ) (keep keep' : List StoredForm) : Type 0 where
  pub kept : StoredForm
  pub is : IsStoredAs f (stored_shape kept)
  pub form : stored_form kept ≡ Some f
  pub keeps : keep' ≡ slice_set keep slot kept

-- the form has nothing in the occurrence lists
pub record IsUnlisted (k : StoredForm) : Type 0 where
  pub terms : stored_terms k ≡ []
  pub degree : stored_degree k ≡ 0
  pub total : stored_total k ≡ 0

-- an empty form
pub record IsEmpty (k : StoredForm) : Type 0 where
  pub form : stored_form k ≡ None
  pub terms : stored_terms k ≡ []
  pub degree : stored_degree k ≡ 0
  pub total : stored_total k ≡ 0
