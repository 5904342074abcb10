-- Forms, the lists of their literals' entries, and the position of each entry.
use Rattle.pb_propagate.specs.declared.{store.Occurrence.Occurrence, term.Term.Term}
use Rattle.pb_propagate.specs.engine.engine.{Counts.place, Counts.AreLinked, Counts.NameForms, Lists.Shape, Lists.Weighted, Lists.AreInside}
use Rattle.std.specs.Prelude.{◌≡◌, ℕ, false, ◌+◌, ◌-◌, ◌*◌, ◌<◌, ◌↔◌, List, [], take, slice_set, length, sum_by, All, Option, Some, None, slice_get, slice_index_or}

-- the position of the other end of a term or an entry, with the coefficient
pub record Cross : Type 0 where
  pub row : ℕ
  pub column : ℕ
  pub weight : ℕ

-- the terms of a form
abbrev pub terms_at : List Shape → ℕ → List Term
terms_at forms s = (slice_index_or forms s record { terms = []; degree = 0 }).terms

-- the coefficient of a form's term
abbrev pub coefficient_at : List Shape → ℕ → ℕ → ℕ
coefficient_at forms s i = (slice_index_or (terms_at forms s) i record { literal = record { variable = 0; negated = false }; coefficient = 0 }).coefficient

-- an entry with the coefficient of its term
abbrev pub weighted : List Shape → Occurrence → Weighted
weighted forms o = record { form = o.form; index = o.index; coefficient = coefficient_at forms o.form o.index }

abbrev pub entry_cross : Option Weighted → Option Cross
entry_cross None = None
entry_cross (Some e) = Some record { row = e.form; column = e.index; weight = e.coefficient }

abbrev pub term_cross : Option Term → Option ℕ → Option Cross
term_cross None o = None
term_cross (Some t) None = None
term_cross (Some t) (Some q) = Some record { row = place t.literal; column = q; weight = t.coefficient }

-- the entry at a position of a list names a term
abbrev pub entry_at : List (List Weighted) → ℕ → ℕ → Option Cross
entry_at lists p q = entry_cross (slice_get (slice_index_or lists p []) q)

-- the term at a position of a form names an entry
abbrev pub term_at : List Shape → List (List ℕ) → ℕ → ℕ → Option Cross
term_at forms spots s i = term_cross (slice_get (terms_at forms s) i) (slice_get (slice_index_or spots s []) i)

-- each names the other
abbrev pub AreCrossed : (ℕ → ℕ → Option Cross) → (ℕ → ℕ → Option Cross) → Type 0
AreCrossed terms entries = (s i p q w : ℕ) →
    (terms s i ≡ Some record { row = p; column = q; weight = w }) ↔ (entries p q ≡ Some record { row = s; column = i; weight = w })

-- the terms of the first forms are in the lists
pub record IsLinked (forms : List Shape) (spots : List (List ℕ)) (lists : List (List Weighted)) : Type 0 where
  pub linked : AreLinked forms lists
  pub totals : sum_by length lists ≡ sum_by (λ f. length f.terms) forms
  pub crossed : AreCrossed (term_at forms spots) (entry_at lists)
  pub sizes : length spots ≡ length forms

pub record IsStored (forms : List Shape) (spots : List (List ℕ)) (lists : List (List Weighted)) (variables : ℕ) : Type 0 where
  pub whole : IsLinked forms spots lists
  pub named : NameForms (length forms) lists
  pub places : length lists ≡ 2 * variables
  pub inside : All (λ f. AreInside variables f.terms) forms
  pub rooms : (s : ℕ) → s < length forms → length (slice_index_or spots s []) ≡ length (terms_at forms s)

abbrev pub degree_at : List Shape → ℕ → ℕ
degree_at forms s = (slice_index_or forms s record { terms = []; degree = 0 }).degree

-- the forms with one of them cut to its first terms
abbrev pub cut : List Shape → ℕ → ℕ → List Shape
cut forms s i = slice_set forms s record { terms = take i (terms_at forms s); degree = degree_at forms s }

-- what removing an entry from a list does to the positions that terms name
pub data Moved (es : List Occurrence) (q : ℕ) (spots : List (List ℕ)) : List (List ℕ) → Type 0 where
  none : q + 1 ≡ length es → Moved es q spots spots
  last : (e : Occurrence) → q + 1 < length es → slice_get es (length es - 1) ≡ Some e → Moved es q spots (slice_set spots e.form (slice_set (slice_index_or spots e.form []) e.index q))
