-- The forms by number, which are stored by slot.
use Rattle.pb_normal.specs.meaning.Form.{Form}
use Rattle.pb_propagate.specs.declared.{clauses.Clauses.Clauses, clauses.watched.Pair.Pair, store.Store.Store}
use Rattle.pb_propagate.specs.engine.clauses.{Links.list_at, Runs.AreReady, Runs.CanHold, Runs.IsPair, Shapes.clauses_of, Shapes.codes_of_terms}
use Rattle.std.specs.Prelude.{◌≡◌, ℕ, ◌-◌, ◌^◌, ◌⊎◌, ◌*◌, ◌<◌, [], All, length, List, Option, Some, None, map, sum_by, slice_get, slice_index_or}

abbrev pub form_at : List (Option Form) → ℕ → Option Form
form_at forms s = slice_index_or forms s None

-- the form of each number, by its slot
abbrev pub numbered : List (Option Form) → List ℕ → List (Option Form)
numbered forms places = map (form_at forms) places

-- what stands for the slot of a removed form
abbrev pub no_slot : ℕ
no_slot = 2 ^ 32 - 1

-- Each form has one number, and the number of a removed form has no slot. One more form has a slot below `no_slot`.
pub record ArePlaced (forms : List (Option Form)) (places : List ℕ) : Type 0 where
  pub live : (n s : ℕ) → slice_get places n ≡ Some s → (s ≡ no_slot) ⊎ ((f : Form) × (form_at forms s ≡ Some f))
  pub single : (m n s : ℕ) (f : Form) → slice_get places m ≡ Some s → slice_get places n ≡ Some s → form_at forms s ≡ Some f → m ≡ n
  pub placed : (s : ℕ) (f : Form) → form_at forms s ≡ Some f → (n : ℕ) × (slice_get places n ≡ Some s)
  pub alike : (w : Option Form → ℕ) → w None ≡ 0 → sum_by w (numbered forms places) ≡ sum_by w forms
  pub short : length forms < no_slot

-- a form may be stored in the slot as a clause of these codes, of which two are watched
pub record MayHold (store : Store) (c : Clauses) (s : ℕ) (form : Form) (xs : List ℕ) (p : Pair) : Type 0 where
  pub ready : AreReady c
  pub slot : s < length store.stored.items
  pub known : length c.blocks.literals ≡ length store.stored.items
  pub empty : list_at (clauses_of c) s ≡ []
  pub codes : xs ≡ codes_of_terms form.terms
  pub room : CanHold c s (length xs)
  pub pair : IsPair xs p
  pub inside : All (λ t. t.variable < store.variables) form.terms
  pub widths : length c.lists ≡ 4 * store.variables
