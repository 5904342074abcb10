-- The stored constraints that are live.
use Rattle.{pb_normal.specs.meaning.Form.Form, pb_trace.specs.declared.stored.Constraints.Constraints, pb_trace.specs.declared.stored.Stored.Stored}
use Rattle.std.specs.Prelude.{if◌then◌else◌, List, map, Option, Some, None}

-- The stored constraints as a replay has its own: that with id i is at index i - 1, and a deleted one is `None`.
abbrev pub live_in : List Stored → List (Option Form)
live_in forms = map (λ s. if s.is_live then Some s.form else None) forms

abbrev pub stored_in : Constraints → List (Option Form)
stored_in c = live_in c.forms.items
