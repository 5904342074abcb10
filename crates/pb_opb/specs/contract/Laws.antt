-- The laws of instances and their texts.
use Rattle.pb_opb.specs.{contract.Canonical.instance_bytes, declared.event.OpbEvent.OpbEvent, declared.event.OpbEvent.TheVariants.Header}
use Rattle.pb_opb.specs.{declared.instance.Instance.Instance, meaning.Instances.IsInstance}
use Rattle.pb_opb.specs.meaning.Values.{IsValueOf, IsInstanceValue, objectives_in, variables_in}
use Rattle.pb_text.specs.{declared.Spanned.Spanned, meaning.Spelling.Item, meaning.Spelling.bytes_of, meaning.Whole.events_of, meaning.Whole.IsRead}
use Rattle.std.specs.Prelude.{◌≡◌, ℕ, ◌^◌, ◌<◌, ◌≤◌, List, [], ◌∷◌, length}

-- The canonical text of a value that meets the rules is a text of an instance with that value.
abbrev pub CanonicalInstance : Type 0
CanonicalInstance = (limit top : ℕ) (v : Instance) → limit < 2 ^ 127 → top < 2 ^ 63 → IsInstanceValue limit top v →
    (items : List (Item OpbEvent)) × IsInstance limit top items × (bytes_of items ≡ instance_bytes v) × IsValueOf (events_of items) v

-- The statements of an instance: one header with the counts and the tail of the value, and then at most one objective.
pub record IsOneHeader (events : List OpbEvent) (v : Instance) : Type 0 where
  pub following : List OpbEvent
  pub header : events ≡ Header v.variables (length v.constraints) v.tail ∷ following
  pub no_other : variables_in following ≡ []
  pub one_objective : length (objectives_in following) ≤ 1

-- The value of an instance meets the rules.
abbrev pub InstanceValues : Type 0
InstanceValues = (limit top : ℕ) (items : List (Item OpbEvent)) (v : Instance) → IsInstance limit top items → IsValueOf (events_of items) v →
    IsInstanceValue limit top v × IsOneHeader (events_of items) v

-- What is written for a value that meets the rules reads back as that value only.
abbrev pub ReadsBack : Type 0
ReadsBack = (limit top longest : ℕ) (v : Instance) (m : Spanned Instance) → limit < 2 ^ 127 → top < 2 ^ 63 → IsInstanceValue limit top v →
    IsRead (IsInstance limit top) longest IsValueOf (instance_bytes v) m → m.event ≡ v
