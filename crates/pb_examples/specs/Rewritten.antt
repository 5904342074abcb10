-- What reading an instance and writing it again gives.
use Rattle.pb_opb.specs.{contract.Canonical.instance_bytes, declared.Instance.Instance, declared.OpbEvent.OpbEvent, meaning.Instances.IsInstance}
use Rattle.pb_opb.specs.meaning.Values.{IsValueOf}
use Rattle.pb_text.specs.meaning.{Spelling.Item, Spelling.bytes_of, Whole.events_of}
use Rattle.std.specs.Prelude.{◌≡◌, ℕ, ◌-◌, ◌^◌, List, ◌++◌}

-- The bytes are a text of the instance, under the widest limits.
abbrev pub IsTextOf : Instance → List ℕ → Type 0
IsTextOf v bytes =
    (items : List (Item OpbEvent)) × IsInstance (2 ^ 127 - 1) (2 ^ 63 - 1) items × (bytes_of items ≡ bytes) × IsValueOf (events_of items) v

-- The first text begins with a text of an instance, and the second is its canonical text, which is a text of the same
-- instance.
pub record IsRewritten (text bytes : List ℕ) : Type 0 where
  pub instance : Instance
  pub used : List ℕ
  pub rest : List ℕ
  pub text_is : text ≡ used ++ rest
  pub read : IsTextOf instance used
  pub canonical : bytes ≡ instance_bytes instance
  pub written : IsTextOf instance bytes
