-- What is read as an instance, under limits.
use Rattle.{pb_opb.specs.declared.instance.Instance.Instance, std.specs.Prelude.ℕ, std.specs.Prelude.List, std.specs.Prelude.Option, std.specs.Prelude.Result}
use Rattle.pb_opb.specs.meaning.{Asking.Asks, Gather.MayKeep, Instances.IsInstance, Values.IsValueOf}
use Rattle.pb_text.specs.{declared.Spanned.Spanned, declared.Stop.Stop, meaning.Asking.AsksOnly, meaning.Whole.ReadsValue}

module _ (limit top : ℕ) where
  -- the bytes of an instance that may allocate
  abbrev pub AsksInInstance : List ℕ → ℕ → Type 0
  AsksInInstance = AsksOnly (IsInstance limit top) (Asks top)

  -- what was read from a source that had the first bytes before and the second after
  abbrev pub ReadsInstance : ℕ → Option (List ℕ) → Result (Spanned Instance) Stop → Option (List ℕ) → Type 0
  ReadsInstance longest = ReadsValue (IsInstance limit top) longest AsksInInstance MayKeep IsValueOf
