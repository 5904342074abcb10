-- The laws of the format of instances.
use Rattle.pb_opb.specs.{declared.event.OpbEvent.OpbEvent, engine.State.opb, engine.State.begin, meaning.Instances.IsInstance}
use Rattle.pb_text.specs.contract.{Automaton.AcceptsItems, FormatLaws.IsOneText, FormatLaws.FixesSpans, FormatLaws.IsPrefixFree, FormatLaws.Widens}
use Rattle.{pb_text.specs.meaning.Spelling.Item, std.specs.Prelude.ℕ, std.specs.Prelude.List, std.specs.Prelude.◌↔◌}

-- A new machine accepts the instances, and nothing else.
abbrev pub ReadsInstances : Type 0
ReadsInstances = (limit top : ℕ) (items : List (Item OpbEvent)) → AcceptsItems opb (begin limit top) items ↔ IsInstance limit top items

-- A text is the text of one instance only.
abbrev pub OneInstance : Type 0
OneInstance = IsOneText IsInstance

-- In all instances whose texts begin with the same prefix, the spans that end within the prefix are the same.
abbrev pub FixedSpans : Type 0
FixedSpans = FixesSpans IsInstance

-- No instance's text is a prefix of another's.
abbrev pub PrefixFree : Type 0
PrefixFree = IsPrefixFree IsInstance

-- An instance remains an instance under larger limits.
abbrev pub LargerLimits : Type 0
LargerLimits = Widens IsInstance
