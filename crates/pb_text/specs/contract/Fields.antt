-- What lists and texts store.
use Rattle.pb_text.specs.declared.sequence.{Bytes.TheInside.Inside as InBytes, Sequence.TheInside.Inside as InSequence}
use Rattle.std.specs.Prelude.{◌≡◌}

-- only the vector of the values, as contracts see it
abbrev pub SequenceKeeps : Type 0 → Type 0
SequenceKeeps T = (a b : InSequence T) → a.items ≡ b.items → a ≡ b

-- only the vector of the bytes, as contracts see it
abbrev pub BytesKeep : Type 0
BytesKeep = (a b : InBytes) → a.bytes ≡ b.bytes → a ≡ b
