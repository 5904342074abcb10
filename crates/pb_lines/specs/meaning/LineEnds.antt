-- How a line may end.
use Rattle.pb_text.specs.meaning.Languages.{Language, ◌⋅◌, Byte, Blanks0}
use Rattle.std.specs.Prelude.{◌⊎◌}

-- blank* and a line feed
abbrev pub Feed : Language
Feed = Blanks0 ⋅ Byte 10

-- a line feed, with or without blanks and one `;` before it
abbrev pub LineEnd : Language
LineEnd = λ t. Feed t ⊎ (Blanks0 ⋅ Byte 59 ⋅ Feed) t
