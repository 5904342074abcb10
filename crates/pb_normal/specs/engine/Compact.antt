-- Terms as they are stored
use Rattle.pb_normal.specs.{declared.entry.Entry.Entry, engine.Codes.decoded, engine.Codes.weighed}
use Rattle.pb_normal.specs.declared.terms.Stored.{Stored, TheVariants.Codes, TheVariants.Few, TheVariants.Narrow, TheVariants.Wide}
use Rattle.std.specs.Prelude.{List, map}

abbrev pub entries_of : Stored → List Entry
entries_of (Codes codes) = map decoded codes.items
entries_of (Few codes) = map decoded codes
entries_of (Narrow terms) = map weighed terms.items
entries_of (Wide terms) = terms.items
