-- Terms as they are read
use Rattle.pb_normal.specs.{declared.entry.Entry.Entry, engine.Codes.decoded, engine.Codes.weighed}
use Rattle.pb_normal.specs.declared.terms.reading.Reading.{Reading, TheVariants.Codes, TheVariants.Narrow, TheVariants.Wide}
use Rattle.std.specs.Prelude.{List, map}

abbrev pub read_entries : Reading → List Entry
read_entries (Codes codes) = map decoded codes.now
read_entries (Narrow terms) = map weighed terms.now
read_entries (Wide terms) = terms.now
