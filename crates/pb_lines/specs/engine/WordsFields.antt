-- What the machine for words stores.
use Rattle.pb_lines.specs.declared.machine.WordMachine.TheInside.{Inside}
use Rattle.pb_lines.specs.engine.Words.{WordsState}
use Rattle.{pb_text.specs.meaning.Limits.largest, pb_text.specs.meaning.Limits.top_of}

-- the state that its fields make up
abbrev pub words_state : {W E : Type 0} → Inside W E → WordsState W
words_state m = record { limit = largest m.limits; top = top_of m.limits; words = m.words; name = m.name; part = m.part }
