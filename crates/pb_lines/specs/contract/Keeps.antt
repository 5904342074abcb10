-- What the machine stores.
use Rattle.pb_lines.specs.declared.machine.WordMachine.TheInside.{Inside}
use Rattle.pb_lines.specs.engine.WordsFields.{words_state}
use Rattle.std.specs.Prelude.{◌≡◌}

-- It stores nothing besides its state, its limits and its allocator, as contracts see these.
abbrev pub WordsKeeps : Type 0 → Type 0 → Type 0
WordsKeeps W E = (a b : Inside W E) → a.alloc ≡ b.alloc → a.limits ≡ b.limits → words_state a ≡ words_state b → a ≡ b
