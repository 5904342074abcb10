-- Lines with a line feed before each.
use Rattle.pb_opb.specs.{contract.Canonical.event_bytes, declared.event.OpbEvent.OpbEvent}
use Rattle.std.specs.Prelude.{ℕ, List, [], ◌∷◌, ◌++◌}

abbrev pub led_lines : List OpbEvent → List ℕ
led_lines [] = []
led_lines (e ∷ events) = 10 ∷ (event_bytes e ++ led_lines events)
