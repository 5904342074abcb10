use Rattle.std.proofs.Math.{Bridge.le_prop, Nat.ℕ_set}
use Rattle.pb_text.proofs.Common.{◌+◌, ◌<◌, ◌≡◌, ◌≤◌}
use Rattle.pb_text.specs.{declared.feeder.Feeder.Feeder, declared.machine.Machine.Ghosts, engine.SpentBytes.end_of}
use Rattle.pb_text.proofs.feeder.Feeder.reuse.Goals as goal

-- The facts beside the fields have one proof each.
same : {M E : Type 0} {g : Ghosts M E} (f : Feeder M E g) (some : 0 < f.longest) (end_is : f.end ≡ end_of f.longest f.first) (offset : f.place.offset ≤ f.end) (line : f.place.line ≤ f.place.offset + 1) (column : f.place.column ≤ f.place.offset + 1) →
    record f { some = some; end_is = end_is; offset_in_range = offset; line_in_range = line; column_in_range = column } ≡ f
same f some end_is offset line column = λ i. record f {
  some = le_prop some f.some i;
  end_is = ℕ_set _ _ end_is f.end_is i;
  offset_in_range = le_prop offset f.offset_in_range i;
  line_in_range = le_prop line f.line_in_range i;
  column_in_range = le_prop column f.column_in_range i;
}

-- only the machine was lent, and it is the same again
pub returns : goal.returns
returns g c = rw c.reuse.ensures (same c.args.self.now _ _ _ _ _)
