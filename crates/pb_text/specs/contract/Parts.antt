-- What a feeder stores.
use Rattle.{pb_text.specs.declared.feeder.Feeder.Feeder, pb_text.specs.declared.machine.Machine.Ghosts, std.specs.Prelude.◌≡◌}

-- Two feeders have the same machine, limit, stop, position and start of the current statement.
pub record AreAlike {M E : Type 0} {g : Ghosts M E} (a b : Feeder M E g) : Type 0 where
  pub machine : a.machine ≡ b.machine
  pub place : a.place ≡ b.place
  pub first : a.first ≡ b.first
  pub longest : a.longest ≡ b.longest
  pub stop : a.stop ≡ b.stop

-- A feeder stores nothing else, as contracts see these.
abbrev pub KeepsItsParts : (M E : Type 0) (g : Ghosts M E) → Type 0
KeepsItsParts M E g = (a b : Feeder M E g) → AreAlike a b → a ≡ b
