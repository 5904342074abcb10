-- What a checker consists of.
use Rattle.{pb_tool.specs.declared.commands.check.checker.Checker.TheInside.Inside, std.specs.Prelude.◌≡◌}

-- It has nothing beside its feeder, its replay and its fault, as contracts see these.
abbrev pub KeepsItsParts : Type 0
KeepsItsParts = (a b : Inside) → a.feeder ≡ b.feeder → a.replay ≡ b.replay → a.fault ≡ b.fault → a ≡ b
