use Rattle.pb_normal.proofs.{Common.take, lemmas.names.Loaded.LoadedFrom}
use Rattle.pb_normal.proofs.constraints.load_tested.Given as goal

-- the constraints so far are loaded
abbrev pub invariant-loop-constraint : goal.invariant-loop-constraint
invariant-loop-constraint l = LoadedFrom l.initial.names l.names (take l.constraint-index l.constraints) l.forms.items
