-- What a replay stores.
use Rattle.{pb_replay.specs.declared.replay.Replay.TheInside.Inside, pb_replay.specs.declared.state.Running.Running, std.specs.Prelude.◌≡◌}

-- Both have the same constraints, objective, names, best value, stage, conclusion and number of visits, under the same limits,
-- with the same allocator, and with the same memory to use again.
pub record AreAlike (a b : Running) : Type 0 where
  pub alloc : a.alloc ≡ b.alloc
  pub limits : a.limits ≡ b.limits
  pub names : a.names ≡ b.names
  pub own : a.own ≡ b.own
  pub objective : a.objective ≡ b.objective
  pub constraints : a.constraints ≡ b.constraints
  pub best : a.best ≡ b.best
  pub next : a.next ≡ b.next
  pub concluded : a.concluded ≡ b.concluded
  pub visits : a.visits ≡ b.visits
  pub memory : a.memory ≡ b.memory

-- It stores nothing besides these and its fault, as contracts see these.
abbrev pub KeepsItsState : Type 0
KeepsItsState = (a b : Inside) → AreAlike a.running b.running → a.fault ≡ b.fault → a ≡ b
