-- The limits on numbers.
use Rattle.pb_text.specs.declared.limits.Limits.{Limits}
use Rattle.std.specs.Prelude.{ℕ, ◌-◌, ◌^◌, ◌<◌, ◌≤◌}

-- numbers that are valid limits: bits, and a top
abbrev pub AreLimits : ℕ → ℕ → Type 0
AreLimits bits top = (31 ≤ bits) × (bits ≤ 127) × (1 ≤ top) × (top < 2 ^ 63) × (top < 2 ^ bits)

abbrev pub bits_of : Limits → ℕ
bits_of limits = limits.bits

-- the largest count, and the largest magnitude of an id
abbrev pub top_of : Limits → ℕ
top_of limits = limits.top

-- the largest magnitude of a coefficient, degree, bound or factor
abbrev pub largest : Limits → ℕ
largest limits = 2 ^ limits.bits - 1
