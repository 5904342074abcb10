-- What options set.
use Rattle.pb_c.specs.declared.options.Options.{Options}
use Rattle.pb_text.specs.{declared.Limits.Limits, meaning.Limits.bits_of, meaning.Limits.top_of}
use Rattle.std.specs.Prelude.{◌≡◌, ◌⊎◌, ◌<◌, ◌-◌, ◌^◌, ℕ, zero, suc, min, Option, Some, None}

-- the limit on statements, if there is one
abbrev pub longest_of : ℕ → Option ℕ
longest_of zero = None
longest_of (suc n) = Some (suc n)

-- the bits of a magnitude: 0 stands for 127
abbrev pub bits_asked : ℕ → ℕ
bits_asked zero = 127
bits_asked (suc n) = suc n

-- the bits are not 31 to 127
abbrev pub AreWrong : Options → Type 0
AreWrong o = (bits_asked o.bits < 31) ⊎ (127 < bits_asked o.bits)

-- the limits with these bits, and with the greatest top
abbrev pub AreLimits : ℕ → Limits → Type 0
AreLimits bits limits = (bits_of limits ≡ bits) × (top_of limits ≡ min (2 ^ 63) (2 ^ bits) - 1)

-- the options are allowed, and set this limit on statements and these limits
abbrev pub IsAsked : Options → Option ℕ → Limits → Type 0
IsAsked o longest limits = ¬ AreWrong o × (longest ≡ longest_of o.longest) × AreLimits (bits_asked o.bits) limits
