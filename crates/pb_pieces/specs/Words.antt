-- The words of a number in two's complement.
use Rattle.std.specs.Prelude.{ℕ, ℤ, pos, negsuc, ◌-◌, ◌/◌, ◌%◌, ◌^◌}

abbrev pub low_word : ℤ → ℕ
low_word (pos n) = n % 2 ^ 64
low_word (negsuc n) = 2 ^ 64 - 1 - n % 2 ^ 64

abbrev pub high_word : ℤ → ℤ
high_word (pos n) = pos (n / 2 ^ 64)
high_word (negsuc n) = negsuc (n / 2 ^ 64)
