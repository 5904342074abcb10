-- A verdict as numbers.
use Rattle.{pb_c.specs.declared.claim.Claim.Claim, pb_pieces.specs.Words.high_word, pb_pieces.specs.Words.low_word}
use Rattle.pb_proof.specs.declared.conclusion.Bound.{Bound, TheVariants.Finite, TheVariants.Infinite}
use Rattle.pb_replay.specs.declared.verdict.Verdict.{Verdict, TheVariants.NoClaim, TheVariants.Unsat, TheVariants.Sat, TheVariants.Bounds}
use Rattle.std.specs.Prelude.{ℕ, ℤ, pos, Bool, true, false}

-- the kind of a claim of UNSAT
abbrev pub unsat_kind : ℕ
unsat_kind = 1

abbrev pub bound_low : Bound → ℕ
bound_low (Finite z) = low_word z
bound_low Infinite = 0

abbrev pub bound_high : Bound → ℤ
bound_high (Finite z) = high_word z
bound_high Infinite = pos 0

abbrev pub is_finite : Bound → Bool
is_finite (Finite z) = true
is_finite Infinite = false

abbrev pub plain : ℕ → Claim
plain kind = record { lower_low = 0; lower_high = pos 0; upper_low = 0; upper_high = pos 0; kind = kind; lower_finite = false; upper_finite = false }

abbrev pub claim_of : Verdict → Claim
claim_of NoClaim = plain 0
claim_of Unsat = plain unsat_kind
claim_of Sat = plain 2
claim_of (Bounds l u) = record {
  lower_low = bound_low l;
  lower_high = bound_high l;
  upper_low = bound_low u;
  upper_high = bound_high u;
  kind = 3;
  lower_finite = is_finite l;
  upper_finite = is_finite u;
}
