-- Lemmas that the goals of functions need.
use Rattle.pb_sums.proofs.Common.{append-nil, part_broke, part_then, to_z-of_z}
use Rattle.pb_sums.proofs.lemmas.prefixes.{Digits.none_there, Digits.number_runs, TermParts.grown, TermParts.spaced_number_runs, TermParts.term_runs}
use Rattle.pb_sums.proofs.lemmas.values.{CanonicalLaws.bytes-linear, CanonicalLaws.bytes-sum, CanonicalLaws.sum-spelled, Written.further-append}

pub ruleset canonical = (bytes-linear, bytes-sum, sum-spelled)

pub ruleset numbers = (none_there, number_runs)

pub ruleset terms = (grown, none_there, spaced_number_runs, term_runs, to_z-of_z)

pub ruleset writing = (append-nil, further-append, part_broke, part_then)
