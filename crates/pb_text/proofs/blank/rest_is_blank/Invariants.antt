use Rattle.pb_text.proofs.Common.{ℕ, ◌++◌, ◌+◌, ◌-◌, ◌^◌, ◌≡◌, ◌≤◌, length, List, Lost, in_comment, IsBlank, place_past}
use Rattle.pb_text.proofs.blank.rest_is_blank.Given as goal

-- what was taken so far is blank
abbrev pub invariant-loop-byte : goal.invariant-loop-byte
invariant-loop-byte g l = record {
  within : l.at.offset ≤ 2 ^ 40;
  line : l.at.line ≤ l.at.offset + (2 ^ 40 + 1);
  column : l.at.column ≤ l.at.offset + (2 ^ 40 + 1);
  faults : g.S.Source.faults l.source ≡ g.S.Source.faults l.fn.source;
  blank : (used : List ℕ) × Lost (g.S.Source.left l.fn.source) used (g.S.Source.left l.source) × IsBlank used × (l.at ≡ place_past l.fn.place used) × (l.at.offset ≡ l.fn.place.offset + length used) × (l.in_comment ≡ in_comment used)
      × (g.S.Source.history l.source ≡ g.S.Source.history l.fn.source ++ used);
}

abbrev pub decreases-loop-byte : goal.decreases-loop-byte
decreases-loop-byte g l = 2 ^ 40 + 1 - l.at.offset
