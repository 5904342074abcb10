use Rattle.pb_propagate.proofs.Common.{◌≡◌, length, map, code, group_by}
use Rattle.pb_propagate.proofs.clause.codes_of.Given as goal

abbrev pub invariant-entries : goal.invariant-entries
invariant-entries l = (l.group ≡ group_by (length l.entries)) × (l.codes.items ≡ map (code (group_by (length l.entries))) l.yielded)
