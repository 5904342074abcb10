-- Lemmas that the goals of functions need, by the file or the function.
use Rattle.pb_propagate.proofs.lemmas.root.Retracted.{same-reasons, some-sized, other-then, released-same, released-then}
use Rattle.pb_propagate.proofs.lemmas.{store.Gets.push-default, clauses.Stores.empty-dead, root.Added.watches-apart, root.Added.watches-mine}
use Rattle.pb_propagate.proofs.lemmas.clauses.Listed.{watch-set, list-small, put-linked, lists-length, pushed-more, removed-fewer, removed-watch, set-more, watch-entries, watch-kept}
use Rattle.pb_propagate.proofs.lemmas.clauses.{Literals.false-listed, Literals.true-listed, Stores.rest-fit, Blocks.renumbered, Blocks.slot-at, Blocks.stores}
use Rattle.pb_propagate.proofs.lemmas.clauses.{Listed.watch-read, Visited.entry-round, Visited.passed-at, Visited.round-inside, Visited.running-inside}
use Rattle.std.proofs.Common.{get_or-set_other, get_or-set_same, length-set}
use Rattle.std.proofs.lemmas.{Bool.cases_lt, Bool.leb-true, List.map-append, List.FromFn.length-map-range_with_len, Option.slice_get_read}
use Rattle.std.proofs.lemmas.List.{replicate_more, append-nil, append_assoc, get_or_default, get_or_past, get_or_read, length-drop, length-map, length-take}

pub ruleset begin_all = (cases_lt, get_or_past, stores)

pub ruleset clauses = (empty-dead, get_or-set_other, get_or_read, length-set, lists-length, push-default, rest-fit, watches-apart, watches-mine)

pub ruleset fit = (get_or-set_same, leb-true, renumbered)

pub ruleset heads = (append-nil, append_assoc, replicate_more)

pub ruleset len = (length-map-range_with_len)

pub ruleset lists = (get_or-set_other, get_or-set_same, list-small, lists-length, map-append, put-linked, pushed-more, removed-fewer, removed-watch, set-more, watch-entries, watch-kept, watch-read, watch-set)

pub ruleset read = (length-drop, length-take, slot-at)

pub ruleset reasons = (get_or_default, other-then, released-same, released-then, same-reasons, some-sized)

pub ruleset visiting = (entry-round, length-map, passed-at, round-inside, running-inside, slice_get_read, watch-entries)

pub ruleset walk = (false-listed, true-listed)
