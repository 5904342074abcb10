-- Lemmas that the goals of functions need, by the file or the function.
use Rattle.pb_propagate.proofs.lemmas.{engine.Runs.place-inside, root.Added.pair-free, engine.Completing.completions-exist, engine.Literals.vacancy-push}
use Rattle.pb_propagate.proofs.lemmas.{root.Added.no-watch, clauses.Literals.marked-start, clauses.Literals.marked-wider, clauses.Shapes.slots-vacant}
use Rattle.pb_propagate.proofs.lemmas.engine.Literals.{open_part-falsified, open_part-open, Agree-cleared, Agree-push, Agree-widen, says-none, vacancy-none}
use Rattle.pb_propagate.proofs.lemmas.root.Retracted.{needless-terms, other-then, released-same, released-then, same-reasons, some-sized, terms-inside}
use Rattle.pb_propagate.proofs.lemmas.store.{Changes.forms-filled, Changes.forms-more, Changes.slots-bare, Positions.same-without}
use Rattle.pb_propagate.proofs.lemmas.store.{Gets.get-map, Gets.get-set_same, Links.entries-length, Links.taken-last}
use Rattle.pb_propagate.proofs.lemmas.store.Positions.{chain-push, free-put, moved-last, position-got, positioned-moved, positioned-put}
use Rattle.pb_propagate.proofs.lemmas.store.Stored.{degree-read, equal-even, even-falls, form-order, kept-size, order-none, order-some, picked-even}
use Rattle.pb_propagate.proofs.lemmas.store.Stored.{picked-order, placed-inside, ranked-same, standing-all, total-each, unit-size}
use Rattle.std.proofs.{Common.get_or-set_same, Common.length-append, Common.length-set, lemmas.Bool.cases_eq, lemmas.Option.slice_get_within}
use Rattle.std.proofs.lemmas.List.{get_or-map, get_or_default, length-map, Sums.get_or-le-sum_by, Sums.sum_by_more, Sums.sum_by_more_le, Sums.sum_by_push}

pub ruleset clear = (Agree-cleared, vacancy-none)

pub ruleset free = (chain-push, free-put, get_or_default)

pub ruleset laws = (completions-exist)

pub ruleset len = (length-map, order-none, order-some)

pub ruleset new = (Agree-cleared, marked-start, vacancy-none)

pub ruleset occurrence_lists = (degree-read, get_or-le-sum_by, get_or-set_same, kept-size, taken-last)

pub ruleset opened = (open_part-falsified, open_part-open, says-none, sum_by_more, sum_by_more_le)

pub ruleset order_of = (equal-even, even-falls, form-order, picked-even, picked-order, placed-inside)

pub ruleset place_at = (get_or-map, length-map, order-none, order-some)

pub ruleset put = (Agree-push, length-append, length-set, vacancy-push)

pub ruleset ranked = (ranked-same)

pub ruleset reasons = (cases_eq, entries-length, get-set_same, needless-terms, other-then, place-inside, released-same, released-then, same-reasons, some-sized, terms-inside)

pub ruleset slots = (forms-filled, forms-more, get-map, no-watch, pair-free, slots-bare, slots-vacant)

pub ruleset totals = (total-each)

pub ruleset standing = (standing-all)

pub ruleset unit_form = (degree-read, unit-size)

pub ruleset waiting = (length-set, moved-last, position-got, positioned-moved, positioned-put, same-without, slice_get_within)

pub ruleset widen = (Agree-widen, length-append, marked-wider, sum_by_push)
