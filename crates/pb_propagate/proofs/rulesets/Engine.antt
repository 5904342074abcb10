-- Lemmas that the goals of functions need, by the file or the function.
use Rattle.pb_propagate.proofs.lemmas.root.{Rooted.clash-joined, Kept.conflict-few, Kept.listed-inside, Ready.puts-as, Ready.updated-ready}
use Rattle.pb_propagate.proofs.lemmas.store.{Changes.forms-length, Links.entries-length, Stored.stored-small}
use Rattle.pb_propagate.proofs.lemmas.store.Placed.{at-inside, numbered-left, numbered-length, numbered-none, taken-by}
use Rattle.{pb_propagate.proofs.lemmas.clauses.Heads.heads-is, pb_propagate.proofs.lemmas.clauses.Heads.listed-small, std.proofs.Common.length-append}
use Rattle.pb_propagate.proofs.lemmas.engine.{Bridge.opposed-clash, Advances.advances-then, Advances.advances-visit, Advances.costs-then, Advances.on-err}
use Rattle.pb_propagate.proofs.lemmas.engine.{Literals.has-none, Literals.sum-bounded, Reasoned.reasons-derive, Reasoned.run-reasons-rooted}
use Rattle.pb_propagate.proofs.lemmas.engine.{Propagated.shape-at, Rests.half, Rests.slots-terms, Runs.place-inside, Runs.Counted-put}
use Rattle.pb_propagate.proofs.lemmas.root.Questions.{adopted-denied, denied-derives, denied-next, root-few, updated-most}
use Rattle.pb_propagate.proofs.lemmas.root.Retracted.{due-some, needless-terms, replaced-released, shortened-same, some-sized, terms-inside}
use Rattle.std.proofs.{Common.get_or-set_same, lemmas.Bool.both_ways, lemmas.List.length-map, lemmas.List.length-take-le, lemmas.Option.slice_get-get_or}

pub ruleset completion = (clash-joined, opposed-clash, updated-ready)

pub ruleset conflict = (both_ways, has-none, listed-inside, stored-small, terms-inside)

pub ruleset denial = (adopted-denied, advances-then, advances-visit, costs-then, denied-derives, denied-next, on-err, puts-as, reasons-derive)

pub ruleset engine = (conflict-few, entries-length, forms-length, half, length-append, numbered-left, numbered-length, numbered-none, slots-terms, taken-by)

pub ruleset losing = (due-some, entries-length, length-take-le, listed-small, needless-terms, place-inside, replaced-released, shortened-same, some-sized)

pub ruleset question = (length-map, root-few, updated-most, updated-ready)

pub ruleset root = (at-inside, forms-length, heads-is, run-reasons-rooted, shape-at, slice_get-get_or, stored-small, terms-inside)

pub ruleset run = (Counted-put, entries-length, get_or-set_same, length-map, listed-small, place-inside, shape-at, sum-bounded)
