-- Lemmas that the goals of functions need, by the function.
use Rattle.pb_normal.proofs.Common.{append-nil, map-set_same, le-ltb, lt-ltb, to_z-of_z, take_all}
use Rattle.pb_normal.proofs.lemmas.names.{Appearing.distinct, Appearing.in_turn, Appearing.named, Appearing.prefix, Appearing.present, Loaded.after_all}
use Rattle.pb_normal.proofs.lemmas.names.Numbering.{OnErr-always, has_name-append, number_in-append, number_in-below, number_in-get, slice_get-number}
use Rattle.pb_normal.proofs.lemmas.names.WrittenForms.{HasNames-append, magnitude-read, magnitude-side, shift-side-le, total-raw}
use Rattle.pb_normal.proofs.lemmas.rules.{Bounds.SumPasses-swap, Bounds.overflow-Memory, Bounds.overflow-Ok, Unique.IsSum-unique, Unique.form-unique}
use Rattle.pb_normal.proofs.lemmas.{rules.Keeps.Holds-alike, rules.Sums.Holds-sum, rules.Sums.IsSum-swapped, terms.Merging.total-drop}
use Rattle.pb_normal.proofs.lemmas.rules.Scales.{IfOk-multiplied-one, divided-one, All-multiplied, Holds-multiplied, Holds-saturated, IsWithin-multiplied}
use Rattle.pb_normal.proofs.lemmas.rules.Scales.{Passes-degree, Passes-not, Passes-size, total-multiplied, within_quotient}
use Rattle.pb_normal.proofs.lemmas.terms.KeyedTerms.{IsKeyed-get, IsKeyed-remove, get-le-total, dropped-none, size-some, Cancels-AllCancel, TermCancels-absent}
use Rattle.pb_normal.proofs.lemmas.terms.{KeyedTerms.TermCancels-present, Totals.IsRising-read, Totals.total-permutation, Totals.IsRising-from}
use Rattle.pb_normal.proofs.lemmas.terms.Maps.{Holds-divided, Holds-negation, Holds-negation_back, Holds-weakened, total-le-each}
use borrow.Author.Tests.{le-leb, lt-leb}

pub ruleset multiply = (All-multiplied, IsWithin-multiplied, Passes-degree, Passes-not, Passes-size, overflow-Memory, overflow-Ok, within_quotient)

pub ruleset scaled = (All-multiplied, total-multiplied)

pub ruleset collected = (IsRising-from, IsRising-read, total-permutation)

pub ruleset total_in = (total-drop, total-le-each)

pub ruleset take_out = (IsKeyed-remove, dropped-none, size-some)

pub ruleset cancelled_by = (IsKeyed-get, TermCancels-absent, TermCancels-present, get-le-total)

pub ruleset cancelled = (Cancels-AllCancel, append-nil, take_all)

pub ruleset shift_of = (magnitude-read, shift-side-le, to_z-of_z)

pub ruleset side_terms_in = (OnErr-always, after_all, magnitude-side, total-raw)

pub ruleset ends = (le-leb, le-ltb, lt-leb, lt-ltb)

pub ruleset steps = (Holds-divided, Holds-saturated, IfOk-multiplied-one, IsSum-swapped, SumPasses-swap, divided-one)

pub ruleset forms = (Holds-alike, IsSum-unique, form-unique, total-le-each)

pub ruleset sound = (Holds-divided, Holds-multiplied, Holds-negation, Holds-negation_back, Holds-saturated, Holds-sum, Holds-weakened, total-le-each)

pub ruleset numbers = (distinct, in_turn, named, prefix, present)

pub ruleset places = (HasNames-append, has_name-append, number_in-append, number_in-below, number_in-get, slice_get-number)

pub ruleset link = (map-set_same)
