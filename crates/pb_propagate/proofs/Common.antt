-- The names that the proofs of this crate cite, passed on from one place. Declares nothing.
pub use Rattle.std.proofs.Common.{ℕ, ◌*◌, ◌++◌, ◌+◌, ◌-◌, ◌/◌, ◌<◌, ◌^◌, ◌||◌, ◌∙◌, ◌∷◌, ◌≡◌, ◌≤◌, ◌⊎◌, [], ap, arith, Bool, cond, drop, eq-eqb, eqb, false}
pub use Rattle.std.proofs.Common.{FitsSigned, get_or, get_or-set_other, get_or-set_same, Global, if◌then◌else◌, inl, inr, length, length-append, length-set}
pub use Rattle.std.proofs.Common.{List, ltb-false, ltb-true, map, min, None, not, of_z, pos, refl, rules, set, subst, suc, sym, take, to_z, true, Vec, zero}
pub use Rattle.std.specs.Prelude.{ℤ, ◌%◌, ◌==◌, All, Contains, count_by, Err, filter, IfNone, IfSome, is_ok, is_some, IsPermutation, Ok, OnErr, Option}
pub use Rattle.std.specs.Prelude.{option_map, Result, slice_get, slice_index_or, Some, sum, sum_by, swap_remove, unsigned_abs}
pub use Rattle.std.proofs.Math.{Bool.not-not, Bool.or-false, Bool.or_comm, Seq.map-set_same, Seq.set-append_seam, Seq.take-append_seam}
pub use Rattle.std.proofs.lemmas.Bool.{and_parts, both_ways, cases_Bool, cases_eq, cases_lt, eqb-true, false_from_ne_true, leb-true, ne_eqb, not-true}
pub use Rattle.std.proofs.lemmas.Bool.{not_from_false, or_cases, or_left, or_right, Decides.nat_tests}
pub use Rattle.std.proofs.lemmas.List.{append-nil, append_assoc, drop_all, drop_more, ext_get_or, get_or-append_right, get_or-drop, get_or-map, get_or-take}
pub use Rattle.std.proofs.lemmas.List.{get_or_append_left, get_or_default, get_or_past, get_or_push, get_or_read, length-drop, length-map, length-take}
pub use Rattle.std.proofs.lemmas.List.{length-take-le, map-append, map-set, map_more, set-get_or, set-set, set_past, take-append-drop, take-append-le, take-map}
pub use Rattle.std.proofs.lemmas.List.{take_all, take_min, take_rest, Sums.sum_by-swap_remove, Sums.sum_by_more, Sums.sum_by_more_le, Sums.sum_by_push}
pub use Rattle.std.proofs.lemmas.List.{take_more, Folds.list_any-append, Sorted.IsPermutation-sym, Sorted.length_permutation, Sorted.sum_by-IsPermutation}
pub use Rattle.std.proofs.lemmas.List.Elements.{All-cons, All-contains, All-nil, All-push, All-set, All-take, Contains-append_cases, Contains-append_left}
pub use Rattle.std.proofs.lemmas.List.Elements.{Contains-append_right, Contains-get_or, Contains-push, Contains-push_cases}
pub use Rattle.std.proofs.lemmas.List.Sorted.{All-permutation, Contains-permutation, IsNonDecreasingBy-from_sort_by_key, IsPermutation-map, IsPermutation-refl}
pub use Rattle.std.proofs.lemmas.List.Sums.{count_by-le-length, get_or-le-sum_by, sum-map, sum_by-append, sum_by-cons, sum_by-le-sum_by, sum_by-set}
pub use Rattle.std.proofs.lemmas.Option.{get_or_from_slice_get, none-some, same_Some, slice_get-get_or, slice_get-map, slice_get_past, slice_get_within}
pub use Rattle.std.specs.{Bool.beq, Int.w128, List.list_any, List.range_with_len}
pub use Rattle.pb_normal.specs.{declared.entry.Entry.Entry, declared.numbered.NumberedLiteral.NumberedLiteral, meaning.Rules.negation_of, meaning.Rules.only}
pub use Rattle.pb_normal.specs.meaning.{Form.counted, Form.each, Form.Form, Form.IsNormal, Form.IsRising, Form.total, Rules.negation, Rules.on, Rules.opposite}
pub use Rattle.pb_propagate.specs.declared.{assignment.Assignment.Assignment, clause.Group.Group, clause.Group.TheVariants.Long, clause.Group.TheVariants.Short}
pub use Rattle.pb_propagate.specs.declared.clauses.{Clauses.Clauses, lists.Listed.Listed, lists.Watch.Watch, search.Search.Search, watched.Pair.Pair}
pub use Rattle.pb_propagate.specs.declared.clauses.visiting.Visit.TheVariants.{Falsified, Forces, Leaves, Stays}
pub use Rattle.pb_propagate.specs.declared.{waiting.Waiting.Waiting, heads.Heads.Heads, rests.Rests.Rests, term.Rank.Rank, term.Term.Term, heads.Walked.Walked}
pub use Rattle.pb_propagate.specs.declared.{run.Run.Run, store.Store.Store}
pub use Rattle.pb_propagate.specs.declared.store.{Occurrence.Occurrence, spots.Spots.Spots, stored_form.StoredForm.StoredForm, unit_form.UnitForm.UnitForm}
pub use Rattle.pb_propagate.specs.engine.clauses.Blocks.{AreBlocks, begun, Contents, contents, HasBlock, IsBare, IsBefore, IsRenewed, nowhere, number_at}
pub use Rattle.pb_propagate.specs.engine.clauses.Blocks.{passed_by, rewatched, rewritten, searched, stored_clause, stored_search, stored_watch, table, watch_of}
pub use Rattle.pb_propagate.specs.engine.clauses.{Blocks.watch_place, Links.watch_lists, Marks.AreMarks, Marks.IsMark, Marks.IsWalkedTo, Marks.KeepsMarks}
pub use Rattle.pb_propagate.specs.engine.clauses.Links.{AreBlocked, AreFewer, AreLinked, AreMore, entries_at, idle, IsListed, list_at, Remains, Sits, watch_at}
pub use Rattle.pb_propagate.specs.engine.clauses.Runs.{AreFree, ArePassed, AreReady, AreRound, AreServed, AreStored, AreWalked, AreSet, AreWithin, around}
pub use Rattle.pb_propagate.specs.engine.clauses.Runs.{Grows, HasTrue, HasVisited, index_after, IsBroken, IsFreePair, IsPair, IsRefitted, IsRound, IsRunning}
pub use Rattle.pb_propagate.specs.engine.clauses.Runs.{IsSameWatch, IsUnit, KeepsWalked, passed_of, search_at, turned}
pub use Rattle.pb_propagate.specs.engine.clauses.Shapes.{all_of, AreDifferent, AreJoined, clause_shape, clauses_of, code, code_in, codes_of_terms, group_by}
pub use Rattle.pb_propagate.specs.engine.clauses.Shapes.{IsClause, IsLight, joined, literal_at, offset, one_term, slot_shape}
pub use Rattle.pb_propagate.specs.engine.clauses.Truths.{AreMarked, false_at, flip, is_failed, is_met, true_at}
pub use Rattle.pb_propagate.specs.engine.clauses.Walked.{advanced, fallen, falsified_code, head, heads_at, IsAhead, killed, reached, reached_codes}
pub use Rattle.pb_propagate.specs.engine.engine.Counts.{added, Adopted, AreEven, AreFalling, AreFound, AreSingle, Aside, beside, entry_weight, Grown, IsAbsent}
pub use Rattle.pb_propagate.specs.engine.engine.Counts.{IsCalm, IsCounted, IsDone, IsTidy, IsUndone, kept, more, NameForms, none, place, pushed, rest_open}
pub use Rattle.pb_propagate.specs.engine.engine.Counts.{rest_start, spared, spent, term_weight, weight_in, weight_on}
pub use Rattle.pb_propagate.specs.engine.engine.Denial.{AreDenied, denial_of, IsDisjunction, IsHit, IsOne, RunRefutes}
pub use Rattle.pb_propagate.specs.engine.engine.Fields.{AreLonger, entries_of, forms_of, HasEntered, HasFilled, IsEmpty, IsSound, IsUnlisted}
pub use Rattle.pb_propagate.specs.engine.engine.{Fields.shapes_of, Fields.spots_of, Fields.stored_shape, Slots.ArePlaced, Slots.form_at, Slots.numbered}
pub use Rattle.pb_propagate.specs.engine.engine.Forms.{as_term, entry_at_place, entry_of, in_order, IsPlaced, IsStoredAs, picked}
pub use Rattle.pb_propagate.specs.engine.engine.Links.{AreCrossed, coefficient_at, Cross, cut, degree_at, entry_at, entry_cross, IsLinked, IsStored, last}
pub use Rattle.pb_propagate.specs.engine.engine.{Links.Moved, Links.term_at, Links.term_cross, Links.terms_at, Links.weighted, Terms.terms_of, Terms.unit_terms}
pub use Rattle.pb_propagate.specs.engine.engine.Lists.{AreInside, begin, broken, by_reason, Conflicts, Derives, Extends, from_given, has, HaveReasons, holds}
pub use Rattle.pb_propagate.specs.engine.engine.Lists.{IsDue, IsSettled, IsWithin, KeepsReasons, open_part, open_sum, opposed, put, Puts, same, says, Shape}
pub use Rattle.pb_propagate.specs.engine.engine.{Lists.size, Lists.vacancy, Lists.Weighted, Root.IsVacant, Root.posed, Root.UpdateCosts}
pub use Rattle.pb_propagate.specs.engine.engine.{Live.Gives, Live.Live, Live.one_in, Live.Standing, Live.terms_in, Live.value_says, Spots.spots_in}
pub use Rattle.pb_propagate.specs.engine.engine.Progress.{Advances, AreSettled, Costs, Database, database, entries_against, IsTidyAt, list_of, Lowers, Progress}
pub use Rattle.pb_propagate.specs.engine.engine.Progress.{progress, queued, reasons_of, RunKeepsReasons, RunPays, RunReasons, RunRecords, RunSpends, seen}
pub use Rattle.pb_propagate.specs.engine.engine.Progress.{seen_to, Spends, StaysTidy, VisitsEach, AreOpen, RunIsCounted, RunIsOpen, RunVisitsEach, shapes_in}
pub use Rattle.pb_propagate.specs.engine.engine.{Progress.values_of, Reached.HasClash, Reached.HasEnded, Reached.IsCovered, Reached.IsFrom, Reached.IsMade}
pub use Rattle.pb_propagate.specs.engine.engine.Propagation.{GoesBack, IsReadyRun, Propagates, RunGains, RunPuts, RunVisits}
pub use Rattle.pb_propagate.specs.engine.engine.{Rest.AreSlots, Rest.derived, Rest.IsAtRest, Rest.IsEnded, Rest.IsRefuted, Rest.IsSlot, Waiting.IsWithout}
pub use Rattle.pb_propagate.specs.engine.engine.Root.{alone, HasForm, HasGained, HasOtherReasons, RunIsWidened, HasCleared, HasWidened, HasMet, HasUpdated}
pub use Rattle.pb_propagate.specs.engine.engine.Root.{IsAnswered, IsAsked, IsConflict, IsFree, IsKeptConflict, IsMet, IsNeedless, IsOtherUnit, IsRooted}
pub use Rattle.pb_propagate.specs.engine.engine.Stored.{stored_bound, stored_degree, stored_form, stored_terms, stored_total}
pub use Rattle.pb_propagate.specs.meaning.Propagation.{Derivation, HasConflict, IsCompletion, MayPropagate, MeetsConflict, opened, With}
