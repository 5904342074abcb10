-- The names that the proofs of this crate cite, passed on from one place. Declares nothing.
pub use Rattle.std.proofs.Common.{ℕ, ℤ, ◌%◌, ◌&&◌, ◌*◌, ◌++◌, ◌+ℤ◌, ◌+◌, ◌-ℤ◌, ◌-◌, ◌/◌, ◌<◌, ◌==◌, ◌^◌, ◌↔◌, ◌∙◌, ◌∷◌, ◌≡◌, ◌≢◌, ◌≤ℤ◌, ◌≤◌, ◌⊎◌, [], add-zero}
pub use Rattle.std.proofs.Common.{ap, append-nil, append_assoc, arith, Bool, cond, drop, eqb, Err, false, FitsSigned, get_or, Global, Greater, IfOk, IfSome}
pub use Rattle.std.proofs.Common.{inl, inr, IsPermutation, IsTrue, length, Less, List, ltb, map, max, min, nat_lt, neg_ℤ, None, not, of_z, Ok, OnErr, OnOk}
pub use Rattle.std.proofs.Common.{Option, pos, refl, Result, rules, slice_get, Some, subst, suc, sym, take, tests, to_z, true, unsigned_abs, zero}
pub use Rattle.std.proofs.Math.{Nat.mul-le-mul_left, Seq.drop-append_seam, Seq.map-set_same, Seq.take-append-add}
pub use Rattle.std.proofs.lemmas.{Cmp.nat_cmp_total, Cmp.ranked, Map.Entries.lookup_tail, Map.Entries.sum_by-insert_entry, Map.Entries.sum_by-remove_entry}
pub use Rattle.std.proofs.lemmas.{Grind.flat_map-append, Result.err_from_is_err_and, Bool.Decides.nat_tests}
pub use Rattle.std.proofs.lemmas.{Int.fits_signed_from_abs, Int.ints, Int.to_z-of_z, Int.to_z_pos, Slice.Eq.bytes_eq-Decides, Slice.Eq.slice_eq-Decides}
pub use Rattle.std.proofs.lemmas.{Nat.div-add-mod', Nat.le-div, Nat.mod_below, Option.get_or_from_slice_get, Option.slice_get-get_or, Option.slice_get_within}
pub use Rattle.std.proofs.lemmas.Bool.{cases_eq, cases_lt, cases_order, cond_both, eq-eqb, le-ltb, lt-ltb, ltb-false, ltb-true, ne_eqb, or_from, or_right}
pub use Rattle.std.proofs.lemmas.List.{drop-append-le, drop-map, drop_all, drop_more, ext_get_or, get_or-map, get_or-set_other, get_or-set_same}
pub use Rattle.std.proofs.lemmas.List.{get_or_append_left, length-append, length-drop, length-map, length-set, map-append, map-set, map_more, take-append-drop}
pub use Rattle.std.proofs.lemmas.List.{take-append-le, take-map, take_all, take_more, take_more_set, take_rest, with_items_is, Edits.map_over_more}
pub use Rattle.std.proofs.lemmas.List.Elements.{All-cons, All-filter, All-head, All-map, All-nil, All-push, All-tail, filter_more}
pub use Rattle.std.specs.{BTreeMap.BTreeMap, BTreeMap.get, BTreeMap.insert_entry, BTreeMap.is_at, BTreeMap.values, Str.IsUtf8, Str.bytes_eq}
pub use Rattle.std.specs.{Cmp.nat_cmp_is, Map.keys_of, Map.lookup, Map.remove_entry, Map.values_of, Option.option_map, Option.option_to_list, Option.unwrap_or}
pub use Rattle.{std.specs.Int.div_ceil, std.specs.Int.w128, pb_sums.specs.declared.linear.Linear.Linear, pb_sums.specs.declared.linear.Term.Term}
pub use Rattle.std.specs.{List.All, List.AllByRecursion, List.filter, List.list_any, List.position_or_len, List.sum_by, Ordering.is_eq, Ordering.nat_cmp}
pub use Rattle.pb_text.{proofs.lemmas.text.Lists.drop_read, proofs.lemmas.text.Lists.take_read, specs.meaning.Limits.largest}
pub use Rattle.pb_normal.specs.{declared.entry.Entry.Entry, engine.Adds.Adds, engine.Adds.Cancels, engine.Adds.flip, engine.Growing.kind_form}
pub use Rattle.pb_normal.specs.declared.fault.NormalFault.{NormalFault, TheVariants.Memory, TheVariants.Overflow}
pub use Rattle.pb_normal.specs.declared.{side.Side.Side, side.Side.TheVariants.AtLeast, side.Side.TheVariants.AtMost, names.entry.NameEntry.NameEntry}
pub use Rattle.pb_normal.specs.engine.{Keyed.IsAtItsKey, Keyed.IsKeyed, Keyed.TermCancels, Raw.entry_of, Raw.is_below_0, Raw.raw_of, Raw.shift, Codes.decoded}
pub use Rattle.pb_normal.specs.engine.NameTable.{AreEnds, chain_at, ends_of, hash_by, hashes_of, IsChained, IsLast, IsTable, listed, names_in, nexts_of, texts}
pub use Rattle.pb_normal.specs.meaning.Constraints.{AreFormsOf, constraint_names, Fits, sides_in, with_sides}
pub use Rattle.pb_normal.specs.meaning.Form.{AgreeOn, at_least_0, bound, coefficient, counted, each, Form, Holds, IsNormal, IsOrdered, IsOver, IsRising}
pub use Rattle.pb_normal.specs.meaning.Form.{IsWithin, negated_of, negative, plain_of, size, total, true_at}
pub use Rattle.pb_normal.specs.meaning.Names.{AfterPrefix, AreDistinct, has_name, HasNames, number_in, with_name, with_names}
pub use Rattle.pb_normal.specs.meaning.Rules.{divided, IsCountOf, IsSum, multiplied, negation_of, of_variable, on, only, opposite, Passes, saturated}
pub use Rattle.pb_normal.specs.meaning.Rules.{SumIsContradiction, SumMeasures, SumPasses, unit_of, weakened, with_coefficient}
pub use Rattle.pb_normal.specs.meaning.Written.{by_number, IsFormOf, IsSideOf, linear_of, magnitude, names_of, on_negations, SameAsForm, SameAsForms}
pub use Rattle.pb_normal.specs.meaning.Written.{SameSolutions, side_number, side_terms, term_of, true_sum, written_on}
unfoldable pub use Rattle.pb_normal.specs.engine.NameTable.{chain_of}
