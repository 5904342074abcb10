-- The names that the proofs of this crate cite, passed on from one place. Declares nothing.
pub use Rattle.std.proofs.Common.{ℕ, ℤ, ◌++◌, ◌+◌, ◌-◌, ◌<◌, ◌||◌, ◌∙◌, ◌∷◌, ◌≡◌, ◌≤◌, [], ap, append-nil, append_assoc, arith, Bool, cond, drop, eq-eqb, Err}
pub use Rattle.std.proofs.Common.{false, get_or, inl, inr, length, List, map, None, not, Ok, Option, pos, refl, Result, rules, set, slice_get, Some, subst, suc}
pub use Rattle.std.proofs.Common.{sym, take, take-append-drop, to_z, true, unwrap_or, zero}
pub use Rattle.std.proofs.{Math.Seq.drop-cons, lemmas.Fmt.decimal_digit, lemmas.Grind.common_steps, lemmas.Int.to_z-of_z, lemmas.Result.err_from_is_err_and}
pub use Rattle.std.proofs.lemmas.{Bool.cases_Bool, Bool.cases_eq, Option.get_or_from_slice_get, Option.slice_get_within, Option.unwrap_or-slice_get}
pub use Rattle.std.proofs.lemmas.List.{drop_all, get_or-drop, get_or-set_other, get_or-set_same, length-drop, length-map, length-set, length-take-le}
pub use Rattle.std.proofs.lemmas.List.{map-append, map-set, take_more, Elements.All-head, Elements.All-tail, Elements.Contains-get_or}
pub use Rattle.{std.specs.Int.w128, std.specs.Int.w64, pb_trace.specs.Changes.form_bytes, pb_trace.specs.Changes.name_shown, pb_trace.specs.Changes.term_shown}
pub use Rattle.std.specs.{List.All, List.flat_map, Option.option_copied, Prelude.codes, Prelude.Contains, Prelude.IsErr, Prelude.MatchOption, Prelude.OnOk}
pub use Rattle.pb_normal.{proofs.lemmas.terms.Merging.no_entry, proofs.lemmas.terms.Merging.total-read, specs.declared.entry.Entry.Entry}
pub use Rattle.pb_normal.specs.meaning.Form.{counted, each, Form, IsRising, total}
pub use Rattle.pb_normal.specs.meaning.Names.{AreDistinct, has_name, number_in, with_name, with_names}
pub use Rattle.{pb_proof.specs.declared.Statement.Statement, pb_replay.specs.contract.ReplayModel.constraint_in, pb_replay.specs.contract.ReplayModel.StandsFor}
pub use Rattle.{pb_propagate.specs.meaning.Propagation.opened, pb_text.specs.declared.Failed.Failed, pb_text.specs.declared.Limits.Limits}
pub use Rattle.pb_replay.specs.meaning.{Problem.Problem, Replay.Deleted, Replay.first_state, Replay.place, Replay.State, Statements.Does, Statements.mentioned}
pub use Rattle.{pb_replay.specs.meaning.Statements.Outcome, pb_sums.specs.declared.linear.Linear.Linear}
pub use Rattle.pb_text.proofs.lemmas.text.Parts.{part_broke, part_then, part_wrote}
pub use Rattle.pb_text.proofs.lemmas.text.Writing.{Appends-append, broke_more, writes_nothing, writes_then}
pub use Rattle.pb_text.specs.meaning.Writing.{Broke, one_more, Writes, Wrote}
pub use Rattle.pb_trace.specs.Derived.{AreValues, Begin, Derived, Follows, Forces, free_by, IsBroken, IsShown, IsShownIn, IsSound, Keeps, literal_of, literals}
pub use Rattle.pb_trace.specs.{Derived.Names, Derived.Then, Derived.true_by, Named.derivation_bytes, Named.forced_line, Named.Known, Named.known_by}
pub use Rattle.pb_trace.specs.Laws.{FirstIsEmpty, IsEmptyAt, lines_of, StoresTheLive, TracesEachLine}
pub use Rattle.pb_trace.specs.{Live.live_in, Traced.stored_after, Traced.Traces, Traced.TracesCall, Traced.Tracing, Traced.without, Traced.without_all}
pub use Rattle.pb_trace.specs.Rejected.{AreAround, AreBefore, ArePieces, AreReasons, IsText, IsUnshown, IsWhy, More, Nothing, piece_bytes, rejected_line}
pub use Rattle.pb_trace.specs.Rejected.{Rejects, Seen, Silence, words_of, WritesBefore, WritesPieces, WritesReasons, WritesShown, WritesSome}
pub use Rattle.pb_trace.specs.Traced.{added_bytes, best_bytes, broken_by, deleted_bytes, deletion_bytes, end_of, extended, found_bytes, line_bytes}
pub use Rattle.pb_trace.specs.declared.{piece.Reasons.Reasons, propagation.Forced.Forced, propagation.Over.Over, stored.Stored.Stored}
