-- The names that the proofs of this crate cite, passed on from one place. Declares nothing.
pub use Rattle.std.proofs.Common.{ℕ, ◌%◌, ◌&&◌, ◌*◌, ◌++◌, ◌+◌, ◌-◌, ◌/◌, ◌<◌, ◌==◌, ◌^◌, ◌||◌, ◌∙◌, ◌∷◌, ◌≡◌, ◌≢◌, ◌≤◌, ◌⊎◌, [], add-one, ap, append-nil}
pub use Rattle.std.proofs.Common.{append_assoc, ap₂, arith, below_more, Bool, cond, count_by, drop, eq-or-lt_of_le, eqb-true, Err, false, get_or, inl, inr}
pub use Rattle.std.proofs.Common.{IsTrue, le-leb, length, length-append, length-drop, length-take, length-take-le, List, map, min, MutBor, nat_eq, nat_le, None}
pub use Rattle.std.proofs.Common.{not, Ok, Option, refl, Result, rules, slice_get, Some, subst, subst₂, suc, sym, take, take-append-drop, true, zero, zero-add}
pub use Rattle.std.specs.Prelude.{ℤ, decimal, if◌then◌else◌, is_err, is_ok, IsErr, OnErr, OnOk, slice_index}
pub use Rattle.std.proofs.{Math.Nat.ℕ_set, Math.Nat.le-mul_of_pos_right, Math.Nat.mod-eq_of_lt, Math.Nat.pow-succ', lemmas.List.take_rest}
pub use Rattle.std.proofs.Math.{Pow.pow_mono, Seq.get_or-append_seam, Seq.take-add, Seq.take-append_seam, Seq.take-length, Seq.take-suc}
pub use Rattle.std.proofs.lemmas.{Bool.cases_eq, Bool.false≢true, Bool.lt-leb, Bool.Decides.nat_tests, Fmt.decimal_by_steps_wide, Fmt.hex_byte, List.take-take}
pub use Rattle.std.proofs.lemmas.List.{append_cancel_left, drop_more, get_or_append_left, length-map, nil_from_length, reverse-append, take-append-le, take_all}
pub use Rattle.std.{proofs.lemmas.List.take_more, specs.Option.is_none, specs.Option.is_some, specs.Option.option_transpose, specs.Result.result_transpose}
pub use Rattle.std.specs.{Fmt.digit_glyph, Fmt.digits, Fmt.format_spec, Fmt.padded_integral, Io.KnownBytes.Appends, Io.KnownBytes.Consumes, Io.KnownBytes.Keeps}
pub use Rattle.pb_text.specs.contract.Automaton.{AcceptsItems, Admits, Automaton, begins, begins_with, End, Go, is_large, IsState, Leads, MayAsk, Next}
pub use Rattle.pb_text.specs.contract.{Automaton.ReadsStatement, Automaton.Refuse, Automaton.Runs, Automaton.SkipsGap, Automaton.state_after, Digits.value_from}
pub use Rattle.pb_text.specs.contract.Feeding.{bytes_fed, Feeds, input_fed, is_complete, NoneStopped, spans_answered, spans_fed, spans_in, spans_taken}
pub use Rattle.pb_text.specs.contract.Feeding.{StandsAt, stop_of, used_by}
pub use Rattle.pb_text.specs.contract.{Reasons.hex_digit, Reasons.hex_of, Source.HaveEnded, Source.LosesFirst, Source.Lost, Source.Peeks, Source.StartWith}
pub use Rattle.pb_text.specs.contract.Standing.{Counts, EndBy, Follows, Halts, IsJoined, IsOpen, IsUnread, opened, Stands, Waits}
pub use Rattle.pb_text.specs.declared.{feeder.Feeder.Feeder, history.History.History, place.Place.Place, place.Spanned.Spanned, place.Stop.Stop, place.Why.Why}
pub use Rattle.pb_text.specs.{declared.machine.Machine.Ghosts, declared.source.Failed.Failed, engine.SpentBytes.end_of, engine.SpentBytes.SpentSince}
pub use Rattle.pb_text.specs.declared.place.Why.TheVariants.{Byte, Ended, Memory, Read, TooLarge, TooLong}
pub use Rattle.pb_text.specs.meaning.Blank.{Comment, has_star, in_comment, IsBlank, IsInLine, Nothing, OpenComment, passes, White}
pub use Rattle.pb_text.specs.meaning.{Classes.is_blank, Classes.is_digit, Classes.is_letter, Classes.is_name_byte, Classes.is_white, Spelling.spans_since}
pub use Rattle.pb_text.specs.meaning.Languages.{◌⋅◌, Bytes, digit, Each, Empty, Language, Many, unmarked}
pub use Rattle.pb_text.specs.meaning.{Numbers.Digits, Numbers.Number, Numbers.value, Reading.Viable}
pub use Rattle.pb_text.specs.meaning.{Pulling.Draws, Pulling.faults_after, Pulling.input_drawn, Pulling.OfGiven, Pulling.Pulls, Pulling.Took, Stopping.IsAsking}
pub use Rattle.pb_text.specs.meaning.{PullsInARow.HasPulled, PullsInARow.PullsOn, Writing.Broke, Writing.one_more, Writing.Takes, Writing.Writes, Writing.Wrote}
pub use Rattle.pb_text.specs.meaning.Reading.{Answers, AreSeen, AreShort, byte_limit, ended_within, EndsInNumber, Explains, HasFixedSpans, HasNoSpelling}
pub use Rattle.pb_text.specs.meaning.Reading.{HasOpen, IsBad, IsFull, IsPrefix, IsShort, IsSpelled, IsUnderWay, last_numeral, open_bytes, Overruns, Reads}
pub use Rattle.pb_text.specs.meaning.Spelling.{bytes, bytes_of, digits_of, Item, Letter, letters_of, place_after, place_next, place_or, place_past, plain}
pub use Rattle.pb_text.specs.meaning.Whole.{events_at, events_of, gathered, IsWhole, Keeping, MayHold, Reading, ReadsWhole, StopsIn}
