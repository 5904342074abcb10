-- The names that the proofs of this crate cite, passed on from one place. Declares nothing.
pub use Rattle.std.proofs.Common.{ℕ, ℤ, ◌%◌, ◌*◌, ◌++◌, ◌+◌, ◌-◌, ◌<◌, ◌==◌, ◌^◌, ◌↔◌, ◌∙◌, ◌∷◌, ◌≡◌, ◌≢◌, ◌≤◌, ◌⊎◌, [], add-zero, All, ap, append-nil, true}
pub use Rattle.std.proofs.Common.{append_assoc, ap₂, arith, Bool, cond, Contains, drop, drop-cons, Err, false, get_or, IfErr, inl, inr, IsErr, IsTrue, length}
pub use Rattle.std.proofs.Common.{length-append, List, map, nat_le, None, Ok, Option, refl, Result, rules, Some, string_bytes, subst, suc, sym, take, unwrap_or}
pub use Rattle.std.proofs.{Common.take-append-drop, Common.zero, lemmas.Grind.flat_map-append, lemmas.Option.same_Some, lemmas.Option.unwrap_or-slice_get}
pub use Rattle.std.specs.{Prelude.IfSome, Prelude.IsErrAnd, Prelude.IsSome, Prelude.not, Prelude.String, Io.KnownBytes.Appends, Io.KnownBytes.Keeps}
pub use Rattle.std.proofs.lemmas.Bool.{both_ways, cond-false, cond-true, false_from_ne_true, leb-false, Decides.eqb_tells, Decides.leb_tells}
pub use Rattle.std.proofs.lemmas.List.{append_cancel_left, append_cancel_right, get_or_append_left, length-drop, length-map, map-append}
pub use Rattle.std.proofs.lemmas.List.Elements.{All-cons, All-contains, All-contains_itself, All-from_recursion, All-head, All-nil, All-tail, All-weaker}
pub use Rattle.std.proofs.lemmas.List.Elements.{Contains-append_cases, Contains-append_right, recursion_from_All}
pub use Rattle.{std.specs.List.AllByRecursion, std.specs.List.flat_map, pb_tool.specs.contract.Checker.StepsFrom, pb_tool.specs.contract.Checker.TextsAreRead}
pub use Rattle.pb_normal.proofs.lemmas.names.Appearing.{distinct, in_turn, named, names_split, prefix, written_alike}
pub use Rattle.pb_normal.{proofs.lemmas.names.WrittenForms.HasNames-append, proofs.lemmas.names.WrittenForms.same_forms, specs.declared.Side.Side}
pub use Rattle.pb_normal.specs.meaning.Constraints.{AreFormsOf, constraint_names, Fits, sides_in, with_sides}
pub use Rattle.pb_normal.specs.meaning.{Form.Form, Names.AreDistinct, Names.HasNames, Names.with_name, Names.with_names}
pub use Rattle.pb_normal.specs.meaning.Written.{HoldsWritten, IsFormOf, IsSideOf, linear_of, names_of, SameAsForm, SameAsForms}
pub use Rattle.pb_opb.proofs.lemmas.instances.Counted.{counted, IsCounted, IsEntry}
pub use Rattle.pb_opb.specs.contract.Canonical.{body_events, comment_events, constraint_events, due, event_bytes, header_bytes, in_order, instance_bytes, lines}
pub use Rattle.{pb_opb.specs.contract.Canonical.objective_events, pb_opb.specs.declared.Instance.Instance, pb_tool.specs.meaning.Verified.IsVerified}
pub use Rattle.pb_opb.specs.declared.OpbEvent.{OpbEvent, TheVariants.Comment, TheVariants.Constraint, TheVariants.Header, TheVariants.Objective}
pub use Rattle.pb_opb.specs.{engine.State.opb, meaning.Gather.MayKeep, meaning.Instances.IsBegun, meaning.Instances.IsInstance, meaning.Reading.ReadsInstance}
pub use Rattle.pb_opb.specs.meaning.Values.{comment_at, comments_in, constraints_in, IsValueOf, last_or, objectives_in, variables_in}
pub use Rattle.pb_proof.specs.contract.{Formats.PrefixFree, Formats.ReadsProofs, ValueLaws.ProofValues, ValueLaws.ReadStatements, ValueLaws.StatementValues}
pub use Rattle.pb_proof.specs.{contract.Values.IsStatementValue, engine.machine.State.begin, engine.machine.State.proofs, engine.machine.State.ProofState}
pub use Rattle.pb_proof.specs.{declared.Proof.Proof, declared.Stage.Stage, declared.Statement.Statement, meaning.Canonical.statement_bytes}
pub use Rattle.pb_proof.specs.declared.Statement.TheVariants.{Conclude, Delete, End, F, Output, Pol, Rup, Soli, Solx}
pub use Rattle.pb_proof.specs.meaning.{Canonical.proof_bytes, Proofs.IsGap, Proofs.IsProof, Proofs.IsProofOf, Proofs.IsStep, Proofs.statements_of}
pub use Rattle.pb_replay.specs.contract.Laws.{OutcomesAreSingle, UnvaluedMayWant, VerdictsMean, WholeProofsConclude}
pub use Rattle.pb_replay.specs.contract.ReplayModel.{Replaying, StandsFor, StepsAs, verdict_at, verdict_in}
pub use Rattle.pb_replay.specs.declared.{fault.Fault.Fault, fault.Fault.TheVariants.NotTotal, verdict.Verdict.Verdict, verdict.Verdict.TheVariants.Unsat}
pub use Rattle.pb_replay.specs.meaning.{Meaning.IsNamePrefix, Meaning.IsSound, Replay.first_state, Statements.Accepts, Statements.MayWantAt, Statements.Outcome}
pub use Rattle.pb_replay.specs.meaning.{Problem.names_in, Problem.objective_of, Problem.Opened, Problem.Problem, Problem.Solves, Replay.State}
pub use Rattle.pb_sums.specs.{contract.Canonical.head_bytes, contract.Canonical.place_bytes, declared.Linear.Linear, declared.Term.Term}
pub use Rattle.pb_text.proofs.lemmas.{numbers.Numbers.largest_small, text.Spans.all_rest, text.Spans.prefix_parts, text.Writing.writes_nothing}
pub use Rattle.pb_text.proofs.lemmas.source.{PullsInARow.row, PullsInARow.took_join, Wholes.given_both, Wholes.same_prefix, Wholes.spans_events}
pub use Rattle.pb_text.{proofs.lemmas.source.Unkept.asking_to, proofs.lemmas.source.Unkept.stops_in, specs.engine.SpentBytes.end_of}
pub use Rattle.pb_text.proofs.lemmas.text.{Languages.bytes-append, Languages.bytes-plain, Lists.length-bytes, Lists.take_read, Short.place_after-offset}
pub use Rattle.pb_text.proofs.lemmas.text.{Parts.part_broke, Parts.part_then, Parts.part_wrote, Results.ok_or_err, Results.same_err, Results.same_ok}
pub use Rattle.pb_text.specs.contract.{Automaton.AcceptsItems, Automaton.MayAsk, NothingRead.first_fault, NothingRead.first_place, NothingRead.ReadsNothing}
pub use Rattle.pb_text.specs.contract.Feeding.{FeedsOnce, halt_of, HoldsFew, is_complete, place_of, StandsAt, stop_of}
pub use Rattle.pb_text.specs.{contract.Reasons.place_text, contract.Reasons.reason_of, meaning.Writing.Broke, meaning.Writing.Writes, meaning.Writing.Wrote}
pub use Rattle.pb_text.specs.declared.{Feeder.Feeder, Limits.Limits, Machine.Ghosts, Place.Place, Stop.Stop}
pub use Rattle.pb_text.specs.declared.{Spanned.Spanned, Why.Why, Why.TheVariants.Byte, Why.TheVariants.Ended, Why.TheVariants.TooLarge, Why.TheVariants.TooLong}
pub use Rattle.pb_text.specs.meaning.{Blank.IsBlank, Blank.IsStray, Blank.passes, Blank.ReadsBlank, Pulling.OfGiven, Pulling.Pulls, Pulling.Took}
pub use Rattle.pb_text.specs.meaning.{Limits.AreLimits, Limits.largest, Limits.top_of, Reading.IsUnderWay, Reading.open_bytes, Reading.Overruns, Reading.Reads}
pub use Rattle.pb_text.specs.meaning.{PullsInARow.HasPulled, PullsInARow.PullsOn, PullsInARow.TookAll, PullsInARow.TookSoFar, Stopping.IsAsking}
pub use Rattle.pb_text.specs.meaning.Reading.{Answers, AreShort, byte_limit, ended_within, Explains, HasFixedSpans, IsBad, IsFull, IsPrefix, IsSpelled}
pub use Rattle.pb_text.specs.meaning.Spelling.{bytes, bytes_of, Item, Letter, letters_of, place_after, place_past, plain, spans_of, spans_since}
pub use Rattle.pb_text.specs.meaning.Whole.{events_at, events_of, gathered, IsRead, IsWhole, Keeping, MayHold, Reading, ReadsValue, ReadsWhole}
pub use Rattle.pb_tool.specs.contract.Checker.{accepted_by, AsksAsText, Checking, ChecksSoFar, CountsSoFar, IsAccepting, IsAt, IsSomewhere, ProofFeeder}
pub use Rattle.pb_tool.specs.contract.Checks.{Checks, EndsAfter, IsReplayed, KeepsNames, KeepsNamesOf, LeadsTo, Rejects, StepsTo}
pub use Rattle.pb_tool.specs.contract.{Faults.faults_reported, Faults.prefix_of, Normalised.AreLoaded, Normalised.IsNormalised, Normalised.SomePasses}
pub use Rattle.pb_tool.specs.contract.{Given.ChecksGiven, Given.ShowsGiven, Given.TidiesGiven, Stays.ProofStaysAsIs, Stays.StaysAsIs, Stays.WroteAgain}
pub use Rattle.pb_tool.specs.contract.Pieces.{AllocatesAt, AnyCutting, bytes_to, ChecksAt, ChecksOnce, CountsAt, CountsOnce, EndsStatement, fault_of}
pub use Rattle.pb_tool.specs.contract.Pieces.{FeedsInTurn, HoldsOpen, is_whole, joined, MayGoOn, place_in}
pub use Rattle.pb_tool.specs.contract.Runs.{faults_of_instance, faults_of_proof, IsNoReplay, IsReplayOf, IsReportedAs, Replays, RunsProof}
pub use Rattle.pb_tool.specs.contract.Seen.{SawFile, SawInstance, SawNoInstance, SawNoProof, SawProof, SawText}
pub use Rattle.pb_tool.specs.contract.Show.{EndsAt, IsRefusedAfter, IsSpelling, line_of, shown, shown_line, ShowsLines, ShowsFile}
pub use Rattle.pb_tool.specs.contract.Stays.{HasNoFault, IsInstanceWithin, IsOutside, IsProofWithin, IsReadAsInstance, IsReadAsProof, ProofHasNoFault}
pub use Rattle.pb_tool.specs.contract.Watched.{Accepted, Call, GotEach, HasSeen, HasSeenUpTo, IsWatched, Rejected, ShowsEach, ShowsProof, ShowsRun}
pub use Rattle.pb_tool.specs.declared.commands.{check.checker.CheckFault.CheckFault, tidy.normal_text.Forms.Forms}
pub use Rattle.pb_tool.specs.{declared.fault.Input.TheVariants.File, declared.fault.ToolFault.ToolFault, meaning.Verified.verdict_line}
pub use Rattle.pb_tool.specs.declared.fault.ToolFault.TheVariants.{Memory, Overflow, Step, Text, Write}
pub use Rattle.pb_tool.specs.{engine.Gathered.IsGathered, engine.Gathered.IsNotGathered, engine.Gathered.TidiesEach, meaning.Verified.Returns}
pub use Rattle.pb_tool.specs.engine.InstanceText.{IsInstanceTextOf, line, line_if, text_of, with}
pub use Rattle.pb_tool.specs.engine.NormalText.{AreLines, AreMade, as_statement, form_lines, IsNoted}
pub use Rattle.pb_replay.specs.contract.Loading.{names_at, names_on, NamesInOrder, noted}
pub use Rattle.pb_tool.specs.engine.Running.{Begins, HasGiven, HasRun, HasShown, IsChecked, IsRun, OfBoth, RunsTo}
pub use Rattle.pb_tool.specs.meaning.Decided.{AnswersExactly, AreVerified, IsDecided, IsOfText, IsOfTexts, IsSame, OneAnswer}
pub use Rattle.pb_tool.specs.meaning.Files.{AsksInProofText, IsProofFile, IsProofText, MayBeInstance, MayBeProof, AsksInInstanceText, IsFile, IsInstanceFile}
pub use Rattle.pb_tool.specs.meaning.Files.{IsInstanceText, IsNoInstanceFile, IsRefused, IsRefused.InRest, IsRefused.InText}
pub use Rattle.pb_tool.specs.contract.Tidy.{tidied_proof, TidiesFile, TidiesProof, ends_in_feed, HasNormalForm, is_bare, IsNoNormalFile, IsNormalFile}
pub use Rattle.pb_tool.specs.contract.Tidy.{IsStopped, LacksNormalForm, tidied, Tidies, TidiesAs, WritesText}
pub use Rattle.pb_tool.specs.meaning.Verified.{AfterProof, CheckCall, ChecksFiles, ComesTo, InProof, IsAccepted, IsRefusedStep, IsRefusedText, IsReported}
