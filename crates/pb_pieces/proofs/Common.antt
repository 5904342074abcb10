-- The names that the proofs of this crate cite, passed on from one place. Declares nothing.
pub use Rattle.std.proofs.Common.{ℕ, ℤ, ◌++◌, ◌+◌, ◌-◌, ◌<◌, ◌^◌, ◌∙◌, ◌∷◌, ◌≡◌, ◌≢◌, ◌≤◌, ◌⊎◌, [], add-zero, ap, append-nil, append_assoc, arith, Bool, Bor}
pub use Rattle.std.proofs.Common.{cond, drop, Err, false, get_or, IfErr, IfOk, inl, inr, length, length-append, List, map, min, None, of_z, Ok, Option, pos}
pub use Rattle.std.proofs.Common.{refl, Result, rules, Some, subst, suc, sym, take, to_z, true, Vec, zero}
pub use Rattle.std.proofs.Math.Seq.{drop-append-add, drop-append_seam, drop-length, drop-nil, take-suc}
pub use Rattle.std.{proofs.lemmas.Grind.flat_map-append, specs.Prelude.◌↔◌, specs.Prelude.slice_get}
pub use Rattle.std.proofs.lemmas.List.{append_cancel_left, drop-append-le, drop-take, length-drop, length-map, map-append, map_push}
pub use Rattle.pb_normal.proofs.lemmas.names.Numbering.{HasNames-push, number_in-append, with_names-push}
pub use Rattle.pb_normal.specs.meaning.Names.{has_name, HasNames, number_in, with_name, with_names}
pub use Rattle.pb_opb.specs.{declared.OpbEvent.OpbEvent, engine.State.opb, engine.State.OpbState, meaning.Instances.IsInstance}
pub use Rattle.pb_proof.specs.{declared.Statement.Statement, engine.machine.State.proofs, engine.machine.State.ProofState, meaning.Proofs.IsProof}
pub use Rattle.pb_replay.specs.{declared.fault.Fault.Fault, meaning.Problem.Opened, meaning.Problem.Problem, meaning.Replay.first_state, meaning.Replay.State}
pub use Rattle.{pb_sums.specs.declared.Term.Term, pb_tool.proofs.lemmas.show.ShownStatements.first_pull, pb_tool.proofs.lemmas.show.ShownStatements.rest_within}
pub use Rattle.pb_text.{proofs.lemmas.text.Short.place_after-offset, specs.contract.Automaton.AcceptsItems, specs.contract.Automaton.Automaton}
pub use Rattle.pb_text.specs.contract.Feeding.{bytes_with, FeedsOnce, halt_of, is_complete, place_of, spans_in, StandsAt}
pub use Rattle.pb_text.specs.declared.{Feeder.Feeder, Limits.Limits, Place.Place, Spanned.Spanned, Stop.Stop}
pub use Rattle.pb_text.specs.meaning.{Blank.IsInLine, Blank.ReadsBlank, Spelling.Item, Spelling.place_after}
pub use Rattle.pb_text.specs.meaning.{Limits.largest, Limits.top_of, PullsInARow.HasPulled, PullsInARow.TookAll, Reading.Answers, Reading.EndsAs, Reading.Reads}
pub use Rattle.pb_tool.proofs.lemmas.check.CheckerSteps.{many, onward_by, reported, running_at, texts_read, to_all, to_end, to_more}
pub use Rattle.pb_tool.specs.contract.Checker.{Checking, CountsSoFar, IsAt, TextsAreRead}
pub use Rattle.pb_tool.specs.contract.Checks.{Checks, EndsAfter, IsRefusedAt, Rejects}
pub use Rattle.pb_tool.specs.contract.Pieces.{AllocatesAt, bytes_to, ChecksAt, CountsAt, CountsOnce, fault_of, is_whole, MayGoOn, place_in}
pub use Rattle.pb_tool.specs.{declared.commands.check.checker.CheckFault.CheckFault, meaning.Files.AsksInProofText, meaning.Files.IsProofText}
pub use Rattle.pb_tool.specs.meaning.Verified.{AfterProof, ComesTo, InProof, IsAccepted, IsReported}
pub use Rattle.pb_pieces.specs.{Flat.HoldNamed, Given.Given, Given.given, ProofTokens.token_of_id, ProofTokens.token_of_word}
pub use Rattle.pb_pieces.specs.{GivenTokens.Arrays, GivenTokens.arrays_of, GivenTokens.IsGivenAt, GivenTokens.token_in, Reader.proof_statements, Reader.StopsAt}
pub use Rattle.pb_pieces.specs.Instance.{HoldAll, IsFlatOf, places_of, row_in, rows_from, span_in, terms_in, terms_of}
pub use Rattle.pb_pieces.specs.{Matcher.AreFirst, Matcher.Compared, declared.places.Span.Span, declared.rows.Row.Row, declared.session.Session.Session}
pub use Rattle.pb_pieces.specs.NamedTokens.{Adds, AreTokens, name_in, names_of, number_of, token_of_literal, token_of_term}
pub use Rattle.pb_pieces.specs.Reader.{AreRead, Ends, GivesFor, GivesOne, HasEnded, HasRead, IsGiving, IsReader, new_instance, new_proof, opb_statements}
pub use Rattle.pb_pieces.specs.{Reading.IsNotFlat.InRest, Reading.IsNotFlat.InText, Reading.IsNotFlat.Unstored, Tokens.HoldTokens, Tokens.Token, Tokens.token}
pub use Rattle.pb_pieces.specs.Session.{HasFault, IsInstanceOf, IsRejected, IsRunning, IsSession, Stands}
pub use Rattle.pb_pieces.specs.TokenReader.{Gives, HoldsTokens, IsReading, IsShown, names_in, Stops}
pub use Rattle.pb_pieces.specs.declared.{given_token.GivenToken.GivenToken, instance.Flat.Flat, token_reader.Event.Event, token_reader.TokenReader.TokenReader}
