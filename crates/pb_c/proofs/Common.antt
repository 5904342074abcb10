-- The names that the proofs of this crate cite, passed on from one place. Declares nothing.
pub use Rattle.std.proofs.Common.{ℕ, ℤ, ◌++◌, ◌+◌, ◌-◌, ◌<◌, ◌^◌, ◌∙◌, ◌∷◌, ◌≡◌, ◌≤ℤ◌, ◌≤◌, ◌⊎◌, [], ap, append-nil, ap₂, arith, Bool, Bor, codes, Err, false}
pub use Rattle.std.proofs.Common.{FitsSigned, get_or, inl, inr, length, length-append, List, lit<, map, min, negsuc, None, of_z, Ok, Option, pos, refl, Result}
pub use Rattle.std.proofs.Common.{rules, slice_get, Some, subst, sym, take, to_z, true, w64}
pub use Rattle.std.proofs.{GlobalToken.dealloc_token-Testable, raw_atomic.Walks.leaves, raw_atomic.Walks.proved_at}
pub use Rattle.std.proofs.{Math.ListN.set, lemmas.Option.get_or_from_slice_get, lemmas.Option.slice_get-get_or, lemmas.Option.slice_get_within}
pub use Rattle.std.proofs.lemmas.{Int.ints, Int.to_z-of_z, List.get_or-set_other, List.get_or-set_same, List.map-append, List.take_more, List.take_more_set}
pub use Rattle.std.specs.{Prelude.unsigned_abs, Prelude.unwrap_or, contracts.impls.GlobalAllocator.TheImpl.ghosts}
pub use Rattle.core.proofs.{alloc.Calls.Al, alloc.Calls.handle_tells, alloc.Shapes.after, option.Made.none_of, option.Made.Some-of}
pub use Rattle.{core.proofs.cell.Inside.Good, core.proofs.cell.Inside.one, std_alloc.proofs.ResultValues.and_tt, std_alloc.specs.Box.Ownership.box_owns}
pub use Rattle.pb_loose.proofs.Values.{both, Loose, loose_good, loose_in, loose_out}
pub use Rattle.{pb_opb.specs.declared.Instance.Instance, pb_replay.specs.meaning.Meaning.MeansWritten}
pub use Rattle.pb_pieces.specs.{Reader.fault_of, Reader.IsReader, Reader.StopsAt, declared.reader.Reader.Reader, declared.session.Session.Session}
pub use Rattle.{pb_pieces.specs.Session.HasAccepted, pb_pieces.specs.Session.IsSession, pb_c.specs.Buffer.Puts, pb_c.specs.Options.IsAsked}
pub use Rattle.pb_replay.specs.declared.{fault.Fault.Fault, verdict.Verdict.Verdict, verdict.Verdict.TheVariants.Unsat}
pub use Rattle.pb_text.specs.declared.{Limits.Limits, Stop.Stop, place.Why.Why}
pub use Rattle.pb_tool.specs.contract.{Faults.exit_status, Faults.stop_status, Pieces.joined, Refusals.refusal_status}
pub use Rattle.pb_tool.specs.{declared.fault.ToolFault.ToolFault, meaning.Headline.IsUnsatisfiable, meaning.Headline.VerdictsAreTrue}
pub use Rattle.pb_c.specs.Answers.{AnswerOfCheck, AnswerOfShow, AnswerOfTidy, Answers, AnswersCheck, empty, Ends, faults, written}
pub use Rattle.pb_c.specs.{Checker.AnswersHeld, Checker.Under, Handle.held_owns, Reader.AnswersBy, Reader.GivesNext, Reader.report_of_reader, Step.AnswersState}
pub use Rattle.pb_c.specs.{Constraint.coefficient_high, Constraint.coefficient_low, Constraint.sign, declared.options.Options.Options, declared.page.Page.Page}
