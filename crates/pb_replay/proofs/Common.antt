-- The names that the proofs of this crate cite, passed on from one place. Declares nothing.
pub use Rattle.std.proofs.Common.{ℕ, ℤ, ◌*◌, ◌++◌, ◌+ℤ◌, ◌+◌, ◌-ℤ◌, ◌-◌, ◌<◌, ◌==◌, ◌^◌, ◌∙◌, ◌∷◌, ◌≡◌, ◌≤ℤ◌, ◌≤◌, ◌⊎◌, [], All, ap, append-nil, append_assoc}
pub use Rattle.std.proofs.Common.{arith, Bool, cond, drop, drop-cons, Err, false, FitsSigned, get_or, inl, inr, is_some, IsTrue, length, length-append, List}
pub use Rattle.std.proofs.Common.{map, min, nat_lt, negsuc, None, not, of_z, pos, refl, rules, set, Some, subst, suc, sym, take, to_z, true, unsigned_abs, zero}
pub use Rattle.std.specs.Prelude.{◌↔◌, Contains, IfErr, IfOk, IfSome, IsSome, Ok, OnOk, Option, option_map, Result, reverse, slice_get, sum_by}
pub use Rattle.std.{proofs.Math.Seq.get_or-append_seam, proofs.Math.Seq.take-length, specs.Int.div_ceil, specs.Int.w128, specs.Int.w64}
pub use Rattle.std.proofs.lemmas.Bool.{both_ways, cases_Bool, cases_eq, cases_lt, cases_order, cond-true, false_from_ne_true, not-true, not_from_false}
pub use Rattle.std.proofs.lemmas.{Bool.or_cases, Bool.or_left, Bool.or_right, Int.fits_signed_from_abs, Int.ints, Int.to_z-of_z}
pub use Rattle.std.proofs.lemmas.List.{drop_all, drop_more, ext_get_or, get_or-map, get_or-set_other, get_or-set_same, get_or_append_left, get_or_default}
pub use Rattle.std.proofs.lemmas.List.{get_or_past, length-map, length-set, length-take-le, map_more, reverse-append, take-append-drop, take-append-le}
pub use Rattle.std.proofs.lemmas.List.{take_all, Elements.Contains-get_or, Elements.Contains-push, Elements.Contains-push_cases}
pub use Rattle.std.proofs.lemmas.List.Elements.{All-cons, All-contains, All-filter, All-head, All-map, All-nil, All-push, All-tail, Contains-append_left}
pub use Rattle.std.proofs.lemmas.{Option.get_or_from_slice_get, Option.none-some, Option.same_Some, Option.slice_get-get_or, Result.err_from_is_err_and}
pub use Rattle.pb_normal.proofs.lemmas.names.Appearing.{distinct, in_turn, names_split, prefix, present}
pub use Rattle.pb_normal.proofs.lemmas.names.Numbering.{number_in-append, number_in-below, number_in-get, slice_get-number}
pub use Rattle.pb_normal.proofs.lemmas.names.WrittenForms.{HasNames-append, IsFormOf-unique, magnitude-append, same_forms, SameAsForm-from, SameAsForms-from}
pub use Rattle.{pb_normal.proofs.lemmas.names.WrittenForms.SameSolutions-side, pb_normal.proofs.lemmas.rules.Sums.Holds-sum, pb_sums.specs.declared.Term.Term}
pub use Rattle.pb_normal.proofs.lemmas.terms.Maps.{Holds-divided, Holds-negation_back, Holds-weakened, total-le-each}
pub use Rattle.pb_normal.specs.declared.{NormalFault.NormalFault, Side.Side, entry.Entry.Entry, numbered.NumberedLiteral.NumberedLiteral}
pub use Rattle.pb_normal.specs.meaning.Constraints.{AreFormsOf, constraint_names, Fits, sides_in, with_sides}
pub use Rattle.pb_normal.specs.meaning.{Form.Form, Form.Holds, Form.total, Form.true_at, Rules.with_coefficient}
pub use Rattle.pb_normal.specs.meaning.Names.{AreDistinct, has_name, HasNames, number_in, with_name, with_names}
pub use Rattle.pb_normal.specs.meaning.Rules.{assignment, axiom_on, divided, IsContradiction, IsSum, multiplied, negation_of, on, only, saturated, weakened}
pub use Rattle.pb_normal.specs.meaning.Written.{by_number, HoldsWritten, IsFormOf, IsSideOf, magnitude, MeetsSide, names_of, side_number, side_terms, true_sum}
pub use Rattle.{pb_opb.specs.declared.Instance.Instance, pb_sums.specs.declared.Linear.Linear, pb_sums.specs.declared.Literal.Literal}
pub use Rattle.pb_proof.specs.contract.{Leaving.Leaves, Leaving.takes, Values.IsStatementValue, Values.IsWord}
pub use Rattle.pb_proof.specs.declared.{Bound.Bound, Bound.TheVariants.Finite, Bound.TheVariants.Infinite, PolWord.PolWord, Statement.Statement}
pub use Rattle.pb_proof.specs.declared.Conclusion.{Conclusion, TheVariants.Bounds, TheVariants.NoClaim, TheVariants.Sat, TheVariants.Unsat}
pub use Rattle.pb_proof.specs.declared.PolWord.TheVariants.{Add, Axiom, Divide, Id, Multiply, Saturate, Weaken}
pub use Rattle.pb_proof.specs.declared.Stage.{Stage, TheVariants.Closing, TheVariants.Complete, TheVariants.Concluding, TheVariants.Formula, TheVariants.Steps}
pub use Rattle.pb_proof.specs.declared.Statement.TheVariants.{Conclude, Delete, End, F, Header, Output, Pol, Rup, Soli, Solx}
pub use Rattle.{pb_proof.specs.meaning.Order.stage_of, pb_propagate.proofs.lemmas.engine.Completing.still, pb_propagate.proofs.lemmas.store.Gets.contains-none}
pub use Rattle.pb_proof.specs.meaning.Postfix.{Constraint, IsPostfix, LiteralAxiom, Product, Quotient, Saturation, Sum, Tree, Weakening, words}
pub use Rattle.pb_propagate.proofs.lemmas.engine.Choices.{only-self, only-true, rising-positive, total-fits, total-has, total-within}
pub use Rattle.pb_propagate.proofs.lemmas.engine.Completing.{completion-one, conflict-part, conflicting, derivation-keeps, IsPart, lasting, on_it, put-part}
pub use Rattle.pb_propagate.specs.engine.engine.Live.{Gives, one_in, terms_in, value_says}
pub use Rattle.pb_propagate.specs.meaning.Propagation.{begin, broken, Derivation, HasConflict, HoldAll, IsCompletion, IsRup, Live, MayPropagate, MeetsConflict}
pub use Rattle.pb_propagate.specs.meaning.Propagation.{opened, opposed, put, With}
pub use Rattle.pb_text.proofs.lemmas.text.{Lists.take_read, Results.ok_or_err, Results.same_err}
pub use Rattle.pb_text.specs.{declared.Limits.Limits, meaning.Limits.largest, meaning.Limits.top_of}
pub use Rattle.pb_replay.specs.contract.Example.{all_logged, at_least_one, best_logged, best_proof, both_terms, bounds_of, either, logged_proof, name_x, name_y}
pub use Rattle.pb_replay.specs.contract.Example.{other_proof, Refuses, short_proof, shown_proof, unit_on, Verifies}
pub use Rattle.pb_replay.specs.contract.Laws.{AcceptsMore, CompletionIsOne, FirstIsSound, HasConclusion, InList, IsSingle, MeaningsAgree, OpeningsAreSingle}
pub use Rattle.pb_replay.specs.contract.Laws.{OpensMore, OrderIsFree, OutcomesAreSingle, ProblemsAreProper, SolutionsAreAccounted, StatementsAreSound}
pub use Rattle.pb_replay.specs.contract.Laws.{UnvaluedAreOld, UnvaluedMayWant, VerdictsAreThere, VerdictsMean, WholeProofsConclude}
pub use Rattle.pb_replay.specs.contract.ReplayModel.{Adding, Carries, Comes, does_in, Goes, GoesAt, HasNamed, IsBest, IsBetter, IsInside, IsKept}
pub use Rattle.pb_replay.specs.contract.ReplayModel.{IsLinked, IsOpened, IsProper, IsReady, Keeps, Logs, outcome_in, problem_of, Replaying, ReturnsValue}
pub use Rattle.pb_replay.specs.contract.ReplayModel.{state_of, verdict_at, with_mentioned}
pub use Rattle.pb_replay.specs.declared.fault.Fault.{Fault, TheVariants.Order, TheVariants.Overflow, TheVariants.SolutionLogged, TheVariants.Violates}
pub use Rattle.pb_replay.specs.declared.fault.Fault.TheVariants.{Conflict, IdsSpent, Memory, NoObjective, NoSolution, NoSuchId, NotBound, NotImplied, NotTotal}
pub use Rattle.pb_replay.specs.{declared.state.Running.Running, declared.verdict.Verdict.Verdict, meaning.Replay.State, meaning.Replay.value}
pub use Rattle.pb_replay.specs.engine.Bounds.{Both, Demands, HasObjective, IsBelow, IsNamed, IsReached, Lower, objective_at_least, ObjectiveShown, Reached}
pub use Rattle.pb_replay.specs.engine.Bounds.{Refutes, ShownAs, ShownReaches, Upper, upper_of}
pub use Rattle.pb_replay.specs.engine.Constraints.{AreLive}
pub use Rattle.pb_replay.specs.engine.{Solutions.AllHold, Solutions.AreTotal, Solutions.AreValued, Solutions.Given, Solutions.Judged, Stack.Word, Stack.Words}
pub use Rattle.pb_replay.specs.meaning.Answer.{after, Answer, each_below, found, gives, need, some}
pub use Rattle.pb_replay.specs.meaning.Conclusions.{Concludes, contradicted, contradiction, IsShownBy, lower_bound, named, none_left, objective_with}
pub use Rattle.pb_replay.specs.meaning.Conclusions.{propagated, sum, trivial, upper_bound, verdict_of}
pub use Rattle.pb_replay.specs.meaning.Meaning.{Accounted, AccountedWritten, allowed, allowed_still, beaten, beaten_value, HasNone, IsAtLeast, IsAtMost}
pub use Rattle.pb_replay.specs.meaning.Meaning.{IsNamePrefix, IsProblem, IsSolution, IsSound, known, known_names, Means, MeansWritten}
pub use Rattle.pb_replay.specs.meaning.Problem.{FitsAll, names_in, objective_of, Opened, Problem, Solves, written_value}
pub use Rattle.pb_replay.specs.meaning.Replay.{added, AreValues, by_name, Completed, Deleted, Excludes, first_state, FormOfExpression, HasValue, IsLive}
pub use Rattle.pb_replay.specs.meaning.Replay.{limited, Logged, logged_of, negations, no_form, normal_form, numbered, numbered_one, place, Shown, Solution}
pub use Rattle.pb_replay.specs.meaning.Statements.{Accepts, Does, IsCount, literal_names, mentioned, Outcome, word_names}
