-- The names that the proofs of this crate cite, passed on from one place. Declares nothing.
pub use Rattle.std.proofs.Common.{ℕ, ℤ, ◌+◌, ◌-◌, ◌<◌, ◌^◌, ◌↔◌, ◌∙◌, ◌∷◌, ◌≡◌, ◌≤◌, ◌⊎◌, [], All, ap, ap₂, inl, inr, map, min, not, pos, suc, sym, zero, ◌&&◌}
pub use Rattle.std.proofs.Common.{◌*◌, ◌++◌, ◌==◌, ◌||◌, arith, Bool, cond, drop, false, List, nat_le, None, Option, refl, rules, Some, subst, take, true}
pub use Rattle.std.proofs.Common.{add-one, append-nil, append_assoc, get_or, IsTrue, length, length-append, length-drop, length-take, nat_eq, take-append-drop}
pub use Rattle.std.specs.{Prelude.decimal, Prelude.neg_ℤ, Prelude.negsuc, Prelude.slice_index, Prelude.vec_len, Fmt.signed_decimal, Int.w64}
pub use Rattle.std.proofs.Math.{Bool.or-false, Bool.or-true, Seq.drop-cons, Seq.get_or-append_seam, Seq.split_at, Seq.take-length, Seq.take-suc}
pub use Rattle.{std.proofs.Math.Nat.le-max_left, std.proofs.Math.Nat.le-max_right, std.proofs.Math.Nat.min-le_left, pb_text.specs.meaning.Classes.is_white}
pub use Rattle.std.proofs.lemmas.Bool.{and_parts, cond_both, eq-eqb, eqb-true, false_from_ne_true, false≢true, leb-false, leb-true, not-true, true≢false}
pub use Rattle.std.proofs.lemmas.Bool.{le-leb, lt-leb, Decides.nat_tests}
pub use Rattle.std.proofs.lemmas.{Int.ints, Int.to_z_pos, Option.same_Some, List.drop_all, List.length-take-le, List.map-append, List.take_all, List.take_more}
pub use Rattle.std.proofs.lemmas.List.Elements.{All-append, All-cons, All-head, All-map, All-nil, All-tail, All-weaker}
pub use Rattle.{std.specs.Cmp.Lexicographic.bytes_decides, pb_proof.specs.declared.statement.Statement.Statement, pb_proof.specs.declared.word.PolWord.PolWord}
pub use Rattle.{std.specs.Cmp.Lexicographic.pointwise, pb_text.proofs.lemmas.text.Booleans.never, pb_text.proofs.lemmas.text.Writing.writes_nothing}
pub use Rattle.pb_sums.proofs.lemmas.machine.Asked.{asks_after, at_name, ends_after, ends_nothing, first_asks_nothing, first_further, name_further, sums_asked}
pub use Rattle.pb_sums.proofs.lemmas.machine.{Counts.add-grows, Counts.begin-grows, Counts.flushed-units, Counts.to-grows, States.ended-last}
pub use Rattle.pb_sums.proofs.lemmas.machine.{States.continues-midway, States.first_is_state, Links.midway-not-done, Links.reads_grammar, Links.reads_something}
pub use Rattle.pb_sums.proofs.lemmas.machine.LiteralPrefixes.{first-append, FirstOf, LiteralOf, name-append, name-bytes}
pub use Rattle.pb_sums.proofs.lemmas.values.CanonicalLaws.{bytes-degree, bytes-linear, degree, linear-spelled}
pub use Rattle.pb_sums.specs.contract.Canonical.{degree_text, linear_bytes, linear_text, literal_text, space}
pub use Rattle.pb_sums.specs.declared.{Linear.Linear, Spaces.TheVariants.Blank, Spaces.Spaces, phase.Phase.Phase as SumPhase, phase.Action.Action as SumAction}
pub use Rattle.pb_sums.specs.declared.{Literal.Literal, SumEvent.SumEvent, Part.Part, Relation.Relation}
pub use Rattle.pb_sums.specs.{engine.State.sums, engine.State.SumState, engine.Prefix.text_after, meaning.Asking.AsksLiteral, meaning.Asking.EndsIn}
pub use Rattle.pb_sums.specs.meaning.Sums.{allows, IsName, literal_bytes, Spells, SpellsLinear, SpellsLiteral}
pub use Rattle.pb_text.proofs.lemmas.machine.Living.{accepted, admits_before, admits_final, admitted_on, final, IsAlive, reads_before, reads_on, ReadsOn}
pub use Rattle.pb_text.proofs.lemmas.machine.{OneText.admits, OneText.is_state, OneText.IsOfOne, OneText.reads_last, Walking.walks_more, Walking.walks_then}
pub use Rattle.pb_text.proofs.lemmas.machine.Outcomes.{end_or_go, end_or_refuse, go_or_end, go_or_refuse, one_end, one_state, refuse_or_end, refuse_or_go}
pub use Rattle.pb_text.proofs.lemmas.machine.{Residual.refuses, Running.runs_more, Running.runs_on}
pub use Rattle.pb_text.proofs.lemmas.machine.Walking.{Keeps, Leads, Walks, ends_walk, leads_then, longer, On, prefixes_of, reads_after, reported, same_first}
pub use Rattle.pb_text.proofs.lemmas.numbers.{DigitValues.AreDigits, DigitValues.value-grows, DigitWalks.digits_lead, DigitWalks.TakesDigits}
pub use Rattle.pb_text.proofs.lemmas.numbers.Numbers.{decimal-digits, digits-grown, digits-one, number-within}
pub use Rattle.pb_text.proofs.lemmas.text.{Parts.part_broke, Parts.part_then, Parts.part_wrote, Results.unchanged, Results.when_err, Results.when_ok}
pub use Rattle.pb_text.proofs.lemmas.text.ByteTests.{blank_digit, blank_each, digit_blank, digit_byte, digit_of, letter_name, name_high, white_each}
pub use Rattle.pb_text.proofs.lemmas.text.{Deterministic.one_spelling, Deterministic.prefix_free, Spans.all_rest, Spans.runs_further, Spans.prefix_parts}
pub use Rattle.pb_text.proofs.lemmas.text.Languages.{after_it, bytes-append, bytes-digits, bytes-plain, many-grown, nil_first, regroup⁻¹, some-grown, some-many}
pub use Rattle.pb_text.proofs.lemmas.text.Languages.{grown, inside, next, none_yet, regroup, regroup3, some-one}
pub use Rattle.pb_text.proofs.lemmas.text.Letters.{as_digit, as_unmarked, further, some_digit, word_grown, word_whole}
pub use Rattle.pb_text.specs.contract.Automaton.{AcceptsItems, Admits, Automaton, Finishes, is_large, IsState, MayAsk, ReadsStatement, SkipsGap, TakesStatement}
pub use Rattle.pb_text.specs.contract.{Automaton.End, Automaton.Go, Automaton.Next, Automaton.Pushes, Automaton.Refuse, Automaton.Runs, Digits.value_from}
pub use Rattle.pb_text.specs.{declared.Limits.Limits, declared.Spanned.Spanned, declared.machine.Push.Push, meaning.Classes.is_blank, meaning.Classes.is_digit}
pub use Rattle.pb_text.specs.meaning.{Blank.in_comment, Blank.IsBlank, Blank.Nothing, Writing.Writes, Writing.Wrote, Classes.is_letter, Classes.is_name_byte}
pub use Rattle.pb_text.specs.meaning.{Limits.largest, Limits.top_of, Numbers.Count, Numbers.Digits, Numbers.Number, Numbers.Sign, Numbers.signed}
pub use Rattle.pb_text.specs.meaning.Languages.{◌⋅◌, Blanks0, Blanks1, Byte, Bytes, digit, Each, Empty, Language, unmarked}
pub use Rattle.pb_text.specs.meaning.Spelling.{bytes, bytes_of, digits_of, Item, Letter, letters_of, place_after, plain, spans_of, spans_since}
pub use Rattle.pb_text.specs.meaning.Whole.{events_at, events_of, gathered, IsRead, IsWhole, MayHold, StopsIn}
pub use Rattle.pb_proof.specs.contract.ValueLaws.{BeginProof, CanonicalProof, OneValue, ProofValues, ReadsBack, ReadStatements, StatementValues}
pub use Rattle.pb_proof.specs.contract.Values.{AreLiterals, IfGiven, IsBound, IsConclusion, IsFactor, IsId, IsProofValue, IsStatementValue, IsWord}
pub use Rattle.pb_proof.specs.declared.{conclusion.Bound.Bound, proof.Proof.Proof, conclusion.Bound.TheVariants.Finite, conclusion.Bound.TheVariants.Infinite}
pub use Rattle.pb_proof.specs.declared.conclusion.Conclusion.{Conclusion, TheVariants.Bounds, TheVariants.NoClaim, TheVariants.Sat, TheVariants.Unsat}
pub use Rattle.pb_proof.specs.declared.line.{LineMachine.LineMachine}
pub use Rattle.pb_proof.specs.declared.line.{rup.phase.RupAction.RupAction, rup.phase.RupAction.TheVariants.Give}
pub use Rattle.pb_proof.specs.declared.line.rup.phase.RupPhase.{RupPhase, TheVariants.Inside, TheVariants.Tail}
pub use Rattle.pb_proof.specs.declared.line.pol.held.Held.{Held}
pub use Rattle.pb_lines.specs.declared.Sign.{Sign as WordSign}
pub use Rattle.pb_lines.specs.declared.Word.{Word as LineWord}
pub use Rattle.pb_lines.specs.declared.part.Part.{Part as WordPart}
pub use Rattle.pb_proof.specs.declared.machine.phase.{Keyword.Keyword, LineKind.LineKind, Stage.Stage, Action.Action as ProofAction, Phase.Phase as ProofPhase}
pub use Rattle.pb_proof.specs.declared.machine.phase.Stage.TheVariants.{Closing, Complete, Formula, Opening, Steps}
pub use Rattle.pb_proof.specs.declared.statement.Statement.TheVariants.{Conclude, Delete, F, Header, Output, Pol, Rup, Soli, Solx}
pub use Rattle.pb_proof.specs.declared.word.PolWord.TheVariants.{Add, Axiom, Divide, Id, Multiply, Saturate, Weaken}
pub use Rattle.pb_proof.specs.engine.line.{Ended.ended_lines, Solution.solution_first, Solution.solution_last, Solution.solution_automaton, Literals.literal}
pub use Rattle.pb_proof.specs.engine.line.Delete.{delete_automaton, delete_first, delete_last}
pub use Rattle.pb_proof.specs.engine.line.Machine.{IsCarried, line_automaton, line_first, SpellsRest}
pub use Rattle.pb_proof.specs.engine.line.Pol.{PolState, pol_at, pol_grammar, pol_automaton, pol_first, pol_last, bound, held_number, held_name, is_free, turns, turned, with_last}
pub use Rattle.pb_proof.specs.engine.line.Pol.{with_operand, with_number, with_mark, with_pol_word, sums as is_sum, saturates, word_units, units, adds_word}
pub use Rattle.pb_proof.specs.engine.line.Conclusion.{conclusion_automaton, conclusion_first, conclusion_last}
pub use Rattle.pb_proof.specs.engine.line.Formula.{formula_automaton, formula_last, formula_first}
pub use Rattle.pb_proof.specs.engine.line.Rup.{IsRupInOrder, linear_of, rup_automaton, rup_finish, rup_first, rup_in_number, rup_midway, rup_transition}
pub use Rattle.pb_proof.specs.engine.line.Rup.{rup_act, rup_asks, rup_done, rup_last, rup_over, RupHolds, RupState, sum_first, sum_last}
pub use Rattle.pb_proof.specs.engine.machine.State.{act, asked, at, begin, HasGaps, Holds, idle, IsInOrder, proofs, ProofState, step_line, giving, is_complete}
pub use Rattle.pb_proof.specs.engine.machine.State.{next_stage, over as proof_over, PhaseFits as ProofPhaseFits, is_within as proof_within}
pub use Rattle.pb_proof.specs.engine.machine.Transition.{enter, meets, next_action, pass, words_of, sol_word, step_keyword, spell as proof_spell}
pub use Rattle.pb_proof.specs.engine.machine.{Transition.transition as proof_transition, Transition.between as proof_between}
pub use Rattle.pb_proof.specs.meaning.Asking.{Asks, AsksAfter, AsksConclusion, AsksShown, AsksWord, EndsNumber, FirstWord}
pub use Rattle.pb_proof.specs.meaning.Canonical.{bound_bytes, conclusion_bytes, id_shown_bytes, lines, listed_bytes, literal_line, proof_bytes, statement_bytes}
pub use Rattle.pb_proof.specs.meaning.{Canonical.shown_bytes, Canonical.word_bytes, Order.GapAt, Order.IsStaged, Order.stage_after, Order.stage_of}
pub use Rattle.pb_proof.specs.meaning.Lines.{bounds_word, output_word, pseudo_word, soli_word, SpellsBound, SpellsCount, SpellsShown, SpellsWords, version_word}
pub use Rattle.pb_proof.specs.meaning.Lines.{conclusion_word, LiteralsShown, none_word, SpellsConclusion, SpellsConclusionLine, SpellsLiterals, SpellsStatement}
pub use Rattle.pb_proof.specs.meaning.Lines.{del_word, end_word, inf_word, pol_word, proof_word, solx_word, SpellsIds, SpellsRup, SpellsWord, unsat_word}
pub use Rattle.pb_lines.specs.meaning.LineEnds.{Feed}
pub use Rattle.pb_proof.specs.meaning.Lines.{f_word, Factor, id_word, IdShown, Listed, rup_word, sat_word, SpellsId, two_word}
pub use Rattle.pb_lines.specs.meaning.LineEnds.{LineEnd}
pub use Rattle.pb_proof.specs.meaning.Postfix.{Constraint, IsPostfix, LiteralAxiom, Product, Quotient, Saturation, Sum, Tree, Weakening, words}
pub use Rattle.pb_proof.specs.meaning.Proofs.{AreSpelled, BeginsAtOnce, IsGap, IsProof, IsProofOf, IsStep, statements_of}
pub use Rattle.pb_lines.specs.engine.WordsWhole.{IsClosing, IsLine, IsWordAt}
