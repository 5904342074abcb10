-- The names that the proofs of this crate cite, passed on from one place. Declares nothing.
pub use Rattle.std.proofs.Common.{ℕ, ◌&&◌, ◌*◌, ◌++◌, ◌+◌, ◌-◌, ◌<◌, ◌^◌, ◌||◌, ◌↔◌, ◌∙◌, ◌∷◌, ◌≡◌, ◌≤◌, ◌⊎◌, [], ap, append-nil, append_assoc, ap₂, arith}
pub use Rattle.std.proofs.Common.{Bool, cond, drop, false, get_or, inl, inr, IsTrue, le-leb, length, length-append, List, nat_eq, nat_le, None, not, Option}
pub use Rattle.std.proofs.Common.{refl, rules, Some, subst, suc, sym, take, take-append-drop, true, zero}
pub use Rattle.{std.proofs.Math.Seq.drop-cons, std.proofs.Math.Seq.get_or-append_seam, pb_sums.specs.engine.State.first, pb_sums.specs.engine.State.last}
pub use Rattle.std.proofs.lemmas.{Bool.and_parts, Bool.cond_both, Bool.eq-eqb, Bool.eqb-true, Bool.leb-true, Bool.ne_eqb, Bool.not-true, List.take_more}
pub use Rattle.{std.specs.Prelude.ℤ, std.specs.Prelude.decimal, std.specs.Prelude.IfSome, std.specs.Prelude.slice_index, pb_text.specs.declared.Spanned.Spanned}
pub use Rattle.pb_sums.proofs.lemmas.machine.Links.{midway-not-done, reads_grammar, reads_something}
pub use Rattle.pb_sums.proofs.lemmas.machine.States.{continues, continues-midway, ended-last, first_is_state}
pub use Rattle.pb_sums.specs.contract.Canonical.{AreTerms, head_bytes, linear_bytes, linear_text, space, sum_bytes, sum_text}
pub use Rattle.pb_sums.specs.{declared.linear.Linear.Linear, declared.linear.SumEvent.SumEvent, declared.linear.Term.Term, engine.State.SumState}
pub use Rattle.pb_sums.specs.{declared.sum_kind.Spaces.Spaces, declared.sum_kind.Spaces.TheVariants.White, declared.sum_kind.Part.Part, engine.State.sums}
pub use Rattle.pb_sums.specs.meaning.Sums.{is_space, Spaces0, Spaces1, Spells, SpellsFurther, SpellsLinear, SpellsLiteral, SpellsSum, SpellsTerm}
pub use Rattle.pb_text.proofs.lemmas.machine.Living.{accepted, admits_before, admits_final, before, final, IsAlive}
pub use Rattle.pb_text.proofs.lemmas.{machine.Outcomes.refuse_or_end, machine.Outcomes.refuse_or_go, machine.Walking.walks_more, text.ByteTests.blank_each}
pub use Rattle.pb_text.proofs.lemmas.machine.Walking.{ends_walk, Keeps, Leads, leads_then, longer, On, prefixes_of, reads_after, reported, same_first, Walks}
pub use Rattle.pb_text.proofs.lemmas.{numbers.Numbers.decimal-digits, numbers.Numbers.digits-grown, numbers.Numbers.digits-one, text.ByteTests.digit_dark}
pub use Rattle.pb_text.proofs.lemmas.text.{Booleans.never, Languages.regroup3, Languages.regroup⁻¹, Languages.some-grown, Languages.some-one}
pub use Rattle.pb_text.proofs.lemmas.text.{Deterministic.one_spelling, Deterministic.prefix_free, Parts.part_broke, Parts.part_then, Parts.part_wrote}
pub use Rattle.pb_text.proofs.lemmas.text.Letters.{as_unmarked, bytes_grown, further, some_digit, word_grown, word_whole}
pub use Rattle.pb_text.proofs.lemmas.text.Languages.{after_it, bytes-append, bytes-digits, bytes-plain, each-append, grown, inside, many-grown, next, none_yet}
pub use Rattle.pb_text.specs.contract.Automaton.{AcceptsItems, Admits, begins, begins_with, Continues, End, Go, is_large, IsState, MayAsk, Next, ReadsStatement}
pub use Rattle.pb_text.specs.contract.Automaton.{Refuse, Runs, SkipsGap, TakesStatement}
pub use Rattle.pb_text.specs.meaning.{Blank.IsInLine, Spelling.bytes, Spelling.bytes_of, Spelling.digits_of, Spelling.Item, Spelling.Letter, Spelling.plain}
pub use Rattle.pb_text.specs.meaning.{Classes.is_blank, Classes.is_digit, Classes.is_white, Numbers.Count, Numbers.Digits, Numbers.Number, Writing.Wrote}
pub use Rattle.pb_text.specs.meaning.Languages.{◌⋅◌, Blanks0, Blanks1, Byte, Bytes, digit, Each, Language, Many, unmarked}
pub use Rattle.pb_text.specs.meaning.{Limits.largest, Limits.top_of, Whole.events_of, Whole.gathered, Whole.IsRead, Whole.IsWhole, Whole.MayHold, Whole.StopsIn}
pub use Rattle.pb_opb.specs.contract.Canonical.{body_events, comment_events, constraint_events, due, event_bytes, header_bytes, in_order, instance_bytes, lines}
pub use Rattle.pb_opb.specs.{contract.Canonical.objective_bytes, contract.Canonical.objective_events, declared.instance.Instance.Instance}
pub use Rattle.pb_opb.specs.contract.Laws.{CanonicalInstance, InstanceValues, IsOneHeader, ReadsBack}
pub use Rattle.pb_opb.specs.declared.event.OpbEvent.{OpbEvent, TheVariants.Comment, TheVariants.Constraint, TheVariants.Header, TheVariants.Objective}
pub use Rattle.pb_opb.specs.declared.phase.{Action.Action, Field.Field, Field.TheVariants.Constraints, Field.TheVariants.Variables, Phase.Phase}
pub use Rattle.pb_opb.specs.declared.phase.Action.TheVariants.{BeginSum, BeginTail, Give, Keep, Stop, To}
pub use Rattle.pb_opb.specs.engine.{Led.led_lines, State.OpbState, State.over, State.phase_owing, State.remaining_after, State.statement_of}
pub use Rattle.pb_opb.specs.engine.Machine.{after_count, count, spell, transition, word_of}
pub use Rattle.pb_opb.specs.{engine.Order.Holds, engine.Order.IsIdle, engine.Order.IsInOrder, engine.Order.PhaseFits, contracts.machine.OpbMachine.the_view}
pub use Rattle.pb_opb.specs.engine.State.{act, after, asks, at, begin, between, giving, is_done, is_in_number, is_within, keeps_line, linears, objectives, opb}
pub use Rattle.pb_opb.specs.meaning.{Gather.counted_statements, Gather.ended_with, Gather.MayKeep, Gather.nothing, Gather.with, Instances.Whites0}
pub use Rattle.pb_opb.specs.meaning.Instances.{AreSpelled, constraint_count, constraint_word, EndsInConstraint, HasNoObjective, HasObjectiveFirst, IsBegun}
pub use Rattle.pb_opb.specs.meaning.Instances.{IsBody, IsInstance, IsTail, min_word, SpellsComment, SpellsEntry, SpellsHeader, SpellsObjective, variable_word}
pub use Rattle.pb_opb.specs.meaning.Values.{AreComments, AreLinears, comments_in, constraints_in, is_one, IsInstanceValue, IsObjective, IsValueOf, last_or}
pub use Rattle.pb_opb.specs.meaning.Values.{objectives_in, statements, tails_in, variables_in}
