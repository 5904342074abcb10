-- The names that the proofs of this crate cite, passed on from one place. Declares nothing.
pub use Rattle.std.proofs.Common.{ℕ, ℤ, ◌&&◌, ◌*◌, ◌++◌, ◌+◌, ◌-◌, ◌<◌, ◌==◌, ◌^◌, ◌||◌, ◌↔◌, ◌∙◌, ◌∷◌, ◌≡◌, ◌≤◌, ◌⊎◌, [], ap, append-nil, append_assoc, arith}
pub use Rattle.std.proofs.Common.{Bool, cond, decimal, drop, false, get_or, inl, inr, length, length-append, length-drop, List, map, min, None, Option, refl}
pub use Rattle.std.proofs.Common.{set, Some, subst, suc, sym, take, take-append-drop, take-take, true, zero}
pub use Rattle.std.specs.Prelude.{if◌then◌else◌, is_err, is_ok, IsTrue, nat_abs, nat_le, negsuc, pos, Result}
pub use Rattle.std.{proofs.Math.Nat.le-mul_of_pos_right, proofs.Math.Nat.min-le_left, proofs.Math.Nat.pow-succ', specs.Int.w128, specs.Str.IsUtf8}
pub use Rattle.std.proofs.lemmas.{Bool.cond_both, Bool.eqb-true, Bool.false≢true, Bool.le-leb, Bool.leb-true, Bool.Decides.nat_tests, Int.ints, Int.to_z-of_z}
pub use Rattle.std.proofs.lemmas.List.{drop_all, get_or-take, get_or_past, length-take, length-take-le, take_more, take_more_set, take_rest}
pub use Rattle.pb_text.proofs.lemmas.machine.Outcomes.{end_or_go, end_or_refuse, go_or_end, go_or_refuse, one_end, one_state, refuse_or_end, refuse_or_go}
pub use Rattle.pb_text.proofs.lemmas.machine.Runs.{kept, OnPrefix, run, run-append, run-refuse, Takes, takes_then}
pub use Rattle.pb_text.proofs.lemmas.numbers.Numbers.{decimal-digits, digits-grown, digits-one, number-within}
pub use Rattle.pb_text.proofs.lemmas.text.{Booleans.never, Spans.prefix_parts, Spans.runs_further, Writing.writes_nothing}
pub use Rattle.pb_text.proofs.lemmas.text.{ByteTests.digit_of, ByteTests.letter_name, ByteTests.name_high, Parts.part_broke, Parts.part_then, Parts.part_wrote}
pub use Rattle.pb_text.proofs.lemmas.text.Languages.{after_it, bytes-append, bytes-digits, bytes-plain, each-append, each_side, inside, many-grown, next}
pub use Rattle.pb_text.proofs.lemmas.text.Languages.{nil_first, none_yet, regroup, regroup3, some-grown, some-many, some-one}
pub use Rattle.pb_text.specs.contract.Automaton.{AcceptsItems, Admits, End, Go, IsState, MayAsk, Next, ReadsStatement, Refuse, Runs, SkipsGap}
pub use Rattle.pb_text.specs.{contract.Digits.value_from, meaning.Spelling.bytes, meaning.Spelling.digits_of, meaning.Spelling.Item, meaning.Spelling.Letter}
pub use Rattle.pb_text.specs.meaning.Classes.{is_digit, is_letter, is_name_byte}
pub use Rattle.pb_text.specs.meaning.Languages.{◌⋅◌, Byte, Bytes, digit, Each, Empty, Language, unmarked}
pub use Rattle.pb_text.specs.meaning.{Limits.largest, Numbers.Digits, Numbers.Number, Numbers.Sign, Numbers.signed, Numbers.value, Writing.Wrote}
pub use Rattle.pb_sums.specs.contract.Canonical.{AreTerms, degree_text, further_bytes, further_text, head_bytes, head_text, IsLinear, IsTerm, linear_bytes}
pub use Rattle.pb_sums.specs.contract.Canonical.{linear_text, literal_text, relation_bytes, relation_text, space, sum_bytes, sum_text, term_bytes, term_text}
pub use Rattle.pb_sums.specs.{contract.Canonical.weight_bytes, contract.Canonical.weight_text, engine.Machine.transition, engine.Machine.Work}
pub use Rattle.pb_sums.specs.declared.linear.{Linear.Linear, Relation.Relation, Relation.TheVariants.AtLeast, Relation.TheVariants.Equal, SumEvent.SumEvent}
pub use Rattle.pb_sums.specs.declared.{linear.Term.Term, phase.Action.Action, phase.Kind.Kind, phase.Phase.Phase, sum_kind.Part.Part, sum_kind.Spaces.Spaces}
pub use Rattle.pb_sums.specs.declared.phase.Action.TheVariants.{Add, Begin, EndLinear, EndSum, Stop, To}
pub use Rattle.pb_sums.specs.declared.phase.Kind.TheVariants.{Digit, Equals, Greater, Inner, Minus, Other, Plus, Semicolon, Space, Start, Tilde}
pub use Rattle.pb_sums.specs.engine.Machine.{act, action, adds, at_name, digits, finished, flushed, fresh, is_done, is_in_number, is_midway, is_more, term, to}
pub use Rattle.pb_sums.specs.engine.Machine.{is_numeric, kind, kind_of_numeral, kind_of_plain, letter_at, next_action, number, Outcome, PhaseFits, step, symbol}
pub use Rattle.pb_sums.specs.engine.Prefix.{after_name, after_number, after_space, begins_number, begins_relation, HasSign, IsSign, role, sign_read, text_after}
pub use Rattle.pb_sums.specs.engine.State.{all_units, asks, first, in_hand, IsInOrder, last, over, ready, sums, SumState, units, with_work}
pub use Rattle.pb_sums.specs.engine.TermParts.{AreSpacedTerms, begins_term, EndsLinear, IsDegree, IsLiteral, IsSpacedLiteral, IsSpacedNumber, IsTilde, LeadsToLinear, standing}
pub use Rattle.pb_sums.specs.meaning.Sums.{allows, Head, is_space, IsName, IsOneText, literal_bytes, reads_sums, Spaces0, Spaces1, Spells, SpellsFurther}
pub use Rattle.pb_sums.specs.meaning.Sums.{SpellsLinear, SpellsLiteral, SpellsRelation, SpellsSum, SpellsTerm}
