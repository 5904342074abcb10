-- The names that the proofs of this crate cite, passed on from one place. Declares nothing.
pub use Rattle.pb_lines.specs.engine.WordsWhole.{IsClosing, IsLine, IsWordAt}
pub use Rattle.pb_lines.specs.meaning.LineEnds.{Feed, LineEnd}
pub use Rattle.pb_sums.proofs.lemmas.machine.Asked.{at_name, ends_after, ends_nothing, first_further}
pub use Rattle.pb_sums.proofs.lemmas.machine.LiteralPrefixes.{FirstOf, LiteralOf, first-append, name-append, name-bytes}
pub use Rattle.pb_sums.specs.engine.Prefix.{text_after}
pub use Rattle.pb_sums.specs.meaning.Asking.{AsksLiteral, EndsIn}
pub use Rattle.pb_sums.specs.meaning.Sums.{IsName, literal_bytes}
pub use Rattle.pb_text.proofs.lemmas.machine.Living.{ReadsOn, reads_before}
pub use Rattle.pb_text.proofs.lemmas.machine.OneText.{IsOfOne, admits, is_state, reads_last}
pub use Rattle.pb_text.proofs.lemmas.machine.Outcomes.{one_state}
pub use Rattle.pb_text.proofs.lemmas.machine.Running.{runs_more, runs_on}
pub use Rattle.pb_text.proofs.lemmas.machine.Walking.{Keeps, Leads, On, Walks, longer, prefixes_of, reads_after, reported, walks_then}
pub use Rattle.pb_text.proofs.lemmas.numbers.DigitValues.{AreDigits}
pub use Rattle.pb_text.proofs.lemmas.numbers.DigitWalks.{TakesDigits, digits_lead}
pub use Rattle.pb_text.proofs.lemmas.numbers.Numbers.{digits-grown, digits-one}
pub use Rattle.pb_text.proofs.lemmas.text.Booleans.{never}
pub use Rattle.pb_text.proofs.lemmas.text.ByteTests.{digit_byte, digit_of, letter_name}
pub use Rattle.pb_text.proofs.lemmas.text.Languages.{after_it, bytes-append, bytes-plain, grown, many-grown, next, nil_first, none_yet, regroup, regroup3, some-grown, some-many, some-one}
pub use Rattle.pb_text.proofs.lemmas.text.Letters.{as_digit, as_unmarked, word_grown, word_whole}
pub use Rattle.pb_text.proofs.lemmas.text.Results.{unchanged, when_err, when_ok}
pub use Rattle.pb_text.proofs.lemmas.text.Spans.{all_rest, prefix_parts}
pub use Rattle.pb_text.specs.contract.Automaton.{Admits, Automaton, End, Go, IsState, Next, ReadsStatement, Refuse, Runs}
pub use Rattle.pb_text.specs.contract.Digits.{value_from}
pub use Rattle.pb_text.specs.meaning.Classes.{is_blank, is_digit, is_letter, is_name_byte}
pub use Rattle.pb_text.specs.meaning.Languages.{Blanks0, Blanks1, Byte, Bytes, Each, Empty, Language, digit, unmarked, ◌⋅◌}
pub use Rattle.pb_text.specs.meaning.Limits.{largest, top_of}
pub use Rattle.pb_text.specs.meaning.Numbers.{Digits}
pub use Rattle.pb_text.specs.meaning.Spelling.{Letter, bytes, plain}
pub use Rattle.std.proofs.Common.{Bool, IsTrue, List, None, Option, Some, [], ap, append-nil, append_assoc, ap₂, arith, cond, drop, false, get_or, inl, inr, length, length-append, length-drop, map, nat_eq, nat_le, not, refl, rules, subst, suc, sym, take, true, zero, ℕ, ◌&&◌, ◌*◌, ◌++◌, ◌+◌, ◌-◌, ◌<◌, ◌^◌, ◌||◌, ◌↔◌, ◌∙◌, ◌∷◌, ◌≡◌, ◌≤◌}
pub use Rattle.std.proofs.Math.Bool.{or-true}
pub use Rattle.std.proofs.Math.Nat.{min-le_left}
pub use Rattle.std.proofs.lemmas.Bool.{and_parts, cond_both, eqb-true, false_from_ne_true, false≢true, le-leb, leb-true}
pub use Rattle.std.proofs.lemmas.Bool.Decides.{nat_tests}
pub use Rattle.std.proofs.lemmas.List.{length-take-le}
