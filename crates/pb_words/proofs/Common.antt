-- The names that the proofs of this crate cite, passed on from one place. Declares nothing.
pub use Rattle.{clap.proofs.WalkLemmas.first_value-rows, pb_words.specs.declared.words.fault.WordsFault.WordsFault, std.proofs.lemmas.Slice.Eq.bytes_eq-Decides}
pub use Rattle.clap.specs.Simple.{App, app_of_fields, argument_words, built, entered, label_of, names_of, rows_at, Shape, subcommand_of}
pub use Rattle.clap.specs.Walk.{after_flag, after_step, answers_to, arg_by_index, arg_by_long, bundle, done, Held, idle, long_met, long_or_other, Names, next}
pub use Rattle.clap.specs.Walk.{nothing_held, option, Outcome, plain, plain_word, positional, refused, Row, Rule, short_or_plain, Step, subcommand}
pub use Rattle.clap.specs.Walk.{subcommand_met, subcommand_or_other, Text, texts, to_positional, trailing, value, Waiting, waits, Walk, walk, walk_from}
pub use Rattle.clap.specs.{Walk.walked_from, Walk.word_met, Words.rows_of, Words.rule_of, Words.with_rule, Words.with_subcommand}
pub use Rattle.clap.specs.Words.{AddsArg, AddsSubcommand, app_of, fault_of, found_of, HasKind, is_simple, is_simple_and_free, IsUnsignedIn, kind_of, new_app}
pub use Rattle.clap.specs.declared.builder.{arg.Arg.Arg, command.Command.Command, command.Command.TheOpen.Command-F}
pub use Rattle.pb_words.specs.Words.{AsksFor, check_command, checker_command, ExplainsWords, flag_rule, instance_rule, IsChecker, IsEntryFault, IsFlag}
pub use Rattle.pb_words.specs.Words.{IsInstanceFault, IsNumberFault, IsReader, IsSelectionFault, IsSwitch, pb_command, pb_program, reader_command, show_command}
pub use Rattle.pb_words.specs.Words.{switch_rule, tidy_command, trace_command, value_rule, with_selection, with_shared}
pub use Rattle.std.proofs.Common.{[], ap, Bool, codes, cond, Err, false, get_or, IfErr, IfOk, inl, inr, is_some, IsTrue, List, None, Ok, Option, option_map}
pub use Rattle.std.proofs.Common.{refl, Result, Some, subst, sym, true, ℕ, ⊎_elim, ◌++◌, ◌||◌, ◌↔◌, ◌∙◌, ◌∷◌, ◌≡◌}
pub use Rattle.std.specs.{Prelude.find, Prelude.fold, Prelude.IsErrAnd, Prelude.IsSomeAnd, Prelude.◌⊎◌, Str.bytes_eq}
