use Rattle.{clap.specs.Words.App, clap.specs.declared.builder.Command.TheViews.out-Command as fields_of, pb_words.proofs.Common.trace_command}
use Rattle.pb_words.proofs.Common.{◌≡◌, ◌∙◌, ap, false, AddsSubcommand, app_of, with_subcommand, Command, check_command, pb_program, show_command, tidy_command}
use Rattle.pb_words.proofs.words.options.command.Goals as goal

added : (old sub new : Command) (above below : App) → AddsSubcommand old sub new → app_of old ≡ above → app_of sub ≡ below → (fields_of sub).has_globals ≡ false
    → app_of new ≡ with_subcommand above below.top
added old sub new above below adds is sub_is local =
    adds.shape local ∙ (ap (λ (a : App). with_subcommand a (app_of sub).top) is ∙ ap (λ (a : App). with_subcommand above a.top) sub_is)

pub returns-clause-ok : goal.returns-clause-ok
returns-clause-ok c =
    let one = added _ _ _ pb_program show_command c.in_ok-with_show.ensures c.program.ensures.app c.in_ok-show.ensures.app c.in_ok-show.ensures.local in
    let two = added _ _ _ _ tidy_command c.in_ok-with_tidy.ensures one c.in_ok-tidy.ensures.app c.in_ok-tidy.ensures.local in
    let three = added _ _ _ _ check_command c.in_ok-with_check.ensures two c.in_ok-check.ensures.app c.in_ok-check.ensures.local in
    added _ _ _ _ trace_command c.in_ok-with_trace.ensures three c.in_ok-trace.ensures.app c.in_ok-trace.ensures.local
