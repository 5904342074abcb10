-- What one more argument makes of a command.
use Rattle.clap.specs.{Words.App, Words.Rule, declared.builder.Command.TheViews.out-Command as fields_of}
use Rattle.pb_words.proofs.Common.{◌≡◌, ◌∙◌, ap, false, Result, Ok, Err, IfOk, ◌||◌, AddsArg, app_of, rule_of, with_rule, Command, Arg}
use Rattle.std.specs.declared.alloc.AllocError.{AllocError}

-- the command as a parse sees it
pub added_app : (old new : Command) (a : Arg) (above : App) (rule : Rule) → AddsArg old a new → app_of old ≡ above → rule_of a ≡ rule → a.global ≡ false
    → app_of new ≡ with_rule above rule
added_app old new a above rule adds is rule_is local =
    adds.shape local ∙ (ap (λ (x : App). with_rule x (rule_of a)) is ∙ ap (λ (r : Rule). with_rule above r) rule_is)

-- no argument is global
pub added_local : (old new : Command) (a : Arg) → AddsArg old a new → (fields_of old).has_globals ≡ false → a.global ≡ false → (fields_of new).has_globals ≡ false
added_local old new a adds none local = adds.globals ∙ (ap (λ b. b || a.global) none ∙ local)

-- the same where memory may run out
pub if_added : (r : Result Command AllocError) (P Q : Command → Type 0) → ((c : Command) → P c → Q c) → IfOk r P → IfOk r Q
if_added (Ok c) P Q step held = step c held
if_added (Err e) P Q step held = tt
