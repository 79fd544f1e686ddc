-- A command with one more argument.
use Rattle.std.proofs.Common.{◌≡◌, ◌∙◌, false, ap}
use Rattle.clap.specs.Words.{AddsArg, App, Rule, app_of, rule_of, with_rule}
use Rattle.clap.specs.declared.builder.arg.Arg.{Arg}
use Rattle.clap.specs.declared.builder.command.Command.{Command}

pub added : (old new : Command) (arg : Arg) (app : App) (rule : Rule) → AddsArg old arg new → arg.global ≡ false
    → rule_of arg ≡ rule → app_of old ≡ app → app_of new ≡ with_rule app rule
added old new arg app rule adds local is before = adds.shape local ∙ ap (λ a. with_rule a (rule_of arg)) before
    ∙ ap (with_rule app) is
