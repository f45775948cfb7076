-- A program that is built word by word.
use Rattle.std.proofs.Common.{◌≡◌, ◌∙◌, ap, ap₂, codes, true, false, refl}
use Rattle.clap.specs.Words.{AddsArg, AddsSubcommand, App, Rule, app_of, new_app, rule_of, with_rule, with_subcommand}
use Rattle.clap.specs.Simple.{app_of_fields}
use Rattle.clap.specs.declared.builder.arg.Arg.{Arg}
use Rattle.clap.specs.declared.builder.command.Command.{Command}
use Rattle.clap.specs.declared.builder.command.Command.TheOpen.{Command-F}
use Rattle.clap.specs.declared.builder.command.Command.TheViews.{out-Command as fields_of}
use Rattle.bike_command_line.specs.Program.{top}

pub top_is : (before after : Command-F Command) → app_of_fields before ≡ new_app (codes "bikeshare")
    → after ≡ record before { no_binary_name = true } → app_of_fields after ≡ top
top_is before after new set =
    ap app_of_fields set ∙ ap (λ (app : App). record app { top = record app.top { no_binary_name = true } }) new

pub word_added : {old word new : Command} (app shape : App) → app_of old ≡ app → app_of word ≡ shape
    → (fields_of word).has_globals ≡ false → AddsSubcommand old word new → app_of new ≡ with_subcommand app shape.top
word_added app shape old_is word_is local added =
    added.shape local ∙ ap₂ with_subcommand old_is (ap (λ (a : App). a.top) word_is)

pub arg_added : {old new : Command} {arg : Arg} (shape : App) (rule : Rule) → rule_of arg ≡ rule → arg.global ≡ false → app_of old ≡ shape → AddsArg old arg new
    → app_of new ≡ with_rule shape rule
arg_added shape rule is own old_is added = added.shape own ∙ ap₂ with_rule old_is is

pub stays_local : {old new : Command} {arg : Arg} → arg.global ≡ false → (fields_of old).has_globals ≡ false → AddsArg old arg new
    → (fields_of new).has_globals ≡ false
stays_local own local added = added.globals ∙ rw (local, own) refl
