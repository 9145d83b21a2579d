use Rattle.std.proofs.Common.{Bool, true, ap, ◌∙◌}
use Rattle.clap.specs.Words.{Shape}
use Rattle.clap.specs.Simple.{app_of_fields, on_top}
use Rattle.clap.specs.declared.builder.command.Command.{Command}
use Rattle.clap.specs.declared.builder.command.Command.TheOpen.{Command-F}
use Rattle.command_line.proofs.ParseLemmas.{read_as}
use Rattle.command_line.proofs.commands.top.Goals as goal

abbrev globals : Command-F Command → Bool
globals fields = fields.has_globals

pub returns : goal.returns
returns c =
    let bare = ap app_of_fields c.in_ok-bin_name.ensures.0 ∙ c.new.ensures.app in
    let version = ap app_of_fields c.version.ensures ∙ ap (on_top (λ (s : Shape). record s { has_version = true })) bare in
    let shown = ap app_of_fields c.override_usage.ensures ∙ version in
    let named = ap app_of_fields c.no_binary_name.ensures ∙ ap (on_top (λ (s : Shape). record s { no_binary_name = true })) shown in
    let required = ap app_of_fields c.subcommand_required.ensures ∙ ap (on_top (λ (s : Shape). record s { subcommand_required = true })) named in
    let whole = ap app_of_fields c.disable_help_subcommand-command.ensures ∙ ap (on_top (λ (s : Shape). record s { disable_help_subcommand = true })) required in
    let local = ap globals c.disable_help_subcommand-command.ensures ∙ ap globals c.subcommand_required.ensures ∙ ap globals c.no_binary_name.ensures ∙ ap globals c.override_usage.ensures ∙ ap globals c.version.ensures ∙ ap globals c.in_ok-bin_name.ensures.0 ∙ c.new.ensures.local in
    record { command = c.with_help.ensures _ (read_as whole local); refused = tt }
